-- What the judgement of one datagram shows: the numbers in their order, and what a good joiner and a header that was read
-- grant to the channel's step.
-- Assumes nothing.
use Prim.Native.Nat.{ℕ, ◌-◌, ◌≤◌, ◌<◌}
use Rattle.std.specs.Prelude.{Option, Some, None, Result, Ok, Err}
use Rattle.refusal.specs.declared.Refusal.{Refusal}
use Rattle.refusal.specs.declared.Refusal.TheVariants.{NoJoiner, NotSetUp}
use mathlib.Core.Path.{◌≡◌, refl, sym, ap, ◌∙◌}
use mathlib.Core.Bool.{Bool, true, false, ◌&&◌, cond}
use mathlib.Core.List.{List}
use native.Mathlib.Omega.{arith}
use borrow.Author.Tests.{ltb-true, lt-ltb, le-ltb, le-leb}
use lib.Dec.{ltb}
use lib.ListN.{length}
use Rattle.wire.proofs.Cond.{and_left, and_right}
use Rattle.binding.specs.Header.{header_length, largest_datagram, counters, heading_in, header_in, part_carried, sender_in, counter_in, piece_in}
use Rattle.binding.specs.declared.BindingHeader.{BindingHeader}
use Rattle.binding.proofs.Headers.{Headed, heading_headed, piece_length}
use Rattle.channel.specs.declared.Channel.{Channel}
use Rattle.channel.proofs.Cases.{Sound, channel_says}
use Rattle.channel.specs.declared.Step.{Step}
use Rattle.channel.specs.Channel.{room_of, stepped_of, can_move, moved_of}
use Rattle.channel.specs.Record.{channel_limit, largest_room, new_channel, good_channel, room_start}
use Rattle.joiner.specs.declared.Joiner.{Joiner}
use Rattle.joiner.specs.Setup.{place_of, distinct, every, channels_of, senders_of, channel_at, good_sizes, good, found_of}
use Rattle.joiner.specs.Take.{sent_to, heading_by, judged_of, sender_by, judged_by}
use Rattle.joiner.proofs.Places.{every-at}
use Rattle.joiner.proofs.Lookups.{Sizes, sizes_say, channels_length, channels-at, Borne, found-bad, found-nobody, found-somebody}

-- what a good joiner is
pub record Good (j : Joiner) (b : ℕ) : Type 0 where
  pub sizes : Sizes j.count j.room b
  pub each : (k : ℕ) → k < j.count → good_channel j.room (channel_at j k) ≡ true
  pub once : distinct (senders_of j) ≡ true

pub good_says : (j : Joiner) (b : ℕ) → length j.channels ≡ channel_limit → good j b ≡ true → Good j b
unfolding good
good_says j b w e = record { sizes = s; each = each; once = and_right (every (good_channel j.room) (channels_of j)) (distinct (senders_of j)) q }
  where
    q : (every (good_channel j.room) (channels_of j) && distinct (senders_of j)) ≡ true
    q = and_right (good_sizes j.count j.room b) (every (good_channel j.room) (channels_of j) && distinct (senders_of j)) e

    s : Sizes j.count j.room b
    s = sizes_say j.count j.room b
        (and_left (good_sizes j.count j.room b) (every (good_channel j.room) (channels_of j) && distinct (senders_of j)) e)

    each : (k : ℕ) → k < j.count → good_channel j.room (channel_at j k) ≡ true
    each k h =
        ap (good_channel j.room) (sym (channels-at j s.few w k h))
        ∙ every-at (good_channel j.room) (new_channel 0) (channels_of j) k
        (and_left (every (good_channel j.room) (channels_of j)) (distinct (senders_of j)) q) (omega (arith, channels_length j s.few w))

pub good-sizes : (j : Joiner) (b : ℕ) → good j b ≡ true → Sizes j.count j.room b
unfolding good
good-sizes j b e =
    sizes_say j.count j.room b (and_left (good_sizes j.count j.room b) (every (good_channel j.room) (channels_of j) && distinct (senders_of j)) e)

-- a datagram that is judged by what was found, as by the joiner itself
module _ (j : Joiner) (b : ℕ) (d : List ℕ) {r : Result BindingHeader Refusal} (er : r ≡ heading_in d) where
  not-well : good j b ≡ false → Err NoJoiner ≡ judged_of j b d
  unfolding judged_of
  not-well g = rw g

  by-header : good j b ≡ true → judged_of j b d ≡ heading_by j d r
  unfolding judged_of
  by-header g = rw (g, er)

  pub no-heading : {t : Bool} {n : Refusal} → t ≡ good j b → t ≡ true → r ≡ Err n → Err n ≡ judged_of j b d
  unfolding heading_by
  no-heading e g m = sym (by-header (sym e ∙ g) ∙ ap (heading_by j d) m)

  module _ (h : BindingHeader) {f : Result (Option (ℕ × Channel)) Refusal} (m : r ≡ Ok h) (e : f ≡ found_of j b h.sender) where
    by-sender : good j b ≡ true → judged_of j b d ≡ sent_to j d h
    unfolding heading_by
    by-sender g = by-header g ∙ ap (heading_by j d) m

    pub to-nobody : f ≡ (Ok None) → Err NotSetUp ≡ judged_of j b d
    unfolding sent_to
    to-nobody q = rw (
      by-sender (found-nobody j b h.sender e q).0,
      le-ltb (place_of (senders_of j) h.sender) j.count (found-nobody j b h.sender e q).1,
    )

    pub to-somebody : {s : ℕ} {x : Step} (k : ℕ) (ch : Channel) → f ≡ Ok (Some (k, ch)) → s ≡ room_start j.room k → x
        ≡ stepped_of (record { start = s; size = j.room }) ch h.part h.counter (length d - header_length) → Ok (k, x) ≡ judged_of j b d
    unfolding sent_to
    to-somebody k ch q es ex =
        let y : Borne j b h.sender k ch = found-somebody j b h.sender e k ch q in
        rw (by-sender y.well, ← y.place, lt-ltb k j.count y.known, piece_length d, ex, es, y.channel)

    found-moves : (k : ℕ) (ch : Channel) → length j.channels ≡ channel_limit → f ≡ Ok (Some (k, ch)) → can_move k j.room ch (length d) ≡ true
    found-moves k ch w q =
        let y : Borne j b h.sender k ch = found-somebody j b h.sender e k ch q in
        let g : Good j b = good_says j b w y.well in
        let x : Sound j.room ch = rw y.channel (channel_says j.room (channel_at j k) (g.each k y.known)) in
        let v : Headed d h = heading_headed d h (sym er ∙ m) in
        let few : k < channel_limit = omega (arith, y.known, g.sizes.few) in
        let long : header_length ≤ length d = omega (arith, v.long) in
        rw (
          lt-ltb k channel_limit few,
          le-leb j.room largest_room g.sizes.narrow,
          le-leb ch.held j.room x.held,
          lt-ltb ch.last counters x.last,
          le-leb header_length (length d) long,
          le-leb (length d) largest_datagram v.short,
        )

pub judged-by : {f : Result (Option (ℕ × Channel)) Refusal} {r : Result BindingHeader Refusal} {s : ℕ} {x : Result (ℕ × Step) Refusal}
    (j : Joiner) (b : ℕ) (d : List ℕ) → length j.channels ≡ channel_limit → r ≡ heading_in d → s ≡ sender_by r → f ≡ found_of j b s → x ≡ judged_by f j.room r (length d) → x ≡ judged_of j b d
unfolding judged_by moved_of heading_by
judged-by {f} {r} {s} j b d w er es ef ex = ex ∙ go f refl r refl
  where
    sought : (h : BindingHeader) → r ≡ Ok h → f ≡ found_of j b h.sender
    sought h p = ef ∙ ap (found_of j b) (es ∙ ap sender_by p)

    refused : (n : Refusal) → r ≡ Err n → good j b ≡ true → Err n ≡ judged_of j b d
    refused n p g = no-heading j b d er {t = good j b} refl g p

    go : (g : Result (Option (ℕ × Channel)) Refusal) → f ≡ g → (y : Result BindingHeader Refusal) → r ≡ y → judged_by g j.room y (length d) ≡ judged_of j b d
    go (Err e) q y p = ap Err (found-bad j b s ef q).1 ∙ not-well j b d er (found-bad j b s ef q).0
    go (Ok None) q (Err n) p = refused n p (found-nobody j b s ef q).0
    go (Ok None) q (Ok h) p = to-nobody j b d er h p (sought h p) q
    go (Ok (Some (k, ch))) q (Err n) p = refused n p (found-somebody j b s ef k ch q).well
    go (Ok (Some (k, ch))) q (Ok h) p =
        rw (found-moves j b d er h p (sought h p) k ch w q) (to-somebody j b d er h p (sought h p) k ch q refl refl)

-- what it says that a datagram moves a channel
pub record Moved (j : Joiner) (b : ℕ) (d : List ℕ) (k : ℕ) (s : Step) : Type 0 where
  pub well : good j b ≡ true
  pub headed : Headed d (header_in d)
  pub channel : k ≡ place_of (senders_of j) (sender_in d)
  pub known : k < j.count
  pub step : s ≡ stepped_of (room_of j.room k) (channel_at j k) (part_carried d) (counter_in d) (length (piece_in d))

module _ (j : Joiner) (b : ℕ) (d : List ℕ) (k : ℕ) (s : Step) where
  clash : (e : Refusal) → ◌≡◌ {A = Result (ℕ × Step) Refusal} (Err e) (Ok (k, s)) → ⊥
  clash n e = let z : ◌≡◌ {A = ℕ} 0 1 = cc in omega arith

  sent : good j b ≡ true → Headed d (header_in d) → (t : Bool) → ltb (place_of (senders_of j) (sender_in d)) j.count ≡ t →
      cond {A = Result (ℕ × Step) Refusal} t (Ok (
        place_of (senders_of j) (sender_in d),
        stepped_of (room_of j.room (place_of (senders_of j) (sender_in d))) (channel_at j (place_of (senders_of j) (sender_in d))) (part_carried d)
            (counter_in d) (length (piece_in d)),
      )) (Err NotSetUp) ≡ Ok (k, s) →
      Moved j b d k s
  sent g h true e q =
      let at : ℕ = place_of (senders_of j) (sender_in d) in
      let w : ◌≡◌ {A = ℕ × Step} (k, s) (at, stepped_of (room_of j.room at) (channel_at j at) (part_carried d) (counter_in d) (length (piece_in d))) = cc in
      let ek : k ≡ at = ap (λ (y : ℕ × Step). y.0) w in
      let es : s ≡ stepped_of (room_of j.room at) (channel_at j at) (part_carried d) (counter_in d) (length (piece_in d)) = ap (λ (y : ℕ × Step). y.1) w in
      record { well = g; headed = h; channel = ek; known = omega (arith, ltb-true (place_of (senders_of j) (sender_in d)) j.count e); step = rw ek es }
  sent g h false e q = absurd (clash NotSetUp q)

  pub judged-moved : judged_of j b d ≡ Ok (k, s) → Moved j b d k s
  unfolding judged_of heading_by sent_to
  judged-moved e = by (good j b) refl (heading_in d) refl e
    where
      by : (g : Bool) → good j b ≡ g → (x : Result BindingHeader Refusal) → heading_in d ≡ x
          → cond g (heading_by j d x) (Err NoJoiner) ≡ Ok (k, s) → Moved j b d k s
      by false g x h q = absurd (clash NoJoiner q)
      by true g (Err n) h q = absurd (clash n q)
      by true g (Ok y) h q =
          let w : Headed d y = heading_headed d y h in
          let f : y ≡ header_in d = w.fields in
          let v : Headed d (header_in d) = record { long = w.long; short = w.short; version = w.version; fields = refl } in
          sent g v (ltb (place_of (senders_of j) (sender_in d)) j.count) refl (rw f at q)
