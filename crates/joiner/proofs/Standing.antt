-- A set-up that was accepted stays good: no datagram can bring 20 afterwards, and senders, count and room size never
-- change. A refusal changes no record and no byte of the rooms; a datagram of channel k changes no other record.
-- Assumes nothing.
use Prim.Native.Nat.{ℕ, ◌≤◌, ◌<◌}
use Rattle.std.specs.Prelude.{Result, Ok, Err}
use Rattle.refusal.specs.declared.Refusal.{Refusal}
use Rattle.std.specs.Prelude.{Option, Some, None}
use mathlib.Core.Path.{◌≡◌, refl, sym, ap, ◌∙◌}
use mathlib.Core.Bool.{Bool, true, false, ◌&&◌}
use mathlib.Core.List.{List, map}
use native.Mathlib.Omega.{arith}
use borrow.Author.Tests.{le-leb, eq-eqb, eqb-true, eqb-false}
use lib.Dec.{eqb}
use lib.ListN.{length, get_or, set, length-set}
use lib.Seq.{get_or-set_same, get_or-set_other, get_or-take, take-set-lt, map-set_same}
use Rattle.wire.proofs.Cond.{and_true}
use Rattle.wire.specs.Bytes.{Octets}
use Rattle.wire.proofs.Runs.{length_written}
use Rattle.binding.specs.Header.{part_carried, counter_in, piece_in}
use Rattle.binding.proofs.Headers.{counter_below}
use Rattle.channel.specs.declared.Channel.{Channel}
use Rattle.channel.specs.declared.Step.{Step}
use Rattle.channel.specs.Channel.{room_of}
use Rattle.channel.specs.Record.{channel_limit, new_channel, good_channel, largest_room, room_start}
use Rattle.channel.proofs.Cases.{channel_says, Stepped, step-cases, step-sender, step-sound, sound_good}
use Rattle.joiner.specs.declared.Joiner.{Joiner}
use Rattle.joiner.specs.Setup.{distinct, every, sender_of, channels_of, senders_of, channel_at, good_sizes, good, smallest_room}
use Rattle.joiner.specs.Take.{judged_of, changed, taken_by, taken_of, put_by, rooms_by, rooms_after}
use Rattle.joiner.proofs.Places.{every-by}
use Rattle.joiner.proofs.Lookups.{Sizes, channels_length, channels-at}
use Rattle.joiner.proofs.Judging.{Good, good_says, Moved, judged-moved}

pub sizes_are : (n R b : ℕ) → Sizes n R b → good_sizes n R b ≡ true
unfolding good_sizes
sizes_are n R b s =
    rw (
      le-leb 1 n s.some,
      le-leb n channel_limit s.few,
      le-leb smallest_room R s.wide,
      le-leb R largest_room s.narrow,
      eq-eqb b (room_start R n) s.whole,
    )

pub good_is : (j : Joiner) (b : ℕ) → length j.channels ≡ channel_limit → Good j b → good j b ≡ true
unfolding good
good_is j b w g = and_true (good_sizes j.count j.room b) (every (good_channel j.room) (channels_of j) && distinct (senders_of j))
    (sizes_are j.count j.room b g.sizes) (and_true (every (good_channel j.room) (channels_of j)) (distinct (senders_of j)) all g.once)
  where
    at : (k : ℕ) → k < j.count → good_channel j.room (get_or (channels_of j) k (new_channel 0)) ≡ true
    at k h = ap (good_channel j.room) (channels-at j g.sizes.few w k h) ∙ g.each k h

    all : every (good_channel j.room) (channels_of j) ≡ true
    all = every-by (good_channel j.room) (new_channel 0) (channels_of j) (λ k h. at k (omega (arith, channels_length j g.sizes.few w)))

-- a joiner as a set-up makes it and as `take` leaves it: 32 records, and good over rooms of b bytes
pub record Standing (j : Joiner) (b : ℕ) : Type 0 where
  pub width : length j.channels ≡ channel_limit
  pub well : good j b ≡ true

pub standing_good : {j : Joiner} {b : ℕ} → Standing j b → Good j b
standing_good {j} {b} s = good_says j b s.width s.well

module _ (j : Joiner) (k : ℕ) (ch : Channel) where
  pub changed-here : k < length j.channels → channel_at (changed j k ch) k ≡ ch
  changed-here h = get_or-set_same j.channels k ch (new_channel 0) h

  pub changed-there : (i : ℕ) → (i ≡ k → ⊥) → channel_at (changed j k ch) i ≡ channel_at j i
  changed-there i h = get_or-set_other j.channels k i ch (new_channel 0) h

  pub changed-senders : k < j.count → ch.sender ≡ (channel_at j k).sender → senders_of (changed j k ch) ≡ senders_of j
  changed-senders h e =
      ap (map sender_of) (take-set-lt j.count j.channels k ch h)
      ∙ map-set_same sender_of (channels_of j) k ch (new_channel 0) (e ∙ ap sender_of (sym (get_or-take j.count j.channels k (new_channel 0) h)))

pub put_length : (rooms : List ℕ) (p : Option ℕ) (d : List ℕ) → length (put_by rooms p d) ≡ length rooms
unfolding put_by
put_length rooms None d = refl
put_length rooms (Some p) d = length_written rooms p (piece_in d)

-- what a datagram that moves channel k does to the record
module _ (j : Joiner) (b : ℕ) (d : List ℕ) (k : ℕ) (s : Step) (v : Moved j b d k s) where
  pub moved-cases : Stepped (room_of j.room k) (channel_at j k) (counter_in d) (length (piece_in d)) (part_carried d) s
  moved-cases = rw v.step (step-cases (room_of j.room k) (channel_at j k) (counter_in d) (length (piece_in d)) (part_carried d))

  pub moved-sender : s.channel.sender ≡ (channel_at j k).sender
  moved-sender = step-sender (room_of j.room k) (channel_at j k) (counter_in d) (length (piece_in d)) moved-cases

  pub moved-senders : senders_of (changed j k s.channel) ≡ senders_of j
  moved-senders = changed-senders j k s.channel v.known moved-sender

  pub moved-standing : Standing j b → Octets d → Standing (changed j k s.channel) b
  moved-standing t o = record
      { width = w; well = good_is (changed j k s.channel) b w (record { sizes = g.sizes; each = each; once = ap distinct moved-senders ∙ g.once }) }
    where
      g : Good j b
      g = standing_good t

      w : length (set j.channels k s.channel) ≡ channel_limit
      w = length-set j.channels k s.channel ∙ t.width

      here : good_channel j.room s.channel ≡ true
      here =
          sound_good j.room s.channel
          (step-sound (room_of j.room k) (channel_at j k) (counter_in d) (length (piece_in d)) (counter_below d o)
          (channel_says j.room (channel_at j k) (g.each k v.known)) moved-cases)

      each : (i : ℕ) → i < j.count → good_channel j.room (channel_at (changed j k s.channel) i) ≡ true
      each i h = go (eqb i k) refl
        where
          go : (q : Bool) → eqb i k ≡ q → good_channel j.room (channel_at (changed j k s.channel) i) ≡ true
          go true e = ap (λ (m : ℕ). good_channel j.room (channel_at (changed j k s.channel) m)) (eqb-true i k e)
              ∙ ap (good_channel j.room) (changed-here j k s.channel (omega (arith, v.known, g.sizes.few, t.width))) ∙ here
          go false e = ap (good_channel j.room) (changed-there j k s.channel i (eqb-false i k e)) ∙ g.each i h

-- the laws of `take`
module _ (j : Joiner) (rooms d : List ℕ) where
  pub rooms-length : length (rooms_after j rooms d) ≡ length rooms
  unfolding rooms_after rooms_by
  rooms-length = go (judged_of j (length rooms) d)
    where
      go : (x : Result (ℕ × Step) Refusal) → length (rooms_by rooms d x) ≡ length rooms
      go (Err n) = refl
      go (Ok (k, s)) = put_length rooms s.put d

  -- set-up stays good
  pub take-standing : Standing j (length rooms) → Octets d → Standing (taken_of j rooms d).joiner (length (rooms_after j rooms d))
  unfolding taken_of taken_by
  take-standing t o = rw rooms-length (go (judged_of j (length rooms) d) refl)
    where
      go : (x : Result (ℕ × Step) Refusal) → judged_of j (length rooms) d ≡ x → Standing (taken_by j x).joiner (length rooms)
      go (Err n) e = t
      go (Ok (k, s)) e = moved-standing j (length rooms) d k s (judged-moved j (length rooms) d k s e) t o

  -- the set-up itself never changes
  pub take_count : (taken_of j rooms d).joiner.count ≡ j.count
  unfolding taken_of taken_by
  take_count = go (judged_of j (length rooms) d)
    where
      go : (x : Result (ℕ × Step) Refusal) → (taken_by j x).joiner.count ≡ j.count
      go (Err n) = refl
      go (Ok (k, s)) = refl

  pub take-room : (taken_of j rooms d).joiner.room ≡ j.room
  unfolding taken_of taken_by
  take-room = go (judged_of j (length rooms) d)
    where
      go : (x : Result (ℕ × Step) Refusal) → (taken_by j x).joiner.room ≡ j.room
      go (Err n) = refl
      go (Ok (k, s)) = refl

  pub take-senders : senders_of (taken_of j rooms d).joiner ≡ senders_of j
  unfolding taken_of taken_by
  take-senders = go (judged_of j (length rooms) d) refl
    where
      go : (x : Result (ℕ × Step) Refusal) → judged_of j (length rooms) d ≡ x → senders_of (taken_by j x).joiner ≡ senders_of j
      go (Err n) e = refl
      go (Ok (k, s)) e = moved-senders j (length rooms) d k s (judged-moved j (length rooms) d k s e)

  -- a refusal changes no record and no byte
  pub refused-here : (n : Refusal) → (taken_of j rooms d).outcome ≡ Err n → judged_of j (length rooms) d ≡ Err n
  unfolding taken_of taken_by
  refused-here n q = go (judged_of j (length rooms) d) refl q
    where
      go : (x : Result (ℕ × Step) Refusal) → judged_of j (length rooms) d ≡ x → (taken_by j x).outcome ≡ Err n → judged_of j (length rooms) d ≡ Err n
      go (Err m) e f = e ∙ ap Err (cc)
      go (Ok (k, s)) e f =
          let z : ◌≡◌ {A = ℕ} 0 1 = cc in absurd (omega arith)

  pub refusal-keeps-joiner : (n : Refusal) → (taken_of j rooms d).outcome ≡ Err n → (taken_of j rooms d).joiner ≡ j
  unfolding taken_of taken_by
  refusal-keeps-joiner n q = ap (λ (x : Result (ℕ × Step) Refusal). (taken_by j x).joiner) (refused-here n q)

  pub refusal-keeps-rooms : (n : Refusal) → (taken_of j rooms d).outcome ≡ Err n → rooms_after j rooms d ≡ rooms
  unfolding rooms_after rooms_by
  refusal-keeps-rooms n q = ap (rooms_by rooms d) (refused-here n q)

  -- records past the count never change
  pub past-kept : (i : ℕ) → j.count ≤ i → channel_at (taken_of j rooms d).joiner i ≡ channel_at j i
  unfolding taken_of taken_by
  past-kept i h = go (judged_of j (length rooms) d) refl
    where
      go : (x : Result (ℕ × Step) Refusal) → judged_of j (length rooms) d ≡ x → channel_at (taken_by j x).joiner i ≡ channel_at j i
      go (Err n) e = refl
      go (Ok (k, s)) e =
          let l : k < j.count = (judged-moved j (length rooms) d k s e).known in
          changed-there j k s.channel i (λ q. omega arith)
