-- What a look at a joiner shows: its records against the lists of `specs/`, its sizes, and what was found.
-- Assumes nothing.
use Prim.Native.Nat.{ℕ, ◌≤◌, ◌<◌}
use Rattle.std.specs.Prelude.{Option, Some, None, Result, Ok, Err}
use Rattle.refusal.specs.declared.Refusal.{Refusal}
use Rattle.refusal.specs.declared.Refusal.TheVariants.{NoJoiner}
use mathlib.Core.Path.{◌≡◌, refl, sym, ap, ◌∙◌}
use mathlib.Core.Bool.{Bool, true, false, ◌&&◌, cond}
use native.Mathlib.Omega.{arith}
use borrow.Author.Tests.{leb-true, ltb-true, ltb-false, eqb-true}
use mir.Syntax.{w32}
use mir.Val.{Fits}
use lib.Dec.{leb, ltb, eqb}
use lib.ListN.{length, get_or, length-map, get_or-map}
use lib.Seq.{length-take-le, get_or-take}
use Rattle.wire.proofs.Cond.{and_left, and_right}
use Rattle.channel.specs.declared.Channel.{Channel}
use Rattle.channel.specs.Record.{channel_limit, largest_room, room_start, new_channel}
use Rattle.joiner.specs.declared.Joiner.{Joiner}
use Rattle.joiner.specs.Setup.{smallest_room, place_of, distinct, sender_of, channels_of, senders_of, channel_at, good_sizes, good, found_of}
use Rattle.joiner.proofs.Places.{not_true_false, place_found, place_none, place_first, at_place, distinct_says, is_distinct}

module _ (j : Joiner) where
  module _ (h : j.count ≤ channel_limit) (w : length j.channels ≡ channel_limit) where
    pub channels_length : length (channels_of j) ≡ j.count
    channels_length = length-take-le j.count j.channels (omega arith)

    pub senders-length : length (senders_of j) ≡ j.count
    senders-length = length-map (channels_of j) sender_of ∙ channels_length

    pub channels-at : (k : ℕ) → k < j.count → get_or (channels_of j) k (new_channel 0) ≡ channel_at j k
    channels-at k l = get_or-take j.count j.channels k (new_channel 0) l

    pub senders-at : (k : ℕ) → k < j.count → get_or (senders_of j) k 0 ≡ (channel_at j k).sender
    senders-at k l = get_or-map sender_of (channels_of j) k (new_channel 0) ∙ ap sender_of (channels-at k l)

    -- where an ID was found
    module _ (x i : ℕ) (n : (k : ℕ) → k < i → (channel_at j k).sender ≡ x → ⊥) where
      not-before : i ≤ j.count → (k : ℕ) → k < i → get_or (senders_of j) k 0 ≡ x → ⊥
      not-before l k q e = n k q (sym (senders-at k (omega arith)) ∙ e)

      pub found_here : i < j.count → (channel_at j i).sender ≡ x → i ≡ place_of (senders_of j) x
      found_here l e = place_found (senders_of j) x i (not-before (omega arith)) (omega (arith, senders-length)) (senders-at i l ∙ e)

      pub found_nowhere : i ≤ j.count → j.count ≤ i → i ≡ place_of (senders_of j) x
      found_nowhere l m = place_none (senders_of j) x i (omega (arith, senders-length)) (not-before l)

    -- whether one stands twice
    pub twice : {p : ℕ} (i : ℕ) → i < j.count → p ≡ place_of (senders_of j) (channel_at j i).sender → p < i → false ≡ distinct (senders_of j)
    twice {p} i l e h =
        let x : ℕ = (channel_at j i).sender in
        let m : place_of (senders_of j) x < length (senders_of j) = omega (arith, senders-length) in
        let s : get_or (senders_of j) (place_of (senders_of j) x) 0 ≡ get_or (senders_of j) i 0 = at_place (senders_of j) x m ∙ sym (senders-at i l) in
        sym (not_true_false (distinct (senders_of j))
        (λ t. distinct_says (senders_of j) t (place_of (senders_of j) x) i (omega arith) (omega (arith, senders-length)) s))

    pub never-twice : (i : ℕ) → ((k : ℕ) → k < i → k ≤ place_of (senders_of j) (channel_at j k).sender) → j.count ≤ i → true ≡ distinct (senders_of j)
    never-twice i n m = sym (is_distinct (senders_of j) go)
      where
        go : (a b : ℕ) → a < b → b < length (senders_of j) → get_or (senders_of j) a 0 ≡ get_or (senders_of j) b 0 → ⊥
        go a b h l e =
            let c : b < j.count = omega (arith, senders-length) in
            let q : b ≤ place_of (senders_of j) (channel_at j b).sender = n b (omega arith) in
            let f : place_of (senders_of j) (channel_at j b).sender ≤ a = place_first (senders_of j) (channel_at j b).sender a (omega arith)
            (e ∙ senders-at b c) in
            omega arith

-- `has_good_sizes`
pub count_fits : (n : ℕ) → (leb 1 n && leb n channel_limit) ≡ true → Fits w32 n
count_fits n e = record { fits = omega (arith, leb-true n channel_limit (and_right (leb 1 n) (leb n channel_limit) e)) }

module _ (n R b : ℕ) where
  pub sizes-right : {t : ℕ} → (leb 1 n && leb n channel_limit) ≡ true → (leb smallest_room R && leb R largest_room) ≡ true → t ≡ room_start R n
      → eqb b t ≡ good_sizes n R b
  unfolding good_sizes
  sizes-right e f g = rw (e, f, g)

  pub wrong-room : (leb 1 n && leb n channel_limit) ≡ true → (leb smallest_room R && leb R largest_room) ≡ false → false ≡ good_sizes n R b
  unfolding good_sizes
  wrong-room e f = rw (e, f)

  pub wrong-count : (leb 1 n && leb n channel_limit) ≡ false → false ≡ good_sizes n R b
  unfolding good_sizes
  wrong-count e = rw e

-- what good sizes are
pub record Sizes (n R b : ℕ) : Type 0 where
  pub some : 1 ≤ n
  pub few : n ≤ channel_limit
  pub wide : smallest_room ≤ R
  pub narrow : R ≤ largest_room
  pub whole : b ≡ room_start R n

pub sizes_say : (n R b : ℕ) → good_sizes n R b ≡ true → Sizes n R b
unfolding good_sizes
sizes_say n R b e =
    let p : (leb 1 n && leb n channel_limit)
    ≡ true = and_left (leb 1 n && leb n channel_limit) ((leb smallest_room R && leb R largest_room) && eqb b (room_start R n)) e in
    let q : ((leb smallest_room R && leb R largest_room) && eqb b (room_start R n))
    ≡ true = and_right (leb 1 n && leb n channel_limit) ((leb smallest_room R && leb R largest_room) && eqb b (room_start R n)) e in
    let r : (leb smallest_room R && leb R largest_room) ≡ true = and_left (leb smallest_room R && leb R largest_room) (eqb b (room_start R n)) q in
    record {
      some = leb-true 1 n (and_left (leb 1 n) (leb n channel_limit) p);
      few = leb-true n channel_limit (and_right (leb 1 n) (leb n channel_limit) p);
      wide = leb-true smallest_room R (and_left (leb smallest_room R) (leb R largest_room) r);
      narrow = leb-true R largest_room (and_right (leb smallest_room R) (leb R largest_room) r);
      whole = eqb-true b (room_start R n) (and_right (leb smallest_room R && leb R largest_room) (eqb b (room_start R n)) q);
    }

pub few_channels : (n R b : ℕ) → good_sizes n R b ≡ true → n ≤ channel_limit
few_channels n R b e = (sizes_say n R b e).few

-- what the look found says
pub record Borne (j : Joiner) (b x k : ℕ) (ch : Channel) : Type 0 where
  pub well : good j b ≡ true
  pub place : k ≡ place_of (senders_of j) x
  pub known : k < j.count
  pub channel : ch ≡ channel_at j k

module _ (j : Joiner) (b x : ℕ) {r : Result (Option (ℕ × Channel)) Refusal} (e : r ≡ found_of j b x) where
  pub found-bad : {n : Refusal} → r ≡ Err n → (good j b ≡ false) × (n ≡ NoJoiner)
  unfolding found_of
  found-bad {n} m = go (good j b) refl (sym m ∙ e)
    where
      go : (g : Bool) → good j b ≡ g → Err n ≡ cond g (Ok (cond {A = Option (ℕ × Channel)} (ltb (place_of (senders_of j) x) j.count)
          (Some (place_of (senders_of j) x, channel_at j (place_of (senders_of j) x))) None)) (Err NoJoiner) → (good j b ≡ false) × (n ≡ NoJoiner)
      go true g q = let z : ◌≡◌ {A = ℕ} 0 1 = cc in absurd (omega arith)
      go false g q = (g, cc)

  pub found-nobody : r ≡ (Ok None) → (good j b ≡ true) × (j.count ≤ place_of (senders_of j) x)
  unfolding found_of
  found-nobody m = go (good j b) refl (ltb (place_of (senders_of j) x) j.count) refl (sym m ∙ e)
    where
      go : (g : Bool) → good j b ≡ g → (u : Bool) → ltb (place_of (senders_of j) x) j.count ≡ u → Ok None
          ≡ cond g (Ok (cond {A = Option (ℕ × Channel)} u (Some (place_of (senders_of j) x, channel_at j (place_of (senders_of j) x))) None)) (Err NoJoiner)
          → (good j b ≡ true) × (j.count ≤ place_of (senders_of j) x)
      go true g false h q = (g, ltb-false (place_of (senders_of j) x) j.count h)
      go true g true h q = let z : ◌≡◌ {A = ℕ} 0 1 = cc in absurd (omega arith)
      go false g u h q = let z : ◌≡◌ {A = ℕ} 0 1 = cc in absurd (omega arith)

  pub found-somebody : (k : ℕ) (ch : Channel) → r ≡ Ok (Some (k, ch)) → Borne j b x k ch
  unfolding found_of
  found-somebody k ch m = go (good j b) refl (ltb (place_of (senders_of j) x) j.count) refl (sym m ∙ e)
    where
      go : (g : Bool) → good j b ≡ g → (u : Bool) → ltb (place_of (senders_of j) x) j.count ≡ u
          → ◌≡◌ {A = Result (Option (ℕ × Channel)) Refusal} (Ok (Some (k, ch)))
          (cond g (Ok (cond u (Some (place_of (senders_of j) x, channel_at j (place_of (senders_of j) x))) None)) (Err NoJoiner)) → Borne j b x k ch
      go true g true h q =
          let w : ◌≡◌ {A = ℕ × Channel} (k, ch) (place_of (senders_of j) x, channel_at j (place_of (senders_of j) x)) = cc in
          let p : k ≡ place_of (senders_of j) x = ap (λ (y : ℕ × Channel). y.0) w in
          let f : ch ≡ channel_at j (place_of (senders_of j) x) = ap (λ (y : ℕ × Channel). y.1) w in
          record { well = g; place = p; known = omega (arith, ltb-true (place_of (senders_of j) x) j.count h); channel = rw p f }
      go true g false h q = let z : ◌≡◌ {A = ℕ} 0 1 = cc in absurd (omega arith)
      go false g u h q = let z : ◌≡◌ {A = ℕ} 0 1 = cc in absurd (omega arith)
