-- How a recording starts: the cases of `opened_in`.
-- Assumes nothing.
use Rattle.std.proofs.Common.{◌≡◌, ℕ, ◌+◌, ◌*◌, ◌<◌, ◌≤◌, Bool, true, false, cond, ◌&&◌, ltb, leb, List, [], length, take, replicate, sym, refl, ap, ◌∙◌, ap₂, arith, length-take-le, ltb-true, leb-true}
use Rattle.std.specs.Prelude.{Option, Some, None, Result, Ok, Err}
use Rattle.refusal.specs.declared.Refusal.{Refusal}
use Rattle.refusal.specs.declared.Refusal.TheVariants.{NoJoiner}
use mathlib.Core.Path.{subst⁻¹}
use Rattle.wire.proofs.Cond.{yes_lt, no_lt, yes-if, no-if, and_left, and_right}
use Rattle.channel.specs.Record.{channel_limit, largest_room, room_start}
use Rattle.joiner.specs.Setup.{good, fresh_of, setup_of, smallest_room}
use Rattle.joiner.specs.declared.Joiner.{Joiner}
use Rattle.recording.specs.Opening.{sizes_length, rooms_limit, count_in, room_in, id_place, ids_in, good_start, opened_by, setup_in, ready_in, opened_in}
use Rattle.recording.specs.declared.start.Opened.{Opened}

-- count and R
module _ (n R : ℕ) where
  pub start-judged : {t : ℕ} → (leb 1 n && leb n channel_limit) ≡ true → (leb smallest_room R && leb R largest_room) ≡ true → t ≡ room_start R n
      → leb t rooms_limit ≡ good_start n R
  unfolding good_start
  start-judged e f g = rw (e, f, g)

  pub wrong-room : (leb 1 n && leb n channel_limit) ≡ true → (leb smallest_room R && leb R largest_room) ≡ false → false ≡ good_start n R
  unfolding good_start
  wrong-room e f = rw (e, f)

  pub wrong-count : (leb 1 n && leb n channel_limit) ≡ false → false ≡ good_start n R
  unfolding good_start
  wrong-count e = rw e

-- the IDs, one after the other
pub ids_count : (ids : List ℕ) (n : ℕ) → length ids ≡ channel_limit → n ≤ channel_limit → n ≡ length (take n ids)
ids_count ids n l h = sym (length-take-le n ids (omega arith))

-- what count and R that pass are
module _ {t : Bool} (n R : ℕ) (e : t ≡ good_start n R) (f : t ≡ true) where
  pub start-few : n ≤ channel_limit
  unfolding good_start
  start-few =
      let a : Bool = leb 1 n && leb n channel_limit in
      let b : Bool = leb smallest_room R && leb R largest_room in
      let d : Bool = leb (room_start R n) rooms_limit in
      leb-true n channel_limit (and_right (leb 1 n) (leb n channel_limit) (and_left a (b && d) (sym e ∙ f)))

  start-total : room_start R n ≤ rooms_limit
  unfolding good_start
  start-total =
      let a : Bool = leb 1 n && leb n channel_limit in
      let b : Bool = leb smallest_room R && leb R largest_room in
      let d : Bool = leb (room_start R n) rooms_limit in
      leb-true (room_start R n) rooms_limit (and_right b d (and_right a (b && d) (sym e ∙ f)))

-- the tests of `open`, in their order
pub no_sizes : (s : List ℕ) → length s < sizes_length → Ok None ≡ opened_in s
unfolding opened_in
no_sizes s h = sym (yes_lt _ _ (length s) sizes_length h)

module _ {t : Bool} (s : List ℕ) (n R : ℕ) (l : sizes_length ≤ length s) (p : n ≡ count_in s) (q : R ≡ room_in s) (f : t ≡ good_start n R) where
  judged : t ≡ good_start (count_in s) (room_in s)
  judged = f ∙ ap (λ (k : ℕ). good_start k R) p ∙ ap (good_start (count_in s)) q

  pub bad-start : t ≡ false → Err NoJoiner ≡ opened_in s
  unfolding opened_in
  bad-start g = sym (no-if _ _ (sym judged ∙ g)) ∙ sym (no_lt _ _ (length s) sizes_length l)

  pub no-ids : t ≡ true → length s < id_place n → Ok None ≡ opened_in s
  unfolding opened_in
  no-ids g h =
      sym (yes_lt _ _ (length s) (id_place (count_in s)) (rw p at h))
      ∙ sym (yes-if _ _ (sym judged ∙ g))
      ∙ sym (no_lt _ _ (length s) sizes_length l)

  pub all_ids : {o : Result (Option Opened) Refusal} → t ≡ true → id_place n ≤ length s → o ≡ ready_in s n R → o ≡ opened_in s
  unfolding opened_in
  all_ids g h e =
      e
      ∙ ap (λ (k : ℕ). ready_in s k R) p
      ∙ ap (ready_in s (count_in s)) q
      ∙ sym (no_lt _ _ (length s) (id_place (count_in s)) (rw p at h))
      ∙ sym (yes-if _ _ (sym judged ∙ g))
      ∙ sym (no_lt _ _ (length s) sizes_length l)

-- a set-up is refused with 20 and no other number
setup_refuses : (ids : List ℕ) (R b : ℕ) (k : Refusal) → setup_of ids R b ≡ Err k → k ≡ NoJoiner
unfolding setup_of
setup_refuses ids R b k e = go (leb (length ids) channel_limit && good (fresh_of ids R) b) e
  where
    go : (t : Bool) → cond t (Ok (fresh_of ids R)) (Err NoJoiner) ≡ Err k → k ≡ NoJoiner
    go true f = let y : ◌≡◌ {A = ℕ} 0 1 = cc in absurd (omega arith)
    go false f = cc

-- what is known of a start in each case: one that is not finished is short, one that is refused has number 20, and one that
-- is open has rooms within the limit
module _ (P : Result (Option Opened) Refusal → Type 0) (s : List ℕ) (short : length s < id_place channel_limit → P (Ok None)) (bad : P (Err NoJoiner))
    (ready : (o : Opened) → o.rooms ≤ rooms_limit → P (Ok (Some o))) where
  opening-says : P (opened_in s)
  unfolding opened_in opened_by good_start
  opening-says = start (ltb (length s) sizes_length) refl (good_start n R) refl
    where
      n : ℕ
      n = count_in s

      R : ℕ
      R = room_in s

      answered : (a : Result Joiner Refusal) → setup_in s n R ≡ a → room_start R n ≤ rooms_limit → P (opened_by (id_place n) (room_start R n) a)
      answered (Ok j) e h = ready (record { joiner = j; start = id_place n; rooms = room_start R n }) h
      answered (Err k) e h = subst⁻¹ (λ (m : Refusal). P (Err m)) (setup_refuses (ids_in s n) R (room_start R n) k e) bad

      ids : (v : Bool) → ltb (length s) (id_place n) ≡ v → good_start n R ≡ true → P (cond v (Ok None) (ready_in s n R))
      ids true j g = short (omega (arith, ltb-true (length s) (id_place n) j, start-few n R refl g))
      ids false j g = answered (setup_in s n R) refl (start-total n R refl g)

      start : (t : Bool) → ltb (length s) sizes_length ≡ t → (u : Bool) → good_start n R ≡ u →
          P (cond t (Ok None) (cond u (cond (ltb (length s) (id_place n)) (Ok None) (ready_in s n R)) (Err NoJoiner)))
      start true h u i = short (omega (arith, ltb-true (length s) sizes_length h))
      start false h true i = ids (ltb (length s) (id_place n)) refl i
      start false h false i = bad

module _ {o : Result (Option Opened) Refusal} (s : List ℕ) (e : o ≡ opened_in s) where
  pub unfinished-short : o ≡ Ok None → length s < id_place channel_limit
  unfinished-short g =
      opening-says (λ (q : Result (Option Opened) Refusal). q ≡ Ok None → length s < id_place channel_limit) s
      (λ h f. h)
      (λ f. let y : ◌≡◌ {A = ℕ} 0 1 = cc in absurd (omega arith))
      (λ p h f. let y : ◌≡◌ {A = ℕ} 0 1 = cc in absurd (omega arith))
      (sym e ∙ g)

  pub open-rooms : (w : Opened) → o ≡ Ok (Some w) → w.rooms ≤ rooms_limit
  open-rooms w g =
      opening-says (λ (q : Result (Option Opened) Refusal). q ≡ Ok (Some w) → w.rooms ≤ rooms_limit) s
      (λ h f. let y : ◌≡◌ {A = ℕ} 0 1 = cc in absurd (omega arith))
      (λ f. let y : ◌≡◌ {A = ℕ} 0 1 = cc in absurd (omega arith))
      (λ p h f. let z : p ≡ w = cc in omega (arith, ap (λ (x : Opened). x.rooms) z))
      (sym e ∙ g)

  pub refused-by-20 : (k : Refusal) → o ≡ Err k → k ≡ NoJoiner
  refused-by-20 k g =
      opening-says (λ (q : Result (Option Opened) Refusal). q ≡ Err k → k ≡ NoJoiner) s
      (λ h f. let y : ◌≡◌ {A = ℕ} 0 1 = cc in absurd (omega arith))
      (λ f. cc)
      (λ p h f. let y : ◌≡◌ {A = ℕ} 0 1 = cc in absurd (omega arith))
      (sym e ∙ g)
