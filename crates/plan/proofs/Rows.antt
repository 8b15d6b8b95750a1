-- The runs of a row's parts one behind another: what adding those of one more comes to.
-- Assumes nothing.
use Prim.Native.Nat.{ℕ, zero, suc, ◌+◌, ◌-◌, ◌≤◌, ◌<◌}
use mathlib.Core.Path.{◌≡◌, refl, sym, ap, subst, ◌∙◌}
use mathlib.Core.Bool.{Bool, true, false}
use mathlib.Core.List.{List, []}
use mathlib.Core.Logic.{⊎_elim}
use native.Mathlib.Nat.{eq-or-lt_of_le}
use native.Mathlib.Numerals.{add-one}
use native.Mathlib.Omega.{arith}
use borrow.Author.Tests.{ltb-true}
use lib.Dec.{ltb}
use lib.ListN.{length, get_or}
use Rattle.wire.specs.Bytes.{over}
use Rattle.table.specs.declared.Sections.{Sections}
use Rattle.table.specs.declared.Entry.{Entry}
use Rattle.table.specs.Entries.{member_at}
use Rattle.plan.specs.Leaves.{sum_below}
use Rattle.plan.specs.Layout.{add_all, row_runs}
use Rattle.plan.specs.Laying.{between, many_of, Room, runs_from, part_at, part_runs, Before, Parts}
use Rattle.wire.proofs.Runs.{length_over, over_none}
use Rattle.wire.proofs.Cond.{yes_lt, no_lt}
use Rattle.plan.proofs.Betweens.{between_before, between_written, length_between, over_between, over_again}
use Rattle.plan.proofs.RunCounts.{length_add_all, add_all_longer, many_add_all}

-- the runs of one type before
module _ (l starts : List ℕ) (i c from end : ℕ) (before : Before starts i from)
    (room : Room l from end (length (runs_from l starts i c)) (many_of (runs_from l starts i c))) where
  module _ (h : c < i) where
    its-runs : runs_from l starts i c ≡ between (get_or starts c 0) (get_or starts (c + 1) 0) l
    unfolding runs_from
    its-runs = yes_lt _ _ c i h

    pub type-room : Room l from end (get_or starts (c + 1) 0 - get_or starts c 0) (many_of (between (get_or starts c 0) (get_or starts (c + 1) 0) l))
    type-room =
        let n : get_or starts c 0 + length (between (get_or starts c 0) (get_or starts (c + 1) 0) l) ≡ get_or starts (c + 1) 0 =
        length_between (get_or starts c 0) (get_or starts (c + 1) 0) l (before.order c h) (omega (arith, before.below c h, room.order, room.fits)) in
        record {
          order = room.order;
          fits = omega (arith, ap length its-runs, room.fits);
          few = omega (arith, ap many_of its-runs, room.few);
        }

    pub type-end : (r : ℕ) → r ≡ from + length (add_all (between from end l) (between (get_or starts c 0) (get_or starts (c + 1) 0) l))
        → r ≡ from + length (add_all (between from end l) (runs_from l starts i c))
    type-end r e = e ∙ ap (λ (ys : List ℕ). from + length (add_all (between from end l) ys)) (sym its-runs)

    pub type-held : (u : List ℕ) → u ≡ over l from (add_all (between from end l) (between (get_or starts c 0) (get_or starts (c + 1) 0) l))
        → u ≡ over l from (add_all (between from end l) (runs_from l starts i c))
    type-held u e = e ∙ ap (λ (ys : List ℕ). over l from (add_all (between from end l) ys)) (sym its-runs)

  module _ (h : i ≤ c) where
    no-runs : runs_from l starts i c ≡ []
    unfolding runs_from
    no-runs = no_lt _ _ c i h

    pub none_end : end ≡ from + length (add_all (between from end l) (runs_from l starts i c))
    unfolding add_all
    none_end =
        sym (length_between from end l room.order (omega (arith, room.fits)))
        ∙ ap (λ (ys : List ℕ). from + length (add_all (between from end l) ys)) (sym no-runs)

    pub none-held : l ≡ over l from (add_all (between from end l) (runs_from l starts i c))
    unfolding add_all
    none-held =
        sym (over_between from end l room.order (omega (arith, room.fits)))
        ∙ ap (λ (ys : List ℕ). over l from (add_all (between from end l) ys)) (sym no-runs)

-- how many leaves the first parts have
abbrev pub leaves_below : (ℕ → List ℕ) → ℕ → ℕ
leaves_below f n = sum_below (λ k. many_of (f k)) n

pub sum_grows : (f : ℕ → ℕ) (k n : ℕ) → k < n → sum_below f k + f k ≤ sum_below f n
unfolding sum_below
sum_grows f k zero h = absurd (omega arith)
sum_grows f k (suc n) h =
    let l : k ≤ n = omega arith in
    ⊎_elim
    (λ (e : k ≡ n). subst (λ (m : ℕ). sum_below f k + f k ≤ sum_below f m + f m) e (omega arith))
    (λ (g : k < n). omega (arith, sum_grows f k n g))
    (eq-or-lt_of_le l)

module _ (f : ℕ → List ℕ) (n : ℕ) where
  within_all : (k : ℕ) → k < n → leaves_below f k + many_of (f k) ≤ leaves_below f n
  within_all k h = sum_grows (λ j. many_of (f j)) k n h

  -- they are as many as the runs say, and the runs are no more
  pub row-many : leaves_below f n < 65536 → (k : ℕ) → k ≤ n → many_of (row_runs f k) ≡ leaves_below f k
  unfolding row_runs many_of sum_below
  row-many few zero h = refl
  row-many few (suc k) h =
      let i : many_of (row_runs f k) ≡ leaves_below f k = row-many few k (omega arith) in
      omega (arith, i, many_add_all (row_runs f k) (f k) (omega (arith, i, within_all k (omega arith), few)))

  pub row-thin : ((k : ℕ) → k < n → length (f k) ≤ many_of (f k)) → (k : ℕ) → k ≤ n → length (row_runs f k) ≤ leaves_below f k
  unfolding row_runs sum_below
  row-thin thin zero h = omega arith
  row-thin thin (suc k) h = omega (arith, row-thin thin k (omega arith), length_add_all (row_runs f k) (f k), thin k (omega arith))

module _ (f : ℕ → List ℕ) (n from : ℕ) (l₀ : List ℕ) (parts : Parts f n from l₀) where
  pub row-start-end : from ≡ from + length (row_runs f 0)
  unfolding row_runs
  row-start-end = omega arith

  pub row-start-held : l₀ ≡ over l₀ from (row_runs f 0)
  unfolding row_runs
  row-start-held = over_none l₀ from []

  module _ (l ys : List ℕ) (to k : ℕ) (b : k < n) (held : l ≡ over l₀ from (row_runs f k)) (ends : to ≡ from + length (row_runs f k)) (is : ys ≡ f k) where
    in_room : from + length (row_runs f k) + many_of (f k) ≤ length l₀
    in_room = omega (arith, row-thin f n parts.thin k (omega arith), within_all f n k b, parts.fits)

    as_long : length l ≡ length l₀
    as_long = ap length held ∙ length_over l₀ from (row_runs f k) (omega (arith, in_room))

    there : between from to l ≡ row_runs f k
    there =
        ap (λ (m : ℕ). between from m l) ends ∙ ap (between from (from + length (row_runs f k))) held
        ∙ between_written from l₀ (row_runs f k) (omega (arith, in_room))

    pub row_room : Room l from to (length ys) (many_of ys)
    row_room =
        record {
          order = omega arith;
          fits = omega (arith, in_room, as_long, parts.thin k b, ap length is);
          few = omega (arith, ap many_of there, row-many f n parts.few k (omega arith), within_all f n k b, parts.few, ap many_of is);
        }

    its-sum : add_all (between from to l) ys ≡ row_runs f (k + 1)
    unfolding row_runs
    its-sum = ap (λ (u : List ℕ). add_all u ys) there ∙ ap (add_all (row_runs f k)) is ∙ rw (add-one k) refl

    pub row-end : (r : ℕ) → r ≡ from + length (add_all (between from to l) ys) → r ≡ from + length (row_runs f (k + 1))
    row-end r e = e ∙ ap (λ (u : List ℕ). from + length u) its-sum

    pub row-held : (u : List ℕ) → u ≡ over l from (add_all (between from to l) ys) → u ≡ over l₀ from (row_runs f (k + 1))
    row-held u e =
        let z : add_all (between from to l) ys ≡ add_all (row_runs f k) ys = ap (λ (v : List ℕ). add_all v ys) there in
        e ∙ ap (over l from) z ∙ ap (λ (v : List ℕ). over v from (add_all (row_runs f k) ys)) held
        ∙ over_again from l₀ (row_runs f k) (add_all (row_runs f k) ys)
        (omega (arith, length_add_all (row_runs f k) ys, in_room, parts.thin k b, ap length is)) (add_all_longer (row_runs f k) ys)
        ∙ ap (over l₀ from) (sym z ∙ its-sum)

-- of a table's entry
module _ (t : List ℕ) (s : Sections) (e : Entry) (is_record : Bool) where
  pub part-member : (r k : ℕ) → is_record ≡ true → r ≡ member_at t s (e.first + k) → r ≡ part_at t s e is_record k
  unfolding part_at
  part-member r k h q = rw h q

  pub part-element : (k : ℕ) → is_record ≡ false → e.of ≡ part_at t s e is_record k
  unfolding part_at
  part-element k h = rw h refl

  module _ (l₀ starts : List ℕ) (i from : ℕ) (before : Before starts i from)
      (parts : Parts (part_runs t s e is_record l₀ starts i) e.count from l₀) (l : List ℕ) (to k c : ℕ) (b : k < e.count)
      (held : l ≡ over l₀ from (row_runs (part_runs t s e is_record l₀ starts i) k))
      (ends : to ≡ from + length (row_runs (part_runs t s e is_record l₀ starts i) k)) (part : c ≡ part_at t s e is_record k) where
    unchanged : (d : Bool) → ltb c i ≡ d → runs_from l starts i c ≡ runs_from l₀ starts i c
    unfolding runs_from
    unchanged true h =
        rw h
        (ap (between (get_or starts c 0) (get_or starts (c + 1) 0)) held
        ∙ between_before (get_or starts c 0) (get_or starts (c + 1) 0) from l₀ (row_runs (part_runs t s e is_record l₀ starts i) k)
        (before.below c (ltb-true c i h)) (omega (arith, parts.fits)))
    unchanged false h = rw h refl

    is-part : runs_from l starts i c ≡ part_runs t s e is_record l₀ starts i k
    unfolding part_runs
    is-part = unchanged (ltb c i) refl ∙ ap (runs_from l₀ starts i) part

    pub part_room : Room l from to (length (runs_from l starts i c)) (many_of (runs_from l starts i c))
    part_room = row_room (part_runs t s e is_record l₀ starts i) e.count from l₀ parts l (runs_from l starts i c) to k b held ends is-part

    pub part_end : (r : ℕ) → r ≡ from + length (add_all (between from to l) (runs_from l starts i c))
        → r ≡ from + length (row_runs (part_runs t s e is_record l₀ starts i) (k + 1))
    part_end = row-end (part_runs t s e is_record l₀ starts i) e.count from l₀ parts l (runs_from l starts i c) to k b held ends is-part

    pub part_held : (u : List ℕ) → u ≡ over l from (add_all (between from to l) (runs_from l starts i c))
        → u ≡ over l₀ from (row_runs (part_runs t s e is_record l₀ starts i) (k + 1))
    part_held = row-held (part_runs t s e is_record l₀ starts i) e.count from l₀ parts l (runs_from l starts i c) to k b held ends is-part
