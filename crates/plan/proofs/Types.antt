-- The runs of one type behind those of the types before it.
-- Assumes nothing.
use Prim.Native.Nat.{ℕ, zero, suc, ◌+◌, ◌≤◌, ◌<◌}
use mathlib.Core.Path.{◌≡◌, refl, sym, ap, subst, ◌∙◌}
use mathlib.Core.Bool.{Bool, true, false}
use mathlib.Core.List.{List, [], ◌++◌}
use mathlib.Core.Logic.{⊎_elim}
use native.Mathlib.Nat.{eq-or-lt_of_le}
use native.Mathlib.Numerals.{add-one}
use native.Mathlib.Omega.{arith}
use borrow.Author.Tests.{ltb-true, ltb-false}
use lib.Dec.{ltb}
use lib.ListN.{length, get_or, drop, length-append}
use lib.Seq.{take_all, drop_at, take-append-le}
use Rattle.table.specs.declared.Sections.{Sections}
use Rattle.table.specs.declared.Entry.{Entry}
use Rattle.plan.specs.Leaves.{sum_below, leaf_counts, leaves}
use Rattle.plan.specs.Layout.{row_runs, run_lists, runs, all_runs}
use Rattle.plan.specs.Laying.{between, many_of, runs_from, part_at, part_runs, Before, Parts, starts_of, Laid}
use Rattle.plan.proofs.Known.{length-made, made-known, sum_equal}
use Rattle.plan.proofs.FlatTypes.{runs-known}
use Rattle.plan.proofs.Betweens.{between_taken}
use Rattle.plan.proofs.Rows.{leaves_below}
use Rattle.plan.proofs.Sized.{Sized, runs-unknown, sized-known}

pub row_same : (f g : ℕ → List ℕ) (n : ℕ) → ((k : ℕ) → k < n → f k ≡ g k) → row_runs f n ≡ row_runs g n
unfolding row_runs
row_same f g zero h = refl
row_same f g (suc n) h = rw (row_same f g n (λ k l. h k (omega arith)), h n (omega arith)) refl

-- a part of two lists one behind the other, that lies in the first, or is the second
between_front : (a b : ℕ) (x y : List ℕ) → b ≤ length x → between a b (x ++ y) ≡ between a b x
unfolding between
between_front a b x y h = ap (drop a) (take-append-le b x y h)

between_back : (a b : ℕ) (x y : List ℕ) → a ≡ length x → b ≡ length (x ++ y) → between a b (x ++ y) ≡ y
unfolding between
between_back a b x y p q = ap (drop a) (take_all b (x ++ y) (omega arith)) ∙ drop_at x y a (sym p)

module _ (t : List ℕ) (s : Sections) where
  -- where the runs of each type start
  pub length_more : (c : ℕ) → length (all_runs t s (c + 1)) ≡ length (all_runs t s c) + length (runs t s c)
  unfolding all_runs
  length_more c = rw (add-one c) (length-append (all_runs t s c) (runs t s c))

  pub all-grow : (c i : ℕ) → c ≤ i → length (all_runs t s c) ≤ length (all_runs t s i)
  unfolding all_runs
  all-grow c zero h = let e : c ≡ 0 = omega arith in rw e (omega arith)
  all-grow c (suc i) h =
      ⊎_elim
      (λ (e : c ≡ suc i). subst (λ (k : ℕ). length (all_runs t s c) ≤ length (all_runs t s k)) e (omega arith))
      (λ (g : c < suc i). omega (arith, all-grow c i (omega arith), length-append (all_runs t s i) (runs t s i)))
      (eq-or-lt_of_le h)

  pub all-between : (i c : ℕ) → c < i → between (length (all_runs t s c)) (length (all_runs t s (c + 1))) (all_runs t s i) ≡ runs t s c
  unfolding all_runs
  all-between zero c h = absurd (omega arith)
  all-between (suc i) c h =
      let m : c ≤ i = omega arith in
      ⊎_elim
      (λ (e : c ≡ i).
      between_back (length (all_runs t s c)) (length (all_runs t s (c + 1))) (all_runs t s i) (runs t s i) (ap (λ (k : ℕ). length (all_runs t s k)) e)
      (length_more c ∙ ap (λ (k : ℕ). length (all_runs t s k) + length (runs t s k)) e ∙ sym (length-append (all_runs t s i) (runs t s i)))
      ∙ ap (runs t s) (sym e))
      (λ (g : c < i).
      between_front (length (all_runs t s c)) (length (all_runs t s (c + 1))) (all_runs t s i) (runs t s i) (all-grow (c + 1) i (omega arith))
      ∙ all-between i c g)
      (eq-or-lt_of_le m)

  pub length-starts : (n : ℕ) → length (starts_of t s n) ≡ n
  unfolding starts_of
  length-starts = length-made (starts_of t s) (λ c. length (all_runs t s c)) refl (λ n. refl)

  pub starts-known : (n c : ℕ) → c < n → get_or (starts_of t s n) c 0 ≡ length (all_runs t s c)
  unfolding starts_of
  starts-known = made-known (starts_of t s) (λ c. length (all_runs t s c)) refl (λ n. refl) 0

-- words that hold the runs of the types below i
module _ (t : List ℕ) (s : Sections) (i : ℕ) (l starts : List ℕ) (end : ℕ) (laid : Laid t s i l starts end) where
  start-at : (c : ℕ) → c ≤ i → get_or starts c 0 ≡ length (all_runs t s c)
  start-at c h = ap (λ (u : List ℕ). get_or u c 0) laid.starting ∙ starts-known t s (i + 1) c (omega arith)

  pub laid-before : Before starts i end
  laid-before =
      record {
        long = omega (arith, ap length laid.starting, length-starts t s (i + 1));
        order = λ c h. omega (arith, start-at c (omega arith), start-at (c + 1) (omega arith), length_more t s c);
        below = λ c h. omega (arith, start-at (c + 1) (omega arith), all-grow t s (c + 1) i (omega arith), laid.ends);
      }

  laid-known : (c : ℕ) → runs_from l starts i c ≡ get_or (run_lists t s i) c []
  unfolding runs_from
  laid-known c = go (ltb c i) refl
    where
      go : (b : Bool) → ltb c i ≡ b → runs_from l starts i c ≡ get_or (run_lists t s i) c []
      go false e = rw (e, runs-unknown t s i c (ltb-false c i e)) refl
      go true e =
          let h : c < i = ltb-true c i e in
          rw e
          (ap (λ (a : ℕ). between a (get_or starts (c + 1) 0) l) (start-at c (omega arith))
          ∙ ap (λ (b : ℕ). between (length (all_runs t s c)) b l) (start-at (c + 1) (omega arith))
          ∙ sym (between_taken (length (all_runs t s c)) (length (all_runs t s (c + 1))) end l (omega (arith, all-grow t s (c + 1) i (omega arith), laid.ends)))
          ∙ ap (between (length (all_runs t s c)) (length (all_runs t s (c + 1)))) laid.held
          ∙ all-between t s i c h ∙ sym (runs-known t s i c h))

  -- a row, of which so many leaves are known
  module _ (e : Entry) (is_record : Bool) (sum : sum_below (λ k. get_or (leaf_counts t s i) (part_at t s e is_record k) 0) e.count ≡ leaves t s i)
      (few : leaves t s i ≤ 512) (are : runs t s i ≡ row_runs (λ k. get_or (run_lists t s i) (part_at t s e is_record k) []) e.count) where
    each : (k : ℕ) → part_runs t s e is_record l starts i k ≡ get_or (run_lists t s i) (part_at t s e is_record k) []
    unfolding part_runs
    each k = laid-known (part_at t s e is_record k)

    size : (k : ℕ) → Sized (part_runs t s e is_record l starts i k) (get_or (leaf_counts t s i) (part_at t s e is_record k) 0)
    size k =
        subst (λ (xs : List ℕ). Sized xs (get_or (leaf_counts t s i) (part_at t s e is_record k) 0)) (sym (each k)) (sized-known t s i (part_at t s e is_record k))

    all-leaves : leaves_below (part_runs t s e is_record l starts i) e.count ≡ leaves t s i
    all-leaves =
        sum_equal e.count (λ k. many_of (part_runs t s e is_record l starts i k)) (λ k. get_or (leaf_counts t s i) (part_at t s e is_record k) 0)
        (λ k h. (size k).many)
        ∙ sum

    pub row-parts : Parts (part_runs t s e is_record l starts i) e.count end l
    row-parts =
        record {
          thin = λ k h. omega (arith, (size k).many, (size k).thin);
          few = omega (arith, all-leaves);
          fits = omega (arith, all-leaves, laid.room);
        }

    pub row-runs : row_runs (part_runs t s e is_record l starts i) e.count ≡ runs t s i
    row-runs =
        row_same (part_runs t s e is_record l starts i) (λ k. get_or (run_lists t s i) (part_at t s e is_record k) []) e.count (λ k h. each k) ∙ sym are
