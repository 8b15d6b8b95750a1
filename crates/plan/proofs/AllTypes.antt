-- The runs of all types one behind another, and where those of each start.
-- Assumes nothing.
use Prim.Native.Nat.{ℕ, zero, suc, ◌+◌, ◌≤◌, ◌<◌}
use mathlib.Core.Path.{◌≡◌, refl, sym, ap, subst, ◌∙◌}
use mathlib.Core.List.{List, [], ◌∷◌, ◌++◌}
use native.Mathlib.Nat.{zero-add}
use native.Mathlib.Numerals.{add-one}
use native.Mathlib.Omega.{arith}
use lib.ListN.{length, get_or, set, take, drop, length-append}
use lib.Seq.{take_at, take-suc-set}
use Rattle.wire.specs.Bytes.{over}
use Rattle.table.specs.declared.Sections.{Sections}
use Rattle.plan.specs.Leaves.{sum_below, leaf_counts, leaves}
use Rattle.plan.specs.Layout.{runs, all_runs}
use Rattle.plan.specs.Laying.{starts_of, Laid}
use Rattle.wire.proofs.Runs.{over_none, over_over}
use Rattle.plan.proofs.FlatTypes.{leaves-known}
use Rattle.plan.proofs.Rows.{sum_grows}
use Rattle.plan.proofs.Sized.{sized}
use Rattle.plan.proofs.Types.{length_more}

module _ (t : List ℕ) (s : Sections) where
  -- no more runs than leaves
  pub all-thin : (n : ℕ) → length (all_runs t s n) ≤ sum_below (leaves t s) n
  unfolding all_runs sum_below
  all-thin zero = omega arith
  all-thin (suc n) = omega (arith, all-thin n, length-append (all_runs t s n) (runs t s n), (sized t s n).thin)

  pub none-held : (l : List ℕ) → l ≡ over l 0 (all_runs t s 0)
  unfolding all_runs
  none-held l = over_none l 0 []

  pub none_end : 0 ≡ length (all_runs t s 0)
  unfolding all_runs
  none_end = refl

  pub no_start : (starts : List ℕ) → take 0 starts ≡ starts_of t s 0
  unfolding starts_of
  no_start starts = refl

  pub more-starts : (starts before : List ℕ) (end i n : ℕ) → take i starts ≡ starts_of t s i → end ≡ length (all_runs t s i)
      → length starts ≡ length before → n < length before → i ≤ n → take (i + 1) (set starts i end) ≡ starts_of t s (i + 1)
  unfolding starts_of
  more-starts starts before end i n e q a b c =
      ap (λ (k : ℕ). take k (set starts i end)) (add-one i) ∙ take-suc-set starts i end (omega arith)
      ∙ ap (λ (u : List ℕ). u ++ (end ∷ [])) e
      ∙ ap (λ (k : ℕ). starts_of t s i ++ (k ∷ [])) q
      ∙ ap (starts_of t s) (sym (add-one i))

  -- one more type
  module _ (counts l₀ l : List ℕ) (end i : ℕ) (all : counts ≡ leaf_counts t s (length counts))
      (room : sum_below (leaves t s) (length counts) ≤ length l₀) (h : i < length counts) (long : length l ≡ length l₀)
      (held : l ≡ over l₀ 0 (all_runs t s i)) (ends : end ≡ length (all_runs t s i)) where
    in_room : end + leaves t s i ≤ length l₀
    in_room = omega (arith, all-thin i, sum_grows (leaves t s) i (length counts) h)

    pub its-count : get_or counts i 0 ≡ leaves t s i
    its-count = ap (λ (u : List ℕ). get_or u i 0) all ∙ leaves-known t s (length counts) i h

    pub more-laid : (starts before : List ℕ) → take i starts ≡ starts_of t s i → length starts ≡ length before → length counts < length before
        → Laid t s i l (take (i + 1) (set starts i end)) end
    more-laid starts before e a b =
        record {
          held = ap (take end) held ∙ take_at (all_runs t s i) (drop (0 + length (all_runs t s i)) l₀) end (sym ends);
          ends = ends;
          starting = more-starts starts before end i (length counts) e ends a b (omega arith);
          room = omega (arith, in_room);
        }

    pub more-end : (r : ℕ) → r ≡ end + length (runs t s i) → r ≡ length (all_runs t s (i + 1))
    more-end r e = omega (arith, e, length_more t s i)

    pub more-held : (u : List ℕ) → u ≡ over l end (runs t s i) → u ≡ over l₀ 0 (all_runs t s (i + 1))
    unfolding all_runs
    more-held u e =
        e ∙ ap (λ (v : List ℕ). over v end (runs t s i)) held
        ∙ ap (λ (k : ℕ). over (over l₀ 0 (all_runs t s i)) k (runs t s i)) (ends ∙ sym (zero-add (length (all_runs t s i))))
        ∙ over_over l₀ 0 (all_runs t s i) (runs t s i)
        (omega (arith, in_room, length-append (all_runs t s i) (runs t s i), (sized t s i).thin))
        ∙ rw (add-one i) refl

  pub all_laid : (l l₀ : List ℕ) (i n : ℕ) → l ≡ over l₀ 0 (all_runs t s i) → i ≤ n → n ≤ i → l ≡ over l₀ 0 (all_runs t s n)
  all_laid l l₀ i n e a b = let h : i ≡ n = omega arith in e ∙ ap (λ (k : ℕ). over l₀ 0 (all_runs t s k)) h

  pub all-started : (starts before : List ℕ) (end i n : ℕ) → take i starts ≡ starts_of t s i → end ≡ length (all_runs t s i)
      → length starts ≡ length before → n < length before → i ≤ n → n ≤ i → take (n + 1) (set starts n end) ≡ starts_of t s (n + 1)
  all-started starts before end i n e q a b c d =
      let h : i ≡ n = omega arith in
      subst (λ (k : ℕ). take (k + 1) (set starts k end) ≡ starts_of t s (k + 1)) h (more-starts starts before end i n e q a b c)
