-- The measures of words: one test does for a run of them.
-- Assumes nothing.
use Prim.Native.Nat.{ℕ, ◌+◌, ◌≤◌, ◌<◌}
use mathlib.Core.Path.{◌≡◌, sym, ◌∙◌}
use mathlib.Core.Bool.{Bool, true, false, true≢false}
use mathlib.Core.List.{List}
use native.Mathlib.Omega.{arith}
use borrow.Author.Count.{below_more}
use borrow.Author.Tests.{le-leb}
use lib.Bits.{bit_or}
use lib.Dec.{leb}
use lib.ListN.{length, get_or}
use Rattle.wire.proofs.Bits.{or_left, or_right}
use Rattle.table.specs.Leaf.{base, allowed}
use Rattle.leaf.specs.Limits.{range_of, measure}
use Rattle.leaf.proofs.Limits.{counted}
use Rattle.pack_leaves.specs.Stored.{is_there}
use Rattle.pack.specs.JudgedRuns.{AllThere}
use Rattle.pack_leaves.proofs.There.{judged}

-- a run of words: what is known of the first k
module _ (ws : List ℕ) (code from : ℕ) where
  abbrev pub Judged : ℕ → ℕ → Type 0
  Judged all k = all ≤ (range_of (base code)).last → AllThere ws code from k

  pub more-judged : (all k m : ℕ) → code < 13 → from + k < length ws → ((i : ℕ) → get_or ws i 0 < 18446744073709551616) → Judged all k → m
      ≡ measure (base code) (get_or ws (from + k) 0) → Judged (bit_or all m) (k + 1)
  more-judged all k m b l f old e h =
      let w : ℕ = get_or ws (from + k) 0 in
      let i : leb (measure (base code) w) (range_of (base code)).last ≡ true = le-leb (measure (base code) w) (range_of (base code)).last
      (omega (arith, or_right all m)) in
      let g : allowed code w ≡ true = counted code w b (f (from + k)) ∙ i in
      below_more (λ j. is_there ws code (from + j) ≡ true) k (old (omega (arith, or_left all m))) (sym (judged ws (from + k) code true l (sym g)))

-- by the arm of its code; and no other code takes a word
pub by_code : (ws : List ℕ) (code from count n : ℕ) (r : Bool) → code ≡ n → (r ≡ true → AllThere ws n from count) → r ≡ true → AllThere ws code from count
by_code ws code from count n r e h t = rw e (h t)

pub none_by_code : (ws : List ℕ) (code from count : ℕ) → false ≡ true → AllThere ws code from count
none_by_code ws code from count t = absurd (true≢false (sym t))
