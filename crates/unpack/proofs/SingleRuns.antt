-- Runs of one leaf each, read by their codes.
-- Assumes nothing.
use Prim.Native.Nat.{ℕ, ◌+◌, ◌≤◌, ◌<◌}
use mathlib.Core.Path.{◌≡◌, refl, sym, ap, ◌∙◌}
use mathlib.Core.Bool.{Bool, true}
use mathlib.Core.Logic.{⊎_elim}
use mathlib.Core.List.{List}
use native.Mathlib.Nat.{zero-add, eq-or-lt_of_le}
use native.Mathlib.Omega.{arith}
use borrow.Author.Tests.{eqb-true}
use lib.Dec.{leb, eqb}
use lib.ListN.{length, get_or, set, take}
use lib.Seq.{length-take-le, get_or-take, get_or-set_same, get_or-set_other}
use Rattle.wire.proofs.Cond.{and_left, and_right, and_true}
use Rattle.table.specs.Leaf.{width, allowed}
use Rattle.leaf.specs.Forms.{word_at}
use Rattle.walk.specs.declared.Place.{Place}
use Rattle.walk.specs.Runs.{code_in, many_in, values_in, taken_by, run_tree, runs_tree}
use Rattle.walk.specs.Tree.{leaf}
use Rattle.walk.specs.Walk.{on, next, through, walk, Going}
use Rattle.walk.proofs.Returns.{item_on}
use Rattle.unpack_leaves.specs.Leaves.{is_there, behind, stored}
use Rattle.unpack_leaves.specs.Steps.{ReadsCodes}
use Rattle.unpack.specs.Reading.{reader, Reading, Coded}
use Rattle.unpack.specs.RunByRun.{is_single, Single, run_read, runs_read}
use Rattle.unpack.proofs.ByCodes.{coded_as}

pub codes_there : (n : ℕ) (u v : List ℕ) → length v ≡ length u → n ≤ length u → n ≤ length v
codes_there n u v h g = omega arith

pub single_next : (runs codes : List ℕ) (k code : ℕ) (b : Bool) → Single runs codes k → k < length codes → b ≡ is_single (get_or runs k 0) → b ≡ true → code
    ≡ code_in (get_or runs k 0) → Single runs (set codes k code) (k + 1)
single_next runs codes k code b g room is so e =
    record {
      each = λ j less.
          let l : j ≤ k = omega arith in
          ⊎_elim
          (λ (h : j ≡ k). (
            ap (λ (i : ℕ). is_single (get_or runs i 0)) h ∙ sym is ∙ so,
            ap (λ (i : ℕ). get_or (set codes k code) i 0) h ∙ get_or-set_same codes k code 0 room ∙ e ∙ ap (λ (i : ℕ). code_in (get_or runs i 0)) (sym h),
          ))
          (λ (h : j < k). ((g.each j h).0, get_or-set_other codes k j code 0 (λ m. omega arith) ∙ (g.each j h).1))
          (eq-or-lt_of_le l);
    }

-- such a run is one leaf
takes_all : (t : List ℕ) (w v : ℕ) → values_in w ≡ 0 → taken_by t w v ≡ true
unfolding taken_by
takes_all t w v h = rw h refl

one_leaf : (b t : List ℕ) (w : ℕ) (q : Place) (y : List ℕ) → is_single w ≡ true → is_there b (code_in w) q.from ≡ true
    → walk (reader b) (run_tree t w) q y ≡ on (behind (code_in w) q) (stored b (code_in w) q y)
unfolding walk run_tree through next is_there reader
one_leaf b t w q y h there =
    let code : ℕ = code_in w in
    let one : many_in w ≡ 1 = eqb-true (many_in w) 1 (and_left (eqb (many_in w) 1) (eqb (values_in w) 0) h) in
    let any : values_in w ≡ 0 = eqb-true (values_in w) 0 (and_right (eqb (many_in w) 1) (eqb (values_in w) 0) h) in
    let r : leb (q.from + width code) (length b) ≡ true = and_left (leb (q.from + width code) (length b)) (allowed code (word_at code b q.from)) there in
    let a : allowed code (word_at code b q.from) ≡ true = and_right (leb (q.from + width code) (length b)) (allowed code (word_at code b q.from)) there in
    ap (λ (n : ℕ). through n (λ k o z. walk (reader b) (leaf code (taken_by t w)) o z) q y) one
    ∙ item_on (reader b) 42 code (taken_by t w) q y r
    (and_true (allowed code (word_at code b q.from)) (taken_by t w (word_at code b q.from)) a (takes_all t w (word_at code b q.from) any))

module _ (runs codes : List ℕ) (room : length runs ≤ length codes) (single : Single runs codes (length runs)) where
  pub as_many : length (take (length runs) codes) ≡ length runs
  as_many = length-take-le (length runs) codes room

  single_reads : (b t : List ℕ) → ReadsCodes b (take (length runs) codes) 0 (run_read b t runs)
  single_reads b t j q y less there =
      let k : j < length runs = omega (arith, as_many) in
      let e : get_or (take (length runs) codes) j 0 ≡ code_in (get_or runs j 0) = get_or-take (length runs) codes j 0 k ∙ (single.each j k).1 in
      ap (λ (i : ℕ). run_read b t runs i q y) (zero-add j)
      ∙ rw e (one_leaf b t (get_or runs j 0) q y (single.each j k).0 (rw e at there))

  pub single-going : (b t : List ℕ) {n : ℕ} {p : Place} {x : List ℕ} {k : ℕ} {q : Place} {y : List ℕ} → Coded b (take (length runs) codes) n p x k q y
      → Going (Reading b) (runs_read b t runs) n 0 p x k q y
  unfolding walk runs_tree
  single-going b t g = coded_as g (length runs) (run_read b t runs) as_many (single_reads b t)
