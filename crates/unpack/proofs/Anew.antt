-- A slice that was made anew for a call, as long as it was: what the call says of it is so of the slice.
-- Assumes nothing.
use Prim.Native.Nat.{ℕ, ◌+◌, ◌*◌, ◌≤◌}
use mathlib.Core.Path.{◌≡◌, refl, ap, ◌∙◌}
use mathlib.Core.Bool.{Bool, cond}
use mathlib.Core.List.{List}
use lib.Dec.{leb}
use lib.ListN.{length, take}
use lib.Seq.{take-length}
use Rattle.wire.proofs.Cond.{yes_le}
use Rattle.table.specs.Leaf.{width}
use Rattle.walk.specs.declared.Place.{Place}
use Rattle.walk.specs.Runs.{code_in, many_in}
use Rattle.unpack_leaves.specs.Leaves.{whole_word}
use Rattle.unpack_leaves.specs.OneCode.{filled, run_there}

pub word_anew : (s : List ℕ) (p code w : ℕ) → w ≡ whole_word code (take (length s) s) p → w ≡ whole_word code s p
word_anew s p code w e = e ∙ ap (λ (l : List ℕ). whole_word code l p) (take-length s)

pub run_anew : (b : List ℕ) (run from code many : ℕ) (r : Bool) → code ≡ code_in run → many ≡ many_in run → r ≡ run_there (take (length b) b) code from many
    → r ≡ run_there b (code_in run) from (many_in run)
run_anew b run from code many r c m e = e ∙ ap (λ (l : List ℕ). run_there l code from many) (take-length b) ∙ rw (c, m) refl

pub stored_anew : (b x y : List ℕ) (code n : ℕ) (p : Place) → p.from + n * width code ≤ length b
    → y ≡ cond (leb (p.from + n * width code) (length (take (length b) b))) (filled (take (length b) b) code p n x) x → y ≡ filled b code p n x
stored_anew b x y code n p h e =
    e
    ∙ ap (λ (l : List ℕ). cond (leb (p.from + n * width code) (length l)) (filled l code p n x) x) (take-length b)
    ∙ yes_le (filled b code p n x) x (p.from + n * width code) (length b) h
