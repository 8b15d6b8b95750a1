-- Runs unpacked whole or not at all.
-- Assumes nothing.
use Prim.Native.Nat.{ℕ, ◌≤◌}
use mathlib.Core.Path.{◌≡◌, refl, sym, ap, subst, ◌∙◌}
use mathlib.Core.Bool.{Bool, true, false}
use mathlib.Core.List.{List, []}
use lib.ListN.{length}
use native.Mathlib.Omega.{arith}
use Rattle.walk.specs.declared.Place.{Place}
use Rattle.walk.specs.declared.Walked.{Walked}
use Rattle.walk.specs.declared.Walked.TheVariants.{Went, Stopped}
use Rattle.walk.specs.Walk.{start, answer, left, through, walk}
use Rattle.walk.specs.Runs.{runs_tree}
use Rattle.walk.specs.Whole.{fits, all_or_nothing}
use Rattle.walk.proofs.Walks.{Holds}
use Rattle.walk.proofs.Whole.{room_for, refused, not-whole, all_stored}
use Rattle.unpack.specs.Reading.{reader, Reading}
use Rattle.unpack.specs.RunByRun.{run_read, whole_at, stored_whole}
use Rattle.unpack.proofs.ReadReturns.{reader_keeps}
use Rattle.unpack.proofs.LeafByLeaf.{runs_are}
use Rattle.unpack.proofs.Upto.{same_answer}
use Rattle.unpack.proofs.WholeStores.{went_on, went_to}

module _ (b t runs x : List ℕ) (r : Walked) (walks : r ≡ answer (walk (reader b) (runs_tree t runs) start [])) where
  pub none-if-refused : (n : ℕ) (q : Place) → r ≡ Stopped n q → x ≡ all_or_nothing (reader b) (length b) (runs_tree t runs) x
  none-if-refused n q h = (refused (reader b) (length b) (runs_tree t runs) x r walks x refl n q h).1

  module _ (q : Place) (went : r ≡ Went q) where
    walked : (z : List ℕ) → answer (through (length runs) (run_read b t runs) start z) ≡ Went q
    walked z = ap answer (sym (runs_are b t runs start z)) ∙ sym (same_answer b t runs start r walks z) ∙ went

    at_end : whole_at runs (length runs) ≡ q
    at_end = went_to b t runs [] q (walked [])

    in_bytes : q.from ≤ length b
    in_bytes =
        (subst (Holds (λ o z. Reading b o × (length z ≡ 0))) (runs_are b t runs start [] ∙ went_on b t runs [] q (walked []))
        ((reader_keeps b).walks (runs_tree t runs) start [] (omega arith, omega arith))).0.1

    pub whole_from : (whole_at runs (length runs)).from ≤ length b
    whole_from = omega (arith, in_bytes, ap (λ (o : Place). o.from) at_end)

    module _ (f : Bool) (is : f ≡ fits (length b) (length x) q) where
      pub none-if-not-whole : f ≡ false → x ≡ all_or_nothing (reader b) (length b) (runs_tree t runs) x
      none-if-not-whole h = (not-whole (reader b) (length b) (runs_tree t runs) x r walks x refl q went f is h).1

      pub whole_to : f ≡ true → (whole_at runs (length runs)).to ≤ length x
      whole_to h = omega (arith, room_for (length b) (length x) q f is q.to h refl, ap (λ (o : Place). o.to) at_end)

      pub all-if-whole : (y : List ℕ) → f ≡ true → y ≡ stored_whole b runs (length runs) x → y ≡ all_or_nothing (reader b) (length b) (runs_tree t runs) x
      unfolding left
      all-if-whole y h e =
          (all_stored (reader b) (length b) (runs_tree t runs) x r walks x refl q went f is (Went q) y h
          (sym went ∙ same_answer b t runs start r walks x)
          (e ∙ sym (ap left (runs_are b t runs start x ∙ went_on b t runs x q (walked x))))).1
