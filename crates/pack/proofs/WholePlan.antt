-- Runs packed whole or not at all.
-- Assumes nothing.
use Prim.Native.Nat.{ℕ, ◌≤◌}
use mathlib.Core.Path.{◌≡◌, refl, sym, ap, subst, ◌∙◌}
use mathlib.Core.Bool.{Bool, true, false}
use mathlib.Core.List.{List, []}
use lib.ListN.{length}
use native.Mathlib.Omega.{arith}
use Rattle.walk.specs.declared.Place.{Place}
use Rattle.walk.specs.declared.Walked.{Walked}
use Rattle.walk.specs.declared.Walked.TheVariants.{Went, Stopped}
use Rattle.walk.specs.Walk.{start, answer, left, through, walk}
use Rattle.walk.specs.Runs.{runs_tree}
use Rattle.walk.specs.Whole.{fits, all_or_nothing}
use Rattle.walk.proofs.Walks.{Holds, walk_same}
use Rattle.walk.proofs.Whole.{room_for, refused, not-whole, all_stored}
use Rattle.pack.specs.Writing.{writer, Writing}
use Rattle.pack.specs.ByPlan.{whole_at, stored_whole}
use Rattle.pack.proofs.WriteReturns.{writer_keeps}
use Rattle.pack.proofs.WholeStores.{run_written, runs_are, went_on, went_to}

module _ (ws t rs x : List ℕ) (r : Walked) (walks : r ≡ answer (walk (writer ws) (runs_tree t rs) start [])) where
  pub came-to : (v : Walked) → r ≡ v → v ≡ answer (walk (writer ws) (runs_tree t rs) start [])
  came-to v h = sym h ∙ walks

  pub none-if-refused : (n : ℕ) (q : Place) → r ≡ Stopped n q → x ≡ all_or_nothing (writer ws) (length ws) (runs_tree t rs) x
  none-if-refused n q h = (refused (writer ws) (length ws) (runs_tree t rs) x r walks x refl n q h).1

  same_answer : (z : List ℕ) → r ≡ answer (walk (writer ws) (runs_tree t rs) start z)
  same_answer z = walks ∙ walk_same (writer ws) (runs_tree t rs) start [] z

  module _ (q : Place) (went : r ≡ Went q) where
    walked : (z : List ℕ) → answer (through (length rs) (run_written ws t rs) start z) ≡ Went q
    walked z = ap answer (sym (runs_are ws t rs start z)) ∙ sym (same_answer z) ∙ went

    at_end : whole_at rs (length rs) ≡ q
    at_end = went_to ws t rs [] q (walked [])

    in_words : q.from ≤ length ws
    in_words =
        (subst (Holds (λ o z. Writing ws o × (length z ≡ 0))) (runs_are ws t rs start [] ∙ went_on ws t rs [] q (walked []))
        ((writer_keeps ws).walks (runs_tree t rs) start [] (omega arith, omega arith))).0.1

    pub whole_from : (whole_at rs (length rs)).from ≤ length ws
    whole_from = omega (arith, in_words, ap (λ (o : Place). o.from) at_end)

    module _ (f : Bool) (is : f ≡ fits (length ws) (length x) q) where
      pub none-if-not-whole : f ≡ false → x ≡ all_or_nothing (writer ws) (length ws) (runs_tree t rs) x
      none-if-not-whole h = (not-whole (writer ws) (length ws) (runs_tree t rs) x r walks x refl q went f is h).1

      pub whole_to : f ≡ true → (whole_at rs (length rs)).to ≤ length x
      whole_to h = omega (arith, room_for (length ws) (length x) q f is q.to h refl, ap (λ (o : Place). o.to) at_end)

      pub all-if-whole : (y : List ℕ) → f ≡ true → y ≡ stored_whole ws rs (length rs) x → y ≡ all_or_nothing (writer ws) (length ws) (runs_tree t rs) x
      unfolding left
      all-if-whole y h e =
          (all_stored (writer ws) (length ws) (runs_tree t rs) x r walks x refl q went f is (Went q) y h (sym went ∙ same_answer x)
          (e ∙ sym (ap left (runs_are ws t rs start x ∙ went_on ws t rs x q (walked x))))).1
