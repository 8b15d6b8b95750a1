-- A type's plan: its runs are a part of the words, and their tree is the plan's.
-- Assumes nothing.
use Prim.Native.Nat.{ℕ, ◌+◌, ◌-◌}
use mathlib.Core.Path.{◌≡◌, ap, ◌∙◌}
use mathlib.Core.List.{List}
use native.Mathlib.Nat.{add-sub_cancel_left}
use lib.ListN.{take, drop}
use Rattle.walk.specs.declared.Place.{Place}
use Rattle.walk.specs.declared.Walked.{Walked}
use Rattle.walk.specs.declared.plans.Plan.{Plan}
use Rattle.walk.specs.Walk.{Codec, walk}
use Rattle.walk.specs.Runs.{runs_tree}
use Rattle.walk.specs.Planned.{plan_of, runs_of, plan_tree}
use Rattle.walk.proofs.Returns.{Did}
use Rattle.walk.proofs.Whole.{Gives}

module _ (t ps : List ℕ) (i : ℕ) (r : Plan) (is : r ≡ plan_of ps i) where
  abbrev part : List ℕ
  part = take (r.first + r.runs - r.first) (drop r.first ps)

  pub part-tree : runs_tree t part ≡ plan_tree t ps i
  unfolding plan_tree runs_of
  part-tree =
      ap (runs_tree t) (ap (λ (n : ℕ). take n (drop r.first ps)) (add-sub_cancel_left r.first r.runs)
      ∙ ap (λ (q : Plan). take q.runs (drop q.first ps)) is)

  pub planned-did : (c : Codec) (p : Place) (x : List ℕ) (v : Walked) (y : List ℕ) → Did (walk c (runs_tree t part) p x) v y
      → Did (walk c (plan_tree t ps i) p x) v y
  planned-did c p x v y d = rw (← part-tree) d

  pub planned-gives : (c : Codec) (n : ℕ) (x : List ℕ) (v : Walked) (y : List ℕ) → Gives c n (runs_tree t part) x v y → Gives c n (plan_tree t ps i) x v y
  planned-gives c n x v y d = rw (← part-tree) d
