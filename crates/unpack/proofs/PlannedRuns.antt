-- A type's plan: its runs are a part of the plans.
-- Assumes nothing.
use Prim.Native.Nat.{ℕ, ◌+◌, ◌-◌, ◌*◌, ◌^◌, ◌≤◌, ◌<◌}
use mathlib.Core.Path.{◌≡◌, ap, ◌∙◌}
use mathlib.Core.List.{List}
use native.Mathlib.Omega.{arith}
use mir.Syntax.{w64}
use mir.Val.{Fits}
use lib.ListN.{length, take, drop}
use Rattle.walk.specs.declared.plans.Plan.{Plan}
use Rattle.walk.specs.Planned.{plan_of, runs_of, plan_tree}
use Rattle.walk.specs.declared.Place.{Place}
use Rattle.walk.specs.declared.Walked.{Walked}
use Rattle.walk.specs.Tree.{Tree}
use Rattle.walk.specs.Runs.{runs_tree}
use Rattle.walk.specs.Walk.{Codec, answer, left, walk}
use Rattle.walk.specs.Whole.{all_or_nothing}
use Rattle.walk.proofs.WherePlans.{plan_in}

module _ (ps : List ℕ) (i : ℕ) (r : Plan) (is : r ≡ plan_of ps i) where
  pub plan-ends : r.first + r.runs ≤ length ps
  plan-ends = plan_in ps i r is

  module _ (few : length ps * 8 < 2 ^ 63) where
    pub end_fits : Fits w64 (r.first + r.runs)
    end_fits = record { fits = omega (arith, plan-ends) }

    pub first_fits : Fits w64 (r.first * 8)
    first_fits = record { fits = omega (arith, plan-ends) }

  runs_are : take (r.first + r.runs - r.first) (drop r.first ps) ≡ runs_of ps i
  unfolding runs_of
  runs_are =
      let e : r.first + r.runs - r.first ≡ r.runs = omega arith in
      ap (λ (n : ℕ). take n (drop r.first ps)) e ∙ ap (λ (q : Plan). take q.runs (drop q.first ps)) is

  -- so a walk over that part is a walk over the plan's tree
  module _ (w : Codec) (t : List ℕ) where
    pub tree_is : runs_tree t (take (r.first + r.runs - r.first) (drop r.first ps)) ≡ plan_tree t ps i
    unfolding plan_tree
    tree_is = ap (runs_tree t) runs_are

    pub plan-answer : (p : Place) (x : List ℕ) (v : Walked)
        → v ≡ answer (walk w (runs_tree t (take (r.first + r.runs - r.first) (drop r.first ps))) p x) → v ≡ answer (walk w (plan_tree t ps i) p x)
    plan-answer p x v h = h ∙ ap (λ (tr : Tree). answer (walk w tr p x)) tree_is

    pub plan-left : (p : Place) (x y : List ℕ)
        → y ≡ left (walk w (runs_tree t (take (r.first + r.runs - r.first) (drop r.first ps))) p x) → y ≡ left (walk w (plan_tree t ps i) p x)
    plan-left p x y h = h ∙ ap (λ (tr : Tree). left (walk w tr p x)) tree_is

    pub plan-whole : (n : ℕ) (x y : List ℕ)
        → y ≡ all_or_nothing w n (runs_tree t (take (r.first + r.runs - r.first) (drop r.first ps))) x → y ≡ all_or_nothing w n (plan_tree t ps i) x
    plan-whole n x y h = h ∙ ap (λ (tr : Tree). all_or_nothing w n tr x) tree_is
