-- Without plans the trees by plans are the plain ones.
-- Assumes nothing.
use Prim.Native.Nat.{ℕ, zero, suc}
use mathlib.Core.Path.{◌≡◌, refl, sym, ap, ◌∙◌}
use mathlib.Core.Bool.{false}
use mathlib.Core.List.{List, [], ◌∷◌, ◌++◌}
use native.Mathlib.Omega.{arith}
use lib.Dec.{ltb}
use Rattle.wire.proofs.Cond.{no-if}
use Rattle.table.specs.declared.Sections.{Sections}
use Rattle.walk.specs.declared.Met.{Met}
use Rattle.walk.specs.declared.Met.TheVariants.{Leaf, Members, Elements, Broken}
use Rattle.walk.specs.Tree.{Tree, look, tree_of, trees, tree}
use Rattle.walk.specs.Planned.{first_in, runs_in, lying, plan_of, is_planned, plan_tree, tree_by, trees_by, type_by}
use Rattle.walk.proofs.WherePlans.{none-indexed}

pub none_planned : (i : ℕ) → is_planned [] i ≡ false
unfolding is_planned plan_of lying
none_planned i = ap (λ (w : ℕ). ltb 0 (lying 0 (first_in w) (runs_in w)).runs) (sym (none-indexed [] i (omega arith)))

module _ (t : List ℕ) (s : Sections) where
  tree-same : (i : ℕ) (known : List Tree) (m : Met) → tree_by [] t s i known m ≡ tree_of t s known m
  unfolding tree_by tree_of
  tree-same i known (Leaf e) = refl
  tree-same i known (Members e) = no-if (plan_tree t [] i) (tree_of t s known (Members e)) (none_planned i)
  tree-same i known (Elements e) = no-if (plan_tree t [] i) (tree_of t s known (Elements e)) (none_planned i)
  tree-same i known Broken = refl

  pub trees-same : (n : ℕ) → trees_by [] t s n ≡ trees t s n
  unfolding trees_by trees
  trees-same zero = refl
  trees-same (suc n) =
      ap (λ (ts : List Tree). ts ++ (tree_by [] t s n ts (look t s n) ∷ [])) (trees-same n)
      ∙ ap (λ (tr : Tree). trees t s n ++ (tr ∷ [])) (tree-same n (trees t s n) (look t s n))

  pub type-same : (i : ℕ) → type_by [] t s i ≡ tree t s i
  unfolding type_by tree
  type-same i =
      ap (λ (ts : List Tree). tree_by [] t s i ts (look t s i)) (trees-same i) ∙ tree-same i (trees t s i) (look t s i)
