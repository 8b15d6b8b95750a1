-- `pack::write_once` meets its contract: by what stands at the entry.
-- Assumes nothing.
use native.Mathlib.Omega.{arith}
use Rattle.walk.proofs.Returns.{tree_looked, met-leaf, met-members, met-elements, met-broken}
use Rattle.pack.proofs.Sure.{type-leaf, type-members, type-elements}
use Rattle.pack.proofs.walking.write_once.Goals as goal

pub write_leaf-requires : goal.write_leaf-requires
write_leaf-requires c =
    ((omega arith, omega arith), λ h. type-leaf _ _ _ _ _ _ _ _ c.look.ensures _ (c.requires h) c.in-Leaf.is)

pub write_members-requires : goal.write_members-requires
write_members-requires c =
    ((omega arith, omega arith), λ h. type-members _ _ _ _ _ _ _ _ c.look.ensures _ (c.requires h) c.in-Members.is)

pub write_elements-requires : goal.write_elements-requires
write_elements-requires c =
    ((omega arith, omega arith), λ h. type-elements _ _ _ _ _ _ _ _ c.look.ensures _ (c.requires h) c.in-Elements.is)

pub returns-in-Leaf : goal.returns-in-Leaf
returns-in-Leaf c =
    let t = met-leaf _ _ _ _ _ _ _ _ _ (tree_looked _ _ _ _ _ c.look.ensures) _ _ _ c.in-Leaf.is
    c.write_leaf.ensures.value c.write_leaf.ensures.out_after in record { value = t.0; out_after = t.1 }

pub returns-in-Members : goal.returns-in-Members
returns-in-Members c =
    let t = met-members _ _ _ _ _ _ _ _ _ (tree_looked _ _ _ _ _ c.look.ensures) _ _ _ c.in-Members.is
    c.write_members.ensures.value c.write_members.ensures.out_after in record { value = t.0; out_after = t.1 }

pub returns-in-Elements : goal.returns-in-Elements
returns-in-Elements c =
    let t = met-elements _ _ _ _ _ _ _ _ _ (tree_looked _ _ _ _ _ c.look.ensures) _ _ _ c.in-Elements.is
    c.write_elements.ensures.value c.write_elements.ensures.out_after in record { value = t.0; out_after = t.1 }

pub returns-in-Broken : goal.returns-in-Broken
returns-in-Broken c =
    let t = met-broken _ _ _ _ _ _ _ _ _ (tree_looked _ _ _ _ _ c.look.ensures) c.in-Broken.is in record { value = t.0; out_after = t.1 }
