-- `pack::alike::write_met` meets its contract: by what was met.
-- Assumes nothing.
use Rattle.walk.proofs.Turns.{going_start}
use Rattle.pack.proofs.AlikeLeaves.{leaf_written}
use Rattle.pack.proofs.alike.write_met.Goals as goal

pub write_leaves-requires : goal.write_leaves-requires
write_leaves-requires c = (c.requires.0, c.requires.1, λ h. c.requires.2 h _ c.in-Leaf.is)

pub returns-in-Leaf : goal.returns-in-Leaf
returns-in-Leaf c tr is = c.write_leaves.ensures _ (leaf_written _ _ _ _ tr (is.of_leaf _ c.in-Leaf.is))

pub returns-in-Members : goal.returns-in-Members
returns-in-Members c tr is = c.write_planned.ensures tr (is.of_members _ c.in-Members.is)

pub returns-in-Elements : goal.returns-in-Elements
returns-in-Elements c tr is = c.write_planned-in-Elements.ensures tr (is.of_elements _ c.in-Elements.is)

pub returns-in-Broken : goal.returns-in-Broken
returns-in-Broken c tr is = going_start c.requires.1 c.requires.0
