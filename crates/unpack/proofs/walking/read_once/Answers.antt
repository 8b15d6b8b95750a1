-- `unpack::read_once` meets its contract: by what stands at the entry.
-- Assumes nothing.
use Rattle.walk.proofs.Returns.{tree_looked, met-leaf, met-members, met-elements, met-broken}
use Rattle.unpack.proofs.walking.read_once.Goals as goal

pub returns-in-Leaf : goal.returns-in-Leaf
returns-in-Leaf c =
    let t = met-leaf _ _ _ _ _ _ _ _ _ (tree_looked _ _ _ _ _ c.look.ensures) _ _ _ c.in-Leaf.is
    c.read_leaf.ensures.value c.read_leaf.ensures.words_after in record { value = t.0; words_after = t.1 }

pub returns-in-Members : goal.returns-in-Members
returns-in-Members c =
    let t = met-members _ _ _ _ _ _ _ _ _ (tree_looked _ _ _ _ _ c.look.ensures) _ _ _ c.in-Members.is
    c.read_members.ensures.value c.read_members.ensures.words_after in record { value = t.0; words_after = t.1 }

pub returns-in-Elements : goal.returns-in-Elements
returns-in-Elements c =
    let t = met-elements _ _ _ _ _ _ _ _ _ (tree_looked _ _ _ _ _ c.look.ensures) _ _ _ c.in-Elements.is
    c.read_elements.ensures.value c.read_elements.ensures.words_after in record { value = t.0; words_after = t.1 }

pub returns-in-Broken : goal.returns-in-Broken
returns-in-Broken c =
    let t = met-broken _ _ _ _ _ _ _ _ _ (tree_looked _ _ _ _ _ c.look.ensures) c.in-Broken.is in record { value = t.0; words_after = t.1 }
