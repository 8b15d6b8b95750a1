-- `unpack::at_once::read_leaves` meets its contract: by what type c is.
-- Assumes nothing.
use Rattle.unpack.proofs.ReadBases.{element_reads}
use Rattle.unpack.proofs.ByCodes.{alike-members, alike-elements}
use Rattle.unpack.proofs.Entries.{entry_met}
use Rattle.unpack.proofs.at_once.read_leaves.Goals as goal

pub returns-then-code-lt-NO_BASE : goal.returns-then-code-lt-NO_BASE
returns-then-code-lt-NO_BASE c =
    c.read_run.ensures _ (element_reads _ _ _ _ _ _ _ c.base_at-code.ensures)

pub returns-in-Leaf : goal.returns-in-Leaf
returns-in-Leaf c =
    entry_met _ _ _ _ _ _ _ _ c.meet.ensures c.in-Leaf.is c.read_enums.ensures

pub returns-in-Members : goal.returns-in-Members
returns-in-Members c =
    c.read_alike.ensures _ (alike-members _ _ _ _ _ _ _ c.meet.ensures c.in-Members.is)

pub returns-in-Elements : goal.returns-in-Elements
returns-in-Elements c =
    c.read_alike-in-Elements.ensures _ (alike-elements _ _ _ _ _ _ _ c.meet.ensures c.in-Elements.is)
