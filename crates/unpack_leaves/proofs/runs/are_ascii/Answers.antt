use borrow.Author.Rules.{rules}
use Rattle.unpack_leaves.proofs.Ascii.{still_byte, none-ascii, more-ascii, all_ascii}
use Rattle.unpack_leaves.proofs.runs.are_ascii.Goals as goal

pub loop-seen-init : goal.loop-seen-init
loop-seen-init c =
    (search none-ascii, search rules)

pub loop-seen-preserved : goal.loop-seen-preserved
loop-seen-preserved c =
    (search more-ascii, search still_byte)

pub returns : goal.returns
returns c =
    search all_ascii
