-- `leaf::hit_whole` meets its contract.
-- Assumes nothing.
use Rattle.std.proofs.Common.{rules}
use Rattle.leaf.proofs.Returns.{no_hit, one_hit}
use Rattle.leaf.proofs.words.hit_whole.Goals as goal

pub returns-then-other_whole : goal.returns-then-other_whole
returns-then-other_whole c =
    (search rules, search no_hit)

pub returns-else-other_whole : goal.returns-else-other_whole
returns-else-other_whole c =
    (search rules, search one_hit)
