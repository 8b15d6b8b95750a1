-- `unpack_leaves::enums::each_among` meets its contract: the words seen are all among the values.
-- Assumes nothing.
use mathlib.Core.Path.{◌≡◌}
use mathlib.Core.Bool.{true}
use Rattle.wire.specs.All.{all_below}
use Rattle.unpack_leaves.specs.OneCode.{is_among}
use Rattle.unpack_leaves.proofs.enums.each_among.Given as goal

abbrev pub invariant-loop-k : goal.invariant-loop-k
invariant-loop-k l = all_below (is_among l.table l.at l.count l.payload l.code l.from) l.k ≡ true
