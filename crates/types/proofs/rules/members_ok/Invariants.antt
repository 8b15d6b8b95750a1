-- `types::rules::members_ok` meets its contract: the first k members have passed.
-- Assumes nothing.
use Rattle.std.proofs.Common.{◌≡◌, true}
use Rattle.wire.specs.All.{all_below}
use Rattle.types.specs.Rules.{member_ok}
use Rattle.types.proofs.rules.members_ok.Given as goal

abbrev pub invariant-loop-k : goal.invariant-loop-k
invariant-loop-k l = all_below (member_ok l.table l.s l.i l.e) l.k ≡ true
