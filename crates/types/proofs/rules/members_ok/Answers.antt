use Rattle.types.specs.Rules.{members_ok}
use Rattle.wire.proofs.AllBelow.{none_below, done_below}
use Rattle.types.proofs.TypeRules.{member-next, member-ends}
use Rattle.types.proofs.rules.members_ok.Goals as goal

pub loop-k-init : goal.loop-k-init
unfolding members_ok
loop-k-init c =
    search none_below

pub loop-k-preserved : goal.loop-k-preserved
unfolding members_ok
loop-k-preserved c =
    search member-next

pub returns-then-i-member_in : goal.returns-then-i-member_in
unfolding members_ok
returns-then-i-member_in c =
    search member-ends

pub returns : goal.returns
unfolding members_ok
returns c =
    search done_below
