use Rattle.std.proofs.Common.{rules}
use Rattle.recording.proofs.Decimals.{digits_none, digits_enough, one_less, rest-less, digits_more, digits-done}
use Rattle.recording.proofs.text.number_before.Goals as goal

pub loop-rest-init : goal.loop-rest-init
loop-rest-init c =
    (search rules, search rules, search rules, search rules, search digits_enough, search rules, search digits_none)

pub loop-rest-preserved : goal.loop-rest-preserved
loop-rest-preserved c =
    (search rules, search one_less, search rules, search rules, search rest-less, search rules, search digits_more)

pub returns-clause-line_after : goal.returns-clause-line_after
returns-clause-line_after c =
    search digits-done
