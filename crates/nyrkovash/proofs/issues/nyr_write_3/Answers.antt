-- `nyrkovash::nyr_write_3` meets its contract.
-- Assumes nothing.
use Rattle.wire.proofs.MetCases.{met, met_left}
use Rattle.message.specs.Writing.{number_given}
use Rattle.nyrkovash.specs.MessageCalls.{write_left}
use Rattle.nyrkovash.proofs.issues.nyr_write_3.Goals as goal

pub returns-in-Refused-clause-value : goal.returns-in-Refused-clause-value
returns-in-Refused-clause-value c =
    search (met number_given)

pub returns-in-Refused-clause-written_after : goal.returns-in-Refused-clause-written_after
returns-in-Refused-clause-written_after c =
    search (met_left write_left)

pub returns-in-Written-clause-value : goal.returns-in-Written-clause-value
returns-in-Written-clause-value c =
    search (met number_given)

pub returns-in-Written-clause-written_after : goal.returns-in-Written-clause-written_after
returns-in-Written-clause-written_after c =
    search (met_left write_left)
