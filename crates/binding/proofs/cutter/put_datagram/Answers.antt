-- `binding::put_datagram` meets its contract: the header and the bytes behind it, or 52 and nothing written.
-- Assumes nothing.
use Rattle.binding.proofs.Cuts.{made_one, wrote_one, made_none, wrote_none}
use Rattle.binding.proofs.cutter.put_datagram.Goals as goal

pub returns-then-whole-out-clause-answer : goal.returns-then-whole-out-clause-answer
returns-then-whole-out-clause-answer c =
    search made_one

pub returns-then-whole-out-clause-output : goal.returns-then-whole-out-clause-output
returns-then-whole-out-clause-output c =
    search wrote_one

pub returns-else-whole-out-clause-answer : goal.returns-else-whole-out-clause-answer
returns-else-whole-out-clause-answer c =
    search made_none

pub returns-else-whole-out-clause-output : goal.returns-else-whole-out-clause-output
returns-else-whole-out-clause-output c =
    search wrote_none
