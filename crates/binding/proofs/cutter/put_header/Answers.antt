-- `binding::put_header` meets its contract: the header as one number.
-- Assumes nothing.
use Rattle.binding.proofs.Cuts.{the_header}
use Rattle.binding.proofs.cutter.put_header.Goals as goal

pub returns : goal.returns
returns c =
    search the_header
