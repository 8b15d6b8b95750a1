-- `binding::part_of_code` meets its contract: in each arm the code is the part's, or none of the others'.
-- Assumes nothing.
use Rattle.binding.specs.declared.MessagePart.TheVariants.{Begin, Middle, End}
use Rattle.binding.proofs.Reading.{has_code, no_other}
use Rattle.binding.proofs.part_of_code.Goals as goal

pub returns-in-0 : goal.returns-in-0
returns-in-0 c =
    has_code Begin c.in-0.is

pub returns-in-1 : goal.returns-in-1
returns-in-1 c =
    has_code Middle c.in-1.is

pub returns-in-2 : goal.returns-in-2
returns-in-2 c =
    has_code End c.in-2.is

pub returns-in_default : goal.returns-in_default
returns-in_default c =
    search no_other
