-- `walk::base_at` meets its contract.
-- Assumes nothing.
use Rattle.walk.proofs.Bases.{base-met, no-base-met}
use Rattle.walk.proofs.base_at.Goals as goal

pub returns-then-i-c : goal.returns-then-i-c
returns-then-i-c c =
    search no-base-met

pub returns : goal.returns
returns c =
    search base-met
