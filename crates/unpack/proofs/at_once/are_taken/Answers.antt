-- `unpack::at_once::are_taken` meets its contract: by the base's range, and of an enum by its values.
-- Assumes nothing.
use Rattle.unpack.proofs.Among.{entries-refused, entries-base, entries-among}
use Rattle.unpack.proofs.at_once.are_taken.Goals as goal

pub returns-then-e-eq-ENUM : goal.returns-then-e-eq-ENUM
returns-then-e-eq-ENUM c =
    search entries-among

pub returns-else-e-eq-ENUM : goal.returns-else-e-eq-ENUM
returns-else-e-eq-ENUM c =
    search entries-base

pub returns-else-judge_run : goal.returns-else-judge_run
returns-else-judge_run c =
    search entries-refused
