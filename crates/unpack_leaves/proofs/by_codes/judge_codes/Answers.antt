-- `unpack::judge_codes` meets its contract: past the end of the payload no leaf is there.
-- Assumes nothing.
use Rattle.unpack_leaves.proofs.Loops.{none-judged, none_ends}
use Rattle.unpack_leaves.proofs.by_codes.judge_codes.Goals as goal

pub returns-then-payload-first-clause-count_value : goal.returns-then-payload-first-clause-count_value
returns-then-payload-first-clause-count_value c =
    search none-judged

pub returns-then-payload-first-clause-from_value : goal.returns-then-payload-first-clause-from_value
returns-then-payload-first-clause-from_value c =
    search none_ends
