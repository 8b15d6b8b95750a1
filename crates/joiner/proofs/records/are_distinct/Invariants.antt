-- `joiner::records::are_distinct` meets its contract. The loop's invariant: no record before i bears the ID of an earlier one.
-- Assumes nothing.
use Rattle.std.proofs.Common.{ℕ, ◌<◌, ◌≤◌, get_or}
use Rattle.joiner.specs.Setup.{place_of}
use Rattle.joiner.specs.JoinerWords.{record_at}
use Rattle.joiner.specs.Records.{senders_in}
use Rattle.joiner.proofs.records.are_distinct.Given as goal

abbrev pub invariant-loop-i : goal.invariant-loop-i
invariant-loop-i l = (k : ℕ) → k < l.i → k ≤ place_of (senders_in l.state) (get_or l.state (record_at k) 0)
