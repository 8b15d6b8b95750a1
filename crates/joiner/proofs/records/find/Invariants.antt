-- `joiner::records::find` meets its contract. The loop's invariant: no record before i bears the ID.
-- Assumes nothing.
use Rattle.std.proofs.Common.{◌≡◌, ℕ, ◌<◌, get_or}
use Rattle.joiner.specs.JoinerWords.{record_at}
use Rattle.joiner.proofs.records.find.Given as goal

abbrev pub invariant-loop-i : goal.invariant-loop-i
invariant-loop-i l = (k : ℕ) → k < l.i → get_or l.state (record_at k) 0 ≡ l.id → ⊥
