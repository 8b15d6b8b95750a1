-- `recording::number_before` meets its contract. The loop's invariant: the digits of `rest`, before what stands from
-- `at` on, are the digits of the number before what stood from `end` on.
-- Assumes nothing.
use Rattle.std.proofs.Common.{◌≡◌, ◌+◌, ◌^◌, ◌<◌, ◌≤◌, ◌++◌, length, drop}
use Rattle.recording.specs.Decimal.{base, digit_limit, digits, decimal}
use Rattle.recording.proofs.Decimals.{left}
use Rattle.recording.proofs.text.number_before.Given as goal

abbrev pub invariant-loop-rest : goal.invariant-loop-rest
invariant-loop-rest l =
    (l.at ≤ l.end)
    × (l.end < l.at + digit_limit)
    × (digit_limit ≤ l.end)
    × (l.end ≤ length l.line)
    × (l.rest < base ^ left l.end l.at)
    × (length l.line ≡ length l.initial.line)
    × (decimal l.n ++ drop l.end l.initial.line ≡ digits (left l.end l.at) l.rest ++ drop l.at l.line)

abbrev pub decreases-loop-rest : goal.decreases-loop-rest
decreases-loop-rest l = l.rest
