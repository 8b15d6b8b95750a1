-- `recording::field_before` meets its contract: a space before the digits.
-- Assumes nothing.
use Rattle.std.proofs.Common.{ℕ, ◌<◌, ◌≤◌, List, length, arith}
use Rattle.recording.proofs.Putting.{space_put}
use Rattle.recording.proofs.text.field_before.Goals as goal

pub returns-clause-line_after : goal.returns-clause-line_after
returns-clause-line_after c =
    let r : ℕ = c.number_before-start.result in
    let u : List ℕ = c.number_before-start.new.line in
    let z : 0 < r = omega arith in
    let h : r ≤ length u = omega arith in
    search space_put
