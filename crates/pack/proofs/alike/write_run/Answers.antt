-- `pack::alike::write_run` meets its contract: all leaves are written, or none.
-- Assumes nothing.
use borrow.Author.Rules.{rules}
use Rattle.walk.proofs.Turns.{going_start}
use Rattle.pack.proofs.JudgedRuns.{run-times, run_end, run_going}
use Rattle.pack.proofs.alike.write_run.Goals as goal

pub returns-then-left-many : goal.returns-then-left-many
returns-then-left-many c f w =
    going_start (search rules) c.requires.0

pub overflow_mul-result : goal.overflow_mul-result
overflow_mul-result c =
    run-times
    c.args.words.now c.args.code _ c.args.p _ c.width-width.ensures (search rules) c.requires.0 c.well_formed.0.1

pub overflow_add-result-then-is_run : goal.overflow_add-result-then-is_run
overflow_add-result-then-is_run c =
    run_end
    c.args.words.now c.args.code _ c.args.p _ c.width-width.ensures (search rules) c.requires.0 c.well_formed.0.1

pub returns-then-is_run : goal.returns-then-is_run
returns-then-is_run c =
    run_going c.args.words.now c.args.code _ c.args.p _ c.width-width.ensures (search rules) c.requires.0 _ _
    c.store_run.ensures (c.is_run.ensures c.if-is_run.true)

pub returns-else-is_run : goal.returns-else-is_run
returns-else-is_run c f w =
    going_start (search rules) c.requires.0
