-- `pack::alike::write_leaves` meets its contract: all leaves are written, or none.
-- Assumes nothing.
use mathlib.Core.Path.{refl}
use borrow.Author.Rules.{rules}
use Rattle.walk.proofs.Turns.{going_start}
use Rattle.pack.proofs.JudgedRuns.{run-times, run_end}
use Rattle.pack.proofs.AlikeLeaves.{leaves-going}
use Rattle.pack.proofs.alike.write_leaves.Goals as goal

pub returns-then-words-p : goal.returns-then-words-p
returns-then-words-p c f w =
    going_start c.requires.1 c.requires.0

pub overflow_mul-result : goal.overflow_mul-result
overflow_mul-result c =
    run-times c.args.words.now c.args.e.of _ c.args.p _ c.width-width.ensures (search rules) c.requires.0
    c.well_formed.1.1.1.0.1

pub overflow_add-result-then-takes_all : goal.overflow_add-result-then-takes_all
overflow_add-result-then-takes_all c =
    run_end c.args.words.now c.args.e.of _ c.args.p _ c.width-width.ensures (search rules) c.requires.0
    c.well_formed.1.1.1.0.1

pub returns-then-takes_all : goal.returns-then-takes_all
returns-then-takes_all c =
    leaves-going c.args.words.now c.args.table.now c.args.s c.args.e c.args.p _ _ c.args.from _ _
    c.width-width.ensures (search rules) c.store_run.ensures (c.takes_all.ensures c.if-takes_all.true) c.requires.0 _ refl
    c.requires.1

pub returns-else-takes_all : goal.returns-else-takes_all
returns-else-takes_all c f w =
    going_start c.requires.1 c.requires.0
