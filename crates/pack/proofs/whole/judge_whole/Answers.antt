use native.Mathlib.Omega.{arith}
use Rattle.walk.specs.declared.Place.{Place}
use Rattle.walk.specs.declared.Walked.TheVariants.{Went}
use Rattle.pack.proofs.JudgedRuns.{run-times, run_end}
use Rattle.pack.proofs.PlanWalks.{leads-on, leads-end, taken-writing}
use Rattle.pack.proofs.whole.judge_whole.Goals as goal

pub overflow_mul-to : goal.overflow_mul-to
overflow_mul-to c =
    run-times c.args.words.now _ _ (record { from = c.loop-k.from; to = c.loop-k.to }) _ c.width-width.ensures
    (omega (arith, (c.takes_run.ensures c.if-takes_run.true).inside)) c.loop-k.invariant.1 c.well_formed.1.1.0.1

pub overflow_add-to : goal.overflow_add-to
overflow_add-to c =
    run_end c.args.words.now _ _ (record { from = c.loop-k.from; to = c.loop-k.to }) _ c.width-width.ensures
    (omega (arith, (c.takes_run.ensures c.if-takes_run.true).inside)) c.loop-k.invariant.1 c.well_formed.1.1.0.1

pub loop-k-preserved : goal.loop-k-preserved
loop-k-preserved c =
    let taken = c.takes_run.ensures c.if-takes_run.true in
    let here = c.loop-k in
    let start = c.args in
    let q : Place = record { from = here.from; to = here.to } in
    let code = c.code_in.ensures in
    let many = c.many_in-many.ensures in (
      leads-on _ _ _ _ _ q taken _ _ _ code many c.width-width.ensures c.loop-k-test.true here.invariant.0,
      taken-writing start.words.now start.table.now start.runs.now (Went q) here.k q taken _ _ _ code many c.width-width.ensures
          here.invariant.1,
    )

pub returns : goal.returns
returns c =
    let here = c.loop-k in
    leads-end _ _ _ _ _ (record { from = here.from; to = here.to }) c.loop-k-test.false here.invariant.0
