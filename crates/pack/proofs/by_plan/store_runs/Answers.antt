use borrow.Author.Rules.{rules}
use Rattle.walk.specs.declared.Place.{Place}
use Rattle.pack.proofs.JudgedRuns.{run-times, run_end}
use Rattle.pack.proofs.PlanStores.{runs-outside, stores-end, stores-on, stores-writing}
use Rattle.pack.proofs.by_plan.store_runs.Goals as goal

pub returns-then-out-p : goal.returns-then-out-p
returns-then-out-p c =
    search runs-outside

pub overflow_mul-to : goal.overflow_mul-to
overflow_mul-to c =
    let q : Place = record { from = c.loop-run.from; to = c.loop-run.to } in
    run-times c.args.words.now _ _ q _ c.width.ensures (search rules) c.loop-run.invariant.1 c.well_formed.0.1

pub overflow_add-to : goal.overflow_add-to
overflow_add-to c =
    let q : Place = record { from = c.loop-run.from; to = c.loop-run.to } in
    run_end c.args.words.now _ _ q _ c.width.ensures (search rules) c.loop-run.invariant.1 c.well_formed.0.1

pub loop-run-preserved : goal.loop-run-preserved
loop-run-preserved c =
    let here = c.loop-run in
    let ws = c.args.words.now in
    let rs = c.args.runs.now in
    let upto = c.args.upto in
    let q : Place = record { from = here.from; to = here.to } in
    let put = c.store_leaves.ensures in
    let code = c.code_in-code.ensures in
    let many = c.many_in.ensures in
    let least = c.least-many.ensures in
    let wide = c.width.ensures in
    let before = here.invariant.2 in
    let there = c.requires.2 in (
      stores-on _ _ _ _ _ q _ _ _ _ _ code many least wide before there _ put c.loop-run-test.true here.invariant.0,
      stores-writing ws rs upto here.out here.run-index q here.out _ _ _ _ code many least wide before there _ put here.invariant.1,
      search rules,
    )

pub returns : goal.returns
returns c =
    let here = c.loop-run in
    stores-end _ _ _ _ _ (record { from = here.from; to = here.to }) _ c.loop-run-test.false here.invariant.0
