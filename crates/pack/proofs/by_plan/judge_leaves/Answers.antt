use borrow.Author.Rules.{rules}
use Rattle.walk.proofs.Walks.{width_few}
use Rattle.pack.proofs.WriteReturns.{next_to}
use Rattle.pack.proofs.PlanLeaves.{none-walked, leaf-short, leaf-bad, leaf-next, leaves-done, writing_leaf}
use Rattle.pack.proofs.by_plan.judge_leaves.Goals as goal

pub loop-init : goal.loop-init
loop-init c =
    let start = c.args in
    (none-walked start.words.now start.table.now start.run start.p, search rules)

pub returns-then-words-from : goal.returns-then-words-from
returns-then-words-from c =
    leaf-short _ _ _ _ _ _ c.loop.invariant.0 _ c.if-words-from.true c.loop-test.true c.many_in-many.ensures

pub overflow_add-to : goal.overflow_add-to
overflow_add-to c =
    let here = c.loop in
    next_to _ (record { from = here.from; to = here.to }) _ here.invariant.1 (width_few _ _ c.width-width.ensures) c.if-words-from.false
    c.well_formed.1.1.0.1

pub loop-preserved : goal.loop-preserved
loop-preserved c =
    let here = c.loop in
    let start = c.args in (
      leaf-next start.words.now start.table.now start.run start.p here.counter (record { from = here.from; to = here.to }) here.invariant.0
          c.if-words-from.false _ c.takes_word.ensures _ _ c.if-takes_word.true c.code_in.ensures c.width-width.ensures,
      writing_leaf start.words.now (record { from = here.from; to = here.to }) _ _ here.invariant.1 c.if-words-from.false c.width-width.ensures,
    )

pub returns-else-takes_word : goal.returns-else-takes_word
returns-else-takes_word c =
    leaf-bad _ _ _ _ _ _ c.loop.invariant.0 c.if-words-from.false _ c.takes_word.ensures _ c.if-takes_word.false c.loop-test.true
    c.many_in-many.ensures

pub returns : goal.returns
returns c =
    leaves-done _ _ _ _ _ _ c.loop.invariant.0 _ c.loop.auto.counter-end c.loop-test.false c.many_in-many.ensures
