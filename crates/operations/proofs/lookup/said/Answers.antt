use borrow.Author.Rules.{rules}
use Rattle.operations.proofs.Looking.{all_left, all-ends, goes_on, ends_on, unlaid, last-told, none_said}
use Rattle.operations.proofs.lookup.said.Goals as goal

pub returns-then-count-eq0 : goal.returns-then-count-eq0
returns-then-count-eq0 c =
    search none_said

pub loop-size-init : goal.loop-size-init
loop-size-init c =
    (search all_left, search all-ends)

pub returns-then-index-middle : goal.returns-then-index-middle
returns-then-index-middle c =
    search unlaid

pub loop-size-preserved : goal.loop-size-preserved
loop-size-preserved c =
    let l = c.loop-size in
    let a = c.args in (
      goes_on a.index.now a.count a.id l.base l.size l.word c.word_at-here.result
          (search rules) (search rules) c.word_at-here.ensures l.invariant.0 _ c.chosen-base.ensures,
      ends_on a.index.now a.count a.id l.base l.size l.word c.word_at-here.result
          (search rules) (search rules) c.word_at-here.ensures l.invariant.1 _ _ c.chosen-base.ensures c.chosen_word-word.ensures,
    )

pub returns : goal.returns
returns c =
    search last-told
