use native.Mathlib.Nat.{zero-add}
use borrow.Author.Rules.{rules}
use Rattle.unpack_leaves.proofs.OneLeaf.{there_room}
use Rattle.unpack_leaves.proofs.Loops.{start-ends, one_end, one-counted, stop-counted, all_counted, counted-ends, behind-in, behind-fits}
use Rattle.unpack_leaves.proofs.by_codes.judge_within.Goals as goal

pub loop-k-init : goal.loop-k-init
loop-k-init c =
    (zero-add _, search start-ends, search rules)

pub returns-then-not-is_there-clause-count_value : goal.returns-then-not-is_there-clause-count_value
returns-then-not-is_there-clause-count_value c =
    search stop-counted

pub returns-then-not-is_there-clause-from_value : goal.returns-then-not-is_there-clause-from_value
returns-then-not-is_there-clause-from_value c =
    search (counted-ends, stop-counted)

pub overflow_add-from : goal.overflow_add-from
overflow_add-from c =
    search (behind-fits, there_room)

pub loop-k-preserved : goal.loop-k-preserved
loop-k-preserved c =
    (search one-counted, search one_end, search (behind-in, there_room))

pub returns-clause-count_value : goal.returns-clause-count_value
returns-clause-count_value c =
    search all_counted
