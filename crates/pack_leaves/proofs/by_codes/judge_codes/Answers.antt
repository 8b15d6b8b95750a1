use native.Mathlib.Omega.{arith}
use Rattle.pack_leaves.proofs.OneMore.{none_there, none_ends, end_at, none-judged, more-judged, one-refused, all-judged, more-fits, more-ends}
use Rattle.pack_leaves.proofs.by_codes.judge_codes.Goals as goal

pub returns-then-words-from : goal.returns-then-words-from
returns-then-words-from c =
    let none = none_there _ _ _ c.if-words-from.true in
    record { count_value = none; bytes_value = end_at _ _ _ _ none_ends none }

pub loop-k-init : goal.loop-k-init
loop-k-init c =
    (none-judged _ _ _, none_ends)

pub overflow_add-bytes : goal.overflow_add-bytes
overflow_add-bytes c =
    search more-fits

pub loop-k-preserved : goal.loop-k-preserved
loop-k-preserved c =
    let l = c.least-n.ensures in
    let i = c.loop-k.invariant in
    let below = c.loop-k-test.true in (
      more-judged _ _ _ _ _ below l i.0 _ c.allowed.ensures c.if-allowed.true,
      more-ends _ _ _ _ _ below l _ _ c.width-bytes.ensures i.1,
    )

pub returns-else-allowed : goal.returns-else-allowed
returns-else-allowed c =
    let i = c.loop-k.invariant in
    let here = one-refused _ _ _ _ _ c.loop-k-test.true c.least-n.ensures i.0 _ c.allowed.ensures c.if-allowed.false in
    record { count_value = here; bytes_value = end_at _ _ _ _ i.1 here }

pub returns : goal.returns
returns c =
    let i = c.loop-k.invariant in
    let all = all-judged _ _ _ _ _ c.loop-k-test.false c.loop-k.auto.k-end c.least-n.ensures i.0 in
    record { count_value = omega (arith, all); bytes_value = end_at _ _ _ _ i.1 all }
