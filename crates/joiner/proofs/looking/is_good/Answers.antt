-- `joiner::is_good` meets its contract: the sizes, then the records.
-- Assumes nothing.
use borrow.Author.Rules.{rules}
use native.Mathlib.Omega.{arith}
use Rattle.joiner.proofs.Looks.{sized, records-good, not-sized}
use Rattle.joiner.proofs.looking.is_good.Goals as goal

pub overflow_cast-count : goal.overflow_cast-count
overflow_cast-count c =
    record { fits = omega (arith, c.type_inv.words 0) }

pub are_each_good-requires : goal.are_each_good-requires
are_each_good-requires c =
    sized _ _ 0 c.has_good_sizes.ensures c.if-has_good_sizes.true (search rules)

pub returns-then-has_good_sizes : goal.returns-then-has_good_sizes
returns-then-has_good_sizes c =
    records-good _ _ 0 c.has_good_sizes.ensures c.if-has_good_sizes.true (search rules) c.are_each_good.ensures

pub returns : goal.returns
returns c =
    not-sized _ _ 0 c.has_good_sizes.ensures c.if-has_good_sizes.false
