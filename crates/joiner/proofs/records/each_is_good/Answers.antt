-- `joiner::records::each_is_good` meets its contract: all that is asked is whether each record is good.
-- Assumes nothing.
use mathlib.Core.Path.{◌≡◌}
use mathlib.Core.Bool.{true, false}
use native.Mathlib.Omega.{arith}
use borrow.Author.Rules.{rules}
use borrow.Author.Tests.{tests}
use lib.ListN.{get_or}
use Rattle.std.proofs.lemmas.Iterator.{cases_from_all, YieldsList-from_range}
use Rattle.joiner.specs.Records.{good_record}
use Rattle.joiner.proofs.Looks.{each-good}
use Rattle.joiner.proofs.records.each_is_good.Goals as goal

pub returns : goal.returns
returns c =
    let ws = c.args.state.now in
    let n = get_or ws 0 0 in
    each-good _ (good_record ws) n
    (cases_from_all _ _ _ (λ k. good_record ws k ≡ true) (λ k. good_record ws k ≡ false) c.all.ensures.ran (YieldsList-from_range 0 n n (cc) (omega arith))
    (λ x q k. search (rules, tests)) (λ x q k. search (rules, tests)))
