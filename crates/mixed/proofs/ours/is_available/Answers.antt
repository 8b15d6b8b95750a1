-- `mixed::ours::is_available` meets its contract: the last word that has the ID is found from behind.
-- Assumes nothing.
use borrow.Author.Rules.{rules}
use borrow.Author.Tests.{tests}
use Rattle.std.proofs.lemmas.Iterator.Adapters.{YieldsList-from_rev_slice}
use Rattle.std.proofs.lemmas.Iterator.Search.{find_from_yields_List}
use Rattle.services.specs.Word.{is_of}
use Rattle.mixed.proofs.OursLaws.{said_last}
use Rattle.mixed.proofs.ours.is_available.Goals as goal

pub returns : goal.returns
returns c =
    said_last c.args.ours.now c.args.id c.find.result
    (find_from_yields_List (λ w. is_of w c.args.id) _ _ _ c.find.ensures.ran (YieldsList-from_rev_slice c.args.ours.now cc) (λ x b q k. search (rules, tests)))
    (search (rules, tests))
