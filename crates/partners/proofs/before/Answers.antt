-- `partners::before`: its loop and its return, by the laws of `Returns`.
use borrow.Author.Rules.{rules}
use Rattle.partners.proofs.Returns.{none-counted, one-more-fits, one-more-most, one-counted, all_counted}
use Rattle.partners.proofs.before.Goals as goal

pub loop-j-init : goal.loop-j-init
loop-j-init c =
    (search none-counted, search rules)

pub overflow_add-count : goal.overflow_add-count
overflow_add-count c =
    search one-more-fits

pub loop-j-preserved : goal.loop-j-preserved
loop-j-preserved c =
    (search one-counted, search one-more-most)

pub returns : goal.returns
returns c =
    search all_counted
