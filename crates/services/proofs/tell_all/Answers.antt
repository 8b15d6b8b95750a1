-- `services::tell_all`: its loop and its returns, by the laws of `Telling`.
use Rattle.services.proofs.Telling.{none_told, none-asked, more-told, one_more, not_all, all_have}
use Rattle.services.proofs.tell_all.Goals as goal

pub loop-i-init : goal.loop-i-init
loop-i-init c =
    (search none_told, search none-asked)

pub loop-i-preserved : goal.loop-i-preserved
loop-i-preserved c =
    (search more-told, search one_more)

pub returns-then-not-tell-clause-answer : goal.returns-then-not-tell-clause-answer
returns-then-not-tell-clause-answer c =
    search not_all

pub returns-clause-answer : goal.returns-clause-answer
returns-clause-answer c =
    search all_have
