-- `plan::front::index_word` meets its contract: no leaves, or some.
-- Assumes nothing.
use Rattle.plan.proofs.Fronts.{no_word, a_word}
use Rattle.plan.proofs.front.index_word.Goals as goal

pub returns-then-leaves-eq0 : goal.returns-then-leaves-eq0
returns-then-leaves-eq0 c =
    search no_word

pub returns : goal.returns
returns c =
    search a_word
