-- `walk::looked` meets its contract.
-- Assumes nothing.
use Rattle.walk.proofs.Trees.{good-word, no_word}
use Rattle.walk.proofs.looked.Goals as goal

pub returns-then-fields_ok : goal.returns-then-fields_ok
returns-then-fields_ok c =
    search good-word

pub returns-else-fields_ok : goal.returns-else-fields_ok
returns-else-fields_ok c =
    search no_word
