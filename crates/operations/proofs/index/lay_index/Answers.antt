use Rattle.operations.proofs.Places.{first-place, step-by-kind}
use Rattle.operations.proofs.Heads.{next-by-head}
use Rattle.operations.proofs.Laying.{none_laid, one-laid, word_fits}
use Rattle.operations.proofs.index.lay_index.Goals as goal

pub loop-i-init : goal.loop-i-init
loop-i-init c =
    (search none_laid, search first-place)

pub overflow_add-word : goal.overflow_add-word
overflow_add-word c =
    search word_fits

pub overflow_add-place : goal.overflow_add-place
overflow_add-place c =
    search step-by-kind

pub loop-i-preserved : goal.loop-i-preserved
loop-i-preserved c =
    (search one-laid, search next-by-head)
