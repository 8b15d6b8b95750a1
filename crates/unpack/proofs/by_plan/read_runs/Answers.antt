-- `unpack::by_plan::read_runs` meets its contract: what was judged is stored, and no more.
-- Assumes nothing.
use Rattle.unpack.proofs.Upto.{upto_from, upto-in, upto_left, same_answer}
use Rattle.unpack.proofs.by_plan.read_runs.Goals as goal

pub store_runs-requires : goal.store_runs-requires
store_runs-requires c =
    (search upto_from, search upto-in)

pub returns-clause-value : goal.returns-clause-value
returns-clause-value c =
    search same_answer

pub returns-clause-words_after : goal.returns-clause-words_after
returns-clause-words_after c =
    search upto_left
