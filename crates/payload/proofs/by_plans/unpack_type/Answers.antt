-- `payload::by_plans::unpack_type` meets its contract: what is stored goes by the answer.
-- Assumes nothing.
use Rattle.unpack.specs.Reading.{reader}
use Rattle.payload.proofs.Calls.{tree_answered}
use Rattle.payload.proofs.by_plans.unpack_type.Goals as goal

pub returns : goal.returns
unfolding reader
returns c =
    let t = tree_answered _ _ _ _ _ _ _ c.read_type-walked.ensures.value c.read_type-walked.ensures.words_after c.read_to.ensures in
    record { value = t.0; words_after = t.1 }
