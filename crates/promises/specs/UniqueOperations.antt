-- 01, "What the promises have to say": two outcomes that one promise allows are equal, for the operations of a table as 02, 1 has them.
-- Over the very contracts, as in Unique. The theorem is in proofs/UniqueOperations.antt.
use Rattle.promises.specs.Unique.{Answer, Lent}
use Rattle.operations.proofs.width_at.Reads.{Post as operations-width-at}
use Rattle.operations.proofs.end.Reads.{Post as operations-end}
use Rattle.operations.proofs.kind_at.Reads.{Post as operations-kind-at}
use Rattle.operations.proofs.operation_at.Reads.{Post as operations-operation-at}
use Rattle.operations.proofs.are_good.Reads.{Post as operations-are-good}
use Rattle.operations.proofs.has_data.Reads.{Post as operations-has-data}
use Rattle.operations.proofs.lay_index.Reads.{Post as operations-lay-index}
use Rattle.operations.proofs.find.Reads.{Post as operations-find}

pub record UniqueOperations : Type 0 where
  pub width-at : Answer operations-width-at
  pub end : Answer operations-end
  pub kind_at : Answer operations-kind-at
  pub operation-at : Answer operations-operation-at
  pub are-good : Answer operations-are-good
  pub has-data : Answer operations-has-data
  pub lay_index_words : Lent operations-lay-index (λ k e. e.1.1.1.0.now)
  pub find : Answer operations-find
