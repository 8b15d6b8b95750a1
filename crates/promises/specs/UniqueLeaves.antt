-- 01, "What the promises have to say": two outcomes that one promise allows are equal, for the functions on leaves that stand one
-- behind another, over their very contracts. The theorem is in proofs/UniqueLeaves.antt.
use Rattle.promises.specs.Unique.{Answer, Lent}
use Rattle.unpack_leaves.proofs.word_at.Reads.{Post as unpack-word-at}
use Rattle.unpack_leaves.proofs.judge_run.Reads.{Post as unpack-judge-run}
use Rattle.unpack_leaves.proofs.store_run.Reads.{Post as unpack-store-run}
use Rattle.unpack_leaves.proofs.are_among.Reads.{Post as unpack-are-among}
use Rattle.unpack_leaves.proofs.judge_codes.Reads.{Post as unpack-judge-codes}
use Rattle.unpack_leaves.proofs.store_codes.Reads.{Post as unpack-store-codes}
use Rattle.pack_leaves.proofs.store_run.Reads.{Post as pack-store-run}
use Rattle.pack_leaves.proofs.store_leaves.Reads.{Post as pack-store-leaves}
use Rattle.pack_leaves.proofs.judge_codes.Reads.{Post as pack-judge-codes}

-- leaves of a payload, and their words
pub record UnpackLeavesUnique : Type 0 where
  pub word_at : Answer unpack-word-at
  pub judge-run : Answer unpack-judge-run
  pub store_run_words : Lent unpack-store-run (λ k e. e.1.0.now)
  pub are-among : Answer unpack-are-among
  pub judge-codes : Answer unpack-judge-codes
  pub store_codes_words : Lent unpack-store-codes (λ k e. e.1.0.now)

-- words, and the leaves that they are written as
pub record PackLeavesUnique : Type 0 where
  pub store_run_out : Lent pack-store-run (λ k e. e.1.0.now)
  pub store_leaves_out : Lent pack-store-leaves (λ k e. e.1.0.now)
  pub judge-codes : Answer pack-judge-codes

pub record UniqueLeaves : Type 0 where
  pub unpack : UnpackLeavesUnique
  pub pack : PackLeavesUnique
