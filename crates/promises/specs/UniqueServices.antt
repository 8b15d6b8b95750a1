-- 01, "What the promises have to say": two outcomes that one promise allows are equal, for the functions that request 8 (02) needs of
-- services and set-up, over their very contracts. No exported call uses them yet. The theorem is in proofs/UniqueServices.antt.
use Rattle.promises.specs.Unique.{Answer, Lent}
use Rattle.services.proofs.note.Reads.{Post as services-note}
use Rattle.services.proofs.state.Reads.{Post as services-state}
use Rattle.services.proofs.mark.Reads.{Post as services-mark}
use Rattle.partners.proofs.is_three.Reads.{Post as partners-is-three}
use Rattle.partners.proofs.set.Reads.{Post as partners-set}
use Rattle.partners.proofs.before.Reads.{Post as partners-before}
use Rattle.partners.proofs.block_start.Reads.{Post as partners-block-start}

-- the services of one platform
pub record ServicesUnique : Type 0 where
  pub note : Answer services-note
  pub note_block : Lent services-note (λ k e. e.0.now)
  pub state : Answer services-state
  pub mark_block : Lent services-mark (λ k e. e.0.now)

-- which platforms speak Issue 3, and where their services stand
pub record PartnersUnique : Type 0 where
  pub is-three : Answer partners-is-three
  pub set_words : Lent partners-set (λ k e. e.0.now)
  pub before : Answer partners-before
  pub block_start : Answer partners-block-start

pub record UniqueServices : Type 0 where
  pub services : ServicesUnique
  pub partners : PartnersUnique
