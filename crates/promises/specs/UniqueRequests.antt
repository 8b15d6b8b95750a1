-- 01, "What the promises have to say": two outcomes that one promise allows are equal, for the functions of request 1 (02) over their
-- very contracts. The theorem is in proofs/UniqueRequests.antt.
use Rattle.promises.specs.Unique.{Answer, Lent}
use Rattle.pending.proofs.place_of.Reads.{Post as pending-place-of}
use Rattle.pending.proofs.free_place.Reads.{Post as pending-free-place}
use Rattle.pending.proofs.drawn.Reads.{Post as pending-drawn}
use Rattle.pending.proofs.next_free.Reads.{Post as pending-next-free}
use Rattle.pending.proofs.enter.Reads.{Post as pending-enter}
use Rattle.pending.proofs.clear.Reads.{Post as pending-clear}
use Rattle.pending.proofs.cancel.Reads.{Post as pending-cancel}
use Rattle.pending.proofs.awaited.Reads.{Post as pending-awaited}
use Rattle.pending.proofs.take_response.Reads.{Post as pending-take-response}
use Rattle.requests.proofs.send.Reads.{Post as requests-send}

pub record PendingUnique : Type 0 where
  pub place_of : Answer pending-place-of
  pub free-place : Answer pending-free-place
  pub drawn : Answer pending-drawn
  pub next-free : Answer pending-next-free
  pub enter_list : Lent pending-enter (λ k e. e.0.now)
  pub clear_list : Lent pending-clear (λ k e. e.0.now)
  pub cancel : Answer pending-cancel
  pub cancel_list : Lent pending-cancel (λ k e. e.0.now)
  pub awaited : Answer pending-awaited
  pub take-response : Answer pending-take-response
  pub take_response_list : Lent pending-take-response (λ k e. e.0.now)

pub record RequestsUnique : Type 0 where
  pub send : Answer requests-send
  pub send_list : Lent requests-send (λ k e. e.1.1.1.0.now)
  pub send_out : Lent requests-send (λ k e. e.1.1.1.1.1.1.1.1.0.now)

pub record UniqueRequests : Type 0 where
  pub pending : PendingUnique
  pub requests : RequestsUnique
