-- Two outcomes that the promise of a function of request 1 allows are equal: each contract is an equation with a definition.
-- Assumes nothing.
use mathlib.Core.Path.{sym, ◌∙◌}
use Rattle.promises.specs.UniqueRequests.{PendingUnique, RequestsUnique, UniqueRequests}

pending : PendingUnique
pending =
    record {
      place_of = λ k a z z' e e' p q. p ∙ sym q;
      free-place = λ k a z z' e e' p q. p ∙ sym q;
      drawn = λ k a z z' e e' p q. p ∙ sym q;
      next-free = λ k a z z' e e' p q. p ∙ sym q;
      enter_list = λ k a z z' e e' p q. p ∙ sym q;
      clear_list = λ k a z z' e e' p q. p ∙ sym q;
      cancel = λ k a z z' e e' p q. p.0 ∙ sym q.0;
      cancel_list = λ k a z z' e e' p q. p.1 ∙ sym q.1;
      awaited = λ k a z z' e e' p q. p ∙ sym q;
      take-response = λ k a z z' e e' p q. p.0 ∙ sym q.0;
      take_response_list = λ k a z z' e e' p q. p.1 ∙ sym q.1;
    }

requests : RequestsUnique
requests =
    record {
      send = λ k a z z' e e' p q. p.0 ∙ sym q.0;
      send_list = λ k a z z' e e' p q. p.1.0 ∙ sym q.1.0;
      send_out = λ k a z z' e e' p q. p.1.1 ∙ sym q.1.1;
    }

pub unique_requests : UniqueRequests
unique_requests = record { pending = pending; requests = requests }
