-- Two outcomes of a message among partners of both issues are equal: each contract is an equation.
-- Assumes nothing.
use mathlib.Core.Path.{sym, ◌∙◌}
use Rattle.promises.specs.UniqueMixed.{UniqueMixed}

pub unique_mixed : UniqueMixed
unique_mixed =
    record {
      put-platform-header = λ k a z z' e e' p q. p ∙ sym q;
      entry_of = λ k a z z' e e' p q. p ∙ sym q;
      is-sent = λ k a z z' e e' p q. p ∙ sym q;
      noted = λ k a z z' e e' p q. p ∙ sym q;
      form-of = λ k a z z' e e' p q. p ∙ sym q;
      read = λ k a z z' e e' p q. p ∙ sym q;
      payload = λ k a z z' e e' p q. p ∙ sym q;
      receive-within = λ k a z z' e e' p q. p.0 ∙ sym q.0;
      receive_within_list = λ k a z z' e e' p q. p.1.1.0 ∙ sym q.1.1.0;
      receive_within_blocks = λ k a z z' e e' p q. p.1.1.1 ∙ sym q.1.1.1;
      receive_within_out = λ k a z z' e e' p q. p.1.0 ∙ sym q.1.0;
      receive-checked = λ k a z z' e e' p q. p.0 ∙ sym q.0;
      receive_checked_list = λ k a z z' e e' p q. p.1.1.0 ∙ sym q.1.1.0;
      receive_checked_blocks = λ k a z z' e e' p q. p.1.1.1 ∙ sym q.1.1.1;
      receive_checked_out = λ k a z z' e e' p q. p.1.0 ∙ sym q.1.0;
      receive = λ k a z z' e e' p q. p.0 ∙ sym q.0;
      receive_list = λ k a z z' e e' p q. p.1.1.0 ∙ sym q.1.1.0;
      receive_blocks = λ k a z z' e e' p q. p.1.1.1 ∙ sym q.1.1.1;
      receive_out = λ k a z z' e e' p q. p.1.0 ∙ sym q.1.0;
      send = λ k a z z' e e' p q. p.0 ∙ sym q.0;
      send_platform = λ k a z z' e e' p q. p.1.0 ∙ sym q.1.0;
      send_out = λ k a z z' e e' p q. p.1.1.0 ∙ sym q.1.1.0;
      send_sent = λ k a z z' e e' p q. p.1.1.1 ∙ sym q.1.1.1;
      words_receive = λ k a z z' e e' p q. p.0 ∙ sym q.0;
      words_receive_platform = λ k a z z' e e' p q. p.1.0 ∙ sym q.1.0;
      words_receive_services = λ k a z z' e e' p q. p.1.1.0 ∙ sym q.1.1.0;
      words_receive_out = λ k a z z' e e' p q. p.1.1.1.0 ∙ sym q.1.1.1.0;
      words_receive_heard = λ k a z z' e e' p q. p.1.1.1.1 ∙ sym q.1.1.1.1;
      words_receive_in = λ k a z z' e e' p q. p.0 ∙ sym q.0;
      words_receive_in_platform = λ k a z z' e e' p q. p.1.0 ∙ sym q.1.0;
      words_receive_in_services = λ k a z z' e e' p q. p.1.1.0 ∙ sym q.1.1.0;
      words_receive_in_out = λ k a z z' e e' p q. p.1.1.1.0 ∙ sym q.1.1.1.0;
      words_receive_in_heard = λ k a z z' e e' p q. p.1.1.1.1 ∙ sym q.1.1.1.1;
      words_service = λ k a z z' e e' p q. p ∙ sym q;
    }
