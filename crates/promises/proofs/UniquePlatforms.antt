-- Two outcomes of one call for a message, or on requests, are equal: each contract is an equation.
-- Assumes nothing.
use mathlib.Core.Path.{sym, ◌∙◌}
use Rattle.promises.specs.UniquePlatforms.{PlatformUnique, PlatformWordsUnique, UniquePlatforms}

platform : PlatformUnique
platform =
    record {
      fresh = λ k a z z' e e' p q. p ∙ sym q;
      receive = λ k a z z' e e' p q. p.0 ∙ sym q.0;
      receive_list = λ k a z z' e e' p q. p.1.1 ∙ sym q.1.1;
      receive_out = λ k a z z' e e' p q. p.1.0 ∙ sym q.1.0;
      receive-checked = λ k a z z' e e' p q. p.0 ∙ sym q.0;
      receive_checked_list = λ k a z z' e e' p q. p.1.1 ∙ sym q.1.1;
      receive_checked_out = λ k a z z' e e' p q. p.1.0 ∙ sym q.1.0;
      receive-within = λ k a z z' e e' p q. p.0 ∙ sym q.0;
      receive_within_list = λ k a z z' e e' p q. p.1.1 ∙ sym q.1.1;
      receive_within_out = λ k a z z' e e' p q. p.1.0 ∙ sym q.1.0;
      payload = λ k a z z' e e' p q. p ∙ sym q;
    }

platform-words : PlatformWordsUnique
platform-words =
    record {
      fresh = λ k a z z' e e' p q. p.0 ∙ sym q.0;
      fresh_platform = λ k a z z' e e' p q. p.1 ∙ sym q.1;
      is_up = λ k a z z' e e' p q. p ∙ sym q;
      how-many-up = λ k a z z' e e' p q. p ∙ sym q;
      standing-in = λ k a z z' e e' p q. p ∙ sym q;
      keep-standing = λ k a z z' e e' p q. p ∙ sym q;
      receive = λ k a z z' e e' p q. p.0 ∙ sym q.0;
      receive_platform = λ k a z z' e e' p q. p.1.0 ∙ sym q.1.0;
      receive_out = λ k a z z' e e' p q. p.1.1.0 ∙ sym q.1.1.0;
      receive_heard = λ k a z z' e e' p q. p.1.1.1 ∙ sym q.1.1.1;
      receive-in = λ k a z z' e e' p q. p.0 ∙ sym q.0;
      receive_in_platform = λ k a z z' e e' p q. p.1.0 ∙ sym q.1.0;
      receive_in_out = λ k a z z' e e' p q. p.1.1.0 ∙ sym q.1.1.0;
      receive_in_heard = λ k a z z' e e' p q. p.1.1.1 ∙ sym q.1.1.1;
      send = λ k a z z' e e' p q. p.0 ∙ sym q.0;
      send_platform = λ k a z z' e e' p q. p.1.0 ∙ sym q.1.0;
      send_out = λ k a z z' e e' p q. p.1.1.0 ∙ sym q.1.1.0;
      send_sent = λ k a z z' e e' p q. p.1.1.1 ∙ sym q.1.1.1;
      cancel = λ k a z z' e e' p q. p.0 ∙ sym q.0;
      cancel_platform = λ k a z z' e e' p q. p.1.0 ∙ sym q.1.0;
      cancel_cancelled = λ k a z z' e e' p q. p.1.1 ∙ sym q.1.1;
      awaited = λ k a z z' e e' p q. p.0 ∙ sym q.0;
      awaited_awaited = λ k a z z' e e' p q. p.1 ∙ sym q.1;
    }

pub unique_platforms : UniquePlatforms
unique_platforms = record { platform = platform; platform-words = platform-words }
