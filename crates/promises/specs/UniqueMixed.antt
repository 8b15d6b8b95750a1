-- 01, "What the promises have to say": two outcomes that one promise allows are equal, for messages among partners of both issues, by value
-- and in lent words, for what `platform` and `message3` made public for them, and for a request sent in its target's issue, over their very
-- contracts. The theorem is in proofs/UniqueMixed.antt.
use Rattle.promises.specs.Unique.{Same, Answer, Lent}
use Rattle.message3.proofs.put_platform_header.Reads.{Post as message3-put-platform-header}
use Rattle.platform.proofs.entry_of.Reads.{Post as platform-entry-of}
use Rattle.platform.proofs.is_sent.Reads.{Post as platform-is-sent}
use Rattle.platform.proofs.noted.Reads.{Post as platform-noted}
use Rattle.mixed.proofs.form_of.Reads.{Post as mixed-form-of}
use Rattle.mixed.proofs.read.Reads.{Post as mixed-read}
use Rattle.mixed.proofs.payload.Reads.{Post as mixed-payload}
use Rattle.mixed.proofs.receive_within.Reads.{Post as mixed-receive-within}
use Rattle.mixed.proofs.receive_checked.Reads.{Post as mixed-receive-checked}
use Rattle.mixed.proofs.receive.Reads.{Post as mixed-receive}
use Rattle.mixed_words.proofs.send.Reads.{Post as mixed-words-send}
use Rattle.mixed_words.proofs.receive.Reads.{Post as mixed-words-receive}
use Rattle.mixed_words.proofs.receive_in.Reads.{Post as mixed-words-receive-in}
use Rattle.mixed_words.proofs.service.Reads.{Post as mixed-words-service}

pub record UniqueMixed : Type 0 where
  pub put-platform-header : Lent message3-put-platform-header (λ k e. e.1.1.1.1.1.0.now)
  pub entry_of : Answer platform-entry-of
  pub is-sent : Answer platform-is-sent
  pub noted : Answer platform-noted
  pub form-of : Answer mixed-form-of
  pub read : Answer mixed-read
  pub payload : Same mixed-payload (λ k z e. z.now)
  pub receive-within : Answer mixed-receive-within
  pub receive_within_list : Lent mixed-receive-within (λ k e. e.1.1.1.1.1.1.1.1.1.0.now)
  pub receive_within_blocks : Lent mixed-receive-within (λ k e. e.1.1.1.1.1.1.1.1.1.1.0.now)
  pub receive_within_out : Lent mixed-receive-within (λ k e. e.1.1.1.1.1.1.1.1.1.1.1.1.0.now)
  pub receive-checked : Answer mixed-receive-checked
  pub receive_checked_list : Lent mixed-receive-checked (λ k e. e.1.1.1.1.1.1.1.1.1.0.now)
  pub receive_checked_blocks : Lent mixed-receive-checked (λ k e. e.1.1.1.1.1.1.1.1.1.1.0.now)
  pub receive_checked_out : Lent mixed-receive-checked (λ k e. e.1.1.1.1.1.1.1.1.1.1.1.1.0.now)
  pub receive : Answer mixed-receive
  pub receive_list : Lent mixed-receive (λ k e. e.1.1.1.1.1.1.1.0.now)
  pub receive_blocks : Lent mixed-receive (λ k e. e.1.1.1.1.1.1.1.1.0.now)
  pub receive_out : Lent mixed-receive (λ k e. e.1.1.1.1.1.1.1.1.1.1.0.now)
  pub send : Answer mixed-words-send
  pub send_platform : Lent mixed-words-send (λ k e. e.1.1.1.0.now)
  pub send_out : Lent mixed-words-send (λ k e. e.1.1.1.1.1.1.1.1.1.0.now)
  pub send_sent : Lent mixed-words-send (λ k e. e.1.1.1.1.1.1.1.1.1.1.0.now)
  pub words_receive : Answer mixed-words-receive
  pub words_receive_platform : Lent mixed-words-receive (λ k e. e.1.1.1.1.0.now)
  pub words_receive_services : Lent mixed-words-receive (λ k e. e.1.1.1.1.1.0.now)
  pub words_receive_out : Lent mixed-words-receive (λ k e. e.1.1.1.1.1.1.1.1.0.now)
  pub words_receive_heard : Lent mixed-words-receive (λ k e. e.1.1.1.1.1.1.1.1.1.0.now)
  pub words_receive_in : Answer mixed-words-receive-in
  pub words_receive_in_platform : Lent mixed-words-receive-in (λ k e. e.1.1.1.1.0.now)
  pub words_receive_in_services : Lent mixed-words-receive-in (λ k e. e.1.1.1.1.1.0.now)
  pub words_receive_in_out : Lent mixed-words-receive-in (λ k e. e.1.1.1.1.1.1.1.1.1.0.now)
  pub words_receive_in_heard : Lent mixed-words-receive-in (λ k e. e.1.1.1.1.1.1.1.1.1.1.0.now)
  pub words_service : Answer mixed-words-service
