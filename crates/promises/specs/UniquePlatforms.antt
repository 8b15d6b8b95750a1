-- 01, "What the promises have to say": two outcomes that one promise allows are equal, for the platform call, by value and in lent words,
-- and for the calls on requests there, over their very contracts. The theorem is in proofs/UniquePlatforms.antt.
use Rattle.promises.specs.Unique.{Same, Answer, Lent}
use Rattle.platform.proofs.fresh.Reads.{Post as platform-fresh}
use Rattle.platform.proofs.receive.Reads.{Post as platform-receive}
use Rattle.platform.proofs.receive_checked.Reads.{Post as platform-receive-checked}
use Rattle.platform.proofs.receive_within.Reads.{Post as platform-receive-within}
use Rattle.platform.proofs.payload.Reads.{Post as platform-payload}
use Rattle.platform_words.proofs.fresh.Reads.{Post as platform-words-fresh}
use Rattle.platform_words.proofs.is_up.Reads.{Post as platform-words-is-up}
use Rattle.platform_words.proofs.how_many_up.Reads.{Post as platform-words-how-many-up}
use Rattle.platform_words.proofs.standing_in.Reads.{Post as platform-words-standing-in}
use Rattle.platform_words.proofs.keep_standing.Reads.{Post as platform-words-keep-standing}
use Rattle.platform_words.proofs.receive.Reads.{Post as platform-words-receive}
use Rattle.platform_words.proofs.receive_in.Reads.{Post as platform-words-receive-in}
use Rattle.platform_words.proofs.send.Reads.{Post as platform-words-send}
use Rattle.platform_words.proofs.cancel.Reads.{Post as platform-words-cancel}
use Rattle.platform_words.proofs.awaited.Reads.{Post as platform-words-awaited}

pub record PlatformUnique : Type 0 where
  pub fresh : Answer platform-fresh
  pub receive : Answer platform-receive
  pub receive_list : Lent platform-receive (λ k e. e.1.1.1.0.now)
  pub receive_out : Lent platform-receive (λ k e. e.1.1.1.1.1.0.now)
  pub receive-checked : Answer platform-receive-checked
  pub receive_checked_list : Lent platform-receive-checked (λ k e. e.1.1.1.1.1.0.now)
  pub receive_checked_out : Lent platform-receive-checked (λ k e. e.1.1.1.1.1.1.1.0.now)
  pub receive-within : Answer platform-receive-within
  pub receive_within_list : Lent platform-receive-within (λ k e. e.1.1.1.1.1.0.now)
  pub receive_within_out : Lent platform-receive-within (λ k e. e.1.1.1.1.1.1.1.0.now)
  pub payload : Same platform-payload (λ k z e. z.now)

pub record PlatformWordsUnique : Type 0 where
  pub fresh : Answer platform-words-fresh
  pub fresh_platform : Lent platform-words-fresh (λ k e. e.1.0.now)
  pub is_up : Answer platform-words-is-up
  pub how-many-up : Answer platform-words-how-many-up
  pub standing-in : Answer platform-words-standing-in
  pub keep-standing : Lent platform-words-keep-standing (λ k e. e.0.now)
  pub receive : Answer platform-words-receive
  pub receive_platform : Lent platform-words-receive (λ k e. e.1.0.now)
  pub receive_out : Lent platform-words-receive (λ k e. e.1.1.1.1.0.now)
  pub receive_heard : Lent platform-words-receive (λ k e. e.1.1.1.1.1.0.now)
  pub receive-in : Answer platform-words-receive-in
  pub receive_in_platform : Lent platform-words-receive-in (λ k e. e.1.0.now)
  pub receive_in_out : Lent platform-words-receive-in (λ k e. e.1.1.1.1.1.0.now)
  pub receive_in_heard : Lent platform-words-receive-in (λ k e. e.1.1.1.1.1.1.0.now)
  pub send : Answer platform-words-send
  pub send_platform : Lent platform-words-send (λ k e. e.1.1.0.now)
  pub send_out : Lent platform-words-send (λ k e. e.1.1.1.1.1.1.1.1.0.now)
  pub send_sent : Lent platform-words-send (λ k e. e.1.1.1.1.1.1.1.1.1.0.now)
  pub cancel : Answer platform-words-cancel
  pub cancel_platform : Lent platform-words-cancel (λ k e. e.0.now)
  pub cancel_cancelled : Lent platform-words-cancel (λ k e. e.1.1.0.now)
  pub awaited : Answer platform-words-awaited
  pub awaited_awaited : Lent platform-words-awaited (λ k e. e.1.1.0.now)

pub record UniquePlatforms : Type 0 where
  pub platform : PlatformUnique
  pub platform-words : PlatformWordsUnique
