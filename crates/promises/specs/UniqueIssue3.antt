-- 01, "What the promises have to say": two outcomes that one promise allows are equal, for the functions of Issue 3's messages (02,
-- request 8) over their very contracts. The theorem is in proofs/UniqueIssue3.antt.
use Rattle.promises.specs.Unique.{Same, Answer, Lent}
use Rattle.message.proofs.status_of.Reads.{Post as message-status-of}
use Rattle.message3.proofs.Header3.new.Reads.{Post as message3-Header3-new}
use Rattle.message3.proofs.read.Reads.{Post as message3-read}
use Rattle.message3.proofs.payload.Reads.{Post as message3-payload}
use Rattle.message3.proofs.write.Reads.{Post as message3-write}

pub record UniqueIssue3 : Type 0 where
  pub status-of : Answer message-status-of
  pub new : Answer message3-Header3-new
  pub read : Answer message3-read
  pub payload : Same message3-payload (λ k z e. z.now)
  pub write : Answer message3-write
  pub write_out : Lent message3-write (λ k e. e.1.1.1.1.1.1.0.now)
