-- Demand 2: "Headers, pieces, payloads and replies are those of ECOA Part 6, Issue 6. What we pack unpacks to the same values. What
-- unpacks packs again to the same bytes, except that a true boolean always goes out as 1." Each line stands in the file that
-- it is taken from; the theorem is in proofs/Demand2.antt.
use Rattle.promises.specs.Headers.{WrittenThenRead, ReadThenWritten, EachMessage, HeaderThenRead, HeaderReadThenWritten}
use Rattle.promises.specs.CutAndJoined.{CutAndJoined}
use Rattle.promises.specs.Payloads.{Payloads}
use Rattle.promises.specs.Platforms.{Replies}

pub record Demand2 : Type 0 where
  -- headers: a message, and the binding header
  pub written_then_read : WrittenThenRead
  pub read_then_written : ReadThenWritten
  pub each_message : EachMessage
  pub header_then_read : HeaderThenRead
  pub header_read_then_written : HeaderReadThenWritten
  -- pieces: a message cut and taken from fresh is delivered once, whole
  pub cut_and_joined : CutAndJoined
  -- payloads: packing takes exactly the values, unpacking exactly their byte forms, and both ways round
  pub payloads : Payloads
  -- replies: each is read by its receiver as what is meant, and bears the number it must
  pub replies : Replies
