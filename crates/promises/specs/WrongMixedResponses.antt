-- 02, requests 1 and 8: programs that receive among partners of both issues as ours does but for responses. None of them meets `RespondsAny`. The
-- theorems are in proofs/WrongMixedResponses.antt.
use Rattle.std.specs.Prelude.{◌++◌, take, replicate}
use Rattle.wire.specs.Bytes.{number}
use Rattle.mixed.specs.declared.AnyAnswer.{AnyAnswer}
use Rattle.mixed.specs.declared.AnyAnswer.TheVariants.{Refused, Six, SixResponse, Three, ThreeResponse}
use Rattle.mixed.specs.declared.AnyReceived.{AnyReceived}
use Rattle.promises.specs.MixedResponses.{AnyReceiving, our_any_receiving, RespondsAny, MixedResponses}

-- matched without the sender: as if every request had been asked of platform byte 3
abbrev pub any_sender3 : AnyReceiving
any_sender3 =
    record {
      outcome = λ x p l. our_any_receiving.outcome x p (take 64 l ++ replicate 64 (number 0 x.bytes 3));
      output = our_any_receiving.output;
      list = our_any_receiving.list;
      kept = our_any_receiving.kept;
    }

-- a response of Issue 3 whose payload is told from byte 20
abbrev pub told_from20 : AnyAnswer → AnyAnswer
told_from20 (Refused n) = Refused n
told_from20 (Six h a n) = Six h a n
told_from20 (SixResponse h i start len) = SixResponse h i start len
told_from20 (Three h a n) = Three h a n
told_from20 (ThreeResponse h i start len) = ThreeResponse h i 20 len

abbrev pub told_again : AnyReceived → AnyReceived
told_again r = record { standing = r.standing; answer = told_from20 r.answer }

abbrev pub from_byte20 : AnyReceiving
from_byte20 =
    record {
      outcome = λ x p l. told_again (our_any_receiving.outcome x p l);
      output = our_any_receiving.output;
      list = our_any_receiving.list;
      kept = our_any_receiving.kept;
    }

-- a response that leaves its place taken
abbrev pub left_taken : AnyReceiving
left_taken =
    record {
      outcome = our_any_receiving.outcome;
      output = our_any_receiving.output;
      list = λ x p l. l;
      kept = our_any_receiving.kept;
    }

pub record NoWrongMixedResponse : Type 0 where
  pub ours : MixedResponses
  pub any-sender : ¬ (RespondsAny any_sender3)
  pub from_byte_20 : ¬ (RespondsAny from_byte20)
  pub left-taken : ¬ (RespondsAny left_taken)
