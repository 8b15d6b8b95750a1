-- 02, request 8: partners that hear of our services and do something else with them than ours: note nothing; take an own number; answer with a
-- request. None of them meets `ServicesAcrossBy`. The theorems are in proofs/WrongAcross.antt.
use Rattle.std.specs.Prelude.{◌+◌, cond, eqb}
use Rattle.wire.specs.Bytes.{number, written}
use Rattle.mixed.specs.Replies.{field_message}
use Rattle.promises.specs.Replies3.{Receiving3, our_outcome, our_output, our_list, our_words}
use Rattle.promises.specs.ServicesAcross.{ServicesAcross, ServicesAcrossBy}

abbrev pub noting_nothing : Receiving3
noting_nothing = record { outcome = our_outcome; left = our_output; list = our_list; words = λ c. c.services }

abbrev pub drawing : Receiving3
drawing =
    record {
      outcome = λ c. record {
        standing = record { states = (our_outcome c).standing.states; next = (our_outcome c).standing.next + 1 };
        answer = (our_outcome c).answer;
      };
      left = our_output;
      list = our_list;
      words = our_words;
    }

-- a status of services, ID 3, answered with a request for all
abbrev pub asking_again : Receiving3
asking_again =
    record {
      outcome = our_outcome;
      left = λ c. cond (eqb (number 2 c.message 4) 3) (written c.output 0 (field_message c.own c.stamp 4 0 0xFFFFFFFF)) (our_output c);
      list = our_list;
      words = our_words;
    }

pub record NoWrongAcross : Type 0 where
  pub ours : ServicesAcross
  pub notes_nothing : ServicesAcrossBy noting_nothing → ⊥
  pub draws : ServicesAcrossBy drawing → ⊥
  pub asks_again : ServicesAcrossBy asking_again → ⊥
