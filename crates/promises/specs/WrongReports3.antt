-- 02, request 8: platforms that keep and write what ours does for a message of Issue 3 and report something else: an operation's payload from
-- byte 20, where Issue 6's starts; every message as a request. None of them meets `RepliesBy3`. The theorems are in proofs/WrongReports3.antt.
use Rattle.platform.specs.declared.reactions.Heard.TheVariants as heard
use Rattle.mixed.specs.declared.AnyAnswer.{AnyAnswer}
use Rattle.mixed.specs.declared.AnyAnswer.TheVariants.{Refused, Six, SixResponse, Three, ThreeResponse}
use Rattle.mixed.specs.declared.reactions.Heard3.{Heard3}
use Rattle.mixed.specs.declared.reactions.Heard3.TheVariants as heard3
use Rattle.promises.specs.Replies3.{Receiving3, our_outcome, our_output, our_list, our_words, RepliesBy3}
use Rattle.promises.specs.WrongReports.{operation_by}

-- ours with another report
abbrev pub reported3 : (Heard3 → Heard3) → AnyAnswer → AnyAnswer
reported3 g (Refused n) = Refused n
reported3 g (Six h x n) = Six h x n
reported3 g (SixResponse h i start len) = SixResponse h i start len
reported3 g (Three h x n) = Three h (g x) n
reported3 g (ThreeResponse h i start len) = ThreeResponse h i start len

abbrev pub reporting : (Heard3 → Heard3) → Receiving3
reporting g =
    record {
      outcome = λ c. record { standing = (our_outcome c).standing; answer = reported3 g (our_outcome c).answer };
      left = our_output;
      list = our_list;
      words = our_words;
    }

abbrev pub from20 : Heard3 → Heard3
from20 (heard3.Common x) = heard3.Common (operation_by (λ i. i) (λ start. 20) x)
from20 (heard3.Status x composite) = heard3.Status x composite
from20 (heard3.Services n) = heard3.Services n
from20 (heard3.ServicesRequest id) = heard3.ServicesRequest id
from20 (heard3.ServiceNotAvailable id) = heard3.ServiceNotAvailable id
from20 (heard3.CompositeChange composite) = heard3.CompositeChange composite
from20 (heard3.CompositeAnswer a) = heard3.CompositeAnswer a

abbrev pub always_request3 : Heard3 → Heard3
always_request3 x = heard3.Common heard.Request

pub record NoWrongReport3 : Type 0 where
  pub payload_from_20 : RepliesBy3 (reporting from20) → ⊥
  pub always-request : RepliesBy3 (reporting always_request3) → ⊥
