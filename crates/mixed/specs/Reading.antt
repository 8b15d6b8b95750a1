-- 02, request 8: what reading a message answers among partners of both issues.
use Rattle.std.specs.Prelude.{ℕ, zero, suc, cond, List, []}
use Rattle.wire.specs.Bytes.{part}
use Rattle.message.specs.declared.Reading.{Reading}
use Rattle.message.specs.declared.Reading.TheVariants as six
use Rattle.message.specs.Header.{sender_in}
use Rattle.message.specs.Refusal.{too_short, wrong_mark, wrong_version, frame_refusal}
use Rattle.message.specs.Reading.{read_of}
use Rattle.message3.specs.declared.Reading3.{Reading3}
use Rattle.message3.specs.declared.Reading3.TheVariants as three
use Rattle.message3.specs.Reading.{read_of3}
use Rattle.partners.specs.Threes.{is_three}
use Rattle.mixed.specs.declared.Form.{Form}
use Rattle.mixed.specs.declared.Form.TheVariants as form
use Rattle.mixed.specs.declared.AnyReading.{AnyReading}
use Rattle.mixed.specs.declared.AnyReading.TheVariants.{Refused, Six, Three}
use Rattle.mixed.specs.Form.{three_form}

-- Issue 6's form from a sender that speaks Issue 3: the version is the wrong one. 1 and 2 come before it
abbrev pub other_issue : ℕ → ℕ
other_issue zero = wrong_version
other_issue (suc zero) = too_short
other_issue (suc (suc zero)) = wrong_mark
other_issue (suc (suc (suc n))) = wrong_version

-- by which issue a message is read, or the number that refuses it in the form of the issue that its sender does not speak
unfoldable pub form_of : List ℕ → List ℕ → Form
form_of i s = cond (three_form i s) form.Three (cond (is_three i (sender_in s)) (form.Other (other_issue (frame_refusal s))) form.Six)

abbrev pub from_six : Reading → AnyReading
from_six (six.Refused n) = Refused n
from_six (six.Read h m start len) = Six h m start len

abbrev pub from_three : Reading3 → AnyReading
from_three (three.Refused n) = Refused n
from_three (three.Read h m start len) = Three h m start len

-- "No message may be read under the other issue's meaning": Issue 3's form is judged and read by Issue 3 alone; Issue 6's form from a
-- sender that speaks Issue 3 is refused; and from any other it is judged and read by Issue 6 alone, as without partners of Issue 3
unfoldable pub any_of : List ℕ → ℕ → List ℕ → AnyReading
any_of i own s =
    cond (three_form i s) (from_three (read_of3 own s))
    (cond (is_three i (sender_in s)) (Refused (other_issue (frame_refusal s)))
    (from_six (read_of own s)))

-- by cases: the number that an answer gives back (0: the message was read), the issue that it was read under, and its payload as a part
-- of the bytes
abbrev pub number_given : AnyReading → ℕ
number_given (Refused n) = n
number_given (Six h m start len) = 0
number_given (Three h m start len) = 0

abbrev pub issue_in : AnyReading → ℕ
issue_in (Refused n) = 0
issue_in (Six h m start len) = 6
issue_in (Three h m start len) = 3

abbrev pub payload_of : List ℕ → AnyReading → List ℕ
payload_of s (Refused n) = []
payload_of s (Six h m start len) = part s start len
payload_of s (Three h m start len) = part s start len
