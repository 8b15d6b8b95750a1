-- 02, request 8: what the calls by issue give back and leave. A set-up is four words (`partners/specs/Threes`); a message read by its
-- sender's issue is ten words; at a refusal what the caller lent for an answer stays as it was.
use Rattle.std.specs.Prelude.{ℕ, List, [], ◌∷◌, eqb, length}
use Rattle.message.specs.Platform.{kind_in, value_in}
use Rattle.message.specs.Writing as writing
use Rattle.message3.specs.declared.Stamp.{Stamp}
use Rattle.message3.specs.Platform.{kind_in3, value_in3, composite_in}
use Rattle.message3.specs.Writing.{write_of3, output_after3}
use Rattle.partners.specs.Threes.{three_set}
use Rattle.mixed.specs.declared.AnyReading.{AnyReading}
use Rattle.mixed.specs.declared.AnyReading.TheVariants.{Refused, Six, Three}
use Rattle.mixed.specs.Reading.{any_of, issue_in, number_given}
use Rattle.nyrkovash.specs.MessageCalls.{write_left}

-- one platform set up: issue 3 is Issue 3, and any other number Issue 6
abbrev pub partners_left : List ℕ → ℕ → ℕ → List ℕ
partners_left partners k issue = three_set partners k (eqb issue 3)

-- a message read is the six words of `read_left`, and behind them its issue, its timestamp in seconds and nanoseconds, and a status's
-- composite ID: these three are 0 for Issue 6
abbrev pub any_left : List ℕ → AnyReading → List ℕ
any_left was (Refused n) = was
any_left was (Six h m start len) =
    kind_in m ∷ value_in h.id m ∷ h.platform ∷ h.sequence ∷ start ∷ len ∷ issue_in (Six h m start len) ∷ 0 ∷ 0 ∷ 0 ∷ []
any_left was (Three h m start len) =
    kind_in3 m ∷ value_in3 h.id m ∷ h.platform ∷ h.sequence ∷ start ∷ len
    ∷ issue_in (Three h m start len) ∷ h.seconds ∷ h.nanoseconds ∷ composite_in m ∷ []

abbrev pub any_number : List ℕ → ℕ → List ℕ → ℕ
any_number partners own s = number_given (any_of partners own s)

abbrev pub any_answer : List ℕ → ℕ → List ℕ → List ℕ → List ℕ
any_answer partners own s was = any_left was (any_of partners own s)

-- a message written for a partner that speaks Issue 3, as `write_number` and `write_given` have it for Issue 6, with its timestamp
abbrev pub stamped : ℕ → ℕ → Stamp
stamped seconds nanoseconds = record { seconds = seconds; nanoseconds = nanoseconds }

abbrev pub write_number3 : ℕ → ℕ → List ℕ → List ℕ → ℕ
write_number3 domain id payload out = writing.number_given (write_of3 domain id payload (length out))

abbrev pub write_output3 : ℕ → ℕ → ℕ → ℕ → ℕ → ℕ → List ℕ → List ℕ → List ℕ
write_output3 own seconds nanoseconds domain id seq payload out = output_after3 own (stamped seconds nanoseconds) domain id seq payload out

abbrev pub write_given3 : ℕ → ℕ → List ℕ → List ℕ → ℕ → ℕ
write_given3 domain id payload out was = write_left was (write_of3 domain id payload (length out))
