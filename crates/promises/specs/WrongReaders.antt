-- 02, request 8: readers that do what ours does but for the issue that they choose. None of them meets `NoCrossReading`. The theorems are
-- in proofs/WrongReaders.antt.
use Rattle.std.specs.Prelude.{◌%◌, cond, eqb, ltb, length}
use Rattle.message.specs.Header.{version_in, sender_in}
use Rattle.message.specs.Refusal.{frame_refusal}
use Rattle.message.specs.Reading.{read_of}
use Rattle.message3.specs.Header.{sender_in3}
use Rattle.message3.specs.Reading.{read_of3}
use Rattle.partners.specs.Threes.{is_three}
use Rattle.mixed.specs.declared.AnyReading.TheVariants.{Refused}
use Rattle.mixed.specs.Form.{three_form}
use Rattle.mixed.specs.Reading.{other_issue, from_six, from_three, any_of}
use Rattle.promises.specs.NoCrossReading.{Reader, NoCrossReadingBy}

-- Issue 6 alone; the form by the set-up of byte 3 alone, whatever byte 2 is; the form by the version alone; Issue 6's form from
-- anybody; the sender by its last byte; 24 bytes for both
abbrev pub six_alone : Reader
six_alone i own s = from_six (read_of own s)

abbrev pub by_set_up : Reader
by_set_up i own s = cond (is_three i (sender_in3 s)) (from_three (read_of3 own s)) (from_six (read_of own s))

abbrev pub by_version : Reader
by_version i own s = cond (eqb (version_in s) 2) (from_six (read_of own s)) (from_three (read_of3 own s))

abbrev pub six_from_anybody : Reader
six_from_anybody i own s = cond (three_form i s) (from_three (read_of3 own s)) (from_six (read_of own s))

abbrev pub by_last_byte : Reader
by_last_byte i own s =
    cond (three_form i s) (from_three (read_of3 own s))
    (cond (is_three i (sender_in s % 256)) (Refused (other_issue (frame_refusal s)))
    (from_six (read_of own s)))

abbrev pub long_for_both : Reader
long_for_both i own s = cond (ltb (length s) 24) (Refused 1) (any_of i own s)

pub record NoWrongReader : Type 0 where
  pub six-alone : NoCrossReadingBy six_alone → ⊥
  pub by-set-up : NoCrossReadingBy by_set_up → ⊥
  pub by-version : NoCrossReadingBy by_version → ⊥
  pub six-from-anybody : NoCrossReadingBy six_from_anybody → ⊥
  pub by-last-byte : NoCrossReadingBy by_last_byte → ⊥
  pub long-for-both : NoCrossReadingBy long_for_both → ⊥
