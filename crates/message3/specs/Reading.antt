-- What reading a message of Issue 3 answers.
use Rattle.std.specs.Prelude.{ℕ, zero, suc, List, []}
use Rattle.wire.specs.Bytes.{part}
use Rattle.message3.specs.declared.Reading3.{Reading3}
use Rattle.message3.specs.declared.Reading3.TheVariants.{Refused, Read}
use Rattle.message3.specs.Header.{header_length3, domain_in3, id_in3, payload_size_in3, payload_in3, header_in3}
use Rattle.message3.specs.Platform.{first_in, second_in, message_of3}
use Rattle.message3.specs.Refusal.{read_refusal3}

-- the message that s is, where nothing refuses it
abbrev pub read_out3 : List ℕ → Reading3
read_out3 s =
    Read (header_in3 s) (message_of3 (domain_in3 s) (id_in3 s) (first_in (payload_in3 s)) (second_in (payload_in3 s))) header_length3 (payload_size_in3 s)

abbrev pub answered3 : ℕ → Reading3 → Reading3
answered3 zero r = r
answered3 (suc n) r = Refused (suc n)

abbrev pub read_of3 : ℕ → List ℕ → Reading3
read_of3 own s = answered3 (read_refusal3 own s) (read_out3 s)

-- by cases: the number that an answer gives back (0: the message was read), and its payload as a part of the bytes
abbrev pub number_given3 : Reading3 → ℕ
number_given3 (Refused n) = n
number_given3 (Read h m start len) = 0

abbrev pub payload_of3 : List ℕ → Reading3 → List ℕ
payload_of3 s (Refused n) = []
payload_of3 s (Read h m start len) = part s start len
