-- What reading a message answers.
use Rattle.std.specs.Prelude.{ℕ, zero, suc, List, []}
use Rattle.wire.specs.Bytes.{number, part}
use Rattle.message.specs.declared.Reading.{Reading}
use Rattle.message.specs.declared.Reading.TheVariants.{Refused, Read}
use Rattle.message.specs.Header.{header_length, domain_in, id_in, payload_size_in, payload_in, header_in}
use Rattle.message.specs.Platform.{message_of}
use Rattle.message.specs.Refusal.{read_refusal}

-- the message that s is, where nothing refuses it
abbrev pub reading_out : List ℕ → Reading
reading_out s = Read (header_in s) (message_of (domain_in s) (id_in s) (number 2 (payload_in s) 0)) header_length (payload_size_in s)

abbrev pub answered : ℕ → Reading → Reading
answered zero r = r
answered (suc n) r = Refused (suc n)

abbrev pub read_of : ℕ → List ℕ → Reading
read_of own s = answered (read_refusal own s) (reading_out s)

-- by cases: the number that an answer gives back (0: the message was read), and its payload as a part of the bytes
abbrev pub number_given : Reading → ℕ
number_given (Refused n) = n
number_given (Read h m start len) = 0

abbrev pub payload_of : List ℕ → Reading → List ℕ
payload_of s (Refused n) = []
payload_of s (Read h m start len) = part s start len
