-- What reading and writing a message give back: 01's number, and the message in six words or how many bytes were written; at a
-- refusal what the caller lent for it stays as it was.
use Rattle.std.specs.Prelude.{ℕ, List, [], ◌∷◌, length}
use Rattle.message.specs.Platform.{kind_in, value_in}
use Rattle.message.specs.Reading.{read_of}
use Rattle.message.specs.Reading as reading
use Rattle.message.specs.Writing.{write_of}
use Rattle.message.specs.Writing as writing
use Rattle.message.specs.declared.Reading.{Reading}
use Rattle.message.specs.declared.Reading.TheVariants as read
use Rattle.message.specs.declared.Writing.{Writing}

-- a message read is kind, value, sender, sequence number, and where its payload starts and how long it is
abbrev pub read_left : List ℕ → Reading → List ℕ
read_left was (read.Refused n) = was
read_left was (read.Read h m start len) = kind_in m ∷ value_in h.id m ∷ h.platform ∷ h.sequence ∷ start ∷ len ∷ []

abbrev pub number_read : ℕ → List ℕ → ℕ
number_read own s = reading.number_given (read_of own s)

abbrev pub read_answer : ℕ → List ℕ → List ℕ → List ℕ
read_answer own s was = read_left was (read_of own s)

-- a message written is how many bytes it took
abbrev pub write_left : ℕ → Writing → ℕ
write_left was x = writing.left_over_by x was (writing.bytes_in x)

-- for an output, which is `output_after` afterwards
abbrev pub write_number : ℕ → ℕ → List ℕ → List ℕ → ℕ
write_number domain id payload out = writing.number_given (write_of domain id payload (length out))

abbrev pub write_given : ℕ → ℕ → List ℕ → List ℕ → ℕ → ℕ
write_given domain id payload out was = write_left was (write_of domain id payload (length out))
