-- What writing a message answers, and the bytes that it leaves.
use Rattle.std.specs.Prelude.{ℕ, zero, suc, ◌+◌, List, ◌++◌, length}
use Rattle.wire.specs.Bytes.{over}
use Rattle.message.specs.declared.Header.{Header}
use Rattle.message.specs.declared.Writing.{Writing}
use Rattle.message.specs.declared.Writing.TheVariants.{Refused, Written}
use Rattle.message.specs.Header.{header_length, header_bytes}
use Rattle.message.specs.Refusal.{write_refusal}

-- the header of a message that this platform writes
abbrev pub header_for : ℕ → ℕ → ℕ → ℕ → List ℕ → Header
header_for own domain id seq payload = record { domain = domain; platform = own; id = id; payload_size = length payload; sequence = seq }

-- 000, Table 1: the header, then the payload
abbrev pub message_bytes : ℕ → ℕ → ℕ → ℕ → List ℕ → List ℕ
message_bytes own domain id seq payload = header_bytes (header_for own domain id seq payload) ++ payload

abbrev pub answered : ℕ → ℕ → Writing
answered zero n = Written n
answered (suc r) n = Refused (suc r)

-- the answer: the refusal, or how many bytes were written
abbrev pub write_of : ℕ → ℕ → List ℕ → ℕ → Writing
write_of domain id payload room = answered (write_refusal domain id payload room) (header_length + length payload)

-- by cases: the number that an answer gives back (0: the message was written), the bytes that were written, and what a refusal
-- leaves as it was
abbrev pub number_given : Writing → ℕ
number_given (Refused n) = n
number_given (Written n) = 0

abbrev pub bytes_in : Writing → ℕ
bytes_in (Refused n) = 0
bytes_in (Written n) = n

abbrev pub left_over_by : {A : Type 0} → Writing → A → A → A
left_over_by (Refused n) was new = was
left_over_by (Written n) was new = new

-- the output afterwards: the message at its start and the rest as it was, or all of it as it was
abbrev pub output_after : ℕ → ℕ → ℕ → ℕ → List ℕ → List ℕ → List ℕ
output_after own domain id seq payload out =
    left_over_by (write_of domain id payload (length out)) out (over out 0 (message_bytes own domain id seq payload))
