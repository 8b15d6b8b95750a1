-- What writing a message of Issue 3 answers, and the bytes that it leaves. The answer is that of Issue 6 (`message/specs/Writing`).
use Rattle.std.specs.Prelude.{ℕ, ◌+◌, List, ◌++◌, length}
use Rattle.wire.specs.Bytes.{over}
use Rattle.message.specs.declared.Writing.{Writing}
use Rattle.message.specs.Writing.{answered, left_over_by}
use Rattle.message3.specs.declared.Header3.{Header3}
use Rattle.message3.specs.declared.Stamp.{Stamp}
use Rattle.message3.specs.Header.{header_length3, header_of3, header_bytes3}
use Rattle.message3.specs.Refusal.{write_refusal3}

-- the header of a message that this platform writes
abbrev pub header_for3 : ℕ → Stamp → ℕ → ℕ → ℕ → List ℕ → Header3
header_for3 own t domain id seq payload = header_of3 domain own id t (length payload) seq

-- 001, Table 1: the header, then the payload
abbrev pub message_bytes3 : ℕ → Stamp → ℕ → ℕ → ℕ → List ℕ → List ℕ
message_bytes3 own t domain id seq payload = header_bytes3 (header_for3 own t domain id seq payload) ++ payload

-- the answer: the refusal, or how many bytes were written
abbrev pub write_of3 : ℕ → ℕ → List ℕ → ℕ → Writing
write_of3 domain id payload room = answered (write_refusal3 domain id payload room) (header_length3 + length payload)

-- the output afterwards: the message at its start and the rest as it was, or all of it as it was
abbrev pub output_after3 : ℕ → Stamp → ℕ → ℕ → ℕ → List ℕ → List ℕ → List ℕ
output_after3 own t domain id seq payload out =
    left_over_by (write_of3 domain id payload (length out)) out (over out 0 (message_bytes3 own t domain id seq payload))
