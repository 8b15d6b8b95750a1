-- Issue 3's generic message header: 001, Table 2, all fields big endian. A field is named with the byte at which it starts and its
-- width, `number k` being 2 ^ k bytes wide. What both issues have alike is `message/specs/Header`'s: mark and domains.
use Rattle.std.specs.Prelude.{ℕ, ◌+◌, ◌*◌, ◌/◌, ◌%◌, List, ◌++◌, drop}
use Rattle.wire.specs.Bytes.{number, bytes}
use Rattle.message.specs.Header.{the_mark}
use Rattle.message3.specs.declared.Stamp.{Stamp}
use Rattle.message3.specs.declared.Header3.{Header3}

-- 001, Tables 1 and 2: a 24 byte header, then the payload
abbrev pub header_length3 : ℕ
header_length3 = 24

-- Version, 4 bits, the upper half of byte 2: 1 for Issue 3
abbrev pub the_version3 : ℕ
the_version3 = 1

abbrev pub half_byte : ℕ
half_byte = 16

abbrev pub version_in3 : List ℕ → ℕ
version_in3 s = number 0 s 2 / half_byte

-- Domain, 4 bits, the lower half of byte 2
abbrev pub domain_in3 : List ℕ → ℕ
domain_in3 s = number 0 s 2 % half_byte

-- the byte that both make
abbrev pub version_and_domain : ℕ → ℕ
version_and_domain domain = the_version3 * half_byte + domain

-- Logical platform ID of the sender, 8 bits
abbrev pub sender_in3 : List ℕ → ℕ
sender_in3 s = number 0 s 3

-- ID, in the context of the domain, 32 bits
abbrev pub id_in3 : List ℕ → ℕ
id_in3 s = number 2 s 4

-- Timestamp, twice 32 bits: seconds and nanoseconds, with no reserved value
abbrev pub seconds_in : List ℕ → ℕ
seconds_in s = number 2 s 8

abbrev pub nanoseconds_in : List ℕ → ℕ
nanoseconds_in s = number 2 s 12

abbrev pub stamp_in : List ℕ → Stamp
stamp_in s = record { seconds = seconds_in s; nanoseconds = nanoseconds_in s }

-- Payload size in bytes, 32 bits
abbrev pub payload_size_in3 : List ℕ → ℕ
payload_size_in3 s = number 2 s 16

-- Sequence number, 32 bits
abbrev pub sequence_in3 : List ℕ → ℕ
sequence_in3 s = number 2 s 20

-- the payload: what stands behind the header
abbrev pub payload_in3 : List ℕ → List ℕ
payload_in3 s = drop header_length3 s

-- the header with these fields
abbrev pub header_of3 : ℕ → ℕ → ℕ → Stamp → ℕ → ℕ → Header3
header_of3 domain platform id t size seq =
    record {
      domain = domain;
      platform = platform;
      id = id;
      seconds = t.seconds;
      nanoseconds = t.nanoseconds;
      payload_size = size;
      sequence = seq;
    }

-- the fields that differ from message to message
abbrev pub header_in3 : List ℕ → Header3
header_in3 s = header_of3 (domain_in3 s) (sender_in3 s) (id_in3 s) (stamp_in s) (payload_size_in3 s) (sequence_in3 s)

-- the header's 24 bytes, in Table 2's order
abbrev pub header_bytes3 : Header3 → List ℕ
header_bytes3 h =
    bytes 1 the_mark
    ++ (bytes 0 (version_and_domain h.domain)
    ++ (bytes 0 h.platform
    ++ (bytes 2 h.id
    ++ (bytes 2 h.seconds
    ++ (bytes 2 h.nanoseconds
    ++ (bytes 2 h.payload_size
    ++ bytes 2 h.sequence))))))
