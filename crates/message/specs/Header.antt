-- The generic message header: 000, Table 2, all fields big endian (000, 6.1). A field is named with the byte at which it
-- starts and its width, `number k` being 2 ^ k bytes wide.
use Rattle.std.specs.Prelude.{ℕ, List, ◌++◌, drop}
use Rattle.wire.specs.Bytes.{number, bytes}
use Rattle.message.specs.declared.Header.{Header}

-- 000, Table 1: a 20 byte header, then the payload
abbrev pub header_length : ℕ
header_length = 20

-- 000, Table 2: ECOA mark, 16 bits
abbrev pub the_mark : ℕ
the_mark = 0xEC0A

abbrev pub mark_in : List ℕ → ℕ
mark_in s = number 1 s 0

-- Version, 8 bits: 2 for Issue 6
abbrev pub the_version : ℕ
the_version = 2

abbrev pub version_in : List ℕ → ℕ
version_in s = number 0 s 2

-- Domain, 8 bits: 0 platform-level management, 1 service operations, every other value reserved
abbrev pub platform_domain : ℕ
platform_domain = 0

abbrev pub reserved_domains : ℕ
reserved_domains = 2

abbrev pub domain_in : List ℕ → ℕ
domain_in s = number 0 s 3

-- Logical platform ID of the sender, 32 bits
abbrev pub sender_in : List ℕ → ℕ
sender_in s = number 2 s 4

-- ID, in the context of the domain, 32 bits
abbrev pub id_in : List ℕ → ℕ
id_in s = number 2 s 8

-- Payload size in bytes, 32 bits
abbrev pub payload_size_in : List ℕ → ℕ
payload_size_in s = number 2 s 12

-- Sequence number, 32 bits
abbrev pub sequence_in : List ℕ → ℕ
sequence_in s = number 2 s 16

-- the payload: what stands behind the header
abbrev pub payload_in : List ℕ → List ℕ
payload_in s = drop header_length s

-- the fields that differ from message to message
abbrev pub header_in : List ℕ → Header
header_in s = record { domain = domain_in s; platform = sender_in s; id = id_in s; payload_size = payload_size_in s; sequence = sequence_in s }

-- the header's 20 bytes, in Table 2's order
abbrev pub header_bytes : Header → List ℕ
header_bytes h =
    bytes 1 the_mark
    ++ (bytes 0 the_version
    ++ (bytes 0 h.domain
    ++ (bytes 2 h.platform
    ++ (bytes 2 h.id
    ++ (bytes 2 h.payload_size
    ++ bytes 2 h.sequence)))))
