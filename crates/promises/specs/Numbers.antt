-- Whole messages and tables of the papers, byte for byte: 01's own type table, one with 02, 1's operations of both widths, a
-- PLATFORM_STATUS and an operation by 000, Table 2, each field in its place. The theorem is in proofs/Numbers.antt.
use Rattle.std.specs.Prelude.{ℕ, ◌≤◌, ◌≡◌, List, [], ◌∷◌, ◌++◌, length, take, drop}
use Rattle.std.specs.Prelude.{Ok}
use Rattle.refusal.specs.Refusal.{refused}
use Rattle.std.specs.Prelude.{Some, None}
use Rattle.operations.specs.Entries.{operation_at}
use Rattle.operations.specs.Search.{indexed, sought_in}
use Rattle.types.specs.Table.{checked}
use Rattle.message.specs.declared.Status.TheVariants.{Up}
use Rattle.message.specs.declared.Message.TheVariants as message
use Rattle.message.specs.declared.Reading.TheVariants.{Read}
use Rattle.message.specs.declared.Writing.TheVariants.{Written}
use Rattle.message.specs.Reading.{read_of}
use Rattle.message.specs.Writing.{write_of, output_after}
use Rattle.payload.specs.declared.Answer.TheVariants.{Gave}
use Rattle.payload.specs.Calls.{unpacked, words_after, packed, bytes_after}

-- 01, "Whole table, a record of two uint16"
abbrev pub whole_table : List ℕ
whole_table =
    0x00 ∷ 0x02
    ∷ 0x00 ∷ 0x00 ∷ 0x00 ∷ 0x08 ∷ 0x00 ∷ 0x00 ∷ 0x00 ∷ 0x00
    ∷ 0x00 ∷ 0x02 ∷ 0x00 ∷ 0x00 ∷ 0x00 ∷ 0x00 ∷ 0x00 ∷ 0x02
    ∷ 0x00 ∷ 0x02 ∷ 0x00 ∷ 0x00 ∷ 0x00 ∷ 0x00
    ∷ 0x00 ∷ 0x00
    ∷ 0x00 ∷ 0x00
    ∷ []

-- it has 28 bytes and is accepted, its sections standing where they do; and its record is two uint16
pub record TableIs : Type 0 where
  pub long : length whole_table ≡ 28
  pub accepted : checked whole_table
      ≡ Ok
      (record {
        types = record { at = 2; count = 2 };
        members = record { at = 20; count = 2 };
        values = record { at = 26; count = 0 };
        operations = record { at = 28; count = 0 };
      })
  pub unpacks : unpacked whole_table 1 (0x01 ∷ 0x02 ∷ 0xFF ∷ 0xFE ∷ []) 2 ≡ Gave 2
  pub words : words_after whole_table 1 (0x01 ∷ 0x02 ∷ 0xFF ∷ 0xFE ∷ []) (9 ∷ 9 ∷ []) ≡ 258 ∷ 65534 ∷ []
  pub packs : packed whole_table 1 (258 ∷ 65534 ∷ []) 4 ≡ Gave 4
  pub bytes : bytes_after whole_table 1 (258 ∷ 65534 ∷ []) (9 ∷ 9 ∷ 9 ∷ 9 ∷ []) ≡ 0x01 ∷ 0x02 ∷ 0xFF ∷ 0xFE ∷ []

-- a uint16 and four operations, with IDs that rise over all kinds: event 5 with no type, in 8 bytes; 6, a request that we send, with
-- its type and no response type, in 10; 256, versioned data; 0x0A0B0C0D, a request that we serve, with no type and a response type
abbrev pub four_kinds : List ℕ
four_kinds =
    0x00 ∷ 0x01
    ∷ 0x00 ∷ 0x00 ∷ 0x00 ∷ 0x08 ∷ 0x00 ∷ 0x00 ∷ 0x00 ∷ 0x00
    ∷ 0x00 ∷ 0x00
    ∷ 0x00 ∷ 0x00
    ∷ 0x00 ∷ 0x04
    ∷ 0x00 ∷ 0x00 ∷ 0x00 ∷ 0x05 ∷ 0x00 ∷ 0x00 ∷ 0xFF ∷ 0xFF
    ∷ 0x00 ∷ 0x00 ∷ 0x00 ∷ 0x06 ∷ 0x00 ∷ 0x02 ∷ 0x00 ∷ 0x00 ∷ 0xFF ∷ 0xFF
    ∷ 0x00 ∷ 0x00 ∷ 0x01 ∷ 0x00 ∷ 0x00 ∷ 0x01 ∷ 0x00 ∷ 0x00
    ∷ 0x0A ∷ 0x0B ∷ 0x0C ∷ 0x0D ∷ 0x00 ∷ 0x03 ∷ 0xFF ∷ 0xFF ∷ 0x00 ∷ 0x00
    ∷ []

-- its index: an ID and the place of its entry in each word
abbrev pub four_words : List ℕ
four_words = 0x0000000500000010 ∷ 0x0000000600000018 ∷ 0x0000010000000022 ∷ 0x0A0B0C0D0000002A ∷ []

-- it has 52 bytes and is accepted, and with a byte less or more it is not; each entry says what stands in it; and each ID is found
pub record FourKindsAre : Type 0 where
  pub long : length four_kinds ≡ 52
  pub accepted : checked four_kinds
      ≡ Ok
      (record {
        types = record { at = 2; count = 1 };
        members = record { at = 12; count = 0 };
        values = record { at = 14; count = 0 };
        operations = record { at = 16; count = 4 };
      })
  pub byte_less : checked (take 51 four_kinds) ≡ refused 30
  pub byte_more : checked (four_kinds ++ (0x00 ∷ [])) ≡ refused 30
  pub event : operation_at four_kinds 16 ≡ record { id = 5; kind = 0; carries = 0xFFFF; responds = 0xFFFF }
  pub sent : operation_at four_kinds 24 ≡ record { id = 6; kind = 2; carries = 0; responds = 0xFFFF }
  pub data_kept : operation_at four_kinds 34 ≡ record { id = 256; kind = 1; carries = 0; responds = 0xFFFF }
  pub served : operation_at four_kinds 42 ≡ record { id = 0x0A0B0C0D; kind = 3; carries = 0xFFFF; responds = 0 }
  pub index : indexed four_kinds 16 4 (9 ∷ 9 ∷ 9 ∷ 9 ∷ 9 ∷ []) ≡ four_words ++ (9 ∷ [])
  pub event_found : sought_in four_kinds four_words 4 5 ≡ Some (0, 16)
  pub sent_found : sought_in four_kinds four_words 4 6 ≡ Some (1, 24)
  pub data_found : sought_in four_kinds four_words 4 256 ≡ Some (2, 34)
  pub served_found : sought_in four_kinds four_words 4 0x0A0B0C0D ≡ Some (3, 42)
  pub none_found : sought_in four_kinds four_words 4 7 ≡ None

-- the status UP from platform 3, numbered 0x05060708: mark, version, domain, platform, ID, payload size, number, state
abbrev pub status : List ℕ
status =
    0xEC ∷ 0x0A ∷ 0x02 ∷ 0x00
    ∷ 0x00 ∷ 0x00 ∷ 0x00 ∷ 0x03
    ∷ 0x00 ∷ 0x00 ∷ 0x00 ∷ 0x01
    ∷ 0x00 ∷ 0x00 ∷ 0x00 ∷ 0x04
    ∷ 0x05 ∷ 0x06 ∷ 0x07 ∷ 0x08
    ∷ 0x00 ∷ 0x00 ∷ 0x00 ∷ 0x01
    ∷ []

-- operation 0x0A0B0C0D from the same, its payload two bytes
abbrev pub operation : List ℕ
operation =
    0xEC ∷ 0x0A ∷ 0x02 ∷ 0x01
    ∷ 0x00 ∷ 0x00 ∷ 0x00 ∷ 0x03
    ∷ 0x0A ∷ 0x0B ∷ 0x0C ∷ 0x0D
    ∷ 0x00 ∷ 0x00 ∷ 0x00 ∷ 0x02
    ∷ 0x05 ∷ 0x06 ∷ 0x07 ∷ 0x08
    ∷ 0xFF ∷ 0xFE
    ∷ []

-- 24 bytes, and 22; read as such at every other platform, and written as such into every output that is long enough
pub record MessagesAre : Type 0 where
  pub status_long : length status ≡ 24
  pub status_read : (own : ℕ) → ¬ (own ≡ 3) → read_of own status
      ≡ Read (record { domain = 0; platform = 3; id = 1; payload_size = 4; sequence = 0x05060708 }) (message.PlatformStatus Up) 20 4
  pub status_answer : (room : ℕ) → 24 ≤ room → write_of 0 1 (0x00 ∷ 0x00 ∷ 0x00 ∷ 0x01 ∷ []) room ≡ Written 24
  pub status_written : (out : List ℕ) → 24 ≤ length out
      → output_after 3 0 1 0x05060708 (0x00 ∷ 0x00 ∷ 0x00 ∷ 0x01 ∷ []) out ≡ status ++ drop 24 out
  pub operation_long : length operation ≡ 22
  pub operation_read : (own : ℕ) → ¬ (own ≡ 3) → read_of own operation
      ≡ Read (record { domain = 1; platform = 3; id = 0x0A0B0C0D; payload_size = 2; sequence = 0x05060708 }) message.Operation 20 2
  pub operation_answer : (room : ℕ) → 22 ≤ room → write_of 1 0x0A0B0C0D (0xFF ∷ 0xFE ∷ []) room ≡ Written 22
  pub operation_written : (out : List ℕ) → 22 ≤ length out
      → output_after 3 1 0x0A0B0C0D 0x05060708 (0xFF ∷ 0xFE ∷ []) out ≡ operation ++ drop 22 out

abbrev pub Numbers : Type 0
Numbers = TableIs × MessagesAre × FourKindsAre
