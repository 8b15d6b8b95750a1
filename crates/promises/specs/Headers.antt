-- Demand 2: "Headers, pieces .. and replies are those of ECOA Part 6, Issue 6". What is written reads back as what was meant, and
-- what is read gives the same bytes when it is written again. The layouts themselves are Tables 2 to 4 and 9 of 000
-- (message/specs/Header and Platform, binding/specs/Header).
use Rattle.std.specs.Prelude.{ℕ, ◌+◌, ◌^◌, ◌≤◌, ◌<◌, ◌≡◌, List, [], ◌++◌, length, take}
use Rattle.std.specs.Prelude.{Ok}
use Rattle.wire.specs.Bytes.{Octets, number, bytes, over}
use Rattle.message.specs.declared.Header.{Header}
use Rattle.message.specs.declared.Status.{Status}
use Rattle.message.specs.declared.Message.{Message}
use Rattle.message.specs.declared.Message.TheVariants.{PlatformStatus, PlatformStatusRequest, UnknownOperation, VersionedDataPull, Operation}
use Rattle.message.specs.declared.Reading.TheVariants.{Read}
use Rattle.message.specs.declared.Writing.TheVariants.{Written}
use Rattle.message.specs.Platform.{status_value, message_of}
use Rattle.message.specs.Reading.{read_of, payload_of}
use Rattle.message.specs.Writing.{header_for, write_of, output_after}
use Rattle.binding.specs.declared.BindingHeader.{BindingHeader}
use Rattle.binding.specs.Header.{heading_in, piece_in, header_bytes}

-- at this platform the bytes read as a message with this header, of this kind and with this payload
pub record ReadsAs (reader : ℕ) (s : List ℕ) (header : Header) (kind : Message) (its-payload : List ℕ) : Type 0 where
  pub answer : read_of reader s ≡ Read header kind 20 (length its-payload)
  pub payload : payload_of s (read_of reader s) ≡ its-payload

-- the numbers of a message are as wide as their fields, and the reader is not its sender
pub record FromAnother (own reader id seq : ℕ) : Type 0 where
  pub platform : own < 256
  pub other : own ≡ reader → ⊥
  pub id_fits : id < 2 ^ 32
  pub sequence_fits : seq < 2 ^ 32

-- "A written message .. reads back the same at any platform but its sender"
abbrev pub WrittenThenRead : Type 0
WrittenThenRead =
    (own reader domain id seq n : ℕ) (payload out : List ℕ) → FromAnother own reader id seq
    → write_of domain id payload (length out) ≡ Written n
    → ReadsAs reader (take n (output_after own domain id seq payload out)) (header_for own domain id seq payload)
    (message_of domain id (number 2 payload 0)) payload

-- what was read, written again with its own fields, is the same bytes
abbrev pub ReadThenWritten : Type 0
ReadThenWritten =
    (own : ℕ) (s : List ℕ) (h : Header) (m : Message) (start len : ℕ) (out : List ℕ) → Octets s → read_of own s ≡ Read h m start len → length s ≤ length out
    → (write_of h.domain h.id (payload_of s (read_of own s)) (length out) ≡ Written (length s))
    × (output_after h.platform h.domain h.id h.sequence (payload_of s (read_of own s)) out ≡ over out 0 s)

-- a message of this domain, ID and payload is written wherever there is room, and reads back as this kind
abbrev pub IsSentAs : ℕ → ℕ → List ℕ → Message → Type 0
IsSentAs domain id payload kind =
    (own reader seq : ℕ) (out : List ℕ) → FromAnother own reader id seq → 20 + length payload ≤ length out
    → (write_of domain id payload (length out) ≡ Written (20 + length payload))
    × ReadsAs reader (take (20 + length payload) (output_after own domain id seq payload out)) (header_for own domain id seq payload) kind payload

-- 000, Tables 3 and 4: each platform message, by its ID; and an operation, whose payload is any
pub record EachMessage : Type 0 where
  pub status : (x : Status) → IsSentAs 0 1 (bytes 2 (status_value x)) (PlatformStatus x)
  pub request : IsSentAs 0 2 [] PlatformStatusRequest
  pub unknown : (id : ℕ) → id < 2 ^ 32 → IsSentAs 0 3 (bytes 2 id) (UnknownOperation id)
  pub pull : (id : ℕ) → id < 2 ^ 32 → IsSentAs 0 4 (bytes 2 id) (VersionedDataPull id)
  pub operation : (id : ℕ) (payload : List ℕ) → length payload < 2 ^ 32 → IsSentAs 1 id payload Operation

-- 000, Table 9: the binding header before a piece of 1 to 65,503 bytes
abbrev pub HeaderThenRead : Type 0
HeaderThenRead =
    (h : BindingHeader) (piece : List ℕ) → h.sender < 4096 → h.counter < 65536 → 1 ≤ length piece → length piece ≤ 65503
    → (heading_in (header_bytes h ++ piece) ≡ Ok h) × (piece_in (header_bytes h ++ piece) ≡ piece)

abbrev pub HeaderReadThenWritten : Type 0
HeaderReadThenWritten = (d : List ℕ) (h : BindingHeader) → Octets d → heading_in d ≡ Ok h → header_bytes h ++ piece_in d ≡ d
