-- 02, request 8, prepared: "01's rule that a written message reads back the same", said of Issue 3, by reading and writing alone. Which
-- sender speaks which issue is no part of it yet. The layouts are Tables 2 to 4 of 001 (message3/specs/Header and Platform). The theorem
-- is in proofs/Issue3Messages.antt.
use Rattle.std.specs.Prelude.{ℕ, ◌+◌, ◌-◌, ◌*◌, ◌^◌, ◌≤◌, ◌<◌, ◌≡◌, List, [], ◌∷◌, ◌++◌, length, get_or, take, replicate}
use Rattle.wire.specs.Bytes.{Octets, number, bytes, over}
use Rattle.message.specs.declared.Header.{Header}
use Rattle.message.specs.declared.Status.{Status}
use Rattle.message.specs.declared.Status.TheVariants.{Up}
use Rattle.message.specs.declared.Message.{Message}
use Rattle.message.specs.declared.Reading.TheVariants as six
use Rattle.message.specs.declared.Writing.TheVariants.{Written}
use Rattle.message.specs.declared.Writing.TheVariants as writing
use Rattle.message.specs.Platform.{status_value}
use Rattle.message.specs.Reading.{read_of}
use Rattle.message3.specs.declared.Stamp.{Stamp}
use Rattle.message3.specs.declared.Header3.{Header3}
use Rattle.message3.specs.declared.Agreement.{Agreement}
use Rattle.message3.specs.declared.Message3.{Message3}
use Rattle.message3.specs.declared.Message3.TheVariants.{PlatformStatus, PlatformStatusRequest, AvailabilityStatus, AvailabilityStatusRequest}
use Rattle.message3.specs.declared.Message3.TheVariants.{UnknownOperation, ServiceNotAvailable, VersionedDataPull, CompositeChangeRequest}
use Rattle.message3.specs.declared.Message3.TheVariants.{CompositeChangeRequestAck, Operation}
use Rattle.message3.specs.declared.Reading3.TheVariants.{Refused, Read}
use Rattle.message3.specs.Platform.{agreement_value, message_of3, services_bytes, kind_in3, value_in3}
use Rattle.message3.specs.Reading.{read_of3, payload_of3}
use Rattle.message3.specs.Writing.{header_for3, message_bytes3, write_of3, output_after3}
use Rattle.message3.specs.Worked.{worked_status}

-- at this platform the bytes read as a message with this header, timestamp too, of this kind and with this payload
pub record ReadsAs3 (reader : ℕ) (s : List ℕ) (header : Header3) (kind : Message3) (its-payload : List ℕ) : Type 0 where
  pub answer : read_of3 reader s ≡ Read header kind 24 (length its-payload)
  pub payload : payload_of3 s (read_of3 reader s) ≡ its-payload

-- the numbers of a message are as wide as their fields, and the reader is not its sender
pub record FromAnother3 (own reader id seq : ℕ) (t : Stamp) : Type 0 where
  pub other : own ≡ reader → ⊥
  pub id_fits : id < 2 ^ 32
  pub sequence_fits : seq < 2 ^ 32
  pub seconds_fit : t.seconds < 2 ^ 32
  pub nanoseconds_fit : t.nanoseconds < 2 ^ 32

-- what is written reads back the same at any platform but its sender
abbrev pub WrittenThenRead3 : Type 0
WrittenThenRead3 =
    (own reader domain id seq n : ℕ) (t : Stamp) (payload out : List ℕ) → FromAnother3 own reader id seq t
    → write_of3 domain id payload (length out) ≡ Written n
    → ReadsAs3 reader (take n (output_after3 own t domain id seq payload out)) (header_for3 own t domain id seq payload)
    (message_of3 domain id (number 2 payload 0) (number 2 payload 4)) payload

-- what was read, written again with its own fields and its own timestamp, is the same bytes
abbrev pub stamp_of : Header3 → Stamp
stamp_of h = record { seconds = h.seconds; nanoseconds = h.nanoseconds }

abbrev pub ReadThenWritten3 : Type 0
ReadThenWritten3 =
    (own : ℕ) (s : List ℕ) (h : Header3) (m : Message3) (start len : ℕ) (out : List ℕ) → Octets s → read_of3 own s ≡ Read h m start len
    → length s ≤ length out
    → (write_of3 h.domain h.id (payload_of3 s (read_of3 own s)) (length out) ≡ Written (length s))
    × (output_after3 h.platform (stamp_of h) h.domain h.id h.sequence (payload_of3 s (read_of3 own s)) out ≡ over out 0 s)

-- a message of this domain, ID and payload is written wherever there is room, and reads back as this kind
abbrev pub IsSentAs3 : ℕ → ℕ → List ℕ → Message3 → Type 0
IsSentAs3 domain id payload kind =
    (own reader seq : ℕ) (t : Stamp) (out : List ℕ) → FromAnother3 own reader id seq t → 24 + length payload ≤ length out
    → (write_of3 domain id payload (length out) ≡ Written (24 + length payload))
    × ReadsAs3 reader (take (24 + length payload) (output_after3 own t domain id seq payload out)) (header_for3 own t domain id seq payload) kind payload

-- services with their states: IDs fit their fields, and each is UNAVAILABLE, 0, or AVAILABLE, 1
abbrev pub AreServices : List (ℕ × ℕ) → Type 0
AreServices ps = (i : ℕ) → ((get_or ps i (0, 0)).0 < 2 ^ 32) × ((get_or ps i (0, 0)).1 < 2)

-- a payload that has them at their places
abbrev pub Tells : List ℕ → List (ℕ × ℕ) → Type 0
Tells payload ps =
    (i : ℕ) → i < length ps → (number 2 payload (4 + 8 * i) ≡ (get_or ps i (0, 0)).0) × (number 2 payload (8 + 8 * i) ≡ (get_or ps i (0, 0)).1)

-- 001, Tables 3 and 4: each platform message, by its ID; a status of any services, up to as many as the size field can say,
-- and 5 above; and an operation, whose payload is any
pub record EachMessage3 : Type 0 where
  pub status : (x : Status) (composite : ℕ) → composite < 2 ^ 32 → IsSentAs3 0 1 (bytes 2 (status_value x) ++ bytes 2 composite) (PlatformStatus x composite)
  pub request : IsSentAs3 0 2 [] PlatformStatusRequest
  pub services : (ps : List (ℕ × ℕ)) → AreServices ps → length ps < 2 ^ 29 → IsSentAs3 0 3 (services_bytes ps) (AvailabilityStatus (length ps))
  pub services_too_many : (ps : List (ℕ × ℕ)) (room : ℕ) → 2 ^ 29 ≤ length ps → write_of3 0 3 (services_bytes ps) room ≡ writing.Refused 5
  pub services_told : (ps : List (ℕ × ℕ)) → AreServices ps → Tells (services_bytes ps) ps
  pub services_request : (id : ℕ) → id < 2 ^ 32 → IsSentAs3 0 4 (bytes 2 id) (AvailabilityStatusRequest id)
  pub unknown : (id : ℕ) → id < 2 ^ 32 → IsSentAs3 0 5 (bytes 2 id) (UnknownOperation id)
  pub not_available : (id : ℕ) → id < 2 ^ 32 → IsSentAs3 0 6 (bytes 2 id) (ServiceNotAvailable id)
  pub pull : (id : ℕ) → id < 2 ^ 32 → IsSentAs3 0 7 (bytes 2 id) (VersionedDataPull id)
  pub composite : (id : ℕ) → id < 2 ^ 32 → IsSentAs3 0 8 (bytes 2 id) (CompositeChangeRequest id)
  pub composite_ack : (a : Agreement) → IsSentAs3 0 9 (bytes 2 (agreement_value a)) (CompositeChangeRequestAck a)
  pub operation : (id : ℕ) (payload : List ℕ) → length payload < 2 ^ 32 → IsSentAs3 1 id payload Operation

-- what a message is told as: its kind, which of what Issue 6 has too is Issue 6's, 1 to 5, and of the others goes on behind these; its value
-- is its first field, and an operation's is its ID
abbrev pub told_as : List ℕ
told_as = 1 ∷ 2 ∷ 6 ∷ 7 ∷ 3 ∷ 8 ∷ 4 ∷ 9 ∷ 10 ∷ []

pub record Kinds3 : Type 0 where
  pub of_platform : (id field second : ℕ) → 1 ≤ id → id ≤ 9 → kind_in3 (message_of3 0 id field second) ≡ get_or told_as (id - 1) 0
  pub of_operation : (id field second : ℕ) → kind_in3 (message_of3 1 id field second) ≡ 5
  pub value : (id field second : ℕ) → 3 ≤ id → id ≤ 8 → value_in3 id (message_of3 0 id field second) ≡ field
  pub status-value : (field second : ℕ) → field < 2 → value_in3 1 (message_of3 0 1 field second) ≡ field
  pub ack_value : (field second : ℕ) → field < 2 → value_in3 9 (message_of3 0 9 field second) ≡ field
  pub operation_value : (id field second : ℕ) → value_in3 id (message_of3 1 id field second) ≡ id

-- "No message may be read under the other issue's meaning": no bytes are read as both
abbrev pub NeverBoth : Type 0
NeverBoth =
    (own reader : ℕ) (s : List ℕ) (h : Header) (m : Message) (start len : ℕ) (h₃ : Header3) (m₃ : Message3) (start₃ len₃ : ℕ)
    → read_of own s ≡ six.Read h m start len → read_of3 reader s ≡ Read h₃ m₃ start₃ len₃ → ⊥

-- a status of services from 7, with this payload
abbrev pub of_services : List ℕ → List ℕ
of_services payload = message_bytes3 7 (record { seconds = 5; nanoseconds = 6 }) 0 3 9 payload

-- worked out in bytes: the status UP with composite 0x11223344 from 7 at 5 s 6 ns, number 9; itself, cut, and heard by 7; and statuses of
-- services: 2 ^ 29 of them in four bytes, none, two of which the last has a reserved state, and two of which one is missing
pub record WorkedMessages3 : Type 0 where
  pub read : (own : ℕ) → ¬ (7 ≡ own)
      → read_of3 own worked_status
      ≡ Read (record { domain = 0; platform = 7; id = 1; seconds = 5; nanoseconds = 6; payload_size = 8; sequence = 9 })
      (PlatformStatus Up 0x11223344) 24 8
  pub answer : write_of3 0 1 (bytes 2 1 ++ bytes 2 0x11223344) 32 ≡ Written 32
  pub written : output_after3 7 (record { seconds = 5; nanoseconds = 6 }) 0 1 9 (bytes 2 1 ++ bytes 2 0x11223344) (replicate 32 0) ≡ worked_status
  pub own_refused : read_of3 7 worked_status ≡ Refused 6
  pub cut : (own : ℕ) → read_of3 own (take 23 worked_status) ≡ Refused 1
  pub wrapping : read_of3 1 (of_services (bytes 2 (2 ^ 29))) ≡ Refused 8
  pub no_services : read_of3 1 (of_services (bytes 2 0))
      ≡ Read (record { domain = 0; platform = 7; id = 3; seconds = 5; nanoseconds = 6; payload_size = 4; sequence = 9 }) (AvailabilityStatus 0) 24 4
  pub last_reserved : read_of3 1 (of_services (services_bytes ((77, 1) ∷ (78, 2) ∷ []))) ≡ Refused 9
  pub one_missing : read_of3 1 (of_services (bytes 2 2 ++ (bytes 2 77 ++ bytes 2 1))) ≡ Refused 8

pub record Issue3Messages : Type 0 where
  pub written_then_read : WrittenThenRead3
  pub read_then_written : ReadThenWritten3
  pub each_message : EachMessage3
  pub kinds : Kinds3
  pub never_both : NeverBoth
  pub worked : WorkedMessages3
