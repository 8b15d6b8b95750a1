-- Issue 3's platform-level messages: 001, Tables 3 and 4. The states of a platform are those of Issue 6 (`message/specs/Platform`).
use Rattle.std.specs.Prelude.{ℕ, ◌+◌, ◌*◌, Bool, cond, not, ◌&&◌, ◌||◌, List, [], ◌∷◌, ◌++◌, eqb, leb, ltb, length}
use Rattle.wire.specs.Bytes.{number, bytes}
use Rattle.wire.specs.All.{all_below}
use Rattle.message.specs.Header.{platform_domain}
use Rattle.message.specs.Platform.{platform_status, platform_status_request, unknown_operation, versioned_data_pull}
use Rattle.message.specs.Platform.{status_of, status_value, reserved_states, kind_in}
use Rattle.message.specs.declared.Message.TheVariants as six
use Rattle.message3.specs.declared.Agreement.{Agreement}
use Rattle.message3.specs.declared.Agreement.TheVariants.{Disagree, Agree}
use Rattle.message3.specs.declared.Message3.{Message3}
use Rattle.message3.specs.declared.Message3.TheVariants.{PlatformStatus, PlatformStatusRequest, AvailabilityStatus, AvailabilityStatusRequest}
use Rattle.message3.specs.declared.Message3.TheVariants.{UnknownOperation, ServiceNotAvailable, VersionedDataPull}
use Rattle.message3.specs.declared.Message3.TheVariants.{CompositeChangeRequest, CompositeChangeRequestAck, Operation}

-- 001, Table 3: the IDs; 10 and above are reserved, and so is 0 (01: "0 is treated as reserved")
abbrev pub platform_status3 : ℕ
platform_status3 = 1

abbrev pub platform_status_request3 : ℕ
platform_status_request3 = 2

abbrev pub availability_status : ℕ
availability_status = 3

abbrev pub availability_status_request : ℕ
availability_status_request = 4

abbrev pub unknown_operation3 : ℕ
unknown_operation3 = 5

abbrev pub service_not_available : ℕ
service_not_available = 6

abbrev pub versioned_data_pull3 : ℕ
versioned_data_pull3 = 7

abbrev pub composite_change_request : ℕ
composite_change_request = 8

abbrev pub composite_change_request_ack : ℕ
composite_change_request_ack = 9

abbrev pub reserved_id3 : ℕ → Bool
reserved_id3 id = eqb id 0 || ltb composite_change_request_ack id

-- 001, Table 4: the payload's first and second field, 32 bits each
abbrev pub first_in : List ℕ → ℕ
first_in payload = number 2 payload 0

abbrev pub second_in : List ℕ → ℕ
second_in payload = number 2 payload 4

-- 001, Table 4: a status of services says how many it tells of, and has a pair for each: its ID, and its state, 0 UNAVAILABLE or
-- 1 AVAILABLE
abbrev pub service_at : List ℕ → ℕ → ℕ
service_at payload i = number 2 payload (4 + 8 * i)

abbrev pub state_at : List ℕ → ℕ → ℕ
state_at payload i = number 2 payload (8 + 8 * i)

-- and how long it is, a number without end
abbrev pub services_length : ℕ → ℕ
services_length n = 4 + 8 * n

-- the payload of such a status: these services, each with its state
abbrev pub pair_bytes : List (ℕ × ℕ) → List ℕ
pair_bytes [] = []
pair_bytes (p ∷ ps) = bytes 2 p.0 ++ (bytes 2 p.1 ++ pair_bytes ps)

abbrev pub services_bytes : List (ℕ × ℕ) → List ℕ
services_bytes ps = bytes 2 (length ps) ++ pair_bytes ps

-- 001, Table 4: a status has two fields, a request none, every other message but a status of services one
abbrev pub payload_length3 : ℕ → List ℕ → ℕ
payload_length3 id payload =
    cond (eqb id platform_status3) 8
    (cond (eqb id platform_status_request3) 0
    (cond (eqb id availability_status) (services_length (first_in payload))
    4))

-- 001, Table 4: of a status, of an acknowledgement and of each service 2 and above are reserved; no ID is
abbrev pub has_status : ℕ → Bool
has_status id = eqb id platform_status3 || eqb id composite_change_request_ack

abbrev pub known_state : List ℕ → ℕ → Bool
known_state payload i = ltb (state_at payload i) reserved_states

abbrev pub reserved_in : ℕ → List ℕ → Bool
reserved_in id payload =
    cond (eqb id availability_status) (not (all_below (known_state payload) (first_in payload)))
    (has_status id && leb reserved_states (first_in payload))

abbrev pub agreement_of : ℕ → Agreement
agreement_of x = cond (eqb x 0) Disagree Agree

abbrev pub agreement_value : Agreement → ℕ
agreement_value Disagree = 0
agreement_value Agree = 1

-- the platform-level message with this ID, whose payload's first two fields, if it has them, are these
abbrev pub platform_message3 : ℕ → ℕ → ℕ → Message3
platform_message3 id field second =
    cond (eqb id platform_status3) (PlatformStatus (status_of field) second)
    (cond (eqb id platform_status_request3) PlatformStatusRequest
    (cond (eqb id availability_status) (AvailabilityStatus field)
    (cond (eqb id availability_status_request) (AvailabilityStatusRequest field)
    (cond (eqb id unknown_operation3) (UnknownOperation field)
    (cond (eqb id service_not_available) (ServiceNotAvailable field)
    (cond (eqb id versioned_data_pull3) (VersionedDataPull field)
    (cond (eqb id composite_change_request) (CompositeChangeRequest field)
    (CompositeChangeRequestAck (agreement_of field)))))))))

abbrev pub message_of3 : ℕ → ℕ → ℕ → ℕ → Message3
message_of3 domain id field second = cond (eqb domain platform_domain) (platform_message3 id field second) Operation

-- by cases: its kind. What Issue 6 has too is of Issue 6's kind (`kind_in` of `message/specs/Platform`), and the others go on behind these
abbrev pub kind_in3 : Message3 → ℕ
kind_in3 (PlatformStatus x c) = platform_status
kind_in3 PlatformStatusRequest = platform_status_request
kind_in3 (AvailabilityStatus n) = 6
kind_in3 (AvailabilityStatusRequest i) = 7
kind_in3 (UnknownOperation i) = unknown_operation
kind_in3 (ServiceNotAvailable i) = 8
kind_in3 (VersionedDataPull i) = versioned_data_pull
kind_in3 (CompositeChangeRequest c) = 9
kind_in3 (CompositeChangeRequestAck a) = 10
kind_in3 Operation = kind_in six.Operation

-- its value: the state or the agreement that it tells; how many services; the ID in its payload; an operation's ID, which is its
-- header's
abbrev pub value_in3 : ℕ → Message3 → ℕ
value_in3 id (PlatformStatus x c) = status_value x
value_in3 id PlatformStatusRequest = 0
value_in3 id (AvailabilityStatus n) = n
value_in3 id (AvailabilityStatusRequest i) = i
value_in3 id (UnknownOperation i) = i
value_in3 id (ServiceNotAvailable i) = i
value_in3 id (VersionedDataPull i) = i
value_in3 id (CompositeChangeRequest c) = c
value_in3 id (CompositeChangeRequestAck a) = agreement_value a
value_in3 id Operation = id

-- the composite ID that a status tells beside its state; of any other message 0
abbrev pub composite_in : Message3 → ℕ
composite_in (PlatformStatus x c) = c
composite_in PlatformStatusRequest = 0
composite_in (AvailabilityStatus n) = 0
composite_in (AvailabilityStatusRequest i) = 0
composite_in (UnknownOperation i) = 0
composite_in (ServiceNotAvailable i) = 0
composite_in (VersionedDataPull i) = 0
composite_in (CompositeChangeRequest c) = 0
composite_in (CompositeChangeRequestAck a) = 0
composite_in Operation = 0
