-- Platform-level messages: 000, Tables 3 and 4.
use Rattle.std.specs.Prelude.{ℕ, Bool, cond, ◌||◌, eqb, ltb}
use Rattle.message.specs.Header.{platform_domain}
use Rattle.message.specs.declared.Status.{Status}
use Rattle.message.specs.declared.Status.TheVariants.{Down, Up}
use Rattle.message.specs.declared.Message.{Message}
use Rattle.message.specs.declared.Message.TheVariants.{PlatformStatus, PlatformStatusRequest, UnknownOperation, VersionedDataPull, Operation}

-- 000, Table 3: the IDs; 0, and 5 and above, are reserved
abbrev pub platform_status : ℕ
platform_status = 1

abbrev pub platform_status_request : ℕ
platform_status_request = 2

abbrev pub unknown_operation : ℕ
unknown_operation = 3

abbrev pub versioned_data_pull : ℕ
versioned_data_pull = 4

abbrev pub reserved_id : ℕ → Bool
reserved_id id = eqb id 0 || ltb versioned_data_pull id

-- 000, Table 4: a status has its 32-bit state, a request no field, a pull and an unknown operation one 32-bit ID
abbrev pub payload_length : ℕ → ℕ
payload_length id = cond (eqb id platform_status_request) 0 4

-- 000, Table 4: the states of a platform; 2 and above are reserved
abbrev pub reserved_states : ℕ
reserved_states = 2

abbrev pub status_of : ℕ → Status
status_of x = cond (eqb x 0) Down Up

abbrev pub status_value : Status → ℕ
status_value Down = 0
status_value Up = 1

-- 01, Wire layouts: the message read out, its kind, and within a status its UP or DOWN: the platform-level message with this ID
-- whose payload's field, if it has one, is this
abbrev pub platform_message : ℕ → ℕ → Message
platform_message id field =
    cond (eqb id platform_status) (PlatformStatus (status_of field))
    (cond (eqb id platform_status_request) PlatformStatusRequest
    (cond (eqb id unknown_operation) (UnknownOperation field)
    (VersionedDataPull field)))

abbrev pub message_of : ℕ → ℕ → ℕ → Message
message_of domain id field = cond (eqb domain platform_domain) (platform_message id field) Operation

-- by cases: its kind, which is its ID in Table 3, and 5 for an operation
abbrev pub kind_in : Message → ℕ
kind_in (PlatformStatus x) = platform_status
kind_in PlatformStatusRequest = platform_status_request
kind_in (UnknownOperation i) = unknown_operation
kind_in (VersionedDataPull i) = versioned_data_pull
kind_in Operation = 5

-- its value: the state that it tells; the ID in its payload; an operation's ID, which is its header's
abbrev pub value_in : ℕ → Message → ℕ
value_in id (PlatformStatus x) = status_value x
value_in id PlatformStatusRequest = 0
value_in id (UnknownOperation i) = i
value_in id (VersionedDataPull i) = i
value_in id Operation = id
