-- What a message was, by cases: its kind as a number, its value, the operation's entry in the table, and where the payload of an
-- operation lies in the message. 01, "Platform states and replies".
use Rattle.std.specs.Prelude.{ℕ, List}
use Rattle.wire.specs.Bytes.{part}
use Rattle.message.specs.Platform.{status_value}
use Rattle.platform.specs.declared.reactions.Heard.{Heard}
use Rattle.platform.specs.declared.reactions.Heard.TheVariants.{Status, Request, UnknownOperation, PullOfAll, PullOfOne}
use Rattle.platform.specs.declared.reactions.Heard.TheVariants.{NotVersionedData, Operation, NotInTable}

abbrev pub kind_in : Heard → ℕ
kind_in (Status x) = 1
kind_in Request = 2
kind_in (UnknownOperation id) = 3
kind_in PullOfAll = 4
kind_in (PullOfOne id i) = 5
kind_in (NotVersionedData id) = 6
kind_in (Operation i start len) = 7
kind_in (NotInTable id) = 8

-- the state that was told; the ID that the message names; an operation's ID, which is its header's
abbrev pub value_in : ℕ → Heard → ℕ
value_in id (Status x) = status_value x
value_in id Request = 0
value_in id (UnknownOperation x) = x
value_in id PullOfAll = 0
value_in id (PullOfOne x i) = x
value_in id (NotVersionedData x) = x
value_in id (Operation i start len) = id
value_in id (NotInTable x) = x

-- the number of the operation's entry, where there is one
abbrev pub entry_in : Heard → ℕ
entry_in (Status x) = 0
entry_in Request = 0
entry_in (UnknownOperation id) = 0
entry_in PullOfAll = 0
entry_in (PullOfOne id i) = i
entry_in (NotVersionedData id) = 0
entry_in (Operation i start len) = i
entry_in (NotInTable id) = 0

-- "the operation and its payload part"; no other has one
abbrev pub start_in : Heard → ℕ
start_in (Status x) = 0
start_in Request = 0
start_in (UnknownOperation id) = 0
start_in PullOfAll = 0
start_in (PullOfOne id i) = 0
start_in (NotVersionedData id) = 0
start_in (Operation i start len) = start
start_in (NotInTable id) = 0

abbrev pub length_in : Heard → ℕ
length_in (Status x) = 0
length_in Request = 0
length_in (UnknownOperation id) = 0
length_in PullOfAll = 0
length_in (PullOfOne id i) = 0
length_in (NotVersionedData id) = 0
length_in (Operation i start len) = len
length_in (NotInTable id) = 0

abbrev pub payload_heard : List ℕ → Heard → List ℕ
payload_heard m x = part m (start_in x) (length_in x)
