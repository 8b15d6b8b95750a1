-- 01, "Platform states and replies"; 02, 1: what the one call for one message answers, the states and the own number after it, the
-- output, and the list of the requests that are pending.
use Rattle.std.specs.Prelude.{ℕ, Bool, false, cond, List, ltb, eqb, length, replicate}
use Rattle.std.specs.Prelude.{Result, Ok, Err}
use Rattle.refusal.specs.declared.Refusal.{Refusal}
use Rattle.refusal.specs.Refusal.{number_of}
use Rattle.std.specs.Prelude.{Option, Some, None}
use Rattle.wire.specs.Bytes.{over}
use Rattle.table.specs.declared.Sections.{Sections}
use Rattle.operations.specs.Entries.{sent_kind, kind_at}
use Rattle.operations.specs.Search.{indexed}
use Rattle.pending.specs.Answers.{is_response, responded}
use Rattle.table.specs.Layout.{cut_short, within}
use Rattle.types.specs.Table.{checked}
use Rattle.message.specs.declared.Header.{Header}
use Rattle.message.specs.declared.Message.{Message}
use Rattle.message.specs.declared.Message.TheVariants as message
use Rattle.message.specs.declared.Reading.{Reading}
use Rattle.message.specs.declared.Reading.TheVariants as reading
use Rattle.message.specs.Refusal.{no_room}
use Rattle.message.specs.Reading.{read_of}
use Rattle.platform.specs.declared.reactions.Standing.{Standing}
use Rattle.platform.specs.declared.Noting.TheVariants.{Refused, Noted, Response}
use Rattle.platform.specs.declared.Received.{Received}
use Rattle.platform.specs.declared.reactions.Reaction.{Reaction}
use Rattle.states.specs.States.{fresh_states}
use Rattle.platform.specs.Replies.{first_number, owed_length, owed_bytes}
use Rattle.platform.specs.Reaction.{operation_in, reaction_to}
use Rattle.refusal.specs.Refusal.{number_of}

-- at the start: the other 255 are DOWN, and own numbers start at 0
abbrev pub fresh_standing : ℕ → Standing
fresh_standing own = record { states = fresh_states own; next = first_number }

-- a refusal: states and own number stay
abbrev pub refused : Standing → ℕ → Received
refused p n = record { standing = p; answer = Refused n }

-- the replies are written one behind another; where they don't all fit it is 10
abbrev pub taken : Header → Reaction → ℕ → Received
taken h r written = record { standing = r.standing; answer = Noted h r.heard written }

unfoldable pub answered : Standing → Header → Reaction → ℕ → Received
answered p h r room = cond (ltb room (owed_length r.owed)) (refused p no_room) (taken h r (owed_length r.owed))

unfoldable pub laid_out : ℕ → Reaction → List ℕ → List ℕ
laid_out own r out = cond (ltb (length out) (owed_length r.owed)) out (over out 0 (owed_bytes own r.owed))

-- 02, 1: "any other message with a kind 2 ID is refused with 61, after 01's checks 1 to 9"
abbrev pub not_awaited : ℕ
not_awaited = 61

-- an operation of kind 2: "we send the request"
unfoldable pub is_sent : List ℕ → Option (ℕ × ℕ) → Bool
is_sent t (Some (i, p)) = eqb (kind_at t p) sent_kind
is_sent t None = false

-- a message of domain 1 with such an ID answers a request of ours, or none
unfoldable pub is_answer : List ℕ → Option (ℕ × ℕ) → Message → Bool
is_answer t f (message.PlatformStatus x) = false
is_answer t f message.PlatformStatusRequest = false
is_answer t f (message.UnknownOperation id) = false
is_answer t f (message.VersionedDataPull id) = false
is_answer t f message.Operation = is_sent t f

-- "A domain 1 message with that ID, number and sender is the response: it is delivered": the number of its entry, and its payload's
-- place; nothing is owed, and states and own number stay
abbrev pub entry_of : Option (ℕ × ℕ) → ℕ
entry_of (Some (i, p)) = i
entry_of None = 0

abbrev pub delivered : Option (ℕ × ℕ) → Standing → Header → ℕ → ℕ → Received
delivered f p h start len = record { standing = p; answer = Response h (entry_of f) start len }

unfoldable pub response_to : List ℕ → Option (ℕ × ℕ) → Standing → Header → ℕ → ℕ → Received
response_to l f p h start len = cond (is_response l h.sequence h.id h.platform) (delivered f p h start len) (refused p not_awaited)

-- "and its place is free again"
abbrev pub list_answered : List ℕ → Header → List ℕ
list_answered l h = responded l h.sequence h.id h.platform

-- a message that was read, or refused, with the operation that was looked up for it, on a platform that keeps p and the list l
unfoldable pub outcome_of : ℕ → List ℕ → Sections → Option (ℕ × ℕ) → Standing → List ℕ → Reading → ℕ → Received
outcome_of own t s f p l (reading.Refused n) room = refused p n
outcome_of own t s f p l (reading.Read h m start len) room =
    cond (is_answer t f m) (response_to l f p h start len) (answered p h (reaction_to own t s f p h m start len) room)

unfoldable pub output_of : ℕ → List ℕ → Sections → Option (ℕ × ℕ) → Standing → Reading → List ℕ → List ℕ
output_of own t s f p (reading.Refused n) out = out
output_of own t s f p (reading.Read h m start len) out = cond (is_answer t f m) out (laid_out own (reaction_to own t s f p h m start len) out)

unfoldable pub list_of : List ℕ → Option (ℕ × ℕ) → List ℕ → Reading → List ℕ
list_of t f l (reading.Refused n) = l
list_of t f l (reading.Read h m start len) = cond (is_answer t f m) (list_answered l h) l

-- a message's bytes, with what it asks for looked up in these sections by this index
abbrev pub outcome_in : ℕ → List ℕ → Sections → List ℕ → Standing → List ℕ → List ℕ → ℕ → Received
outcome_in own t s index p l m room = outcome_of own t s (operation_in t s index (read_of own m)) p l (read_of own m) room

abbrev pub output_in : ℕ → List ℕ → Sections → List ℕ → Standing → List ℕ → List ℕ → List ℕ
output_in own t s index p m out = output_of own t s (operation_in t s index (read_of own m)) p (read_of own m) out

abbrev pub list_in : ℕ → List ℕ → Sections → List ℕ → List ℕ → List ℕ → List ℕ
list_in own t s index l m = list_of t (operation_in t s index (read_of own m)) l (read_of own m)

-- the call on table bytes: 30 to 33 first, and then by an index of its own
abbrev pub index_of : List ℕ → Sections → List ℕ
index_of t s = indexed t s.operations.at s.operations.count (replicate 1024 0)

unfoldable pub received_by : Result Sections Refusal → ℕ → List ℕ → Standing → List ℕ → List ℕ → ℕ → Received
received_by (Err e) own t p l m room = refused p (number_of e)
received_by (Ok s) own t p l m room = outcome_in own t s (index_of t s) p l m room

unfoldable pub received_of : ℕ → List ℕ → Standing → List ℕ → List ℕ → ℕ → Received
received_of own t p l m room = received_by (checked t) own t p l m room

unfoldable pub left_if : Result Sections Refusal → ℕ → List ℕ → Standing → List ℕ → List ℕ → List ℕ
left_if (Err e) own t p m out = out
left_if (Ok s) own t p m out = output_in own t s (index_of t s) p m out

unfoldable pub left_of : ℕ → List ℕ → Standing → List ℕ → List ℕ → List ℕ
left_of own t p m out = left_if (checked t) own t p m out

unfoldable pub list_if : Result Sections Refusal → ℕ → List ℕ → List ℕ → List ℕ → List ℕ
list_if (Err e) own t l m = l
list_if (Ok s) own t l m = list_in own t s (index_of t s) l m

unfoldable pub list_after : ℕ → List ℕ → List ℕ → List ℕ → List ℕ
list_after own t l m = list_if (checked t) own t l m

-- the call on sections: 30 where these don't lie in the bytes
unfoldable pub sections_outcome : ℕ → List ℕ → Sections → List ℕ → Standing → List ℕ → List ℕ → ℕ → Received
sections_outcome own t s index p l m room = cond (within t s) (outcome_in own t s index p l m room) (refused p cut_short)

unfoldable pub sections_output : ℕ → List ℕ → Sections → List ℕ → Standing → List ℕ → List ℕ → List ℕ
sections_output own t s index p m out = cond (within t s) (output_in own t s index p m out) out

unfoldable pub sections_list : ℕ → List ℕ → Sections → List ℕ → List ℕ → List ℕ → List ℕ
sections_list own t s index l m = cond (within t s) (list_in own t s index l m) l
