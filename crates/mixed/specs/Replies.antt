-- 02, request 8; 001, Tables 3 and 4: the replies that a platform owes to Issue 3, and their bytes, one behind another. All of one call bear
-- the same timestamp.
use Rattle.std.specs.Prelude.{ℕ, ◌+◌, ◌*◌, ◌^◌, Bool, cond, List, [], ◌∷◌, ◌++◌, leb, ltb, length}
use Rattle.wire.specs.Bytes.{bytes}
use Rattle.pending.specs.Free.{drawn}
use Rattle.message.specs.Header.{platform_domain}
use Rattle.message.specs.Refusal.{wrong_size, no_room}
use Rattle.message3.specs.declared.Stamp.{Stamp}
use Rattle.message3.specs.Header.{header_of3, header_bytes3}
use Rattle.message3.specs.Platform.{platform_status3, availability_status, availability_status_request, unknown_operation3, versioned_data_pull3}
use Rattle.message3.specs.Platform.{services_length, services_bytes}
use Rattle.message3.specs.Writing.{message_bytes3}
use Rattle.services.specs.Word.{service_id}
use Rattle.platform.specs.declared.reactions.Reply.{Reply}
use Rattle.platform.specs.declared.reactions.Reply.TheVariants.{StatusUp, PullAll, Unknown}
use Rattle.platform.specs.Replies.{state_up, all_data}
use Rattle.mixed.specs.declared.reactions.Deed.{Deed}
use Rattle.mixed.specs.declared.reactions.Deed.TheVariants.{Nothing, One, StartUp, TellAll, TellOne, Note, MarkAll}
use Rattle.mixed.specs.declared.reactions.Room.{Room}
use Rattle.mixed.specs.declared.reactions.Room.TheVariants.{Short, Enough}
use Rattle.mixed.specs.Ours.{is_available}
use Rattle.mixed.specs.Reaction.{all_services}

-- a message of 28 bytes: the header and one field
unfoldable pub field_message : ℕ → Stamp → ℕ → ℕ → ℕ → List ℕ
field_message own t id n x = message_bytes3 own t platform_domain id n (bytes 2 x)

abbrev pub field_length : ℕ
field_length = 28

-- a status of 32: UP, and the own composite's ID
unfoldable pub status_message : ℕ → Stamp → ℕ → ℕ → List ℕ
status_message own t c n = message_bytes3 own t platform_domain platform_status3 n (bytes 2 state_up ++ bytes 2 c)

abbrev pub status_length : ℕ
status_length = 32

-- the replies that both issues have
unfoldable pub reply_bytes3 : ℕ → Stamp → ℕ → Reply → List ℕ
reply_bytes3 own t c (StatusUp n) = status_message own t c n
reply_bytes3 own t c (PullAll n) = field_message own t versioned_data_pull3 n all_data
reply_bytes3 own t c (Unknown n id) = field_message own t unknown_operation3 n id

abbrev pub reply_length3 : Reply → ℕ
reply_length3 (StatusUp n) = status_length
reply_length3 (PullAll n) = field_length
reply_length3 (Unknown n id) = field_length

-- 001, 6.3, 2: "status, availability request, pull: three own numbers", from n on
unfoldable pub start_up_bytes : ℕ → Stamp → ℕ → ℕ → List ℕ
start_up_bytes own t c n =
    status_message own t c n
    ++ (field_message own t availability_status_request (drawn n) all_services
    ++ field_message own t versioned_data_pull3 (drawn (drawn n)) all_data)

abbrev pub start_up_length : ℕ
start_up_length = 88

-- AVAILABILITY_STATUS, "their requests, replies (our own services are arguments)": how many, and each service with its state, 1 AVAILABLE
-- or 0 UNAVAILABLE. Its head is all but the services
abbrev pub state_told : Bool → ℕ
state_told available = cond available 1 0

abbrev pub pair_of : ℕ → ℕ × ℕ
pair_of w = (service_id w, state_told (is_available w))

unfoldable pub pairs_of : List ℕ → List (ℕ × ℕ)
pairs_of [] = []
pairs_of (w ∷ ws) = pair_of w ∷ pairs_of ws

unfoldable pub services_message : ℕ → Stamp → ℕ → List (ℕ × ℕ) → List ℕ
services_message own t n ps = message_bytes3 own t platform_domain availability_status n (services_bytes ps)

unfoldable pub services_head : ℕ → Stamp → ℕ → ℕ → List ℕ
services_head own t n k = header_bytes3 (header_of3 platform_domain own availability_status t (services_length k) n) ++ bytes 2 k

abbrev pub head_length : ℕ
head_length = 28

abbrev pub pair_length : ℕ
pair_length = 8

-- as many of ours as the size field can tell
abbrev pub most_ours : ℕ
most_ours = 2 ^ 29

-- what is written for a deed, and whether it fits: 5 where our services pass the size field, then 10
unfoldable pub deed_bytes : ℕ → Stamp → ℕ → List ℕ → Deed → List ℕ
deed_bytes own t c ours Nothing = []
deed_bytes own t c ours (One r) = reply_bytes3 own t c r
deed_bytes own t c ours (StartUp n) = start_up_bytes own t c n
deed_bytes own t c ours (TellAll n) = services_message own t n (pairs_of ours)
deed_bytes own t c ours (TellOne n id available) = services_message own t n ((id, state_told available) ∷ [])
deed_bytes own t c ours Note = []
deed_bytes own t c ours MarkAll = []

abbrev pub fitting : ℕ → ℕ → Room
fitting n room = cond (ltb room n) (Short no_room) (Enough n)

unfoldable pub room_for : List ℕ → Deed → ℕ → Room
room_for ours Nothing room = Enough 0
room_for ours (One r) room = fitting (reply_length3 r) room
room_for ours (StartUp n) room = fitting start_up_length room
room_for ours (TellAll n) room = cond (leb most_ours (length ours)) (Short wrong_size) (fitting (head_length + pair_length * length ours) room)
room_for ours (TellOne n id available) room = fitting (head_length + pair_length) room
room_for ours Note room = Enough 0
room_for ours MarkAll room = Enough 0
