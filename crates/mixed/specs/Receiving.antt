-- 02, request 8: what the one call for one message answers among partners of both issues, the states and the own number after it, the
-- output, the list of the requests that are pending, and the words of the partners' services.
use Rattle.std.specs.Prelude.{ℕ, Bool, false, cond, List, eqb, length}
use Rattle.std.specs.Prelude.{Option}
use Rattle.wire.specs.Bytes.{part, over}
use Rattle.table.specs.declared.Sections.{Sections}
use Rattle.pending.specs.Answers.{is_response, responded}
use Rattle.message3.specs.declared.Stamp.{Stamp}
use Rattle.message3.specs.declared.Header3.{Header3}
use Rattle.message3.specs.declared.Message3.{Message3}
use Rattle.message3.specs.declared.Message3.TheVariants as message3
use Rattle.platform.specs.declared.reactions.Standing.{Standing}
use Rattle.platform.specs.declared.Noting.{Noting}
use Rattle.platform.specs.declared.Noting.TheVariants as noting
use Rattle.platform.specs.declared.Received.{Received}
use Rattle.platform.specs.Receiving.{not_awaited, is_sent, entry_of, outcome_in, output_in, list_in}
use Rattle.mixed.specs.declared.AnyReading.{AnyReading}
use Rattle.mixed.specs.declared.AnyReading.TheVariants as reading
use Rattle.mixed.specs.declared.AnyAnswer.{AnyAnswer}
use Rattle.mixed.specs.declared.AnyAnswer.TheVariants.{Refused, Six, SixResponse, Three, ThreeResponse}
use Rattle.mixed.specs.declared.AnyReceived.{AnyReceived}
use Rattle.mixed.specs.declared.reactions.Reaction3.{Reaction3}
use Rattle.mixed.specs.declared.reactions.Room.{Room}
use Rattle.mixed.specs.declared.reactions.Room.TheVariants.{Short, Enough}
use Rattle.mixed.specs.Reading.{any_of}
use Rattle.mixed.specs.Reaction.{operation_for3, reaction3}
use Rattle.mixed.specs.Replies.{deed_bytes, room_for}
use Rattle.mixed.specs.Keeping.{kept_number, kept_words}

-- by cases: the number that the call gives back, 0 where it does not refuse
abbrev pub number_given : AnyAnswer → ℕ
number_given (Refused n) = n
number_given (Six h x n) = 0
number_given (SixResponse h i start len) = 0
number_given (Three h x n) = 0
number_given (ThreeResponse h i start len) = 0

-- Issue 6: what `platform` answers
abbrev pub from_noting : Noting → AnyAnswer
from_noting (noting.Refused n) = Refused n
from_noting (noting.Noted h x n) = Six h x n
from_noting (noting.Response h i start len) = SixResponse h i start len

abbrev pub from_received : Received → AnyReceived
from_received r = record { standing = r.standing; answer = from_noting r.answer }

-- a refusal: states and own number stay
abbrev pub refused_any : Standing → ℕ → AnyReceived
refused_any p n = record { standing = p; answer = Refused n }

-- Issue 3: a message of domain 1 with the ID of an operation whose requests we send is the response to one that is pending, or 61 (02, 1)
unfoldable pub is_answer3 : List ℕ → Option (ℕ × ℕ) → Message3 → Bool
is_answer3 t f (message3.PlatformStatus x c) = false
is_answer3 t f message3.PlatformStatusRequest = false
is_answer3 t f (message3.AvailabilityStatus n) = false
is_answer3 t f (message3.AvailabilityStatusRequest id) = false
is_answer3 t f (message3.UnknownOperation id) = false
is_answer3 t f (message3.ServiceNotAvailable id) = false
is_answer3 t f (message3.VersionedDataPull id) = false
is_answer3 t f (message3.CompositeChangeRequest c) = false
is_answer3 t f (message3.CompositeChangeRequestAck a) = false
is_answer3 t f message3.Operation = is_sent t f

abbrev pub delivered3 : Option (ℕ × ℕ) → Standing → Header3 → ℕ → ℕ → AnyReceived
delivered3 f p h start len = record { standing = p; answer = ThreeResponse h (entry_of f) start len }

unfoldable pub response_to3 : List ℕ → Option (ℕ × ℕ) → Standing → Header3 → ℕ → ℕ → AnyReceived
response_to3 l f p h start len = cond (is_response l h.sequence h.id h.platform) (delivered3 f p h start len) (refused_any p not_awaited)

abbrev pub list_answered3 : List ℕ → Header3 → List ℕ
list_answered3 l h = responded l h.sequence h.id h.platform

-- every other message: its services are kept, or its replies laid, of which it has one or the other; where there is no room for them
-- nothing changes
abbrev pub taken3 : Header3 → Reaction3 → ℕ → AnyReceived
taken3 h x n = record { standing = x.standing; answer = Three h x.heard n }

abbrev pub settled_by : Room → ℕ → Standing → Header3 → Reaction3 → AnyReceived
settled_by (Short n) kept p h x = refused_any p n
settled_by (Enough n) kept p h x = cond (eqb kept 0) (taken3 h x n) (refused_any p kept)

abbrev pub laid_out_by : Room → ℕ → List ℕ → List ℕ → List ℕ
laid_out_by (Short n) kept new was = was
laid_out_by (Enough n) kept new was = cond (eqb kept 0) new was

abbrev pub kept_by : Room → List ℕ → List ℕ → List ℕ
kept_by (Short n) new was = was
kept_by (Enough n) new was = new

unfoldable pub settled3 : List ℕ → List ℕ → Standing → Header3 → Reaction3 → List ℕ → List ℕ → ℕ → AnyReceived
settled3 i ours p h x payload ws room = settled_by (room_for ours x.deed room) (kept_number i h.platform x.deed payload ws) p h x

unfoldable pub laid3 : ℕ → Stamp → ℕ → List ℕ → List ℕ → Header3 → Reaction3 → List ℕ → List ℕ → List ℕ → List ℕ
laid3 own t c i ours h x payload ws out =
    laid_out_by (room_for ours x.deed (length out)) (kept_number i h.platform x.deed payload ws) (over out 0 (deed_bytes own t c ours x.deed)) out

unfoldable pub kept3 : List ℕ → List ℕ → Header3 → Reaction3 → List ℕ → List ℕ → ℕ → List ℕ
kept3 i ours h x payload ws room = kept_by (room_for ours x.deed room) (kept_words i h.platform x.deed payload ws) ws

-- a message by its sender's issue, with the operation looked up in these sections by this index
unfoldable pub any_outcome_of : ℕ → List ℕ → List ℕ → List ℕ → Sections → List ℕ → Standing → List ℕ → List ℕ → List ℕ → ℕ → AnyReading → AnyReceived
any_outcome_of own i ours t s index p l ws m room (reading.Refused n) = refused_any p n
any_outcome_of own i ours t s index p l ws m room (reading.Six h k start len) = from_received (outcome_in own t s index p l m room)
any_outcome_of own i ours t s index p l ws m room (reading.Three h k start len) =
    cond (is_answer3 t (operation_for3 t s index h k) k) (response_to3 l (operation_for3 t s index h k) p h start len)
    (settled3 i ours p h (reaction3 own ours t s (operation_for3 t s index h k) p h k start len) (part m start len) ws room)

unfoldable pub any_output_of : ℕ → Stamp → ℕ → List ℕ → List ℕ → List ℕ → Sections → List ℕ → Standing → List ℕ → List ℕ → List ℕ → AnyReading → List ℕ
any_output_of own st c i ours t s index p ws m out (reading.Refused n) = out
any_output_of own st c i ours t s index p ws m out (reading.Six h k start len) = output_in own t s index p m out
any_output_of own st c i ours t s index p ws m out (reading.Three h k start len) =
    cond (is_answer3 t (operation_for3 t s index h k) k) out
    (laid3 own st c i ours h (reaction3 own ours t s (operation_for3 t s index h k) p h k start len) (part m start len) ws out)

unfoldable pub any_list_of : ℕ → List ℕ → Sections → List ℕ → List ℕ → List ℕ → AnyReading → List ℕ
any_list_of own t s index l m (reading.Refused n) = l
any_list_of own t s index l m (reading.Six h k start len) = list_in own t s index l m
any_list_of own t s index l m (reading.Three h k start len) = cond (is_answer3 t (operation_for3 t s index h k) k) (list_answered3 l h) l

-- services of Issue 3 alone are kept
unfoldable pub any_words_of : ℕ → List ℕ → List ℕ → List ℕ → Sections → List ℕ → Standing → List ℕ → List ℕ → ℕ → AnyReading → List ℕ
any_words_of own i ours t s index p ws m room (reading.Refused n) = ws
any_words_of own i ours t s index p ws m room (reading.Six h k start len) = ws
any_words_of own i ours t s index p ws m room (reading.Three h k start len) =
    cond (is_answer3 t (operation_for3 t s index h k) k) ws
    (kept3 i ours h (reaction3 own ours t s (operation_for3 t s index h k) p h k start len) (part m start len) ws room)

-- a message's bytes
abbrev pub any_outcome : ℕ → List ℕ → List ℕ → List ℕ → Sections → List ℕ → Standing → List ℕ → List ℕ → List ℕ → ℕ → AnyReceived
any_outcome own i ours t s index p l ws m room = any_outcome_of own i ours t s index p l ws m room (any_of i own m)

abbrev pub any_output : ℕ → Stamp → ℕ → List ℕ → List ℕ → List ℕ → Sections → List ℕ → Standing → List ℕ → List ℕ → List ℕ → List ℕ
any_output own st c i ours t s index p ws m out = any_output_of own st c i ours t s index p ws m out (any_of i own m)

abbrev pub any_list : ℕ → List ℕ → List ℕ → Sections → List ℕ → List ℕ → List ℕ → List ℕ
any_list own i t s index l m = any_list_of own t s index l m (any_of i own m)

abbrev pub any_words : ℕ → List ℕ → List ℕ → List ℕ → Sections → List ℕ → Standing → List ℕ → List ℕ → ℕ → List ℕ
any_words own i ours t s index p ws m room = any_words_of own i ours t s index p ws m room (any_of i own m)
