-- 02, request 8; 001, 6.3 and Table 4: what a message of Issue 3 is here, the states and the own number after it, and what is to be
-- written. What both issues have is as Issue 6's words have it (`platform/specs/Reaction`).
use Rattle.std.specs.Prelude.{ℕ, cond, List, eqb}
use Rattle.std.specs.Prelude.{Option, Some, None}
use Rattle.table.specs.declared.Sections.{Sections}
use Rattle.operations.specs.Search.{sought_in}
use Rattle.pending.specs.Free.{drawn}
use Rattle.states.specs.States.{stands_up}
use Rattle.message.specs.declared.Header.{Header}
use Rattle.message.specs.declared.Status.{Status}
use Rattle.message.specs.declared.Status.TheVariants.{Down, Up}
use Rattle.message.specs.declared.Message.{Message}
use Rattle.message.specs.declared.Message.TheVariants as message
use Rattle.message3.specs.declared.Header3.{Header3}
use Rattle.message3.specs.declared.Message3.{Message3}
use Rattle.message3.specs.declared.Message3.TheVariants as message3
use Rattle.platform.specs.declared.reactions.Standing.{Standing}
use Rattle.platform.specs.declared.reactions.Heard.{Heard}
use Rattle.platform.specs.declared.reactions.Heard.TheVariants as heard
use Rattle.platform.specs.declared.reactions.Reply.TheVariants.{StatusUp, Unknown}
use Rattle.platform.specs.Replies.{all_data}
use Rattle.platform.specs.Reaction.{is_data, noted, reaction_to}
use Rattle.mixed.specs.declared.reactions.Heard3.{Heard3}
use Rattle.mixed.specs.declared.reactions.Heard3.TheVariants as heard3
use Rattle.mixed.specs.declared.reactions.Deed.{Deed}
use Rattle.mixed.specs.declared.reactions.Deed.TheVariants.{Nothing, One, StartUp, TellAll, TellOne, Note, MarkAll}
use Rattle.mixed.specs.declared.reactions.Reaction3.{Reaction3}
use Rattle.mixed.specs.Ours.{ours_available}

-- 001, Table 4: the ID that stands for all services
abbrev pub all_services : ℕ
all_services = 0xFFFFFFFF

-- the operation that a message asks for, looked up by the table's index: a pull's ID, or the ID of a message of domain 1
unfoldable pub operation_for3 : List ℕ → Sections → List ℕ → Header3 → Message3 → Option (ℕ × ℕ)
operation_for3 t s index h (message3.PlatformStatus x c) = None
operation_for3 t s index h message3.PlatformStatusRequest = None
operation_for3 t s index h (message3.AvailabilityStatus n) = None
operation_for3 t s index h (message3.AvailabilityStatusRequest id) = None
operation_for3 t s index h (message3.UnknownOperation id) = None
operation_for3 t s index h (message3.ServiceNotAvailable id) = None
operation_for3 t s index h (message3.VersionedDataPull id) = sought_in t index s.operations.count id
operation_for3 t s index h (message3.CompositeChangeRequest c) = None
operation_for3 t s index h (message3.CompositeChangeRequestAck a) = None
operation_for3 t s index h message3.Operation = sought_in t index s.operations.count h.id

-- nothing is to be written, and the states and the own number stay
abbrev pub silent3 : Standing → Heard3 → Reaction3
silent3 p x = record { standing = p; heard = x; deed = Nothing }

-- what both issues have: heard as Issue 6 has it, and answered in what was heard; replies repeat the number. A pull of all is not among
-- them: UNKNOWN_OPERATION of all is Issue 6's
abbrev pub in_six_words : Header3 → Header
in_six_words h =
    record { domain = h.domain; platform = h.platform; id = h.id; payload_size = h.payload_size; sequence = h.sequence }

abbrev pub deed_for : ℕ → Heard → Deed
deed_for n (heard.Status x) = Nothing
deed_for n heard.Request = One (StatusUp n)
deed_for n (heard.UnknownOperation id) = Nothing
deed_for n heard.PullOfAll = Nothing
deed_for n (heard.PullOfOne id i) = Nothing
deed_for n (heard.NotVersionedData id) = One (Unknown n id)
deed_for n (heard.Operation i start len) = Nothing
deed_for n (heard.NotInTable id) = One (Unknown n id)

abbrev pub heard_as : Standing → ℕ → Heard → Reaction3
heard_as p n x = record { standing = p; heard = heard3.Common x; deed = deed_for n x }

-- what is heard of a pull, and of a message of domain 1 (`platform/specs/Reaction`), by the operation that was looked up
abbrev pub one_heard : List ℕ → Option (ℕ × ℕ) → ℕ → Heard
one_heard t (Some (i, q)) id = cond (is_data t q) (heard.PullOfOne id i) (heard.NotVersionedData id)
one_heard t None id = heard.NotVersionedData id

abbrev pub pull_heard : List ℕ → Option (ℕ × ℕ) → ℕ → Heard
pull_heard t f id = cond (eqb id all_data) heard.PullOfAll (one_heard t f id)

abbrev pub operation_heard : Option (ℕ × ℕ) → ℕ → ℕ → ℕ → Heard
operation_heard (Some (i, q)) id start len = heard.Operation i start len
operation_heard None id start len = heard.NotInTable id

unfoldable pub commonly : ℕ → List ℕ → Sections → Option (ℕ × ℕ) → Standing → Header3 → Message → ℕ → ℕ → Reaction3
commonly own t s f p h m start len = heard_as p h.sequence (reaction_to own t s f p (in_six_words h) m start len).heard

unfoldable pub on_pull3 : ℕ → List ℕ → Sections → Option (ℕ × ℕ) → Standing → Header3 → ℕ → ℕ → ℕ → Reaction3
on_pull3 own t s f p h id start len =
    cond (eqb id all_data) (silent3 p (heard3.Common heard.PullOfAll)) (commonly own t s f p h (message.VersionedDataPull id) start len)

-- 001, 6.3, 2: DOWN to UP is noted, and answered with a status, an availability request and a pull, which take the next three own
-- numbers. UP to DOWN is noted, and all services of the sender are UNAVAILABLE. No change: nothing
unfoldable pub coming_up3 : Standing → ℕ → ℕ → Reaction3
coming_up3 p sender c =
    record { standing = noted p sender (drawn (drawn (drawn p.next))); heard = heard3.Status Up c; deed = StartUp p.next }

abbrev pub went_down : Standing → ℕ → ℕ → Reaction3
went_down p sender c = record { standing = noted p sender p.next; heard = heard3.Status Down c; deed = MarkAll }

unfoldable pub on_status3 : ℕ → Standing → ℕ → Status → ℕ → Reaction3
on_status3 own p sender Up c = cond (stands_up own p.states sender) (silent3 p (heard3.Status Up c)) (coming_up3 p sender c)
on_status3 own p sender Down c = cond (stands_up own p.states sender) (went_down p sender c) (silent3 p (heard3.Status Down c))

-- AVAILABILITY_STATUS_REQUEST: all our services, or one
unfoldable pub on_services_request : List ℕ → Standing → ℕ → ℕ → Reaction3
on_services_request ours p n id =
    record {
      standing = p;
      heard = heard3.ServicesRequest id;
      deed = cond (eqb id all_services) (TellAll n) (TellOne n id (ours_available ours id));
    }

-- the reaction to each message, but for what answers a request of ours
unfoldable pub reaction3 : ℕ → List ℕ → List ℕ → Sections → Option (ℕ × ℕ) → Standing → Header3 → Message3 → ℕ → ℕ → Reaction3
reaction3 own ours t s f p h (message3.PlatformStatus x c) start len = on_status3 own p h.platform x c
reaction3 own ours t s f p h message3.PlatformStatusRequest start len = commonly own t s f p h message.PlatformStatusRequest start len
reaction3 own ours t s f p h (message3.AvailabilityStatus n) start len = record { standing = p; heard = heard3.Services n; deed = Note }
reaction3 own ours t s f p h (message3.AvailabilityStatusRequest id) start len = on_services_request ours p h.sequence id
reaction3 own ours t s f p h (message3.UnknownOperation id) start len = commonly own t s f p h (message.UnknownOperation id) start len
reaction3 own ours t s f p h (message3.ServiceNotAvailable id) start len = silent3 p (heard3.ServiceNotAvailable id)
reaction3 own ours t s f p h (message3.VersionedDataPull id) start len = on_pull3 own t s f p h id start len
reaction3 own ours t s f p h (message3.CompositeChangeRequest c) start len = silent3 p (heard3.CompositeChange c)
reaction3 own ours t s f p h (message3.CompositeChangeRequestAck a) start len = silent3 p (heard3.CompositeAnswer a)
reaction3 own ours t s f p h message3.Operation start len = commonly own t s f p h message.Operation start len
