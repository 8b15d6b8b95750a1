-- 01, "Platform states and replies": what a message that was read is here, the states and the own number after it, and the
-- replies that are owed to its sender.
use Rattle.std.specs.Prelude.{ℕ, Bool, false, cond, List, eqb, ltb}
use Rattle.std.specs.Prelude.{Option, Some, None}
use Rattle.table.specs.declared.Sections.{Sections}
use Rattle.operations.specs.Entries.{data_kind, kind_at}
use Rattle.operations.specs.Rules.{has_data}
use Rattle.operations.specs.Search.{sought_in}
use Rattle.pending.specs.Free.{drawn}
use Rattle.message.specs.declared.Header.{Header}
use Rattle.message.specs.declared.Status.{Status}
use Rattle.message.specs.declared.Status.TheVariants.{Down, Up}
use Rattle.message.specs.declared.Message.{Message}
use Rattle.message.specs.declared.Message.TheVariants as message
use Rattle.message.specs.Refusal.{platforms}
use Rattle.message.specs.declared.Reading.{Reading}
use Rattle.message.specs.declared.Reading.TheVariants as reading
use Rattle.platform.specs.declared.reactions.Standing.{Standing}
use Rattle.platform.specs.declared.reactions.Heard.{Heard}
use Rattle.platform.specs.declared.reactions.Heard.TheVariants as heard
use Rattle.platform.specs.declared.reactions.Reply.{Reply}
use Rattle.platform.specs.declared.reactions.Reply.TheVariants.{StatusUp, PullAll, Unknown}
use Rattle.platform.specs.declared.reactions.Owed.TheVariants as owed
use Rattle.platform.specs.declared.reactions.Reaction.{Reaction}
use Rattle.states.specs.States.{stands_up, turned}
use Rattle.platform.specs.Replies.{all_data}

-- the operation that a message asks for, looked up by the table's index: a pull's ID, or the ID of a message of domain 1. No other
-- message, and none that was refused, has anything looked up
unfoldable pub operation_for : List ℕ → Sections → List ℕ → Header → Message → Option (ℕ × ℕ)
operation_for t s index h (message.PlatformStatus x) = None
operation_for t s index h message.PlatformStatusRequest = None
operation_for t s index h (message.UnknownOperation id) = None
operation_for t s index h (message.VersionedDataPull id) = sought_in t index s.operations.count id
operation_for t s index h message.Operation = sought_in t index s.operations.count h.id

unfoldable pub operation_in : List ℕ → Sections → List ℕ → Reading → Option (ℕ × ℕ)
operation_in t s index (reading.Refused n) = None
operation_in t s index (reading.Read h m start len) = operation_for t s index h m

-- versioned data: an operation of kind 1, which stands at p
unfoldable pub is_data : List ℕ → ℕ → Bool
is_data t p = eqb (kind_at t p) data_kind

unfoldable pub found_data : List ℕ → Option (ℕ × ℕ) → Bool
found_data t (Some (i, p)) = is_data t p
found_data t None = false

-- 000, 6.1.2.1: the platform provides versioned data
abbrev pub some_data : List ℕ → Sections → Bool
some_data t s = has_data t s.operations.at s.operations.count

-- nothing owed, or one reply; the states and the own number stay
abbrev pub silent : Standing → Heard → Reaction
silent p x = record { standing = p; heard = x; owed = owed.Nothing }

abbrev pub replied : Standing → Heard → Reply → Reaction
replied p x r = record { standing = p; heard = x; owed = owed.One r }

-- PLATFORM_STATUS. DOWN to UP: noted, and the two replies take the next two own numbers. UP to DOWN: noted, nothing owed.
-- No change: nothing owed. States are kept of the 256: a platform above 255 is heard, nothing is noted and nothing owed
-- (docs/DECISIONS.md, 4)
abbrev pub noted : Standing → ℕ → ℕ → Standing
noted p sender n = record { states = turned p.states sender; next = n }

unfoldable pub coming_up : Standing → ℕ → Reaction
coming_up p sender =
    record {
      standing = noted p sender (drawn (drawn p.next));
      heard = heard.Status Up;
      owed = owed.Two (StatusUp p.next) (PullAll (drawn p.next));
    }

unfoldable pub on_state : ℕ → Standing → ℕ → Status → Reaction
on_state own p sender Up = cond (stands_up own p.states sender) (silent p (heard.Status Up)) (coming_up p sender)
on_state own p sender Down = cond (stands_up own p.states sender) (silent (noted p sender p.next) (heard.Status Down)) (silent p (heard.Status Down))

unfoldable pub on_status : ℕ → Standing → ℕ → Status → Reaction
on_status own p sender x = cond (ltb sender platforms) (on_state own p sender x) (silent p (heard.Status x))

-- VERSIONED_DATA_PULL: all, or the one operation; if the ID isn't versioned data here, or all is pulled where there is none
-- (docs/DECISIONS.md, 24), UNKNOWN_OPERATION with that ID
abbrev pub not_versioned : Standing → ℕ → ℕ → Reaction
not_versioned p n id = replied p (heard.NotVersionedData id) (Unknown n id)

unfoldable pub on_pull_all : List ℕ → Sections → Standing → ℕ → Reaction
on_pull_all t s p n = cond (some_data t s) (silent p heard.PullOfAll) (not_versioned p n all_data)

unfoldable pub on_pull_one : List ℕ → Option (ℕ × ℕ) → Standing → ℕ → ℕ → Reaction
on_pull_one t (Some (i, q)) p n id = cond (is_data t q) (silent p (heard.PullOfOne id i)) (not_versioned p n id)
on_pull_one t None p n id = not_versioned p n id

unfoldable pub on_pull : List ℕ → Sections → Option (ℕ × ℕ) → Standing → ℕ → ℕ → Reaction
on_pull t s f p n id = cond (eqb id all_data) (on_pull_all t s p n) (on_pull_one t f p n id)

-- domain 1, but for what answers a request of ours (Receiving): the operation and its payload's place; if the ID isn't in the table, UNKNOWN_OPERATION
unfoldable pub on_operation : Option (ℕ × ℕ) → Standing → Header → ℕ → ℕ → Reaction
on_operation (Some (i, q)) p h start len = silent p (heard.Operation i start len)
on_operation None p h start len = replied p (heard.NotInTable h.id) (Unknown h.sequence h.id)

-- the reaction to each message
unfoldable pub reaction_to : ℕ → List ℕ → Sections → Option (ℕ × ℕ) → Standing → Header → Message → ℕ → ℕ → Reaction
reaction_to own t s f p h (message.PlatformStatus x) start len = on_status own p h.platform x
reaction_to own t s f p h message.PlatformStatusRequest start len = replied p heard.Request (StatusUp h.sequence)
reaction_to own t s f p h (message.UnknownOperation id) start len = silent p (heard.UnknownOperation id)
reaction_to own t s f p h (message.VersionedDataPull id) start len = on_pull t s f p h.sequence id
reaction_to own t s f p h message.Operation start len = on_operation f p h start len
