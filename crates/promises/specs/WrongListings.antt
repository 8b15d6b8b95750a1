-- 02, request 1: "Over any calls the list answers as a plain map does." Lists that do not, each wrong in one place alone: by a small run
-- each shows something else than the map does. The theorems are in proofs/WrongListings.antt.
use Rattle.std.specs.Prelude.{ℕ, ◌+◌, List, length}
use Rattle.std.specs.Prelude.{Option, Some, None}
use Rattle.table.specs.declared.Sections.{Sections}
use Rattle.operations.specs.Entries.{id_at}
use Rattle.operations.specs.Search.{operation_of}
use Rattle.message.specs.declared.Header.{Header}
use Rattle.message.specs.declared.Reading.{Reading}
use Rattle.message.specs.declared.Reading.TheVariants.{Refused, Read}
use Rattle.message.specs.Reading.{read_of}
use Rattle.pending.specs.Places.{pending_id_at, target_at, place_of, cleared, entered}
use Rattle.pending.specs.Answers.{cancelled}
use Rattle.requests.specs.Sending.{list_sent}
use Rattle.platform.specs.declared.reactions.Standing.{Standing}
use Rattle.platform.specs.declared.Noting.{Noting}
use Rattle.platform.specs.declared.Noting.TheVariants as noting
use Rattle.platform.specs.Receiving.{entry_of}
use Rattle.promises.specs.RequestCalls.{kind_in, RequestCall, send, receive, cancel, ask, Said, of_send, of_receive, whether, what, Shown}
use Rattle.promises.specs.RequestCalls.{Listing, our_shows, our_leaves}
use Rattle.promises.specs.RequestRuns.{AsMapBy}

-- another reading of what was asked at the place that bears a message's number, the rest being ours: from table and sections, the list,
-- the place and the message's header, the list as it is read
abbrev pub Asking : Type 0
Asking = List ℕ → Sections → List ℕ → ℕ → Header → List ℕ

abbrev pub read_at : Asking → List ℕ → Sections → List ℕ → Option ℕ → Header → List ℕ
read_at f t s l (Some k) h = f t s l k h
read_at f t s l None h = l

abbrev pub read_by : Asking → List ℕ → Sections → List ℕ → Reading → List ℕ
read_by f t s l (Refused n) = l
read_by f t s l (Read h m start len) = read_at f t s l (place_of l h.sequence) h

abbrev pub freed_by : List ℕ → Noting → List ℕ
freed_by l (noting.Refused n) = l
freed_by l (noting.Noted h x n) = l
freed_by l (noting.Response h i start len) = cancelled l h.sequence

abbrev pub freed_after : List ℕ → Said → List ℕ
freed_after l (of_send x) = l
freed_after l (of_receive x) = freed_by l x
freed_after l (whether b) = l
freed_after l (what x) = l

abbrev pub shows_reading : Asking → ℕ → Standing → List ℕ → RequestCall → Shown
shows_reading f own p l (send t s words id target payload out) = our_shows own p l (send t s words id target payload out)
shows_reading f own p l (receive t s bytes out) = our_shows own p (read_by f t s l (read_of own bytes)) (receive t s bytes out)
shows_reading f own p l (cancel n) = our_shows own p l (cancel n)
shows_reading f own p l (ask n) = our_shows own p l (ask n)

abbrev pub leaves_reading : Asking → ℕ → Standing → List ℕ → RequestCall → List ℕ
leaves_reading f own p l (send t s words id target payload out) = our_leaves own p l (send t s words id target payload out)
leaves_reading f own p l (receive t s bytes out) = freed_after l (shows_reading f own p l (receive t s bytes out)).said
leaves_reading f own p l (cancel n) = our_leaves own p l (cancel n)
leaves_reading f own p l (ask n) = l

-- matching by number alone: whatever ID it has, and whoever sends it
abbrev pub as_it_says : Asking
as_it_says t s l k h = entered l k h.sequence h.id h.platform

abbrev pub matching_by_number : Listing
matching_by_number = record { shows = shows_reading as_it_says; leaves = leaves_reading as_it_says }

-- a list that keeps entry numbers in place of IDs, and takes them for the entries of the table that comes with the message
abbrev pub entry_for : List ℕ → Sections → ℕ → ℕ
entry_for t s id = entry_of (operation_of t s.operations.at s.operations.count id)

abbrev pub as_entry : Asking
as_entry t s l k h = entered l k h.sequence (id_at t s.operations.at (pending_id_at l k)) (target_at l k)

abbrev pub leaves_entry : ℕ → Standing → List ℕ → RequestCall → List ℕ
leaves_entry own p l (send t s words id target payload out) =
    list_sent p.next l (kind_in t s words id) (entry_for t s id) target payload (length out)
leaves_entry own p l (receive t s bytes out) = leaves_reading as_entry own p l (receive t s bytes out)
leaves_entry own p l (cancel n) = our_leaves own p l (cancel n)
leaves_entry own p l (ask n) = l

abbrev pub keeping_entries : Listing
keeping_entries = record { shows = shows_reading as_entry; leaves = leaves_entry }

-- a cancel that frees the place behind
abbrev pub cleared_behind : List ℕ → Option ℕ → List ℕ
cleared_behind l (Some k) = cleared l (k + 1)
cleared_behind l None = l

abbrev pub leaves_behind : ℕ → Standing → List ℕ → RequestCall → List ℕ
leaves_behind own p l (send t s words id target payload out) = our_leaves own p l (send t s words id target payload out)
leaves_behind own p l (receive t s bytes out) = our_leaves own p l (receive t s bytes out)
leaves_behind own p l (cancel n) = cleared_behind l (place_of l n)
leaves_behind own p l (ask n) = l

abbrev pub freeing_behind : Listing
freeing_behind = record { shows = our_shows; leaves = leaves_behind }

pub record NoWrongListing : Type 1 where
  pub by_number : ¬ (AsMapBy matching_by_number)
  pub entries_for_ids : ¬ (AsMapBy keeping_entries)
  pub place_behind : ¬ (AsMapBy freeing_behind)
