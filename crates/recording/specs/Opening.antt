-- The start of a recording. 01, What is built: 16-bit channel count, 32-bit R, a 16-bit sender ID for each channel. Count
-- and R are judged before the IDs are read; what is wrong with an ID only after the last.
use Rattle.std.specs.Prelude.{ℕ, zero, suc, ◌+◌, ◌*◌, Bool, cond, ◌&&◌, List, [], ◌∷◌, ◌++◌, length, nat_le, nat_lt, Option, Some, None, Result, Ok, Err}
use Rattle.wire.specs.Bytes.{number}
use Rattle.channel.specs.Record.{channel_limit, largest_room, room_start}
use Rattle.joiner.specs.Setup.{setup_of, smallest_room}
use Rattle.joiner.specs.declared.Joiner.{Joiner}
use Rattle.refusal.specs.declared.Refusal.{Refusal}
use Rattle.refusal.specs.declared.Refusal.TheVariants.{NoJoiner}
use Rattle.recording.specs.declared.start.Opened.{Opened}

-- the bytes of count and R
abbrev pub sizes_length : ℕ
sizes_length = 6

-- all rooms together
abbrev pub rooms_limit : ℕ
rooms_limit = 65536

abbrev pub count_in : List ℕ → ℕ
count_in s = number 1 s 0

abbrev pub room_in : List ℕ → ℕ
room_in s = number 2 s 2

-- where the ID of channel k stands; where that behind the last would stand, the datagrams start
abbrev pub id_place : ℕ → ℕ
id_place k = sizes_length + 2 * k

-- the first n sender IDs
abbrev pub ids_in : List ℕ → ℕ → List ℕ
ids_in s zero = []
ids_in s (suc n) = ids_in s n ++ (number 1 s (id_place n) ∷ [])

-- number 20 by count and R alone, and channels times R not above 65,536
unfoldable pub good_start : ℕ → ℕ → Bool
good_start n R = (nat_le 1 n && nat_le n channel_limit) && ((nat_le smallest_room R && nat_le R largest_room) && nat_le (room_start R n) rooms_limit)

-- what the set-up answered: the datagrams start at p, and b bytes are the rooms' total
unfoldable pub opened_by : ℕ → ℕ → Result Joiner Refusal → Result (Option Opened) Refusal
opened_by p b (Ok j) = Ok (Some (record { joiner = j; start = p; rooms = b }))
opened_by p b (Err e) = Err e

-- n channels with rooms of R bytes, and the IDs that stand in s
abbrev pub setup_in : List ℕ → ℕ → ℕ → Result Joiner Refusal
setup_in s n R = setup_of (ids_in s n) R (room_start R n)

abbrev pub ready_in : List ℕ → ℕ → ℕ → Result (Option Opened) Refusal
ready_in s n R = opened_by (id_place n) (room_start R n) (setup_in s n R)

-- the start of the recording of which s is what has come so far: refused, open, or not yet there
unfoldable pub opened_in : List ℕ → Result (Option Opened) Refusal
opened_in s =
    cond (nat_lt (length s) sizes_length)
    (Ok None)
    (cond (good_start (count_in s) (room_in s))
    (cond (nat_lt (length s) (id_place (count_in s))) (Ok None) (ready_in s (count_in s) (room_in s)))
    (Err NoJoiner))
