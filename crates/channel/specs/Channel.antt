-- One channel: what a datagram of message part p, counter c and n bytes of piece does to its record. 01, Joining, steps 1
-- to 5.
use Rattle.std.specs.Prelude.{ℕ, ◌+◌, ◌-◌, ◌%◌, ◌^◌, ◌≤◌, ◌<◌, Bool, true, false, ◌&&◌, cond, leb, ltb, eqb}
use Rattle.std.specs.Prelude.{Result, Ok, Err}
use Rattle.refusal.specs.declared.Refusal.{Refusal}
use Rattle.refusal.specs.declared.Refusal.TheVariants.{NoJoiner}
use Rattle.std.specs.Prelude.{Option, Some, None}
use Rattle.binding.specs.Header.{header_length, largest_piece, largest_datagram, counters}
use Rattle.binding.specs.declared.BindingHeader.{BindingHeader}
use Rattle.binding.specs.declared.MessagePart.{MessagePart}
use Rattle.binding.specs.declared.MessagePart.TheVariants.{Begin, Middle, End, Whole}
use Rattle.channel.specs.Record.{channel_limit, largest_room, room_start}
use Rattle.channel.specs.declared.Channel.{Channel}
use Rattle.channel.specs.declared.Room.{Room}
use Rattle.channel.specs.declared.Step.{Step}
use Rattle.channel.specs.declared.Slice.TheVariants.{Datagram, Rooms}
use Rattle.channel.specs.declared.Outcome.TheVariants.{Repeated, Delivered, Held, Stray, TooLong}

abbrev pub room_of : ℕ → ℕ → Room
room_of R k = record { start = room_start R k; size = R }

-- what the private functions below `take` are handed: a good record, a piece, and a room that ends within a usize
pub record Steppable (room : Room) (ch : Channel) (n : ℕ) : Type 0 where
  pub size : room.size ≤ largest_room
  pub ends : room.start + room.size < 2 ^ 64
  pub last : ch.last < counters
  pub held : ch.held ≤ room.size
  pub piece : n ≤ largest_piece

-- step 1
abbrev pub repeated : Channel → ℕ → Bool
repeated ch c = ch.seen && eqb c ch.last

-- step 2: (c - last - 1) mod M, or 0 if nothing was seen
unfoldable pub missed_of : Channel → ℕ → ℕ
missed_of ch c = cond ch.seen ((c + counters - (ch.last + 1)) % counters) 0

-- the record with h bytes held, and nothing else changed
abbrev pub holding : Channel → ℕ → Channel
holding ch h = record { sender = ch.sender; seen = ch.seen; last = ch.last; held = h }

-- step 2: what stays held, and the record with c noted
unfoldable pub keeping : Channel → ℕ → ℕ
keeping ch c = cond (eqb (missed_of ch c) 0) ch.held 0

unfoldable pub noted_of : Channel → ℕ → Channel
noted_of ch c = record { sender = ch.sender; seen = true; last = c; held = keeping ch c }

-- in steps 3 to 5 the record is the noted one, and m is missed
abbrev pub stray_of : Channel → ℕ → Step
stray_of ch m = record { outcome = Stray m; channel = ch; put = None }

abbrev pub too_long : Channel → ℕ → Step
too_long ch m = record { outcome = TooLong m; channel = holding ch 0; put = None }

-- step 3
abbrev pub whole_of : Channel → ℕ → ℕ → Step
whole_of ch n m = record { outcome = Delivered m (Datagram header_length n); channel = holding ch 0; put = None }

-- step 4
unfoldable pub begun_of : Room → Channel → ℕ → ℕ → Step
begun_of room ch n m = cond (leb n room.size) (record { outcome = Held m n; channel = holding ch n; put = Some room.start }) (too_long ch m)

-- a piece goes behind h bytes of the room
abbrev pub behind_of : Room → ℕ → Option ℕ
behind_of room h = Some (room.start + h)

-- step 5: a middle is held, an end is delivered and nothing is held after it
abbrev pub joined_of : Bool → Room → Channel → ℕ → ℕ → Step
joined_of false room ch n m = record { outcome = Held m (ch.held + n); channel = holding ch (ch.held + n); put = behind_of room ch.held }
joined_of true room ch n m = record { outcome = Delivered m (Rooms room.start (ch.held + n)); channel = holding ch 0; put = behind_of room ch.held }

-- step 5: with nothing held it is stray, and above R it is too long
unfoldable pub followed_of : Bool → Room → Channel → ℕ → ℕ → Step
followed_of ends room ch n m =
    cond (eqb ch.held 0) (stray_of ch m)
    (cond (leb (ch.held + n) room.size) (joined_of ends room ch n m) (too_long ch m))

-- steps 3 to 5
unfoldable pub placed_of : Room → Channel → MessagePart → ℕ → ℕ → Step
placed_of room ch Whole n m = whole_of ch n m
placed_of room ch Begin n m = begun_of room ch n m
placed_of room ch Middle n m = followed_of false room ch n m
placed_of room ch End n m = followed_of true room ch n m

-- steps 1 to 5
unfoldable pub stepped_of : Room → Channel → MessagePart → ℕ → ℕ → Step
stepped_of room ch p c n =
    cond (repeated ch c) (record { outcome = Repeated; channel = ch; put = None }) (placed_of room (noted_of ch c) p n (missed_of ch c))

-- what holds of every record that is found in a good joiner, and of every datagram whose header is read
abbrev pub can_move : ℕ → ℕ → Channel → ℕ → Bool
can_move k R ch n = (ltb k channel_limit && leb R largest_room) && ((leb ch.held R && ltb ch.last counters) && (leb header_length n && leb n largest_datagram))

-- the step of channel k, with rooms of R bytes and a datagram of n; 20 for what no look finds
unfoldable pub moved_of : ℕ → ℕ → Channel → BindingHeader → ℕ → Result (ℕ × Step) Refusal
moved_of k R ch h n = cond (can_move k R ch n) (Ok (k, stepped_of (room_of R k) ch h.part h.counter (n - header_length))) (Err NoJoiner)
