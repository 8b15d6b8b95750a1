-- One datagram taken: 01, numbers 20 to 23 in their order, and Joining.
use Rattle.std.specs.Prelude.{ℕ, ◌≤◌, ◌<◌, ◌≡◌, cond, List, [], ltb, length, get_or, set}
use Rattle.std.specs.Prelude.{Result, Ok, Err}
use Rattle.refusal.specs.declared.Refusal.{Refusal}
use Rattle.refusal.specs.declared.Refusal.TheVariants.{NoJoiner, NotSetUp}
use Rattle.channel.specs.declared.Step.{Step}
use Rattle.std.specs.Prelude.{Option, Some, None}
use Rattle.wire.specs.Bytes.{written, part}
use Rattle.binding.specs.Header.{the_version, smallest_datagram, largest_datagram, version_in, sender_in, heading_in, piece_in}
use Rattle.binding.specs.declared.BindingHeader.{BindingHeader}
use Rattle.channel.specs.Channel.{room_of, stepped_of, moved_of}
use Rattle.channel.specs.declared.Channel.{Channel}
use Rattle.channel.specs.declared.Slice.{Slice}
use Rattle.channel.specs.declared.Slice.TheVariants.{Datagram, Rooms}
use Rattle.channel.specs.declared.Outcome.{Outcome}
use Rattle.channel.specs.declared.Outcome.TheVariants.{Repeated, Delivered, Held, Stray, TooLong}
use Rattle.joiner.specs.Setup.{channel_at, senders_of, place_of, good}
use Rattle.joiner.specs.declared.Joiner.{Joiner}
use Rattle.joiner.specs.declared.Taken.{Taken}

-- 23, or the step of the channel that bears the sender ID
unfoldable pub sent_to : Joiner → List ℕ → BindingHeader → Result (ℕ × Step) Refusal
sent_to j d h =
    let k = place_of (senders_of j) h.sender in
    cond (ltb k j.count) (Ok (k, stepped_of (room_of j.room k) (channel_at j k) h.part h.counter (length (piece_in d)))) (Err NotSetUp)

-- 21 and 22 are the binding header's
unfoldable pub heading_by : Joiner → List ℕ → Result BindingHeader Refusal → Result (ℕ × Step) Refusal
heading_by j d (Err n) = Err n
heading_by j d (Ok h) = sent_to j d h

-- what the datagram d comes to in rooms of b bytes, before anything is written
unfoldable pub judged_of : Joiner → ℕ → List ℕ → Result (ℕ × Step) Refusal
judged_of j b d = cond (good j b) (heading_by j d (heading_in d)) (Err NoJoiner)

-- the same of what a look found. The sender ID to look for: any, where the header is refused
abbrev pub sender_by : Result BindingHeader Refusal → ℕ
sender_by (Err n) = 0
sender_by (Ok h) = h.sender

-- the header's own number; else nobody bears its sender ID
abbrev pub refusal_by : Result BindingHeader Refusal → Refusal
refusal_by (Err e) = e
refusal_by (Ok h) = NotSetUp

-- what a datagram of n bytes comes to, with rooms of R bytes
unfoldable pub judged_by : Result (Option (ℕ × Channel)) Refusal → ℕ → Result BindingHeader Refusal → ℕ → Result (ℕ × Step) Refusal
judged_by (Err e) R x n = Err e
judged_by (Ok None) R x n = Err (refusal_by x)
judged_by (Ok (Some (k, ch))) R (Err m) n = Err m
judged_by (Ok (Some (k, ch))) R (Ok h) n = moved_of k R ch h n

-- the joiner with channel k's record changed
abbrev pub changed : Joiner → ℕ → Channel → Joiner
changed j k ch = record { channels = set j.channels k ch; count = j.count; room = j.room }

unfoldable pub taken_by : Joiner → Result (ℕ × Step) Refusal → Taken
taken_by j (Err n) = record { outcome = Err n; joiner = j }
taken_by j (Ok (k, s)) = record { outcome = Ok s.outcome; joiner = changed j k s.channel }

unfoldable pub taken_of : Joiner → List ℕ → List ℕ → Taken
taken_of j rooms d = taken_by j (judged_of j (length rooms) d)

-- only the piece's own bytes of the room are written
unfoldable pub put_by : List ℕ → Option ℕ → List ℕ → List ℕ
put_by rooms None d = rooms
put_by rooms (Some p) d = written rooms p (piece_in d)

unfoldable pub rooms_by : List ℕ → List ℕ → Result (ℕ × Step) Refusal → List ℕ
rooms_by rooms d (Err n) = rooms
rooms_by rooms d (Ok (k, s)) = put_by rooms s.put d

unfoldable pub rooms_after : Joiner → List ℕ → List ℕ → List ℕ
rooms_after j rooms d = rooms_by rooms d (judged_of j (length rooms) d)

-- where the message lies, as a part of the lent slice that holds it
abbrev pub lying_at : Slice → List ℕ → List ℕ → List ℕ
lying_at (Datagram p n) d rooms = part d p n
lying_at (Rooms p n) d rooms = part rooms p n

unfoldable pub message_of : {E : Type 0} → Result Outcome E → List ℕ → List ℕ → List ℕ
message_of (Err n) d rooms = []
message_of (Ok Repeated) d rooms = []
message_of (Ok (Delivered m p)) d rooms = lying_at p d rooms
message_of (Ok (Held m n)) d rooms = []
message_of (Ok (Stray m)) d rooms = []
message_of (Ok (TooLong m)) d rooms = []

-- whose datagram it is: one of channel k of these IDs
pub record Addressed (ids : List ℕ) (k : ℕ) (d : List ℕ) : Type 0 where
  pub long : smallest_datagram ≤ length d
  pub short : length d ≤ largest_datagram
  pub version : version_in d ≡ the_version
  pub known : k < length ids
  pub sender : get_or ids k 0 ≡ sender_in d

-- or none's: too short or too long (21), of another version (22), or of a sender that was not set up (23)
pub data Foreign (ids : List ℕ) (d : List ℕ) : Type 0 where
  short : length d < smallest_datagram → Foreign ids d
  long : largest_datagram < length d → Foreign ids d
  version : (version_in d ≡ the_version → ⊥) → Foreign ids d
  unknown : ((k : ℕ) → k < length ids → get_or ids k 0 ≡ sender_in d → ⊥) → Foreign ids d
