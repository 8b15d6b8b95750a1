-- One channel by itself: its record and the bytes that it holds. What a datagram does to a channel is said here without
-- the rooms, the other channels and the number of the channel.
use Rattle.std.specs.Prelude.{cond, ℕ, List, [], ◌++◌, eqb, length, take, drop}
use Rattle.std.specs.Prelude.{Result, Ok, Err}
use Rattle.refusal.specs.declared.Refusal.{Refusal}
use Rattle.binding.specs.Header.{part_carried, counter_in, piece_in}
use Rattle.binding.specs.declared.MessagePart.{MessagePart}
use Rattle.binding.specs.declared.MessagePart.TheVariants.{Begin, Middle, End, Whole}
use Rattle.channel.specs.declared.Channel.{Channel}
use Rattle.channel.specs.declared.Room.{Room}
use Rattle.channel.specs.declared.Step.{Step}
use Rattle.channel.specs.declared.Slice.TheVariants.{Datagram, Rooms}
use Rattle.channel.specs.declared.Outcome.{Outcome}
use Rattle.channel.specs.declared.Outcome.TheVariants.{Repeated, Delivered, Held, Stray, TooLong}
use Rattle.channel.specs.Channel.{missed_of, stepped_of}
use Rattle.channel.specs.Record.{room_start}
use Rattle.joiner.specs.declared.Joiner.{Joiner}
use Rattle.joiner.specs.Setup.{channel_at}
use Rattle.joiner.specs.Take.{taken_of, rooms_after, message_of}

pub record View : Type 0 where
  pub channel : Channel
  pub bytes : List ℕ

-- the n bytes from p on, wherever the list ends
abbrev pub bytes_at : List ℕ → ℕ → ℕ → List ℕ
bytes_at s p n = take n (drop p s)

-- channel k of the joiner, with what its room holds
abbrev pub view_of : Joiner → List ℕ → ℕ → View
view_of j rooms k = record { channel = channel_at j k; bytes = bytes_at rooms (room_start j.room k) (channel_at j k).held }

-- what a piece is put behind: what is held, unless datagrams were missed; at a beginning, nothing
abbrev pub leading : View → MessagePart → ℕ → List ℕ
leading v Begin c = []
leading v Whole c = []
leading v Middle c = cond (eqb (missed_of v.channel c) 0) v.bytes []
leading v End c = cond (eqb (missed_of v.channel c) 0) v.bytes []

abbrev pub joined_in : View → List ℕ → List ℕ
joined_in v d = leading v (part_carried d) (counter_in d) ++ piece_in d

-- what is held after an outcome: nothing changes, the piece was joined, or nothing is held
abbrev pub held_by : List ℕ → List ℕ → Result Outcome Refusal → List ℕ
held_by old joined (Err n) = old
held_by old joined (Ok Repeated) = old
held_by old joined (Ok (Held m n)) = joined
held_by old joined (Ok (Delivered m p)) = []
held_by old joined (Ok (Stray m)) = []
held_by old joined (Ok (TooLong m)) = []

-- what is delivered: the piece itself, or what it was joined to
abbrev pub given_by : List ℕ → List ℕ → Result Outcome Refusal → List ℕ
given_by piece joined (Ok (Delivered m (Datagram p n))) = piece
given_by piece joined (Ok (Delivered m (Rooms p n))) = joined
given_by piece joined (Err n) = []
given_by piece joined (Ok Repeated) = []
given_by piece joined (Ok (Held m n)) = []
given_by piece joined (Ok (Stray m)) = []
given_by piece joined (Ok (TooLong m)) = []

-- a datagram of the channel, whose room is this
abbrev pub view_step : Room → View → List ℕ → Step
view_step room v d = stepped_of room v.channel (part_carried d) (counter_in d) (length (piece_in d))

unfoldable pub view_after : Room → View → List ℕ → View
view_after room v d = record { channel = (view_step room v d).channel; bytes = held_by v.bytes (joined_in v d) (Ok (view_step room v d).outcome) }

unfoldable pub view_given : Room → View → List ℕ → List ℕ
view_given room v d = given_by (piece_in d) (joined_in v d) (Ok (view_step room v d).outcome)

-- the message that `message` hands back after `take` took d, and none where d delivered nothing
unfoldable pub delivered_of : Joiner → List ℕ → List ℕ → List ℕ
delivered_of j rooms d = message_of (taken_of j rooms d).outcome d (rooms_after j rooms d)
