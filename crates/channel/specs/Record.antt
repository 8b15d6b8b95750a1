-- One channel's record and its room, and what 01's number 20 asks of them.
use Rattle.std.specs.Prelude.{ℕ, ◌*◌, Bool, false, ◌&&◌, leb, ltb}
use Rattle.binding.specs.Header.{senders, counters}
use Rattle.channel.specs.declared.Channel.{Channel}

abbrev pub channel_limit : ℕ
channel_limit = 32

-- 01, number 20: R is at most 65,560
abbrev pub largest_room : ℕ
largest_room = 65560

-- where room k starts: each channel has its own R bytes, in set-up order. Where the room behind the last would start is
-- the rooms' total
abbrev pub room_start : ℕ → ℕ → ℕ
room_start R k = k * R

-- fresh: nothing seen, nothing held
abbrev pub new_channel : ℕ → Channel
new_channel s = record { sender = s; seen = false; last = 0; held = 0 }

-- a sender ID in Table 9's range, a held length that is not above R, and a last counter below M
abbrev pub good_channel : ℕ → Channel → Bool
good_channel R ch = ltb ch.sender senders && (leb ch.held R && ltb ch.last counters)
