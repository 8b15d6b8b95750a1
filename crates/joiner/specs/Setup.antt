-- A set-up and the joiner it makes: 01, number 20, for a set-up and for one handed in with a datagram.
use Rattle.std.specs.Prelude.{ℕ, suc, ◌-◌, ◌≤◌, ◌<◌, ◌≡◌, Bool, true, ◌&&◌, cond, List, [], ◌∷◌, ◌++◌, map, leb, ltb, eqb, length, get_or, take, replicate}
use Rattle.std.specs.Prelude.{Option, Some, None, Result, Ok, Err}
use Rattle.refusal.specs.declared.Refusal.{Refusal}
use Rattle.refusal.specs.declared.Refusal.TheVariants.{NoJoiner}
use Rattle.binding.specs.Header.{senders}
use Rattle.channel.specs.Record.{channel_limit, largest_room, room_start, new_channel, good_channel}
use Rattle.channel.specs.declared.Channel.{Channel}
use Rattle.joiner.specs.declared.Joiner.{Joiner}
use Rattle.refusal.specs.Refusal.{number_of}

-- 01, number 20: R is 24 to 65,560
abbrev pub smallest_room : ℕ
smallest_room = 24

-- every element passes
abbrev pub every : (Channel → Bool) → List Channel → Bool
every f [] = true
every f (x ∷ xs) = f x && every f xs

-- how many stand before the first x; the list's length where there is none
abbrev pub place_of : List ℕ → ℕ → ℕ
place_of [] x = 0
place_of (y ∷ ys) x = cond (eqb y x) 0 (suc (place_of ys x))

-- none twice: the first is not among those behind it, and so on
abbrev pub distinct : List ℕ → Bool
distinct [] = true
distinct (x ∷ xs) = eqb (place_of xs x) (length xs) && distinct xs

abbrev pub sender_of : Channel → ℕ
sender_of ch = ch.sender

abbrev pub channels_of : Joiner → List Channel
channels_of j = take j.count j.channels

-- the record of channel k
abbrev pub channel_at : Joiner → ℕ → Channel
channel_at j k = get_or j.channels k (new_channel 0)

-- the IDs that were set up
abbrev pub senders_of : Joiner → List ℕ
senders_of j = map sender_of (channels_of j)

-- 1 to 32 channels, a room of 24 to 65,560, and a buffer of just the rooms' total
unfoldable pub good_sizes : ℕ → ℕ → ℕ → Bool
good_sizes n R buffer =
    (leb 1 n && leb n channel_limit) && ((leb smallest_room R && leb R largest_room) && eqb buffer (room_start R n))

-- number 20 is given exactly where this does not hold
unfoldable pub good : Joiner → ℕ → Bool
good j buffer =
    good_sizes j.count j.room buffer && (every (good_channel j.room) (channels_of j) && distinct (senders_of j))

-- the look for a sender ID: at the joiner first, then at whose it is
unfoldable pub found_of : Joiner → ℕ → ℕ → Result (Option (ℕ × Channel)) Refusal
found_of j buffer x =
    let k = place_of (senders_of j) x in
    cond (good j buffer) (Ok (cond (ltb k j.count) (Some (k, channel_at j k)) None)) (Err NoJoiner)

unfoldable pub fresh_of : List ℕ → ℕ → Joiner
fresh_of ids R = record { channels = map new_channel ids ++ replicate (channel_limit - length ids) (new_channel 0); count = length ids; room = R }

unfoldable pub setup_of : List ℕ → ℕ → ℕ → Result Joiner Refusal
setup_of ids R buffer = cond (leb (length ids) channel_limit && good (fresh_of ids R) buffer) (Ok (fresh_of ids R)) (Err NoJoiner)

-- by cases: a set-up's number, which is 20, or 0 where it is accepted; and what a refusal leaves as it was
abbrev pub number_given : Result Joiner Refusal → ℕ
number_given (Ok j) = 0
number_given (Err e) = number_of e

abbrev pub left_over_by : {A : Type 0} → Result Joiner Refusal → A → A → A
left_over_by (Ok j) was new = new
left_over_by (Err e) was new = was

-- what is asked of a set-up, in 01's words
pub record Acceptable (ids : List ℕ) (R buffer : ℕ) : Type 0 where
  pub some : 1 ≤ length ids
  pub few : length ids ≤ channel_limit
  pub wide : smallest_room ≤ R
  pub narrow : R ≤ largest_room
  pub whole : buffer ≡ room_start R (length ids)
  pub range : (k : ℕ) → k < length ids → get_or ids k 0 < senders
  pub once : (a b : ℕ) → a < b → b < length ids → get_or ids a 0 ≡ get_or ids b 0 → ⊥
