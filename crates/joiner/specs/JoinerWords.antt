-- A joiner in lent words of 32 bits: the channel count, the room size, and for channel k four words from 2 + 4 k on: sender
-- ID, seen (0 or 1), last counter, bytes held.
use Rattle.std.specs.Prelude.{ℕ, zero, suc, ◌+◌, ◌-◌, ◌*◌, Bool, ◌&&◌, cond, List, [], ◌∷◌, ◌++◌, leb, ltb, eqb, get_or, replicate}
use Rattle.wire.specs.All.{all_below}
use Rattle.channel.specs.Record.{channel_limit, new_channel}
use Rattle.channel.specs.declared.Channel.{Channel}
use Rattle.joiner.specs.Setup.{fresh_of}
use Rattle.joiner.specs.declared.Joiner.{Joiner}

-- where channel k's record starts; where the record behind the last would start is the count of words
abbrev pub record_at : ℕ → ℕ
record_at k = 2 + 4 * k

abbrev pub joiner_words : ℕ
joiner_words = record_at channel_limit

abbrev pub sender_limit : ℕ
sender_limit = 65536

abbrev pub seen_limit : ℕ
seen_limit = 2

-- the record of channel k
abbrev pub record_in : List ℕ → ℕ → Channel
record_in ws k =
    record {
      sender = get_or ws (record_at k) 0;
      seen = eqb (get_or ws (record_at k + 1) 0) 1;
      last = get_or ws (record_at k + 2) 0;
      held = get_or ws (record_at k + 3) 0;
    }

-- the sender ID is of 16 bits, and seen is 0 or 1
abbrev pub is_record : List ℕ → ℕ → Bool
is_record ws k = ltb (get_or ws (record_at k) 0) sender_limit && ltb (get_or ws (record_at k + 1) 0) seen_limit

-- the first n records
abbrev pub are_records : List ℕ → ℕ → Bool
are_records ws n = all_below (is_record ws) n

abbrev pub records_in : List ℕ → ℕ → List Channel
records_in ws zero = []
records_in ws (suc n) = records_in ws n ++ (record_in ws n ∷ [])

-- the first n records of the words, and fresh ones behind them
abbrev pub channels_in : List ℕ → ℕ → List Channel
channels_in ws n = records_in ws n ++ replicate (channel_limit - n) (new_channel 0)

abbrev pub is_joiner : List ℕ → Bool
is_joiner ws = leb (get_or ws 0 0) channel_limit && are_records ws (get_or ws 0 0)

-- words that are no joiner stand for the joiner of no channels, which every call refuses
unfoldable pub joiner_in : List ℕ → Joiner
joiner_in ws =
    cond (is_joiner ws)
    (record { channels = channels_in ws (get_or ws 0 0); count = get_or ws 0 0; room = get_or ws 1 0 })
    (fresh_of [] 0)

-- and back
abbrev pub record_words : Channel → List ℕ
record_words ch = ch.sender ∷ cond ch.seen 1 0 ∷ ch.last ∷ ch.held ∷ []

abbrev pub records_words : List Channel → List ℕ
records_words [] = []
records_words (ch ∷ chs) = record_words ch ++ records_words chs

-- a joiner of more channels than there can be is stored as one of none
unfoldable pub words_of : Joiner → List ℕ
words_of j = cond (leb j.count channel_limit) (j.count ∷ j.room ∷ records_words j.channels) (replicate joiner_words 0)
