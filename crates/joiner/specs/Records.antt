-- What the look at a joiner in lent words goes by: its records as the words have them.
use Rattle.std.specs.Prelude.{ℕ, ◌+◌, ◌≤◌, ◌≡◌, Bool, ◌&&◌, cond, List, leb, ltb, length, get_or}
use Rattle.std.specs.Prelude.{Option, Some, None}
use Rattle.channel.specs.declared.Channel.{Channel}
use Rattle.wire.specs.All.{all_below}
use Rattle.binding.specs.Header.{senders, counters}
use Rattle.channel.specs.Record.{channel_limit}
use Rattle.joiner.specs.Setup.{senders_of, distinct}
use Rattle.joiner.specs.declared.Joiner.{Joiner}
use Rattle.joiner.specs.JoinerWords.{record_at, joiner_words, seen_limit, record_in, channels_in}

-- the words of a joiner, of no more channels than there can be
pub record Sized (ws : List ℕ) : Type 0 where
  pub words : length ws ≡ joiner_words
  pub few : get_or ws 0 0 ≤ channel_limit

-- what the words stand for, where they are a joiner's
abbrev pub stored_in : List ℕ → Joiner
stored_in ws = record { channels = channels_in ws (get_or ws 0 0); count = get_or ws 0 0; room = get_or ws 1 0 }

abbrev pub senders_in : List ℕ → List ℕ
senders_in ws = senders_of (stored_in ws)

-- a record, and a good one
abbrev pub good_record : List ℕ → ℕ → Bool
good_record ws k =
    (ltb (get_or ws (record_at k) 0) senders && ltb (get_or ws (record_at k + 1) 0) seen_limit)
    && (ltb (get_or ws (record_at k + 2) 0) counters && leb (get_or ws (record_at k + 3) 0) (get_or ws 1 0))

abbrev pub good_records : List ℕ → ℕ → Bool
good_records ws n = all_below (good_record ws) n

unfoldable pub are_good : List ℕ → Bool
are_good ws = good_records ws (get_or ws 0 0) && distinct (senders_in ws)

-- the record at a place, where there is one
unfoldable pub found_at : List ℕ → ℕ → Option (ℕ × Channel)
found_at ws k = cond (ltb k (get_or ws 0 0)) (Some (k, record_in ws k)) None
