-- What set-up and take answer in lent words: a joiner's and an answer's, each of its own fixed count.
use Rattle.std.specs.Prelude.{ℕ, List, [], ◌∷◌}
use Rattle.std.specs.Prelude.{Result, Ok, Err}
use Rattle.refusal.specs.declared.Refusal.{Refusal}
use Rattle.wire.specs.Bytes.{written}
use Rattle.binding.specs.Header.{sender_in}
use Rattle.channel.specs.Outcomes.{number_given, left_over_by, kind_in, missed_in, bytes_in, slice_in, start_in}
use Rattle.channel.specs.declared.Outcome.{Outcome}
use Rattle.joiner.specs.Setup.{setup_of, senders_of, place_of, channel_at}
use Rattle.joiner.specs.Setup as setup
use Rattle.joiner.specs.Take.{taken_of, rooms_after}
use Rattle.joiner.specs.declared.Joiner.{Joiner}
use Rattle.joiner.specs.declared.Taken.{Taken}
use Rattle.joiner.specs.JoinerWords.{record_at, joiner_in, record_words, words_of}

-- a joiner that was accepted, as words; where it was refused, the words that were there
abbrev pub accepted_words : Result Joiner Refusal → List ℕ → List ℕ
accepted_words (Err e) old = old
accepted_words (Ok j) old = words_of j

unfoldable pub setup_number : List ℕ → ℕ → ℕ → ℕ
setup_number ids R b = setup.number_given (setup_of ids R b)

unfoldable pub setup_words : List ℕ → ℕ → ℕ → List ℕ → List ℕ
setup_words ids R b ws = accepted_words (setup_of ids R b) ws

-- what an outcome is in words: which, missed, the bytes held or delivered, in which slice a delivered message lies (0 none, 1
-- the datagram, 2 the rooms), and from which byte on; where it is a refusal, the words that were there
abbrev pub outcome_words : Result Outcome Refusal → List ℕ → List ℕ
outcome_words o old = left_over_by o old (kind_in o ∷ missed_in o ∷ bytes_in o ∷ slice_in o ∷ start_in o ∷ [])

-- the words with channel k's record as it is in j
abbrev pub with_record : List ℕ → ℕ → Joiner → List ℕ
with_record ws k j = written ws (record_at k) (record_words (channel_at j k))

-- whose the datagram is
abbrev pub place_in : Joiner → List ℕ → ℕ
place_in j d = place_of (senders_of j) (sender_in d)

-- the words after a datagram was taken: the record of the channel whose it is
abbrev pub words_by : List ℕ → ℕ → Taken → List ℕ
words_by ws k t = left_over_by t.outcome ws (with_record ws k t.joiner)

unfoldable pub take_number : List ℕ → List ℕ → List ℕ → ℕ
take_number ws rooms d = number_given (taken_of (joiner_in ws) rooms d).outcome

unfoldable pub take_words : List ℕ → List ℕ → List ℕ → List ℕ
take_words ws rooms d = words_by ws (place_in (joiner_in ws) d) (taken_of (joiner_in ws) rooms d)

unfoldable pub take_rooms : List ℕ → List ℕ → List ℕ → List ℕ
take_rooms ws rooms d = rooms_after (joiner_in ws) rooms d

unfoldable pub take_answer : List ℕ → List ℕ → List ℕ → List ℕ → List ℕ
take_answer ws rooms d out = outcome_words (taken_of (joiner_in ws) rooms d).outcome out
