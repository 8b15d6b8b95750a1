-- What was heard, in lent words.
use Rattle.std.specs.Prelude.{ℕ, List, [], ◌∷◌, ◌++◌, take}
use Rattle.message.specs.declared.Header.{Header}
use Rattle.platform.specs.declared.reactions.Standing.{Standing}
use Rattle.platform.specs.declared.reactions.Heard.{Heard}
use Rattle.platform.specs.Heard.{kind_in, value_in, entry_in, start_in, length_in}
use Rattle.platform.specs.declared.Noting.{Noting}
use Rattle.platform.specs.declared.Noting.TheVariants.{Refused, Noted, Response}
use Rattle.platform.specs.declared.Received.{Received}
use Rattle.platform.specs.Noting.{left_over_by}
use Rattle.platform_words.specs.Words.{standing_length, standing_words}

-- what was heard is eight words: which kind, its value, the sender and the message's sequence number, the operation's entry, where
-- its payload starts and how long it is, and how many reply bytes were written
abbrev pub heard_words : Header → ℕ → Heard → List ℕ
heard_words h n x = kind_in x ∷ value_in h.id x ∷ h.platform ∷ h.sequence ∷ entry_in x ∷ start_in x ∷ length_in x ∷ n ∷ []

-- and so is the response to a request: a kind of its own, whose value is the operation's ID; nothing is owed
abbrev pub response_words : Header → ℕ → ℕ → ℕ → List ℕ
response_words h i start len = 9 ∷ h.id ∷ h.platform ∷ h.sequence ∷ i ∷ start ∷ len ∷ 0 ∷ []

-- a refusal leaves the answer as it is
abbrev pub answer_words : Noting → List ℕ → List ℕ
answer_words (Refused k) words = words
answer_words (Noted h x n) words = heard_words h n x
answer_words (Response h i start len) words = response_words h i start len

-- and the platform's first words: a platform of these words that keeps p and the list l afterwards
abbrev pub noted_words : Noting → Standing → List ℕ → List ℕ → List ℕ
noted_words a p ws l = left_over_by a (take standing_length ws) (standing_words p) ++ l

abbrev pub heard_after : Received → List ℕ → List ℕ
heard_after o words = answer_words o.answer words

abbrev pub platform_after : Received → List ℕ → List ℕ → List ℕ
platform_after o ws l = noted_words o.answer o.standing ws l
