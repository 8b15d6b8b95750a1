-- A platform in lent words: four of states, platform k being bit k % 64 of word k / 64; the next own sequence number, which
-- counts modulo 2 ^ 32; and the list of the requests that are pending (pending/specs/Places). So any words are a platform. A word
-- that is missing is 0.
use Rattle.std.specs.Prelude.{ℕ, ◌%◌, ◌^◌, cond, List, [], ◌∷◌, ◌++◌, leb, length, get_or, drop}
use Rattle.states.specs.declared.States.{States}
use Rattle.platform.specs.declared.reactions.Standing.{Standing}

abbrev pub platform_words : ℕ
platform_words = 133

-- the words of the states and of the next own number
abbrev pub standing_length : ℕ
standing_length = 5

abbrev pub states_in : List ℕ → States
states_in ws = record { w0 = get_or ws 0 0; w1 = get_or ws 1 0; w2 = get_or ws 2 0; w3 = get_or ws 3 0 }

abbrev pub next_in : List ℕ → ℕ
next_in ws = get_or ws 4 0 % 2 ^ 32

abbrev pub standing_in : List ℕ → Standing
standing_in ws = record { states = states_in ws; next = next_in ws }

-- the list of the requests that are pending
abbrev pub pending_in : List ℕ → List ℕ
pending_in ws = drop standing_length ws

-- and back: a platform that keeps p and the list l is `standing_words p ++ l`
abbrev pub standing_words : Standing → List ℕ
standing_words p = p.states.w0 ∷ p.states.w1 ∷ p.states.w2 ∷ p.states.w3 ∷ p.next ∷ []

-- words that keep p from now on, with their list; fewer than a standing has stay as they are
abbrev pub with_standing : List ℕ → Standing → List ℕ
with_standing ws p = cond (leb standing_length (length ws)) (standing_words p ++ pending_in ws) ws
