-- 02, request 8: one service in one word: its ID, and as the upper half its state, 0 free, 1 UNAVAILABLE, 2 AVAILABLE. Any word is
-- one: another state is UNAVAILABLE.
use Rattle.std.specs.Prelude.{ℕ, ◌+◌, ◌*◌, ◌/◌, ◌%◌, ◌^◌, Bool, cond, ◌||◌, eqb}
use Rattle.services.specs.declared.Availability.{Availability}
use Rattle.services.specs.declared.Availability.TheVariants.{Unheard, Unavailable, Available}

abbrev pub service_id : ℕ → ℕ
service_id w = w % 2 ^ 32

abbrev pub is_free : ℕ → Bool
is_free w = eqb (w / 2 ^ 32) 0

abbrev pub is_of : ℕ → ℕ → Bool
is_of w id = eqb (service_id w) id

-- a service is noted where its ID stands, or in a word that is free
abbrev pub is_place_for : ℕ → ℕ → Bool
is_place_for w id = is_free w || is_of w id

-- what a word says of its service
unfoldable pub says : ℕ → Availability
says w = cond (is_free w) Unheard (cond (eqb (w / 2 ^ 32) 2) Available Unavailable)

-- 001, Table 4: a pair's state is 1 for AVAILABLE and 0 for UNAVAILABLE. Others are reserved, and count as UNAVAILABLE
unfoldable pub told_state : ℕ → Availability
told_state state = cond (eqb state 1) Available Unavailable

unfoldable pub word_for : ℕ → ℕ → ℕ
word_for id state = cond (eqb state 1) 2 1 * 2 ^ 32 + id

-- 001, 6.3: a service of a platform that went DOWN
abbrev pub unavailable_of : ℕ → ℕ
unavailable_of w = 1 * 2 ^ 32 + service_id w
