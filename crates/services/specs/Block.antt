-- 02, request 8: "up to 256 services per Issue 3 platform": a block of words, and what is noted in it. Any words are a block: what
-- stands behind the first free word is not looked at.
use Rattle.std.specs.Prelude.{ℕ, zero, suc, ◌+◌, ◌-◌, ◌*◌, ◌/◌, Bool, cond, ◌&&◌, List, [], ◌∷◌, eqb, ltb, length, get_or, set}
use Rattle.wire.specs.Bytes.{number}
use Rattle.wire.specs.All.{all_below}
use Rattle.services.specs.declared.Availability.{Availability}
use Rattle.services.specs.Word.{is_free, is_place_for, says, word_for, unavailable_of}

abbrev pub services : ℕ
services = 256

-- 02: "a status that would need a 257th is refused with 63"
abbrev pub services_full : ℕ
services_full = 63

-- the first word that bears the ID or is free, and as many as there are where there is none
abbrev pub service_place : List ℕ → ℕ → ℕ
service_place [] id = 0
service_place (w ∷ ws) id = cond (is_place_for w id) 0 (suc (service_place ws id))

-- what is known of a service: as `get_or` has it, a word that is not there counts as 0, which is free
abbrev pub availability_in : List ℕ → ℕ → Availability
availability_in b id = says (get_or b (service_place b id) 0)

-- 001, Table 4, AVAILABILITY_STATUS: behind the count pairs of 8 bytes, a service's ID and its state
abbrev pub first_id : ℕ
first_id = 4

abbrev pub first_state : ℕ
first_state = 8

abbrev pub pair_bytes : ℕ
pair_bytes = 8

abbrev pub pairs_in : List ℕ → ℕ
pairs_in s = (length s - first_id) / pair_bytes

abbrev pub pair_id : List ℕ → ℕ → ℕ
pair_id s i = number 2 s (pair_bytes * i + first_id)

abbrev pub pair_state : List ℕ → ℕ → ℕ
pair_state s i = number 2 s (pair_bytes * i + first_state)

-- pair i told: its word at its place, where it has one
unfoldable pub pair_has_place : List ℕ → List ℕ → ℕ → Bool
pair_has_place b s i = ltb (service_place b (pair_id s i)) (length b)

unfoldable pub pair_told : List ℕ → List ℕ → ℕ → List ℕ
pair_told b s i = set b (service_place b (pair_id s i)) (word_for (pair_id s i) (pair_state s i))

-- the first i pairs told, from the left: so the last of two pairs of one service counts
unfoldable pub pairs_told : List ℕ → List ℕ → ℕ → List ℕ
pairs_told b s zero = b
pairs_told b s (suc i) = pair_told (pairs_told b s i) s i

-- each pair has a place when its turn comes
unfoldable pub has_place : List ℕ → List ℕ → ℕ → Bool
has_place b s i = pair_has_place (pairs_told b s i) s i

unfoldable pub all_have_places : List ℕ → List ℕ → Bool
all_have_places b s = all_below (has_place b s) (pairs_in s)

-- a block of another length takes nothing
unfoldable pub status_fits : List ℕ → List ℕ → Bool
status_fits b s = eqb (length b) services && all_have_places b s

unfoldable pub note_refusal : List ℕ → List ℕ → ℕ
note_refusal b s = cond (status_fits b s) 0 services_full

-- all or nothing
unfoldable pub status_noted : List ℕ → List ℕ → List ℕ
status_noted b s = cond (status_fits b s) (pairs_told b s (pairs_in s)) b

-- 001, 6.3: UP to DOWN marks all services of the sender UNAVAILABLE: those before the first free word
unfoldable pub marked : List ℕ → List ℕ
marked [] = []
marked (w ∷ ws) = cond (is_free w) (w ∷ ws) (unavailable_of w ∷ marked ws)
