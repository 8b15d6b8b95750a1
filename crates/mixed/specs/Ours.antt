-- 02, request 8: "our own services are arguments": words as those in which a partner's are kept (`services/specs/Word`), each of them one
-- service.
use Rattle.std.specs.Prelude.{ℕ, zero, suc, ◌/◌, ◌^◌, Bool, false, cond, List, eqb, length, get_or}
use Rattle.services.specs.Word.{is_of}

-- AVAILABLE where the state is 2, else UNAVAILABLE
abbrev pub is_available : ℕ → Bool
is_available w = eqb (w / 2 ^ 32) 2

-- what the first i words say of a service: of two with its ID the last counts, and UNAVAILABLE where none has it
unfoldable pub said_by : List ℕ → ℕ → ℕ → Bool
said_by ours id zero = false
said_by ours id (suc i) = cond (is_of (get_or ours i 0) id) (is_available (get_or ours i 0)) (said_by ours id i)

abbrev pub ours_available : List ℕ → ℕ → Bool
ours_available ours id = said_by ours id (length ours)
