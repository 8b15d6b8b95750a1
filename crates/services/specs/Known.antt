-- 02, request 8: "a status that would need a 257th": which services are known, with those that a status names; and what a block says
-- of a service after a status, and after its platform went DOWN.
use Rattle.std.specs.Prelude.{ℕ, zero, suc, ◌≡◌, Bool, true, false, cond, ◌||◌, List, [], ◌∷◌, ◌++◌, eqb}
use Prim.{Unit}
use Rattle.services.specs.declared.Availability.{Availability}
use Rattle.services.specs.declared.Availability.TheVariants.{Unheard, Unavailable, Available}
use Rattle.services.specs.Word.{service_id, is_free, told_state}
use Rattle.services.specs.Block.{pair_id, pair_state}

-- the services that are known: the IDs before the first free word
unfoldable pub known : List ℕ → List ℕ
known [] = []
known (w ∷ ws) = cond (is_free w) [] (service_id w ∷ known ws)

-- behind the first free word there is no service: so it is at the start, and so it stays
unfoldable pub Packed : List ℕ → Type 0
Packed [] = Unit {0}
Packed (w ∷ ws) = (is_free w ≡ true → known ws ≡ []) × Packed ws

-- an ID among others, and with them
unfoldable pub is_in : ℕ → List ℕ → Bool
is_in x [] = false
is_in x (y ∷ ys) = eqb y x || is_in x ys

unfoldable pub with : List ℕ → ℕ → List ℕ
with ks x = cond (is_in x ks) ks (ks ++ (x ∷ []))

-- no ID twice
unfoldable pub NoneTwice : List ℕ → Type 0
NoneTwice [] = Unit {0}
NoneTwice (y ∷ ys) = (is_in y ys ≡ false) × NoneTwice ys

-- the services that are known with those that the first i pairs name, each once
unfoldable pub known_with : List ℕ → List ℕ → ℕ → List ℕ
known_with ks s zero = ks
known_with ks s (suc i) = with (known_with ks s i) (pair_id s i)

-- what is known of a service after the first i pairs: what the last pair that names it says, and as before where none does
unfoldable pub last_told : Availability → List ℕ → ℕ → ℕ → Availability
last_told before s zero x = before
last_told before s (suc i) x = cond (eqb (pair_id s i) x) (told_state (pair_state s i)) (last_told before s i x)

abbrev pub is_heard : Availability → Bool
is_heard Unheard = false
is_heard Unavailable = true
is_heard Available = true

-- what is known of a service after its platform went DOWN
abbrev pub when_down : Availability → Availability
when_down Unheard = Unheard
when_down Unavailable = Unavailable
when_down Available = Unavailable
