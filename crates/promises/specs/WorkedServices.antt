-- 02, request 8: the 257th service, worked out: 250 services are known. The theorem is in proofs/WorkedServices.antt.
use Rattle.std.specs.Prelude.{ℕ, zero, suc, ◌+◌, ◌≡◌, List, [], ◌∷◌, ◌++◌, replicate}
use Rattle.wire.specs.Bytes.{bytes}
use Rattle.services.specs.declared.Availability.TheVariants.{Unheard, Unavailable, Available}
use Rattle.services.specs.Word.{word_for}
use Rattle.services.specs.Block.{availability_in, note_refusal, status_noted}

-- the services n, n - 1 and so down to 1, all AVAILABLE; and 250 of them in 256 words
abbrev pub full : ℕ → List ℕ
full zero = []
full (suc n) = word_for (suc n) 1 ∷ full n

abbrev pub block250 : List ℕ
block250 = full 250 ++ replicate 6 0

-- a payload: a pair for each service from `first` on, n of them, all told UNAVAILABLE
abbrev pub pair : ℕ → ℕ → List ℕ
pair id state = bytes 2 id ++ bytes 2 state

abbrev pub pairs_from : ℕ → ℕ → List ℕ
pairs_from first zero = []
pairs_from first (suc n) = pair first 0 ++ pairs_from (first + 1) n

abbrev pub telling : ℕ → ℕ → List ℕ
telling first n = bytes 2 n ++ pairs_from first n

pub record WorkedServices : Type 0 where
  -- six new ones have a place, 251 to 256
  pub six_new : note_refusal block250 (telling 251 6) ≡ 0
  pub noted : availability_in (status_noted block250 (telling 251 6)) 256 ≡ Unavailable
  pub not_named : availability_in (status_noted block250 (telling 251 6)) 250 ≡ Available
  -- seven new ones are 63, and not one of them is noted
  pub seven_new : note_refusal block250 (telling 251 7) ≡ 63
  pub none_noted : availability_in (status_noted block250 (telling 251 7)) 251 ≡ Unheard
  -- seven pairs that name six new ones, and one that is known, have a place
  pub one_known : note_refusal block250 (telling 250 7) ≡ 0
  pub told_anew : availability_in (status_noted block250 (telling 250 7)) 250 ≡ Unavailable
