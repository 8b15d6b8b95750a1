-- 02, request 8: ways to keep services that are wrong in one place alone. Each is shown not to meet `ServicesBy`, by a small status or by
-- a full block. The theorems are in proofs/WrongServices.antt.
use Rattle.std.specs.Prelude.{ℕ, zero, suc, cond, List, replicate}
use Rattle.services.specs.Block.{pairs_in, pair_told, pairs_told, status_fits, note_refusal, status_noted, marked}
use Rattle.promises.specs.Services.{Keeping, ServicesBy}

-- the 257th dropped and the rest noted
abbrev pub dropping : Keeping
dropping = record { answer = λ b s. 0; after = λ b s. pairs_told b s (pairs_in s); down = marked }

-- 63 with those noted that had a place
abbrev pub noting_some : Keeping
noting_some = record { answer = note_refusal; after = λ b s. pairs_told b s (pairs_in s); down = marked }

-- the first of two pairs wins: the pairs are told from the right
unfoldable pub told_from_right : List ℕ → List ℕ → ℕ → List ℕ
told_from_right b s zero = b
told_from_right b s (suc i) = told_from_right (pair_told b s i) s i

abbrev pub first_wins : Keeping
first_wins = record { answer = note_refusal; after = λ b s. cond (status_fits b s) (told_from_right b s (pairs_in s)) b; down = marked }

-- a status takes the place of what was known
abbrev pub replacing : Keeping
replacing = record { answer = note_refusal; after = λ b s. cond (status_fits b s) (status_noted (replicate 256 0) s) b; down = marked }

-- at DOWN services are forgotten, or left as they were
abbrev pub forgetting : Keeping
forgetting = record { answer = note_refusal; after = status_noted; down = λ b. replicate 256 0 }

abbrev pub leaving : Keeping
leaving = record { answer = note_refusal; after = status_noted; down = λ b. b }

pub record NoWrongKeeping : Type 0 where
  pub drops : ¬ (ServicesBy dropping)
  pub notes_some : ¬ (ServicesBy noting_some)
  pub first-wins : ¬ (ServicesBy first_wins)
  pub replaces : ¬ (ServicesBy replacing)
  pub forgets : ¬ (ServicesBy forgetting)
  pub leaves : ¬ (ServicesBy leaving)
