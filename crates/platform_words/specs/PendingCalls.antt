-- 02, request 1: a request given up, and what is pending under a number, in lent words.
use Rattle.std.specs.Prelude.{ℕ, cond, List, [], ◌∷◌, ◌++◌, take}
use Rattle.std.specs.Prelude.{Option, Some, None}
use Rattle.pending.specs.Free.{is_pending}
use Rattle.pending.specs.Answers.{awaited_of, cancelled}
use Rattle.platform_words.specs.Words.{standing_length, pending_in}

-- "A cancel by number frees a lost one's place": 1 if the number was pending, else 0
abbrev pub cancel_count : List ℕ → ℕ → ℕ
cancel_count ws n = cond (is_pending (pending_in ws) n) 1 0

abbrev pub cancel_words : List ℕ → ℕ → List ℕ
cancel_words ws n = take standing_length ws ++ cancelled (pending_in ws) n

-- what is pending under a number: 1, the ID and the target, or three zeros
abbrev pub asked_words : Option (ℕ × ℕ) → List ℕ
asked_words (Some (id, target)) = 1 ∷ id ∷ target ∷ []
asked_words None = 0 ∷ 0 ∷ 0 ∷ []

abbrev pub awaited_words : List ℕ → ℕ → List ℕ
awaited_words ws n = asked_words (awaited_of (pending_in ws) n)
