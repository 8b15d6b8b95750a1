-- A fresh platform's words; and who is UP, asked by number.
use Rattle.std.specs.Prelude.{ℕ, cond, List, ◌++◌}
use Rattle.states.specs.States.{stands_up}
use Rattle.pending.specs.PlainMap.{fresh_list}
use Rattle.platform.specs.Receiving.{fresh_standing}
use Rattle.platform_words.specs.Words.{states_in, standing_words}

-- nothing is pending
abbrev pub fresh_words : ℕ → List ℕ
fresh_words own = standing_words (fresh_standing own) ++ fresh_list

-- 1, or 0 where that platform is DOWN; one above 255 always is
abbrev pub up_number : ℕ → List ℕ → ℕ → ℕ
up_number own ws k = cond (stands_up own (states_in ws) k) 1 0
