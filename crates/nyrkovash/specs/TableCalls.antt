-- What checking a table and looking up an operation answer, and what they leave in what is lent to them.
use Rattle.std.specs.Prelude.{ℕ, cond, List, [], ◌∷◌, ◌++◌}
use Rattle.std.specs.Prelude.{Result, Ok, Err}
use Rattle.refusal.specs.declared.Refusal.{Refusal}
use Rattle.std.specs.Prelude.{Option, Some, None}
use Rattle.table.specs.declared.Sections.{Sections}
use Rattle.table.specs.Layout.{cut_short, within}
use Rattle.table.specs.Checked.{number_given}
use Rattle.operations.specs.declared.Operation.{Operation}
use Rattle.operations.specs.Entries.{operation_at}
use Rattle.operations.specs.Search.{indexed, sought_in}
use Rattle.types.specs.Table.{checked}
use Rattle.table.specs.Words.{words_of, index_in}

-- the sections in their words, and behind these the index of the operations; words behind the last operation's stay
abbrev pub sections_words : List ℕ → List ℕ → Sections → List ℕ
sections_words t was s = words_of s ++ indexed t s.operations.at s.operations.count (index_in was)

-- at a refusal, 30 to 33, all words stay as they were
abbrev pub sections_left : List ℕ → List ℕ → Result Sections Refusal → List ℕ
sections_left t was (Err n) = was
sections_left t was (Ok s) = sections_words t was s

abbrev pub check_number : List ℕ → ℕ
check_number t = number_given (checked t)

abbrev pub check_answer : List ℕ → List ℕ → List ℕ
check_answer t was = sections_left t was (checked t)

-- an operation looked up is four words: whether there is one, its kind, the type that it carries, and that of its response
abbrev pub operation_words : Operation → List ℕ
operation_words o = 1 ∷ o.kind ∷ o.carries ∷ o.responds ∷ []

abbrev pub found_words : List ℕ → Option (ℕ × ℕ) → List ℕ
found_words t (Some (i, p)) = operation_words (operation_at t p)
found_words t None = 0 ∷ 0 ∷ 0 ∷ 0 ∷ []

-- 30 where the sections do not lie in the bytes, and the answer as it was; else by the index that stands behind them
abbrev pub find_number : List ℕ → Sections → ℕ
find_number t s = cond (within t s) 0 cut_short

abbrev pub find_answer : List ℕ → Sections → List ℕ → ℕ → List ℕ → List ℕ
find_answer t s index id answer = cond (within t s) (found_words t (sought_in t index s.operations.count id)) answer
