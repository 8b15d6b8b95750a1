-- The sections of a table in lent words: the first byte and the count of types, members, values and operations; behind these the
-- index of the operations, a word for each (operations/specs/Search).
use Rattle.std.specs.Prelude.{ℕ, ◌+◌, Bool, ◌&&◌, cond, List, [], ◌∷◌, ltb, get_or, drop}
use Rattle.table.specs.declared.Section.{Section}
use Rattle.table.specs.declared.Sections.{Sections}

abbrev pub bounds_words : ℕ
bounds_words = 8

abbrev pub index_in : List ℕ → List ℕ
index_in ws = drop bounds_words ws

abbrev pub word_limit : ℕ
word_limit = 65536

-- the two words at k are a section's
abbrev pub is_section : List ℕ → ℕ → Bool
is_section ws k = ltb (get_or ws k 0) word_limit && ltb (get_or ws (k + 1) 0) word_limit

abbrev pub section_in : List ℕ → ℕ → Section
section_in ws k = record { at = get_or ws k 0; count = get_or ws (k + 1) 0 }

abbrev pub are_sections : List ℕ → Bool
are_sections ws = is_section ws 0 && (is_section ws 2 && (is_section ws 4 && is_section ws 6))

-- more entries than any table has
abbrev pub nowhere : Section
nowhere = record { at = 0; count = 65535 }

abbrev pub outside : Sections
outside = record { types = nowhere; members = nowhere; values = nowhere; operations = nowhere }

-- words that are no sections stand for sections that lie in no table, which every call refuses
unfoldable pub sections_in : List ℕ → Sections
sections_in ws =
    cond (are_sections ws)
    (record { types = section_in ws 0; members = section_in ws 2; values = section_in ws 4; operations = section_in ws 6 })
    outside

-- and back
abbrev pub words_of : Sections → List ℕ
words_of s =
    s.types.at ∷ s.types.count ∷ s.members.at ∷ s.members.count ∷ s.values.at ∷ s.values.count
    ∷ s.operations.at ∷ s.operations.count ∷ []
