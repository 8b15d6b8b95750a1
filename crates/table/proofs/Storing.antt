-- The sections in their words: what reading shows, that words that are no sections are refused by every call, and that the
-- words of sections read back as those sections.
-- Assumes nothing.
use Prim.Native.Nat.{ℕ, ◌+◌, ◌<◌}
use mathlib.Core.Path.{◌≡◌, refl, sym, ◌∙◌}
use mathlib.Core.Bool.{Bool, true, false, ◌&&◌}
use mathlib.Core.List.{List, ◌++◌}
use native.Mathlib.Omega.{arith}
use borrow.Author.Tests.{ltb-true, lt-ltb}
use mir.Syntax.{w16}
use mir.Val.{Fits}
use lib.Dec.{ltb}
use lib.ListN.{get_or}
use Rattle.wire.proofs.Cond.{and_left, and_right}
use Rattle.table.specs.declared.Section.{Section}
use Rattle.table.specs.declared.Sections.{Sections}
use Rattle.table.specs.Layout.{within, lies_in}
use Rattle.table.specs.Words.{word_limit, is_section, section_in, are_sections, outside, sections_in, words_of}

-- one section
module _ (ws : List ℕ) (k : ℕ) where
  pub first_fits : {a : ℕ} → is_section ws k ≡ true → a ≡ get_or ws k 0 → Fits w16 a
  first_fits t e =
      let h : get_or ws k 0 < word_limit = ltb-true (get_or ws k 0) word_limit (and_left (ltb (get_or ws k 0) word_limit) (ltb (get_or ws (k + 1) 0) word_limit) t) in
      record { fits = omega arith }

  pub count_fits : {a : ℕ} → is_section ws k ≡ true → a ≡ get_or ws (k + 1) 0 → Fits w16 a
  count_fits t e =
      let h : get_or ws (k + 1) 0 < word_limit = ltb-true (get_or ws (k + 1) 0) word_limit
      (and_right (ltb (get_or ws k 0) word_limit) (ltb (get_or ws (k + 1) 0) word_limit) t) in
      record { fits = omega arith }

-- the four of them
module _ (ws : List ℕ) where
  module _ {t : Bool} (e : t ≡ are_sections ws) where
    pub no-sections : t ≡ false → outside ≡ sections_in ws
    unfolding sections_in
    no-sections f = rw (sym e ∙ f)

    module _ (f : t ≡ true) where
      all : (is_section ws 0 && (is_section ws 2 && (is_section ws 4 && is_section ws 6))) ≡ true
      all = sym e ∙ f

      pub types_there : is_section ws 0 ≡ true
      types_there = and_left (is_section ws 0) (is_section ws 2 && (is_section ws 4 && is_section ws 6)) all

      behind : (is_section ws 2 && (is_section ws 4 && is_section ws 6)) ≡ true
      behind = and_right (is_section ws 0) (is_section ws 2 && (is_section ws 4 && is_section ws 6)) all

      pub members_there : is_section ws 2 ≡ true
      members_there = and_left (is_section ws 2) (is_section ws 4 && is_section ws 6) behind

      pub values_there : is_section ws 4 ≡ true
      values_there = and_left (is_section ws 4) (is_section ws 6) (and_right (is_section ws 2) (is_section ws 4 && is_section ws 6) behind)

      pub operations-there : is_section ws 6 ≡ true
      operations-there = and_right (is_section ws 4) (is_section ws 6) (and_right (is_section ws 2) (is_section ws 4 && is_section ws 6) behind)

      pub sections-in : {a b c d : Section} → a ≡ section_in ws 0 → b ≡ section_in ws 2 → c ≡ section_in ws 4 → d ≡ section_in ws 6
          → record { types = a; members = b; values = c; operations = d } ≡ sections_in ws
      unfolding sections_in
      sections-in ea eb ec ed = rw (sym e ∙ f, ea, eb, ec, ed)

-- words that are no sections lie in no table
pub outside_refused : (t : List ℕ) → within t outside ≡ false
unfolding within lies_in
outside_refused t = refl

-- each number of a section is one of 16 bits
pub record Narrow (s : Section) : Type 0 where
  pub at : s.at < word_limit
  pub count : s.count < word_limit

-- the words of sections, whatever stands behind them, read back as those sections
pub read_back : (s : Sections) (ws : List ℕ) → Narrow s.types → Narrow s.members → Narrow s.values → Narrow s.operations
    → sections_in (words_of s ++ ws) ≡ s
unfolding sections_in
read_back s ws a b c d =
    rw (
      lt-ltb s.types.at word_limit a.at,
      lt-ltb s.types.count word_limit a.count,
      lt-ltb s.members.at word_limit b.at,
      lt-ltb s.members.count word_limit b.count,
      lt-ltb s.values.at word_limit c.at,
      lt-ltb s.values.count word_limit c.count,
      lt-ltb s.operations.at word_limit d.at,
      lt-ltb s.operations.count word_limit d.count,
    )
