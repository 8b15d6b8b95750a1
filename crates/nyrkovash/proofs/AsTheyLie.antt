-- What the words of sections show where they are tested as they lie: it is `within` of the sections that they are.
-- Assumes nothing.
use Prim.Native.Nat.{ℕ, ◌+◌, ◌*◌, ◌%◌, ◌≤◌, ◌<◌}
use mathlib.Core.Path.{◌≡◌, refl, sym, ap, ◌∙◌}
use mathlib.Core.Bool.{Bool, true, false, ◌&&◌, cond}
use mathlib.Core.List.{List}
use native.Mathlib.Nat.{mul-le-mul}
use native.Mathlib.Omega.{arith}
use borrow.Author.Tests.{lt-ltb, ltb-true, lt-leb, le-leb}
use lib.Dec.{ltb, leb}
use lib.ListN.{length, get_or}
use mir.Syntax.{w16, w64}
use mir.Val.{Fits}
use Rattle.wire.proofs.Cond.{clash}
use Rattle.table.specs.declared.Sections.{Sections}
use Rattle.table.specs.Layout.{lies_in, within, type_width, member_width, value_width, operation_width}
use Rattle.table.specs.Layout.{most_types, most_members, most_values, most_operations}
use Rattle.table.specs.Words.{is_section, section_in, are_sections, outside, sections_in}
use Rattle.table.proofs.Storing.{outside_refused, operations-there, count_fits}

-- no section's end wraps
module _ (w n most : ℕ) (a : Fits w16 w) (b : Fits w16 most) (h : n ≤ most) where
  few : w * n ≤ 65535 * 65535
  few =
      let x : w ≤ 65535 = omega arith in
      let y : n ≤ 65535 = omega arith in
      mul-le-mul x y

  pub bytes_fit : Fits w64 (w * n)
  bytes_fit = record { fits = omega (arith, few) }

  pub end_fits : (p : ℕ) → Fits w64 (p % 65536 + w * n)
  end_fits p = record { fits = omega (arith, few) }

none : (u : Bool) {v : Bool} → v ≡ false → (u && v) ≡ false
none true e = e
none false e = refl

-- two tests that are the same where a third holds
under : (b x y : Bool) → (b ≡ true → x ≡ y) → (b && x) ≡ (b && true && (true && y))
under true x y f = f refl
under false x y f = refl

-- one section
abbrev pub lies : List ℕ → ℕ → ℕ → ℕ → ℕ → Bool
lies ws k w most len = is_section ws k && lies_in w most len (section_in ws k)

module _ (ws : List ℕ) (k w most len : ℕ) where
  pub too_many : most < get_or ws (k + 1) 0 → false ≡ lies ws k w most len
  unfolding lies_in
  too_many h =
      let e : (leb (get_or ws (k + 1) 0) most && leb (get_or ws k 0 + w * get_or ws (k + 1) 0) len) ≡ false = rw (lt-leb (get_or ws (k + 1) 0) most h) in
      sym (none (is_section ws k) e)

  pub tested : Fits w16 most → get_or ws (k + 1) 0 ≤ most
      → (ltb (get_or ws k 0) 65536 && leb (get_or ws k 0 % 65536 + w * get_or ws (k + 1) 0) len) ≡ lies ws k w most len
  unfolding lies_in
  tested m h =
      let p = get_or ws k 0 in
      let n = get_or ws (k + 1) 0 in
      let same : ltb p 65536 ≡ true → leb (p % 65536 + w * n) len ≡ leb (p + w * n) len = λ e.
      let l : p < 65536 = ltb-true p 65536 e in
      let r : p % 65536 ≡ p = omega arith in
      ap (λ (q : ℕ). leb (q + w * n) len) r in
      let few_enough : n < 65536 = omega arith in
      rw (lt-ltb n 65536 few_enough, le-leb n most h) (under (ltb p 65536) (leb (p % 65536 + w * n) len) (leb (p + w * n) len) same)

-- four tests in a row, each after the one before, are all of them
in_a_row : (u v w x : Bool) → (u && v && w && x) ≡ (u && (v && (w && x)))
in_a_row true true true x = refl
in_a_row true true false x = refl
in_a_row true false w x = refl
in_a_row false v w x = refl

each : (i j k l u v w x : Bool) → cond (i && (j && (k && l))) (u && v && w && x) false ≡ (i && u && (j && v && (k && w && (l && x))))
each true true true true u v w x = in_a_row u v w x
each true true true false u v w x = sym (none u (none v (none w refl)))
each true true false l u v w x = sym (none u (none v refl))
each true false k l u v w x = sym (none u refl)
each false j k l u v w x = refl

within_either : (t : List ℕ) (b : Bool) (s : Sections) → within t (cond b s outside) ≡ cond b (within t s) false
within_either t true s = refl
within_either t false s = outside_refused t

-- the four of them
module _ (t ws : List ℕ) where
  by-words : within t (sections_in ws)
      ≡ (lies ws 0 type_width most_types (length t) && (lies ws 2 member_width most_members (length t) && (lies ws 4 value_width most_values (length t)
      && lies ws 6 operation_width most_operations (length t))))
  unfolding sections_in within
  by-words =
      within_either t (are_sections ws)
      (record { types = section_in ws 0; members = section_in ws 2; values = section_in ws 4; operations = section_in ws 6 })
      ∙ each (is_section ws 0) (is_section ws 2) (is_section ws 4) (is_section ws 6) (lies_in type_width most_types (length t) (section_in ws 0))
      (lies_in member_width most_members (length t) (section_in ws 2)) (lies_in value_width most_values (length t) (section_in ws 4))
      (lies_in operation_width most_operations (length t) (section_in ws 6))

  module _ {a : Bool} (ea : a ≡ lies ws 0 type_width most_types (length t)) where
    pub no-types : a ≡ false → false ≡ within t (sections_in ws)
    no-types f = sym (by-words ∙ rw (sym ea ∙ f))

    module _ (fa : a ≡ true) {b : Bool} (eb : b ≡ lies ws 2 member_width most_members (length t)) where
      pub no-members : b ≡ false → false ≡ within t (sections_in ws)
      no-members f = sym (by-words ∙ rw (sym ea ∙ fa, sym eb ∙ f))

      module _ (fb : b ≡ true) {c : Bool} (ec : c ≡ lies ws 4 value_width most_values (length t)) where
        pub no-values : c ≡ false → false ≡ within t (sections_in ws)
        no-values f = sym (by-words ∙ rw (sym ea ∙ fa, sym eb ∙ fb, sym ec ∙ f))

        pub by-the-last : {d : Bool} → c ≡ true → d ≡ lies ws 6 operation_width most_operations (length t) → d ≡ within t (sections_in ws)
        by-the-last f ed = ed ∙ sym (by-words ∙ rw (sym ea ∙ fa, sym eb ∙ fb, sym ec ∙ f))

-- sections that lie in the bytes are those that the words are: how many operations
module _ (t ws : List ℕ) {b : Bool} (e : b ≡ within t (sections_in ws)) (f : b ≡ true) where
  are : (i : Bool) → i ≡ are_sections ws → i ≡ true
  unfolding sections_in
  are true g = refl
  are false g =
      let h : sections_in ws ≡ outside = rw (sym g) in
      absurd (clash (e ∙ ap (within t) h ∙ outside_refused t) f)

  pub operations-fit : Fits w16 (get_or ws 7 0)
  operations-fit = count_fits ws 6 (operations-there ws {t = are_sections ws} refl (are (are_sections ws) refl)) refl

  pub operations-count : get_or ws 7 0 ≡ (sections_in ws).operations.count
  unfolding sections_in
  operations-count = rw (are (are_sections ws) refl)
