-- What the rule of an entry's fields comes to, return by return.
-- Assumes nothing.
use Prim.Native.Nat.{ℕ, ◌+◌, ◌≤◌}
use mathlib.Core.Path.{◌≡◌, refl, sym, ◌∙◌}
use mathlib.Core.Bool.{Bool, true, false, ◌&&◌}
use borrow.Author.Tests.{ne_eqb, leb-true}
use lib.Dec.{leb, eqb}
use Rattle.table.specs.declared.Sections.{Sections}
use Rattle.table.specs.declared.Entry.{Entry}
use Rattle.table.specs.Leaf.{is_enum_base}
use Rattle.table.specs.Fields.{base_fields, enum_fields, record_fields, element_fields, fields_ok}
use Rattle.wire.proofs.Cond.{and_left, and_right}

pub three : (a b c : Bool) → (a && b && c) ≡ true → (a ≡ true) × ((b ≡ true) × (c ≡ true))
three a b c h = (and_left a b (and_left (a && b) c h), (and_right a b (and_left (a && b) c h), and_right (a && b) c h))

-- the fields, by the kind
module _ (s : Sections) (i : ℕ) (e : Entry) (r : Bool) where
  pub base-entry : e.kind ≡ 0 → r ≡ base_fields e → r ≡ fields_ok s i e
  unfolding fields_ok
  base-entry k h = rw k h

  pub enum-entry : e.kind ≡ 1 → r ≡ enum_fields s e → r ≡ fields_ok s i e
  unfolding fields_ok
  enum-entry k h = rw k h

  pub record-entry : e.kind ≡ 2 → r ≡ record_fields s e → r ≡ fields_ok s i e
  unfolding fields_ok
  record-entry k h = rw k h

  pub fixed-entry : e.kind ≡ 3 → r ≡ element_fields i e → r ≡ fields_ok s i e
  unfolding fields_ok
  fixed-entry k h = rw k h

  pub array-entry : e.kind ≡ 4 → r ≡ element_fields i e → r ≡ fields_ok s i e
  unfolding fields_ok
  array-entry k h = rw k h

pub no_entry : (s : Sections) (i : ℕ) (e : Entry) → (e.kind ≡ 0 → ⊥) → (e.kind ≡ 1 → ⊥) → (e.kind ≡ 2 → ⊥) → (e.kind ≡ 3 → ⊥)
    → (e.kind ≡ 4 → ⊥) → false ≡ fields_ok s i e
unfolding fields_ok
no_entry s i e a b c d f = simp (ne_eqb e.kind 0 a, ne_eqb e.kind 1 b, ne_eqb e.kind 2 c, ne_eqb e.kind 3 d, ne_eqb e.kind 4 f)

-- an entry whose fields pass points into its section
module _ (s : Sections) (i : ℕ) (e : Entry) (f : Bool) (p : f ≡ fields_ok s i e) (h : f ≡ true) where
  enum_passes : e.kind ≡ 1 → enum_fields s e ≡ true
  enum_passes k = enum-entry s i e (enum_fields s e) k refl ∙ sym p ∙ h

  pub enum_code : e.kind ≡ 1 → is_enum_base e.of ≡ true
  enum_code k = (three (is_enum_base e.of) (leb 1 e.count) (leb (e.first + e.count) s.values.count) (enum_passes k)).0

  pub enum-inside : e.kind ≡ 1 → e.first + e.count ≤ s.values.count
  enum-inside k = leb-true (e.first + e.count) s.values.count
      (three (is_enum_base e.of) (leb 1 e.count) (leb (e.first + e.count) s.values.count) (enum_passes k)).1.1

  pub record-inside : e.kind ≡ 2 → e.first + e.count ≤ s.members.count
  record-inside k =
      leb-true (e.first + e.count) s.members.count
      (three (eqb e.of 0) (leb 1 e.count) (leb (e.first + e.count) s.members.count)
      (record-entry s i e (record_fields s e) k refl ∙ sym p ∙ h)).1.1
