-- What is known of an entry that is met, whose fields keep their rule: of a leaf, that its code is small, that it has no more values
-- than the table, and that only an enum has some; of a record and an array, that it has a part at least.
-- Assumes nothing.
use Prim.Native.Nat.{ℕ, ◌+◌, ◌≤◌, ◌<◌}
use mathlib.Core.Path.{◌≡◌, refl, ◌∙◌}
use mathlib.Core.Bool.{Bool, true, false, ◌&&◌, ◌||◌, cond}
use mathlib.Core.Logic.{⊎_elim}
use mathlib.Core.List.{List}
use native.Mathlib.Omega.{arith}
use borrow.Author.Tests.{leb-true, leb-false, eqb-true, eqb-false, ne_eqb}
use lib.Dec.{ltb, leb, eqb}
use Rattle.wire.proofs.Cond.{both, either, clash}
use Rattle.table.specs.declared.Sections.{Sections}
use Rattle.table.specs.declared.Entry.{Entry}
use Rattle.table.specs.Entries.{type_at}
use Rattle.table.specs.Leaf.{is_base, is_enum_base}
use Rattle.table.specs.Fields.{base_fields, enum_fields, record_fields, element_fields, fields_ok}
use Rattle.table.proofs.Fields.{three, base-entry, enum-entry, record-entry}
use Rattle.walk.specs.declared.Met.{Met}
use Rattle.walk.specs.declared.Met.TheVariants.{Leaf, Members, Elements, Broken}
use Rattle.walk.specs.Tree.{by_kind, look}

pub record LeafOk (s : Sections) (e : Entry) : Type 0 where
  pub code : e.of < 256
  pub values : e.count ≤ s.values.count
  pub all : (e.kind ≡ 1 → ⊥) → e.count ≡ 0
  pub own : e.kind ≡ 1 → 1 ≤ e.count

abbrev pub MetOk : Sections → Met → Type 0
MetOk s (Leaf e) = LeafOk s e
MetOk s (Members e) = 1 ≤ e.count
MetOk s (Elements e) = 1 ≤ e.count
MetOk s Broken = 0 ≤ 1

enum_few : (code : ℕ) → is_enum_base code ≡ true → code < 256
enum_few code h =
    ⊎_elim
    (λ (e : eqb code 1 ≡ true). omega (arith, eqb-true code 1 e))
    (λ (e : (leb 3 code && leb code 10) ≡ true). omega (arith, leb-true code 10 (both (leb 3 code) (leb code 10) e).1))
    (either (eqb code 1) (leb 3 code && leb code 10) h)

else_true : (b : Bool) (a : Bool) → cond b a false ≡ true → a ≡ true
else_true true a h = h
else_true false a h = absurd (clash refl h)

module _ (s : Sections) (i : ℕ) (e : Entry) (h : fields_ok s i e ≡ true) where
  base_ok : e.kind ≡ 0 → LeafOk s e
  base_ok k =
      let f = three (is_base e.of) (eqb e.first 0) (eqb e.count 0) (base-entry s i e (base_fields e) k refl ∙ h) in
      let n : e.count ≡ 0 = eqb-true e.count 0 f.1.1 in
      record { code = omega (arith, leb-true e.of 12 f.0); values = omega arith; all = λ d. n; own = λ d. absurd (omega arith) }

  enum_ok : e.kind ≡ 1 → LeafOk s e
  enum_ok k =
      let f = three (is_enum_base e.of) (leb 1 e.count) (leb (e.first + e.count) s.values.count)
      (enum-entry s i e (enum_fields s e) k refl ∙ h) in
      record {
        code = enum_few e.of f.0;
        values = omega (arith, leb-true (e.first + e.count) s.values.count f.1.1);
        all = λ d. absurd (d k);
        own = λ d. leb-true 1 e.count f.1.0;
      }

  record-ok : e.kind ≡ 2 → 1 ≤ e.count
  record-ok k =
      leb-true 1 e.count
      (three (eqb e.of 0) (leb 1 e.count) (leb (e.first + e.count) s.members.count) (record-entry s i e (record_fields s e) k refl ∙ h)).1.0

  array_ok : 1 < e.kind → (e.kind ≡ 2 → ⊥) → 1 ≤ e.count
  unfolding fields_ok
  array_ok k d =
      let g : cond (eqb e.kind 3 || eqb e.kind 4) (element_fields i e) false ≡ true =
      rw (ne_eqb e.kind 0 (λ q. omega arith), ne_eqb e.kind 1 (λ q. omega arith), ne_eqb e.kind 2 d) at h in
      leb-true 1 e.count
      (three (ltb e.of i) (eqb e.first 0) (leb 1 e.count) (else_true (eqb e.kind 3 || eqb e.kind 4) (element_fields i e) g)).1.1

  leaf-ok : e.kind ≤ 1 → LeafOk s e
  leaf-ok l = go (eqb e.kind 0) refl
    where
      go : (b : Bool) → eqb e.kind 0 ≡ b → LeafOk s e
      go true k = base_ok (eqb-true e.kind 0 k)
      go false k = let d : e.kind ≡ 0 → ⊥ = eqb-false e.kind 0 k in enum_ok (omega arith)

  entry-ok : MetOk s (by_kind e)
  unfolding by_kind
  entry-ok = go (leb e.kind 1) (eqb e.kind 2) refl refl
    where
      go : (a b : Bool) → leb e.kind 1 ≡ a → eqb e.kind 2 ≡ b → MetOk s (by_kind e)
      go true b p q = rw p (leaf-ok (leb-true e.kind 1 p))
      go false true p q = rw (p, q) (record-ok (eqb-true e.kind 2 q))
      go false false p q = rw (p, q) (array_ok (leb-false e.kind 1 p) (eqb-false e.kind 2 q))

pub met_ok : (t : List ℕ) (s : Sections) (i : ℕ) → MetOk s (look t s i)
unfolding look
met_ok t s i = go (fields_ok s i (type_at t s i)) refl
  where
    go : (b : Bool) → fields_ok s i (type_at t s i) ≡ b → MetOk s (look t s i)
    go true h = rw h (entry-ok s i (type_at t s i) h)
    go false h = rw h (omega arith)
