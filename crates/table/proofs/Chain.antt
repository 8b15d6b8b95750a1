-- The sections of a table that were found: each lies behind the one before it, within its limit and the bytes.
-- Assumes nothing.
use Prim.Native.Nat.{ℕ, ◌+◌, ◌≤◌, ◌<◌}
use Rattle.std.specs.Prelude.{Result, Ok, Err}
use Rattle.refusal.specs.declared.Refusal.{Refusal}
use Rattle.refusal.specs.declared.Refusal.TheVariants.{TableLength}
use mathlib.Core.Path.{◌≡◌, refl, sym, subst, ◌∙◌}
use mathlib.Core.Bool.{Bool, true, false, cond}
use mathlib.Core.List.{List}
use native.Mathlib.Nat.{mul-le-mul_left}
use native.Mathlib.Omega.{arith}
use borrow.Author.Tests.{eqb-true, le-leb}
use lib.Dec.{eqb}
use lib.ListN.{length}
use Rattle.table.specs.declared.Section.{Section}
use Rattle.table.specs.declared.Sections.{Sections}
use Rattle.table.specs.Layout.{type_width, member_width, value_width, operation_width, most_types, most_members, most_values, most_operations}
use Rattle.table.specs.Layout.{entry_place, section_end, operations_end, section_at, after, ended, after_types, after_members, after_values, sections_of}
use Rattle.table.specs.Layout.{lies_in, within}
use Rattle.table.proofs.Places.{Holds, holds}

-- the sections that were found: each lies behind the one before it, and the last operation ends where the bytes end
pub record Chain (t : List ℕ) (s : Sections) : Type 0 where
  pub types : Holds type_width most_types t 0 s.types
  pub members : Holds member_width most_members t (section_end type_width s.types) s.members
  pub values : Holds value_width most_values t (section_end member_width s.members) s.values
  pub operations : Holds operation_width most_operations t (section_end value_width s.values) s.operations
  pub end : operations_end t s ≡ length t

-- a chain that ends in a table has each of its links
linked : (x : Result Section Refusal) (next : Section → Result Sections Refusal) (s : Sections) → after x next ≡ Ok s
    → (u : Section) × ((x ≡ Ok u) × (next u ≡ Ok s))
unfolding after
linked (Err n) next s e = absurd (let z : ◌≡◌ {A = ℕ} 0 1 = cc in omega arith)
linked (Ok u) next s e = (u, (refl, e))

pub finished : (b : Bool) (n : Refusal) (x s : Sections) → cond b (Ok x) (Err n) ≡ Ok s → (b ≡ true) × (x ≡ s)
finished true n x s e = (refl, cc)
finished false n x s e = absurd (let z : ◌≡◌ {A = ℕ} 0 1 = cc in omega arith)

pub chain : (t : List ℕ) (s : Sections) → sections_of t ≡ Ok s → Chain t s
unfolding sections_of after_types after_members after_values ended
chain t s e =
    let a = linked (section_at type_width 1 most_types t 0) (after_types t) s e in
    let b = linked (section_at member_width 0 most_members t (section_end type_width a.0)) (after_members t a.0) s a.1.1 in
    let c = linked (section_at value_width 0 most_values t (section_end member_width b.0)) (after_values t a.0 b.0) s b.1.1 in
    let d = linked (section_at operation_width 0 most_operations t (section_end value_width c.0))
    (λ (u : Section). ended t (record { types = a.0; members = b.0; values = c.0; operations = u })) s c.1.1 in
    let x : Sections = record { types = a.0; members = b.0; values = c.0; operations = d.0 } in
    let f = finished (eqb (operations_end t x) (length t)) TableLength x s d.1.1 in
    let y : Chain t x =
    record {
      types = holds type_width 1 most_types t 0 a.0 a.1.0;
      members = holds member_width 0 most_members t (section_end type_width a.0) b.0 b.1.0;
      values = holds value_width 0 most_values t (section_end member_width b.0) c.0 c.1.0;
      operations = holds operation_width 0 most_operations t (section_end value_width c.0) d.0 d.1.0;
      end = eqb-true (operations_end t x) (length t) f.0;
    } in
    subst (Chain t) {x = x} f.1 y

pub few_types : (t : List ℕ) (s : Sections) (r : Result Sections Refusal) → r ≡ sections_of t → r ≡ Ok s → s.types.count ≤ most_types
few_types t s r p h = (chain t s (sym p ∙ h)).types.few

-- every look-up of an entry that the section has lands inside it, and inside the bytes
pub lands_in_section : (w : ℕ) (x : Section) (i : ℕ) → i < x.count → entry_place w x i + w ≤ section_end w x
lands_in_section w x i h =
    let l : i + 1 ≤ x.count = omega arith in
    omega (arith, mul-le-mul_left w l)

pub lands : (w most : ℕ) (t : List ℕ) (p : ℕ) (x : Section) → Holds w most t p x → (i : ℕ) → i < x.count → entry_place w x i + w ≤ length t
lands w most t p x k i h = omega (arith, lands_in_section w x i h, k.ends)

lie : (w most : ℕ) (t : List ℕ) (p : ℕ) (x : Section) → Holds w most t p x → lies_in w most (length t) x ≡ true
unfolding lies_in
lie w most t p x k = rw (le-leb x.count most k.few, le-leb (section_end w x) (length t) k.ends) refl

pub chain_within : (t : List ℕ) (s : Sections) → Chain t s → within t s ≡ true
unfolding within
chain_within t s c =
    rw (
      lie type_width most_types t 0 s.types c.types,
      lie member_width most_members t (section_end type_width s.types) s.members c.members,
      lie value_width most_values t (section_end member_width s.members) s.values c.values,
      lie operation_width most_operations t (section_end value_width s.values) s.operations c.operations,
    )
    refl
