-- The rules of the types, gone through in two passes: what both come to, return by return.
-- Assumes nothing.
use Rattle.std.proofs.Common.{◌≡◌, ℕ, zero, suc, ◌+◌, ◌<◌, ◌≤◌, Bool, true, false, cond, ◌&&◌, eqb, leb, List, get_or, sym, refl, ap, ◌∙◌, arith, w8, Fits, ltb-true, eq-eqb, ne_eqb, eqb-true, le-leb}
use Rattle.wire.specs.Bytes.{Octets}
use Rattle.table.specs.declared.Sections.{Sections}
use Rattle.table.specs.declared.Entry.{Entry}
use Rattle.wire.specs.All.{all_below}
use Rattle.table.specs.Layout.{most_values}
use Rattle.table.specs.Entries.{type_at, member_at}
use Rattle.types.specs.Values.{value_ok, distinct, values_ok}
use Rattle.types.specs.Alike.{values_apart, enum_apart, all_apart}
use Rattle.types.proofs.AllOf.{same_below}
use Rattle.types.specs.Rules.{member_ok, members_ok, pointed_ok, type_ok}
use Rattle.table.specs.Fields.{fields_ok}
use Rattle.types.specs.Inside.{Lying}
use Rattle.types.specs.Lawful.{Lawful, Smaller}
use Rattle.types.specs.Table.{operations_keep, entries_ok}
use Rattle.types.specs.Passes.{in_order, quick_ok, enum_ok, loose_ok, enum_distinct}
use Rattle.wire.proofs.Cond.{and_left, and_right}
use Rattle.wire.proofs.AllBelow.{at-below, next-below, stop-below, done_below}
use Rattle.types.proofs.ValueRules.{order-ok}
use Rattle.table.proofs.Fields.{enum_code, enum-inside, record-inside}
use Rattle.types.proofs.TypeRules.{points-to-members}

-- one type, as `quick_ok` and `enum_ok` see it
module _ (t : List ℕ) (s : Sections) (i : ℕ) (e : Entry) (is : e ≡ type_at t s i) (f : Bool) (p : f ≡ fields_ok s i e) where
  pub quick-enum : (r : Bool) → f ≡ true → e.kind ≡ 1 → r ≡ in_order t s e → r ≡ quick_ok t s i
  unfolding quick_ok
  quick-enum r h k q = rw (← is, ← p, h, eq-eqb e.kind 1 k) q

  pub quick-record : (r : Bool) → f ≡ true → e.kind ≡ 2 → r ≡ members_ok t s i e → r ≡ quick_ok t s i
  unfolding quick_ok
  quick-record r h k q =
      let a : eqb e.kind 1 ≡ false = ap (λ (n : ℕ). eqb n 1) k in
      rw (← is, ← p, h, a, eq-eqb e.kind 2 k) q

  pub quick-rest : f ≡ true → (e.kind ≡ 1 → ⊥) → (e.kind ≡ 2 → ⊥) → true ≡ quick_ok t s i
  unfolding quick_ok
  quick-rest h a b = rw (← is, ← p, h, ne_eqb e.kind 1 a, ne_eqb e.kind 2 b) refl

  pub quick-bad : f ≡ false → false ≡ quick_ok t s i
  unfolding quick_ok
  quick-bad h = rw (← is, ← p, h) refl

  pub enum-good : (r : Bool) → (f && eqb e.kind 1) ≡ true → r ≡ all_below (value_ok t s e) e.count → r ≡ enum_ok t s i
  unfolding enum_ok
  enum-good r h q = rw (← is, ← p, h) q

  pub enum_bad : (f && eqb e.kind 1) ≡ false → false ≡ enum_ok t s i
  unfolding enum_ok
  enum_bad h = rw (← is, ← p, h) refl

-- fields, what is an enum's and what another kind's, with the enum's part judged in two ways
apart : (f k a d m : Bool) → (f && cond k (a && d) m) ≡ ((f && cond k a m) && cond k d true)
apart false k a d m = refl
apart true true a d m = refl
apart true false a d true = refl
apart true false a d false = refl

instead : (f k a b m : Bool) → (f && cond k a m) ≡ true → (f ≡ true → k ≡ true → a ≡ true → b ≡ true) → (f && cond k b m) ≡ true
instead false k a b m h n = h
instead true true a b m h n = n refl refl h
instead true false a b m h n = h

neither : (f k a b d m : Bool) → (f && cond k b m) ≡ false → (f && k && a) ≡ false → (f && cond k (a && d) m) ≡ false
neither false k a b d m p q = refl
neither true true false b d m p q = refl
neither true true true b d m p q = absurd (let z : ◌≡◌ {A = ℕ} 0 1 = cc in omega arith)
neither true false a b d m p q = p

enum_part : (f k a m : Bool) → (f && k && a) ≡ true → (f && cond k a m) ≡ true
enum_part false k a m h = h
enum_part true true a m h = h
enum_part true false a m h = absurd (let z : ◌≡◌ {A = ℕ} 0 1 = cc in omega arith)

module _ (t : List ℕ) (s : Sections) (i : ℕ) where
  rest : Bool
  rest = cond (eqb (type_at t s i).kind 2) (members_ok t s i (type_at t s i)) true

  split : type_ok t s i ≡ (loose_ok t s i && enum_distinct t s i)
  unfolding type_ok pointed_ok values_ok loose_ok enum_distinct rest
  split =
      apart (fields_ok s i (type_at t s i)) (eqb (type_at t s i).kind 1) (all_below (value_ok t s (type_at t s i)) (type_at t s i).count)
      (distinct t s (type_at t s i)) rest

  quick-type : Octets t → quick_ok t s i ≡ true → type_ok t s i ≡ true
  unfolding quick_ok type_ok pointed_ok rest
  quick-type o h =
      instead (fields_ok s i (type_at t s i)) (eqb (type_at t s i).kind 1) (in_order t s (type_at t s i)) (values_ok t s (type_at t s i)) rest h
      (λ f k q. order-ok t s (type_at t s i) o (enum_code s i (type_at t s i) true (sym f) refl (eqb-true (type_at t s i).kind 1 k)) q)

  type-loose : type_ok t s i ≡ true → loose_ok t s i ≡ true
  type-loose h = and_left (loose_ok t s i) (enum_distinct t s i) (sym split ∙ h)

  enum_loose : enum_ok t s i ≡ true → loose_ok t s i ≡ true
  unfolding enum_ok loose_ok rest
  enum_loose h = enum_part (fields_ok s i (type_at t s i)) (eqb (type_at t s i).kind 1) (all_below (value_ok t s (type_at t s i)) (type_at t s i).count) rest h

  no_type : quick_ok t s i ≡ false → enum_ok t s i ≡ false → type_ok t s i ≡ false
  unfolding quick_ok enum_ok type_ok pointed_ok values_ok rest
  no_type p q =
      neither (fields_ok s i (type_at t s i)) (eqb (type_at t s i).kind 1) (all_below (value_ok t s (type_at t s i)) (type_at t s i).count)
      (in_order t s (type_at t s i)) (distinct t s (type_at t s i)) rest p q

  -- the loop over the types
  module _ (q : Bool) (p : q ≡ quick_ok t s i) where
    pub quick-loose : ((j : ℕ) → Fits w8 (get_or t j 0)) → q ≡ true → all_below (loose_ok t s) i ≡ true → all_below (loose_ok t s) (i + 1) ≡ true
    quick-loose o h a = next-below (loose_ok t s) i true a (sym (type-loose (quick-type (λ j. (o j).fits) (sym p ∙ h)))) refl

    pub quick-next : ((j : ℕ) → Fits w8 (get_or t j 0)) → (b : Bool) → q ≡ true → (b ≡ true → all_below (type_ok t s) i ≡ true) → b ≡ true
        → all_below (type_ok t s) (i + 1) ≡ true
    quick-next o b h a g = next-below (type_ok t s) i true (a g) (sym (quick-type (λ j. (o j).fits) (sym p ∙ h))) refl

    pub types-end : (r : Bool) (n : ℕ) → r ≡ enum_ok t s i → q ≡ false → r ≡ false → i < n → false ≡ all_below (type_ok t s) n
    types-end r n u h g l = stop-below (type_ok t s) n i false (sym (no_type (sym p ∙ h) (sym u ∙ g))) refl l

  pub loose-next : (r : Bool) → r ≡ enum_ok t s i → r ≡ true → all_below (loose_ok t s) i ≡ true → all_below (loose_ok t s) (i + 1) ≡ true
  loose-next r u h a = next-below (loose_ok t s) i true a (sym (enum_loose (sym u ∙ h))) refl

  pub loose_at : (n : ℕ) → all_below (loose_ok t s) n ≡ true → i < n → loose_ok t s i ≡ true
  loose_at n a l = at-below (loose_ok t s) n i a l

  pub loose-inside : (e : Entry) → e ≡ type_at t s i → loose_ok t s i ≡ true → e.kind ≡ 1 → e.first + e.count ≤ s.values.count
  unfolding loose_ok rest
  loose-inside e is h k =
      enum-inside s i e true (sym
      (ap (fields_ok s i) is ∙ and_left (fields_ok s i (type_at t s i))
      (cond (eqb (type_at t s i).kind 1) (all_below (value_ok t s (type_at t s i)) (type_at t s i).count) rest) h)) refl k

  -- and so being distinct is all that is left to see of an enum
  apart-loose : loose_ok t s i ≡ true → enum_apart t s i ≡ enum_distinct t s i
  unfolding enum_apart values_apart enum_distinct
  apart-loose h = go (eqb (type_at t s i).kind 1) refl
    where
      go : (b : Bool) → eqb (type_at t s i).kind 1 ≡ b
          → cond b (leb ((type_at t s i).first + (type_at t s i).count) s.values.count && distinct t s (type_at t s i)) true
          ≡ cond b (distinct t s (type_at t s i)) true
      go true p = rw (le-leb ((type_at t s i).first + (type_at t s i).count) s.values.count
          (loose-inside (type_at t s i) refl h (eqb-true (type_at t s i).kind 1 p))) refl
      go false p = refl

-- types that keep their rules, as the sizes want them
pub kept_record : (t : List ℕ) (s : Sections) (n i m : ℕ) (e : Entry) → Lawful t s n → i < n → e ≡ type_at t s i → m ≡ i → e.kind ≡ 2
    → Smaller t s m e.first e.count
unfolding type_ok members_ok member_ok
kept_record t s n i m e k l is g h =
    let a : type_ok t s i ≡ true = at-below (type_ok t s) n i k.keep l in
    let f : fields_ok s i e ≡ true = ap (fields_ok s i) is ∙ and_left (fields_ok s i (type_at t s i)) (pointed_ok t s i (type_at t s i)) a in
    let p : pointed_ok t s i e ≡ true = ap (pointed_ok t s i) is ∙ and_right (fields_ok s i (type_at t s i)) (pointed_ok t s i (type_at t s i)) a in
    let b : members_ok t s i e ≡ true = points-to-members t s i e (members_ok t s i e) h refl ∙ p in
    record {
      lie = k.lie;
      there = record-inside s i e true (sym f) refl h;
      smaller = λ j c. omega (arith, ltb-true (member_at t s (e.first + j)) i (at-below (member_ok t s i e) e.count j b c));
    }

pub entries_kept : (t : List ℕ) (s : Sections) (a : Bool) → Lying t s → a ≡ entries_ok t s → a ≡ true → Lawful t s s.types.count
unfolding entries_ok
entries_kept t s a l p h =
    record {
      lie = l;
      few = omega arith;
      keep = and_left (all_below (type_ok t s) s.types.count) (operations_keep t s) (sym p ∙ h);
    }

-- both passes together
both_passes : (t : List ℕ) (s : Sections) (n : ℕ) → all_below (loose_ok t s) n ≡ true → all_below (enum_distinct t s) n ≡ all_below (type_ok t s) n
unfolding all_below
both_passes t s zero a = refl
both_passes t s (suc n) a =
    let h : loose_ok t s n ≡ true = and_right (all_below (loose_ok t s) n) (loose_ok t s n) a in
    rw (both_passes t s n (and_left (all_below (loose_ok t s) n) (loose_ok t s n) a), split t s n, h) refl

module _ (t : List ℕ) (s : Sections) (i n : ℕ) (a : all_below (loose_ok t s) i ≡ true) (h : i ≤ n) (l : n ≤ i) where
  pub loose-all : all_below (loose_ok t s) n ≡ true
  loose-all = sym (done_below (loose_ok t s) n i a h l)

pub types_compared : (t : List ℕ) (s : Sections) (i : ℕ) (r : Bool) → Lying t s → all_below (loose_ok t s) i ≡ true → i ≤ s.types.count
    → s.types.count ≤ i → r ≡ all_apart t s → r ≡ all_below (type_ok t s) s.types.count
unfolding all_apart
types_compared t s i r l a h g q =
    let n : ℕ = s.types.count in
    let b : all_below (loose_ok t s) n ≡ true = loose-all t s i n a h g in
    (rw (le-leb s.values.count most_values l.few_values) at q)
    ∙ same_below (enum_apart t s) (enum_distinct t s) n (λ k j. apart-loose t s k (loose_at t s k n b j))
    ∙ both_passes t s n b

pub not_risen : (t : List ℕ) (s : Sections) (n : ℕ) → false ≡ true → all_below (type_ok t s) n ≡ true
not_risen t s n h = absurd (let z : ◌≡◌ {A = ℕ} 0 1 = cc in omega arith)
