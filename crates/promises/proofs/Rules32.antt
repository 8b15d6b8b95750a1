-- What a check tests of an entry is 01's rule for it.
-- Assumes nothing.
use Prim.{Unit}
use Prim.Native.Nat.{ℕ, zero, suc, ◌+◌, ◌≤◌, ◌<◌}
use mathlib.Core.Path.{◌≡◌, refl, subst}
use mathlib.Core.Bool.{Bool, true, false, ◌&&◌}
use mathlib.Core.Logic.{◌↔◌}
use mathlib.Core.List.{List}
use native.Mathlib.Omega.{arith}
use borrow.Author.Tests.{ne_eqb, leb-true, leb-false}
use lib.Dec.{eqb, leb, ltb}
use Rattle.table.specs.declared.Sections.{Sections}
use Rattle.table.specs.declared.Entry.{Entry}
use Rattle.wire.specs.All.{all_below}
use Rattle.table.specs.Entries.{type_at, member_at, value_at}
use Rattle.table.specs.Leaf.{is_enum_base}
use Rattle.table.specs.Fields.{fields_ok}
use Rattle.wire.proofs.AllBelow.{at-below}
use Rattle.wire.proofs.Cond.{clash}
use Rattle.types.specs.Values.{value_ok, unlike, unlike_before, distinct, values_ok}
use Rattle.types.specs.Rules.{member_ok, members_ok, pointed_ok, type_ok}
use Rattle.operations.specs.Rules.{operation_ok}
use Rattle.promises.specs.Rules32.{kind_of, of_of, first_of, count_of, member_in, value_in}
use Rattle.promises.specs.Rules32.{BaseRule, AllowedIn, EnumRule, RecordRule, ArrayRule, TypeRule, TypeKeeps, Rules32}
use Rattle.promises.proofs.Checks.{Decides, lt_decides, le_decides, eq_decides, not_decides, and_decides, decides_same}
use Rattle.promises.proofs.OperationRules.{operation-decides}
use Rattle.promises.proofs.EnumWords.{EnumBase, base_decides, word-decides}

-- some entry fails where not all pass
pub some_below : (f : ℕ → Bool) (n : ℕ) → all_below f n ≡ false → (i : ℕ) × (i < n) × (f i ≡ false)
unfolding all_below
some_below f zero e = let z : ◌≡◌ {A = ℕ} 0 1 = cc in absurd (omega arith)
some_below f (suc n) e = go (λ q. some_below f n q) (all_below f n) refl (f n) refl e
  where
    widen : (i : ℕ) × (i < n) × (f i ≡ false) → (i : ℕ) × (i < suc n) × (f i ≡ false)
    widen r = (r.0, (let l : r.0 < n = r.1 in omega arith), r.2)

    go : (all_below f n ≡ false → (i : ℕ) × (i < n) × (f i ≡ false)) → (a : Bool) → all_below f n ≡ a → (b : Bool) → f n ≡ b → (a && b)
        ≡ false → (i : ℕ) × (i < suc n) × (f i ≡ false)
    go before false ea b eb q = widen (before ea)
    go before true ea false eb q = (n, omega arith, eb)
    go before true ea true eb q = let z : ◌≡◌ {A = ℕ} 0 1 = cc in absurd (omega arith)

-- a test that always holds; a test that follows another; one of every entry
always : Decides true (Unit {0})
always = record { yes_is = λ e. tt; no_is = λ e. let z : ◌≡◌ {A = ℕ} 0 1 = cc in absurd (omega arith) }

and_then : {A B : Type 0} (a b : Bool) → Decides a A → (A → Decides b B) → Decides (a && b) (A × B)
and_then true b d f =
    let x = d.yes_is refl in
    record { yes_is = λ e. (x, (f x).yes_is e); no_is = λ e p. (f x).no_is e p.1 }
and_then false b d f = record { yes_is = λ e. let z : ◌≡◌ {A = ℕ} 0 1 = cc in absurd (omega arith); no_is = λ e p. d.no_is refl p.0 }

every : (f : ℕ → Bool) (P : ℕ → Type 0) (n : ℕ) → ((k : ℕ) → Decides (f k) (P k)) → Decides (all_below f n) ((k : ℕ) → k < n → P k)
every f P n d =
    record {
      yes_is = λ e k l. (d k).yes_is (at-below f n k e l);
      no_is = λ e g. let r : (i : ℕ) × (i < n) × (f i ≡ false) = some_below f n e in (d r.0).no_is r.2 (g r.0 r.1);
    }

-- type i with these numbers
module _ (t : List ℕ) (s : Sections) (i : ℕ) where
  abbrev entry : ℕ → ℕ → ℕ → ℕ → Entry
  entry kind of first count = record { kind = kind; of = of; first = first; count = count }

  abbrev passes : Entry → Bool
  passes e = fields_ok s i e && pointed_ok t s i e

  module _ (of first count : ℕ) where
    is_base : Decides (passes (entry 0 of first count)) (BaseRule of first count)
    unfolding fields_ok pointed_ok
    is_base =
        decides_same
        (and_decides (leb of 12 && eqb first 0 && eqb count 0) true
        (and_decides (leb of 12 && eqb first 0) (eqb count 0)
        (and_decides (leb of 12) (eqb first 0) (le_decides of 12) (eq_decides first 0)) (eq_decides count 0)) always)
        (λ p. record { code = p.0.0.0; first_unused = p.0.0.1; count_unused = p.0.1 })
        (λ r. (((r.code, r.first_unused), r.count_unused), tt))

    values-allowed : EnumBase of → Decides (all_below (value_ok t s (entry 1 of first count)) count)
        ((k : ℕ) → k < count → AllowedIn of (value_in t s (first + k)))
    unfolding value_ok value_at
    values-allowed b = every _ _ count (λ k. word-decides (value_in t s (first + k)) of b)

    values-distinct : Decides (distinct t s (entry 1 of first count))
        ((k : ℕ) → k < count → (j : ℕ) → j < k → ¬ (value_in t s (first + j) ≡ value_in t s (first + k)))
    unfolding distinct unlike_before unlike value_at
    values-distinct =
        every _ _ count (λ k.
        every _ _ k (λ j.
        not_decides (eqb (value_in t s (first + j)) (value_in t s (first + k))) (eq_decides (value_in t s (first + j)) (value_in t s (first + k)))))

    is-enum : Decides (passes (entry 1 of first count)) (EnumRule t s of first count)
    unfolding fields_ok pointed_ok values_ok
    is-enum =
        let e : Entry = entry 1 of first count in
        let values : ℕ = s.values.count in
        decides_same
        (and_then (is_enum_base of && leb 1 count && leb (first + count) values) (all_below (value_ok t s e) count && distinct t s e)
        (and_decides (is_enum_base of && leb 1 count) (leb (first + count) values)
        (and_decides (is_enum_base of) (leb 1 count) (base_decides of) (le_decides 1 count)) (le_decides (first + count) values))
        (λ p. and_decides (all_below (value_ok t s e) count) (distinct t s e) (values-allowed p.0.0) values-distinct))
        (λ p. record { code = p.0.0.0; some = p.0.0.1; lie = p.0.1; allowed = p.1.0; distinct = p.1.1 })
        (λ r. (((r.code, r.some), r.lie), (r.allowed, r.distinct)))

    is-record : Decides (passes (entry 2 of first count)) (RecordRule t s i of first count)
    unfolding fields_ok pointed_ok members_ok member_ok member_at
    is-record =
        let e : Entry = entry 2 of first count in
        let members : ℕ = s.members.count in
        decides_same
        (and_decides (eqb of 0 && leb 1 count && leb (first + count) members) (all_below (member_ok t s i e) count)
        (and_decides (eqb of 0 && leb 1 count) (leb (first + count) members)
        (and_decides (eqb of 0) (leb 1 count) (eq_decides of 0) (le_decides 1 count)) (le_decides (first + count) members))
        (every _ _ count (λ k. lt_decides (member_in t s (first + k)) i)))
        (λ p. record { of_unused = p.0.0.0; some = p.0.0.1; lie = p.0.1; smaller = p.1 })
        (λ r. (((r.of_unused, r.some), r.lie), r.smaller))

    array-decides : Decides (ltb of i && eqb first 0 && leb 1 count && true) (ArrayRule i of first count)
    array-decides =
        decides_same
        (and_decides (ltb of i && eqb first 0 && leb 1 count) true
        (and_decides (ltb of i && eqb first 0) (leb 1 count)
        (and_decides (ltb of i) (eqb first 0) (lt_decides of i) (eq_decides first 0)) (le_decides 1 count)) always)
        (λ p. record { smaller = p.0.0.0; first_unused = p.0.0.1; some = p.0.1 })
        (λ r. (((r.smaller, r.first_unused), r.some), tt))

    is-fixed : Decides (passes (entry 3 of first count)) (ArrayRule i of first count)
    unfolding fields_ok pointed_ok
    is-fixed = array-decides

    is-array : Decides (passes (entry 4 of first count)) (ArrayRule i of first count)
    unfolding fields_ok pointed_ok
    is-array = array-decides

    abbrev at : ℕ → Bool
    at kind = passes (entry kind of first count)

    unknown : (kind : ℕ) → 4 < kind → at kind ≡ false
    unfolding fields_ok pointed_ok
    unknown kind l =
        rw (
          ne_eqb kind 0 (λ e. omega arith),
          ne_eqb kind 1 (λ e. omega arith),
          ne_eqb kind 2 (λ e. omega arith),
          ne_eqb kind 3 (λ e. omega arith),
          ne_eqb kind 4 (λ e. omega arith),
        )

    known-kind : (kind : ℕ) → at kind ≡ true → kind ≤ 4
    known-kind kind q = go (leb kind 4) refl
      where
        go : (b : Bool) → leb kind 4 ≡ b → kind ≤ 4
        go true e = leb-true kind 4 e
        go false e = absurd (clash (unknown kind (leb-false kind 4 e)) q)

    fails : (kind : ℕ) → at kind ≡ false → TypeRule t s i kind of first count → ⊥
    fails zero q r = is_base.no_is q (r.base refl)
    fails (suc zero) q r = is-enum.no_is q (r.enum refl)
    fails (suc (suc zero)) q r = is-record.no_is q (r.of_members refl)
    fails (suc (suc (suc zero))) q r = is-fixed.no_is q (r.fixed_array refl)
    fails (suc (suc (suc (suc zero)))) q r = is-array.no_is q (r.array refl)
    fails (suc (suc (suc (suc (suc n))))) q r = omega (arith, r.known)

    keeps : (kind : ℕ) → at kind ≡ true → TypeRule t s i kind of first count
    keeps kind q =
        let alike : (k : ℕ) → kind ≡ k → at k ≡ true = λ k e. subst (λ (x : ℕ). at x ≡ true) e q in
        record {
          known = known-kind kind q;
          base = λ e. is_base.yes_is (alike 0 e);
          enum = λ e. is-enum.yes_is (alike 1 e);
          of_members = λ e. is-record.yes_is (alike 2 e);
          fixed_array = λ e. is-fixed.yes_is (alike 3 e);
          array = λ e. is-array.yes_is (alike 4 e);
        }

  pub type-decides : Decides (type_ok t s i) (TypeKeeps t s i)
  unfolding type_ok type_at
  type-decides =
      record {
        yes_is = keeps (of_of t s i) (first_of t s i) (count_of t s i) (kind_of t s i);
        no_is = fails (of_of t s i) (first_of t s i) (count_of t s i) (kind_of t s i);
      }

-- a decided test, both ways
pub both_ways : {A : Type 0} (b : Bool) → Decides b A → (b ≡ true) ↔ A
both_ways true d = (d.yes_is, λ a. refl)
both_ways false d = (d.yes_is, λ a. absurd (d.no_is refl a))

pub rules_32 : Rules32
rules_32 =
    record {
      types = λ t s i. both_ways (type_ok t s i) (type-decides t s i);
      operations = λ t s i. both_ways (operation_ok t s.operations.at s.types.count i) (operation-decides t s i);
    }
