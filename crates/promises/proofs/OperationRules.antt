-- What a check tests of an operation is the papers' rule for it; and where the operations stand, in their numbers.
-- Assumes nothing.
use Prim.Native.Nat.{ℕ, zero, suc, ◌+◌, ◌-◌, ◌≤◌, ◌<◌}
use mathlib.Core.Path.{◌≡◌, refl, sym, ap, subst}
use mathlib.Core.Bool.{Bool, true, false, cond, ◌&&◌, ◌||◌}
use mathlib.Core.Logic.{◌⊎◌, inl, inr, ⊎_elim}
use mathlib.Core.List.{List}
use native.Mathlib.Omega.{arith}
use lib.Dec.{eqb, leb, ltb}
use Rattle.wire.specs.All.{above}
use Rattle.wire.specs.Bytes.{number}
use Rattle.table.specs.declared.Sections.{Sections}
use Rattle.operations.specs.Entries.{width_of, kind_at, op_width, op_place, response_at, operation_at, id_at}
use Rattle.operations.specs.Rules.{fields_ok, operation_ok}
use Rattle.promises.specs.Rules32.{operation_place, id_of, operation_kind, operation_type, response_type}
use Rattle.promises.specs.Rules32.{TypeOrNone, its_type, none, Carries, a_type, nothing, a_request, OperationKeeps}
use Rattle.promises.proofs.Checks.{Decides, lt_decides, le_decides, eq_decides, or_decides, and_decides, decides_same}

-- where the n-th stands, and its ID
module _ (t : List ℕ) (s : Sections) where
  pub place_is : (n : ℕ) → op_place t s.operations.at n ≡ operation_place t s n
  unfolding op_place op_width width_of kind_at
  place_is zero = refl
  place_is (suc n) = ap (λ (p : ℕ). p + op_width t p) (place_is n)

  pub id_is : (n : ℕ) → id_at t s.operations.at n ≡ id_of t s n
  unfolding id_at
  id_is n = ap (number 2 t) (place_is n)

-- IDs rise
module _ (t : List ℕ) (s : Sections) (i : ℕ) where
  before : ℕ
  before = id_of t s (i - 1)

  this : ℕ
  this = id_of t s i

  some : (n : ℕ) → ¬ (n ≡ 0) → 1 ≤ n
  some zero z = absurd (z refl)
  some (suc n) z = omega arith

  is-above : above (id_at t s.operations.at) i ≡ (eqb i 0 || ltb before this)
  unfolding above before this
  is-above = rw (id_is t s (i - 1), id_is t s i) refl

  rises-decides : Decides (eqb i 0 || ltb before this) (1 ≤ i → before < this)
  rises-decides = decides_same (or_decides (eqb i 0) (ltb before this) (eq_decides i 0) (lt_decides before this)) there back
    where
      there : (i ≡ 0) ⊎ (before < this) → 1 ≤ i → before < this
      there (inl e) l = absurd (omega arith)
      there (inr r) l = r

      back : (1 ≤ i → before < this) → (i ≡ 0) ⊎ (before < this)
      back f = go (eqb i 0) refl
        where
          go : (b : Bool) → eqb i 0 ≡ b → (i ≡ 0) ⊎ (before < this)
          go true e = inl ((eq_decides i 0).yes_is e)
          go false e = inr (f (some i ((eq_decides i 0).no_is e)))

-- what it carries
module _ (s : Sections) where
  abbrev typeOr : ℕ → Bool
  typeOr type = ltb type s.types.count || eqb type 0xFFFF

  type-or-none : (type : ℕ) → Decides (typeOr type) (TypeOrNone s type)
  type-or-none type =
      decides_same (or_decides (ltb type s.types.count) (eqb type 0xFFFF) (lt_decides type s.types.count) (eq_decides type 0xFFFF)) there back
    where
      there : (type < s.types.count) ⊎ (type ≡ 0xFFFF) → TypeOrNone s type
      there (inl l) = its_type l
      there (inr e) = none e

      back : TypeOrNone s type → (type < s.types.count) ⊎ (type ≡ 0xFFFF)
      back (its_type l) = inl l
      back (none e) = inr e

  -- the type of a response stands in a wide entry only
  request-decides : {A : Type 0} (type response : ℕ) (w : Bool) → Decides w A
      → Decides (w && (typeOr type && typeOr (cond w response 0xFFFF))) (A × (TypeOrNone s type × TypeOrNone s response))
  request-decides type response true d =
      and_decides true (typeOr type && typeOr response) d (and_decides (typeOr type) (typeOr response) (type-or-none type) (type-or-none response))
  request-decides type response false d =
      record { yes_is = λ e. let z : ◌≡◌ {A = ℕ} 0 1 = cc in absurd (omega arith); no_is = λ e p. d.no_is refl p.0 }

  abbrev Either : ℕ → ℕ → ℕ → Type 0
  Either kind type response =
      (((kind ≤ 1) × (type < s.types.count)) ⊎ ((kind ≡ 0) × (type ≡ 0xFFFF)))
      ⊎ (((kind ≡ 2) ⊎ (kind ≡ 3)) × (TypeOrNone s type × TypeOrNone s response))

  abbrev carried : ℕ → ℕ → ℕ → Bool
  carried kind type response =
      ((leb kind 1 && ltb type s.types.count) || (eqb kind 0 && eqb type 0xFFFF))
      || ((eqb kind 2 || eqb kind 3) && (typeOr type && typeOr (cond (eqb kind 2 || eqb kind 3) response 0xFFFF)))

  event-or-data : (k : ℕ) → k ≤ 1 → (k ≡ 0) ⊎ (k ≡ 1)
  event-or-data zero l = inl refl
  event-or-data (suc zero) l = inr refl
  event-or-data (suc (suc k)) l = absurd (omega arith)

  carries-decides : (kind type response : ℕ) → Decides (carried kind type response) (Carries s kind type response)
  carries-decides kind type response =
      let old : Bool = (leb kind 1 && ltb type s.types.count) || (eqb kind 0 && eqb type 0xFFFF) in
      let wide : Bool = eqb kind 2 || eqb kind 3 in
      decides_same
      (or_decides old (wide && (typeOr type && typeOr (cond wide response 0xFFFF)))
      (or_decides (leb kind 1 && ltb type s.types.count) (eqb kind 0 && eqb type 0xFFFF)
      (and_decides (leb kind 1) (ltb type s.types.count) (le_decides kind 1) (lt_decides type s.types.count))
      (and_decides (eqb kind 0) (eqb type 0xFFFF) (eq_decides kind 0) (eq_decides type 0xFFFF)))
      (request-decides type response wide (or_decides (eqb kind 2) (eqb kind 3) (eq_decides kind 2) (eq_decides kind 3))))
      there back
    where
      there : Either kind type response → Carries s kind type response
      there (inl (inl p)) = a_type (event-or-data kind p.0) p.1
      there (inl (inr p)) = nothing p.0 p.1
      there (inr p) = a_request p.0 p.1.0 p.1.1

      back : Carries s kind type response → Either kind type response
      back (a_type k l) = inl (inl (⊎_elim (λ (e : kind ≡ 0). omega arith) (λ (e : kind ≡ 1). omega arith) k, l))
      back (nothing k e) = inl (inr (k, e))
      back (a_request k a b) = inr (k, (a, b))

-- the whole rule
module _ (t : List ℕ) (s : Sections) (i : ℕ) where
  fields-are : fields_ok s.types.count (operation_at t (operation_place t s i))
      ≡ (ltb (id_of t s i) 0xFFFFFFFF && carried s (operation_kind t s i) (operation_type t s i) (response_type t s i))
  unfolding fields_ok operation_at kind_at response_at
  fields-are = refl

  tested : operation_ok t s.operations.at s.types.count i
      ≡ ((eqb i 0 || ltb (before t s i) (this t s i))
      && (ltb (id_of t s i) 0xFFFFFFFF && carried s (operation_kind t s i) (operation_type t s i) (response_type t s i)))
  unfolding operation_ok
  tested = rw (is-above t s i, place_is t s i, fields-are) refl

  pub operation-decides : Decides (operation_ok t s.operations.at s.types.count i) (OperationKeeps t s i)
  unfolding before this
  operation-decides =
      let rises : Bool = eqb i 0 || ltb (id_of t s (i - 1)) (id_of t s i) in
      let low : Bool = ltb (id_of t s i) 0xFFFFFFFF in
      let c : Bool = carried s (operation_kind t s i) (operation_type t s i) (response_type t s i) in
      subst (λ (b : Bool). Decides b (OperationKeeps t s i)) (sym tested)
      (decides_same
      (and_decides rises (low && c) (rises-decides t s i)
      (and_decides low c (lt_decides (id_of t s i) 0xFFFFFFFF) (carries-decides s (operation_kind t s i) (operation_type t s i) (response_type t s i))))
      (λ p. record { rises = p.0; below = p.1.0; carries = p.1.1 })
      (λ r. (r.rises, (r.below, r.carries))))
