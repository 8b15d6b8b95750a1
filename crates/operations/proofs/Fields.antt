-- What the rules of an entry's fields come to, kind by kind.
-- Assumes nothing.
use Prim.Native.Nat.{ℕ, ◌≤◌, ◌<◌}
use mathlib.Core.Path.{◌≡◌, refl, sym, ◌∙◌}
use mathlib.Core.Bool.{Bool, true, false, ◌&&◌, ◌||◌}
use native.Mathlib.Omega.{arith}
use borrow.Author.Tests.{lt-ltb, le-ltb, le-leb, lt-leb, ne_eqb}
use lib.Dec.{eqb}
use Rattle.operations.specs.declared.Operation.{Operation}
use Rattle.operations.specs.Entries.{event_kind, data_kind, no_type, no_id, wide}
use Rattle.operations.specs.Rules.{type_or_none, fields_ok}

module _ (types n : ℕ) where
  pub a_type : n < types → true ≡ type_or_none types n
  a_type h = rw (lt-ltb n types h) refl

module _ (types : ℕ) (o : Operation) where
  pub id-of-none : no_id ≤ o.id → false ≡ fields_ok types o
  unfolding fields_ok
  id-of-none h = rw (le-ltb o.id no_id h) refl

  module _ (named : o.id < no_id) where
    -- an event or versioned data is no request
    module _ (low : o.kind ≤ data_kind) where
      pub carries-a-type : o.carries < types → true ≡ fields_ok types o
      unfolding fields_ok
      carries-a-type h = rw (lt-ltb o.id no_id named, le-leb o.kind data_kind low, lt-ltb o.carries types h) refl

      not_wide : wide o.kind ≡ false
      not_wide = rw (ne_eqb o.kind 2 (λ (e : o.kind ≡ 2). omega arith), ne_eqb o.kind 3 (λ (e : o.kind ≡ 3). omega arith)) refl

      pub carries-none : types ≤ o.carries → (eqb o.kind event_kind && eqb o.carries no_type) ≡ fields_ok types o
      unfolding fields_ok
      carries-none h =
          rw (lt-ltb o.id no_id named, le-leb o.kind data_kind low, le-ltb o.carries types h, not_wide)
          (go (eqb o.kind event_kind && eqb o.carries no_type))
        where
          go : (b : Bool) → b ≡ (b || false)
          go true = refl
          go false = refl

    module _ (high : data_kind < o.kind) (b : Bool) (is : b ≡ wide o.kind) where
      by_width : fields_ok types o ≡ (b && (type_or_none types o.carries && type_or_none types o.responds))
      unfolding fields_ok
      by_width =
          rw (
            lt-ltb o.id no_id named,
            lt-leb o.kind data_kind high,
            ne_eqb o.kind event_kind (λ (e : o.kind ≡ event_kind). omega arith),
            is,
          )
          refl

      pub request-fields : (c r : Bool) → b ≡ true → c ≡ type_or_none types o.carries → c ≡ true → r ≡ type_or_none types o.responds → r ≡ fields_ok types o
      request-fields c r h p q s = s ∙ sym (by_width ∙ rw (h, ← p, q) refl)

      pub request-fails : (c : Bool) → b ≡ true → c ≡ type_or_none types o.carries → c ≡ false → false ≡ fields_ok types o
      request-fails c h p q = sym (by_width ∙ rw (h, ← p, q) refl)

      pub unknown-kind : b ≡ false → false ≡ fields_ok types o
      unknown-kind h = sym (by_width ∙ rw h refl)
