-- What the rules of the operations come to, entry by entry.
-- Assumes nothing.
use Prim.Native.Nat.{ℕ, ◌+◌, ◌≤◌, ◌<◌}
use mathlib.Core.Path.{◌≡◌, refl, sym, ap, ◌∙◌}
use mathlib.Core.Bool.{Bool, true, false, not, ◌||◌}
use mathlib.Core.List.{List}
use borrow.Author.Tests.{ne_eqb}
use lib.Dec.{ltb, eqb}
use Rattle.wire.specs.All.{all_below, above}
use Rattle.wire.specs.Bytes.{number}
use Rattle.wire.proofs.AllBelow.{none_below, next-below, stop-below, done_below, at-below, all-below}
use Rattle.wire.proofs.Cond.{and_left}
use Rattle.wire.proofs.Rising.{Carried, carried_none, carried_next, carried_test}
use Rattle.operations.specs.declared.Operation.{Operation}
use Rattle.operations.specs.Entries.{op_place, kind_at, operation_at, id_at}
use Rattle.operations.specs.Rules.{fields_ok, operation_ok, operations_ok, ids_rise, not_data, has_data}

module _ (t : List ℕ) (first types : ℕ) where
  pub none-judged : all_below (operation_ok t first types) 0 ≡ true
  none-judged = none_below (operation_ok t first types)

  pub no-id-yet : (last : ℕ) → Carried (id_at t first) 0 last
  no-id-yet last = carried_none (id_at t first) last

  pub all-judged : (n i : ℕ) → all_below (operation_ok t first types) i ≡ true → i ≤ n → n ≤ i → true ≡ operations_ok t first n types
  unfolding operations_ok
  all-judged n i a h l = done_below (operation_ok t first types) n i a h l

  -- in operations that keep their rules the IDs rise
  pub good-rise : (n : ℕ) → operations_ok t first n types ≡ true → ids_rise t first n ≡ true
  unfolding operations_ok operation_ok ids_rise
  good-rise n g =
      all-below (above (id_at t first)) n (λ i l. and_left (above (id_at t first) i) (fields_ok types (operation_at t (op_place t first i)))
      (at-below (operation_ok t first types) n i g l))

  module _ (i last p : ℕ) (o : Operation) (carried : Carried (id_at t first) i last) (here : p ≡ op_place t first i) (is : o ≡ operation_at t p) where
    the-id : o.id ≡ id_at t first i
    unfolding operation_at id_at
    the-id = ap (λ (x : Operation). x.id) is ∙ ap (number 2 t) here

    it-is : operation_at t (op_place t first i) ≡ o
    it-is = sym (is ∙ ap (operation_at t) here)

    pub operation-next : (a : Bool) → a ≡ fields_ok types o → a ≡ true → (eqb i 0 || ltb last o.id) ≡ true
        → all_below (operation_ok t first types) i ≡ true → all_below (operation_ok t first types) (i + 1) ≡ true
    unfolding operation_ok
    operation-next a q h r b =
        next-below (operation_ok t first types) i true b
        (rw (← carried_test (id_at t first) i last o.id carried the-id, r, it-is, ← q, h) refl) refl

    pub id_next : Carried (id_at t first) (i + 1) o.id
    id_next = carried_next (id_at t first) i o.id the-id

    pub bad-operation : (a : Bool) (n : ℕ) → a ≡ fields_ok types o → a ≡ false → (eqb i 0 || ltb last o.id) ≡ true → i < n
        → false ≡ operations_ok t first n types
    unfolding operation_ok operations_ok
    bad-operation a n q h r l =
        stop-below (operation_ok t first types) n i false
        (rw (← carried_test (id_at t first) i last o.id carried the-id, r, it-is, ← q, h) refl) refl l

    pub falls : (n : ℕ) → (eqb i 0 || ltb last o.id) ≡ false → i < n → false ≡ operations_ok t first n types
    unfolding operation_ok operations_ok
    falls n r l =
        stop-below (operation_ok t first types) n i false (rw (← carried_test (id_at t first) i last o.id carried the-id, r) refl) refl l

-- versioned data
module _ (t : List ℕ) (first : ℕ) where
  pub no-data-yet : all_below (not_data t first) 0 ≡ true
  no-data-yet = none_below (not_data t first)

  pub never-data : (n i : ℕ) → all_below (not_data t first) i ≡ true → i ≤ n → n ≤ i → false ≡ has_data t first n
  unfolding has_data
  never-data n i a h l = ap not (done_below (not_data t first) n i a h l)

  module _ (i p k : ℕ) (here : p ≡ op_place t first i) (is : k ≡ kind_at t p) where
    the-kind : kind_at t (op_place t first i) ≡ k
    the-kind = sym (is ∙ ap (kind_at t) here)

    pub some-data : (n : ℕ) → k ≡ 1 → i < n → true ≡ has_data t first n
    unfolding has_data not_data
    some-data n e l = ap not (stop-below (not_data t first) n i false (rw (the-kind, e) refl) refl l)

    pub not-data : (k ≡ 1 → ⊥) → all_below (not_data t first) i ≡ true → all_below (not_data t first) (i + 1) ≡ true
    unfolding not_data
    not-data d a = next-below (not_data t first) i true a (rw (the-kind, ne_eqb k 1 d) refl) refl
