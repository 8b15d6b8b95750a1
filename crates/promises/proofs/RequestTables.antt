-- On a table that `check` accepts the operation that is found for an ID is the entry that bears it, and its kind that entry's.
-- Assumes nothing.
use Prim.Native.Nat.{ℕ, ◌≤◌, ◌<◌}
use Rattle.std.specs.Prelude.{Ok}
use Rattle.std.specs.Prelude.{Option, Some, None}
use mathlib.Core.Path.{◌≡◌, refl, sym, ap, ap₂, subst, ◌∙◌}
use mathlib.Core.List.{List}
use native.Mathlib.Omega.{arith}
use lib.ListN.{length}
use Rattle.table.specs.declared.Sections.{Sections}
use Rattle.types.specs.Table.{checked}
use Rattle.types.proofs.Accepted.{accepted, ids-rise}
use Rattle.operations.specs.Entries.{op_place, kind_at, id_at}
use Rattle.operations.specs.Search.{indexed, sought_in, operation_of}
use Rattle.operations.proofs.WhereIDsRise.{Bears, scanned, same_id}
use Rattle.platform.proofs.Unique.{is-sought}
use Rattle.promises.specs.RequestCalls.{HasKind, kind_found, kind_in}

module _ (t : List ℕ) (s : Sections) (e : checked t ≡ Ok s) where
  abbrev places : ℕ → ℕ
  places = op_place t s.operations.at

  -- IDs strictly rise: one entry bears an ID
  pub one_entry : (i j : ℕ) → i < s.operations.count → j < s.operations.count
      → id_at t s.operations.at i ≡ id_at t s.operations.at j → i ≡ j
  one_entry i j hi hj q =
      same_id t s.operations.at 0 s.operations.count (ids-rise t s (accepted t s e)) i j hi hj q

  module _ (words : List ℕ) (room : s.operations.count ≤ length words) (id : ℕ) where
    abbrev sought : Option (ℕ × ℕ)
    sought = sought_in t (indexed t s.operations.at s.operations.count words) s.operations.count id

    bears : Bears t s.operations.at id s.operations.count sought
    unfolding operation_of
    bears =
        subst (Bears t s.operations.at id s.operations.count) (sym (is-sought t s e words room id))
        (scanned t s.operations.at id s.operations.count)

    -- what bears the ID is found
    pub finds : (kind i : ℕ) → HasKind t s id kind i → sought ≡ Some (i, places i)
    finds kind i h = go sought bears
      where
        go : (x : Option (ℕ × ℕ)) → Bears t s.operations.at id s.operations.count x → x ≡ Some (i, places i)
        go (Some (j, p)) b =
            let q : j ≡ i = one_entry j i b.0 h.there (b.1.1 ∙ sym h.named) in
            ap₂ (λ (a b : ℕ). Some (a, b)) q (b.1.0 ∙ ap places q)
        go None b = absurd (b i h.there h.named)

    pub its-kind : (kind i : ℕ) → HasKind t s id kind i → kind_in t s words id ≡ kind
    its-kind kind i h = ap (kind_found t) (finds kind i h) ∙ h.kinded

    -- and what is found bears it
    pub found-has : (kind i p : ℕ) → sought ≡ Some (i, p) → kind_at t p ≡ kind → HasKind t s id kind i
    found-has kind i p f k =
        let b : Bears t s.operations.at id s.operations.count (Some (i, p)) = subst (Bears t s.operations.at id s.operations.count) f bears in
        record { there = b.0; named = b.1.1; kinded = ap (kind_at t) (sym b.1.0) ∙ k }

    pub has-kind : kind_in t s words id ≡ 2 → (i : ℕ) × HasKind t s id 2 i
    has-kind k = go sought refl
      where
        go : (x : Option (ℕ × ℕ)) → sought ≡ x → (i : ℕ) × HasKind t s id 2 i
        go (Some (i, p)) f = (i, found-has 2 i p f (sym (ap (kind_found t) f) ∙ k))
        go None f =
            let z : ◌≡◌ {A = ℕ} 0 2 = sym (ap (kind_found t) f) ∙ k in
            absurd (omega arith)

    -- 62, by the table's entries
    pub no-request : ¬ (kind_in t s words id ≡ 2) → (i : ℕ) → ¬ (HasKind t s id 2 i)
    no-request d i h = d (its-kind 2 i h)

    pub some-request : ¬ (¬ (kind_in t s words id ≡ 2)) → ¬ ((i : ℕ) → ¬ (HasKind t s id 2 i))
    some-request d none = d (λ k. none (has-kind k).0 (has-kind k).1)
