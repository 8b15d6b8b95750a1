-- On a table that `check` accepts the IDs rise, so that what is found is the operation of that ID.
-- Assumes nothing.
use Prim.Native.Nat.{ℕ, ◌+◌, ◌*◌, ◌^◌, ◌≤◌, ◌<◌}
use Rattle.std.specs.Prelude.{Ok}
use Rattle.std.specs.Prelude.{Option, Some, None}
use mathlib.Core.Path.{◌≡◌, refl, sym, ap, ap₂, subst, ◌∙◌}
use mathlib.Core.Bool.{Bool, true, false}
use mathlib.Core.Logic.{⊎_elim}
use mathlib.Core.List.{List}
use native.Mathlib.Omega.{arith}
use borrow.Author.Tests.{ltb-true, ltb-false}
use lib.Dec.{ltb}
use lib.ListN.{length, get_or}
use Rattle.wire.specs.Bytes.{number}
use Rattle.wire.proofs.Rising.{rising-apart}
use Rattle.table.specs.declared.Sections.{Sections}
use Rattle.types.specs.Table.{checked}
use Rattle.types.proofs.Accepted.{Accepted, accepted, ids-rise}
use Rattle.operations.specs.Entries.{op_place, kind_at, response_at, operation_at, id_at}
use Rattle.operations.specs.Rules.{ids_rise}
use Rattle.operations.specs.Search.{half, index_word, place_in, operation_of}
use Rattle.operations.proofs.Places.{place-most}
use Rattle.operations.proofs.Laying.{word-laid, word_kept, length-indexed, place-in}
use Rattle.operations.proofs.Halving.{found-bears}
use Rattle.operations.proofs.WhereIDsRise.{laid-first, laid_none, laid-nowhere}
use Rattle.promises.specs.Rules32.{operation_place, id_of, operation_kind}
use Rattle.promises.specs.Lookups.{laid, looked_up, IndexIs, EntrySays, LooksUp, Lookups}
use Rattle.promises.proofs.OperationRules.{place_is, id_is}

-- the words of the index
module _ (t : List ℕ) (s : Sections) (words : List ℕ) (room : s.operations.count ≤ length words) where
  its_word : (i : ℕ) → i < s.operations.count → get_or (laid t s words) i 0 ≡ index_word t s.operations.at i
  its_word i l = word-laid t s.operations.at words s.operations.count i l (omega arith)

  in_numbers : (i : ℕ) → index_word t s.operations.at i ≡ id_of t s i * 2 ^ 32 + operation_place t s i
  unfolding index_word
  in_numbers i = ap₂ (λ (a b : ℕ). a * half + b) (id_is t s i) (place_is t s i)

  is-laid : IndexIs t s words
  is-laid =
      record {
        word = λ i l. its_word i l ∙ in_numbers i;
        behind = word_kept t s.operations.at words s.operations.count;
        long = length-indexed t s.operations.at words s.operations.count;
      }

-- the entry that stands where the i-th does
module _ (t : List ℕ) (s : Sections) (i : ℕ) where
  says : EntrySays t s i (operation_at t (operation_place t s i))
  unfolding operation_at kind_at response_at
  says =
      record {
        id = refl;
        kind = refl;
        carries = refl;
        responds = λ k. ⊎_elim (λ (e : operation_kind t s i ≡ 2). rw e refl) (λ (e : operation_kind t s i ≡ 3). rw e refl) k;
        no_response = λ k. ⊎_elim (λ (e : operation_kind t s i ≡ 0). rw e refl) (λ (e : operation_kind t s i ≡ 1). rw e refl) k;
      }

-- IDs that rise are different
module _ (t : List ℕ) (s : Sections) (rise : ids_rise t s.operations.at s.operations.count ≡ true) where
  same-entry : (i j : ℕ) → i < s.operations.count → j < s.operations.count → id_of t s i ≡ id_of t s j → i ≡ j
  unfolding ids_rise
  same-entry i j hi hj q = go (ltb i j) refl (ltb j i) refl
    where
      apart : (m n : ℕ) → m < n → n < s.operations.count → id_of t s m < id_of t s n
      apart m n l h =
          let a : id_at t s.operations.at m < id_at t s.operations.at n = rising-apart (id_at t s.operations.at) s.operations.count rise m n l h in
          omega (arith, id_is t s m, id_is t s n)

      go : (a : Bool) → ltb i j ≡ a → (b : Bool) → ltb j i ≡ b → i ≡ j
      go true p b r = absurd (omega (arith, q, apart i j (ltb-true i j p) hj))
      go false p true r = absurd (omega (arith, q, apart j i (ltb-true j i r) hi))
      go false p false r = omega (arith, ltb-false i j p, ltb-false j i r)

module _ (t : List ℕ) (s : Sections) (words : List ℕ) (id : ℕ) (e : checked t ≡ Ok s) (room : s.operations.count ≤ length words) where
  table_is : Accepted t s
  table_is = accepted t s e

  rises : ids_rise t s.operations.at s.operations.count ≡ true
  rises = ids-rise t s table_is

  starts-low : s.operations.at < 65536
  starts-low =
      let c = table_is.lie in
      omega (arith, c.types.starts, c.types.few, c.members.starts, c.members.few, c.values.starts, c.values.few, c.operations.starts)

  few : s.operations.count < 65536
  few = omega (arith, table_is.lie.operations.few)

  inside : op_place t s.operations.at s.operations.count ≤ length t
  inside = omega (arith, table_is.lie.end)

  pub accepted-find : looked_up t s words id ≡ operation_of t s.operations.at s.operations.count id
  accepted-find = laid-first t s.operations.at id s.operations.count rises words room inside starts-low few

  -- the ID of an entry, and one that no entry bears
  none-bears : looked_up t s words id ≡ None → (i : ℕ) → i < s.operations.count → ¬ (id_of t s i ≡ id)
  none-bears n i l q = laid-nowhere t s.operations.at id s.operations.count rises words room inside starts-low few n i l (id_is t s i ∙ q)

  then_none : ((i : ℕ) → i < s.operations.count → ¬ (id_of t s i ≡ id)) → looked_up t s words id ≡ None
  then_none f =
      laid_none t s.operations.at id s.operations.count rises words room inside starts-low few (λ i l q. f i l (sym (id_is t s i) ∙ q))

  bears : (i p : ℕ) → looked_up t s words id ≡ Some (i, p) → (i < s.operations.count) × (p ≡ operation_place t s i) × (id_of t s i ≡ id)
  bears i p f =
      let b = found-bears t (laid t s words) id s.operations.count i p f in
      let low : op_place t s.operations.at i < half = omega (arith, b.0, place-most t s.operations.at i, starts-low, few) in
      let q : place_in (laid t s words) i ≡ op_place t s.operations.at i =
      place-in t s.operations.at (laid t s words) i (its_word t s words room i b.0) low in
      let place : p ≡ operation_place t s i = b.1 ∙ q ∙ place_is t s i in
      (b.0, place, ap (number 2 t) (sym place) ∙ b.2)

  each : (i : ℕ) → i < s.operations.count → id_of t s i ≡ id → looked_up t s words id ≡ Some (i, operation_place t s i)
  each i l q = go (looked_up t s words id) refl
    where
      go : (x : Option (ℕ × ℕ)) → looked_up t s words id ≡ x → x ≡ Some (i, operation_place t s i)
      go None f = absurd (none-bears f i l q)
      go (Some (j, p)) f =
          let b = bears j p f in
          let same : j ≡ i = same-entry t s rises j i b.0 l (b.2 ∙ sym q) in
          ap₂ (λ (a b : ℕ). Some (a, b)) same (b.1 ∙ ap (operation_place t s) same)

  looks_up : LooksUp t s words id
  looks_up =
      record {
        first = accepted-find;
        each = each;
        bears = bears;
        says = λ i p f. subst (λ (q : ℕ). EntrySays t s i (operation_at t q)) (sym (bears i p f).1) (says t s i);
        none = (none-bears, then_none);
      }

pub lookups : Lookups
lookups = record { enough = λ t s e. (accepted t s e).lie.operations.few; index = is-laid; looks_up = looks_up }
