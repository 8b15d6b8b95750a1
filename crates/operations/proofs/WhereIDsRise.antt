-- Where the IDs rise and the index is the table's, what the search finds is the operation of that ID, whatever its kind: the first that
-- a plain scan meets, or none.
-- Assumes nothing.
use Prim.Native.Nat.{ℕ, zero, suc, ◌+◌, ◌-◌, ◌/◌, ◌≤◌, ◌<◌}
use Rattle.std.specs.Prelude.{Option, Some, None}
use mathlib.Core.Path.{◌≡◌, refl, sym, ap, ap₂, subst, ◌∙◌}
use mathlib.Core.Bool.{Bool, true, false, cond}
use mathlib.Core.Logic.{⊎_elim}
use mathlib.Core.List.{List}
use native.Mathlib.Nat.{eq-or-lt_of_le, lt_of_not-le}
use native.Mathlib.Omega.{arith}
use borrow.Author.Tests.{eqb-true, eqb-false, ltb-true, ltb-false, le-leb, eq-eqb}
use lib.Dec.{ltb, leb, eqb}
use lib.ListN.{length, get_or}
use Rattle.wire.specs.Bytes.{number}
use Rattle.wire.proofs.Cond.{yes-if, and_true}
use Rattle.wire.proofs.Rising.{rising-apart, rising-up-to}
use Rattle.operations.specs.Entries.{op_width, op_place, id_at}
use Rattle.operations.specs.Rules.{ids_rise}
use Rattle.operations.specs.Search.{half, index_word, indexed, id_in, place_in, borne, told_by, held_to, middle, halved, sought_in}
use Rattle.operations.specs.Search.{or_else, first_below, operation_of}
use Rattle.operations.proofs.Places.{place-most, entry-within}
use Rattle.operations.proofs.Laying.{word-laid, id-in, place-in}
use Rattle.operations.proofs.Halving.{reach, by_last, by-look}

module _ (t : List ℕ) (first id : ℕ) where
  -- an entry below n that bears the ID, and its place, or none of them does
  abbrev pub Bears : ℕ → Option (ℕ × ℕ) → Type 0
  Bears n (Some (i, p)) = (i < n) × ((p ≡ op_place t first i) × (id_at t first i ≡ id))
  Bears n None = (k : ℕ) → k < n → id_at t first k ≡ id → ⊥

  pub scanned : (n : ℕ) → Bears n (first_below t first id n)
  unfolding first_below
  scanned zero = λ k h. absurd (omega arith)
  scanned (suc n) = go (first_below t first id n) (scanned n) (eqb (id_at t first n) id) refl
    where
      go : (x : Option (ℕ × ℕ)) → Bears n x → (b : Bool) → eqb (id_at t first n) id ≡ b
          → Bears (suc n) (or_else x (cond b (Some (n, op_place t first n)) None))
      go (Some (i, p)) h b e = (omega arith, h.1)
      go None h true e = (omega arith, (refl, eqb-true (id_at t first n) id e))
      go None h false e = λ k l q.
          let m : k ≤ n = omega arith in
          ⊎_elim
          (λ (s : k ≡ n). eqb-false (id_at t first n) id e (subst (λ (j : ℕ). id_at t first j ≡ id) s q))
          (λ (g : k < n). h k g q)
          (eq-or-lt_of_le m)

  module _ (count : ℕ) (rise : ids_rise t first count ≡ true) where
    up_to : (j k : ℕ) → j ≤ k → k < count → id_at t first j ≤ id_at t first k
    unfolding ids_rise
    up_to j k l h = rising-up-to (id_at t first) count rise j k l h

    risen : (j k : ℕ) → j < k → k < count → id_at t first j < id_at t first k
    unfolding ids_rise
    risen j k l h = rising-apart (id_at t first) count rise j k l h

    pub same_id : (i j : ℕ) → i < count → j < count → id_at t first i ≡ id_at t first j → i ≡ j
    same_id i j hi hj q = go (ltb i j) refl (ltb j i) refl
      where
        go : (a : Bool) → ltb i j ≡ a → (b : Bool) → ltb j i ≡ b → i ≡ j
        go true p b r = absurd (omega (arith, risen i j (ltb-true i j p) hj))
        go false p true r = absurd (omega (arith, risen j i (ltb-true j i r) hi))
        go false p false r = omega (arith, ltb-false i j p, ltb-false j i r)

    one-bears : (x y : Option (ℕ × ℕ)) → Bears count x → Bears count y → x ≡ y
    one-bears (Some (i, p)) (Some (j, q)) (a, (b, c)) (d, (e, f)) =
        let s : i ≡ j = same_id i j a d (c ∙ sym f) in
        ap₂ (λ (a b : ℕ). Some (a, b)) s (b ∙ ap (op_place t first) s ∙ sym e)
    one-bears (Some (i, p)) None (a, (b, c)) q = absurd (q i a c)
    one-bears None (Some (j, q)) p (d, (e, f)) = absurd (p j d f)
    one-bears None None p q = refl

    -- the section lies within the bytes, and its words in the index
    module _ (index : List ℕ) (laid : (i : ℕ) → i < count → get_or index i 0 ≡ index_word t first i) (inside : op_place t first count ≤ length t)
        (low-place : first < 65536) (few : count < 65536) where
      place-low : (i : ℕ) → i < count → op_place t first i < half
      place-low i h = omega (arith, place-most t first i)

      says : (i : ℕ) → i < count → id_in index i ≡ id_at t first i
      says i h = id-in t first index i (laid i h) (place-low i h)

      -- what the word of an entry says stands the test
      stands : (i : ℕ) → i < count → id_in index i ≡ id → Bears count (borne t id i (place_in index i))
      unfolding borne id_at
      stands i h e =
          let p : place_in index i ≡ op_place t first i = place-in t first index i (laid i h) (place-low i h) in
          let b : number 2 t (op_place t first i) ≡ id = sym (says i h) ∙ e in
          let w : op_place t first i + op_width t (op_place t first i) ≤ length t = omega (arith, entry-within t first i count h) in
          let s : borne t id i (op_place t first i) ≡ Some (i, op_place t first i) = yes-if {A = Option (ℕ × ℕ)} (Some (i, op_place t first i)) None
          (and_true (leb (op_place t first i + op_width t (op_place t first i)) (length t)) (eqb (number 2 t (op_place t first i)) id)
          (le-leb (op_place t first i + op_width t (op_place t first i)) (length t) w) (eq-eqb (number 2 t (op_place t first i)) id b)) in
          subst (λ (q : ℕ). Bears count (borne t id i q)) (sym p) (subst (Bears count) (sym s) (h, (refl, b)))

      -- an entry that bears the ID is one of those that are left
      abbrev Between : ℕ → ℕ → Type 0
      Between base size = (k : ℕ) → k < count → id_at t first k ≡ id → (base ≤ k) × (k < base + size)

      module _ (base size : ℕ) (top : base + size ≤ count) (between : Between base size) where
        after : 1 < size → id_in index (middle base size) ≤ id → Between (middle base size) (size - size / 2)
        after l e k c q =
            let b = between k c q in
            let i : middle base size < count = omega arith in
            let s : id_in index (middle base size) ≡ id_at t first (middle base size) = says (middle base size) i in
            let g : middle base size < k + 1 =
            lt_of_not-le (λ (z : k + 1 ≤ middle base size). let y : k < middle base size = omega arith in omega (arith, risen k (middle base size) y i)) in
            (omega arith, omega (arith, b.1))

        before : 1 < size → id < id_in index (middle base size) → Between base (size - size / 2)
        before l e k c q =
            let i : middle base size < count = omega arith in
            let g : k < middle base size =
            lt_of_not-le (λ (z : middle base size ≤ k). omega (arith, up_to (middle base size) k z c, says (middle base size) i)) in
            ((between k c q).0, omega arith)

        it : size ≡ 1 → (id_in index base ≡ id → ⊥) → Bears count None
        it e x k c q =
            let b = between k c q in
            let same : base ≡ k = omega (arith, b.0, b.1) in
            x (says base (omega arith) ∙ ap (id_at t first) same ∙ q)

        at_one : size ≡ 1 → Bears count (held_to t id (told_by index id base))
        at_one e = by_last t index id base (Bears count) (stands base (omega arith)) (it e)

        none : size ≡ 0 → Bears count None
        none e k c q = let b = between k c q in omega (arith, b.0, b.1)

      searched : (n base size : ℕ) → base + size ≤ count → size ≤ reach n → Between base size → Bears count (halved t index id (suc n) base size)
      searched zero base size top enough between =
          by-look t index id (Bears count) base size 0
          (λ l e. absurd (omega arith))
          (λ l e. absurd (omega arith))
          (at_one base size top between)
          (none base size top between)
      searched (suc n) base size top enough between =
          by-look t index id (Bears count) base size (suc n)
          (λ l e. searched n (middle base size) (size - size / 2) (omega arith) (omega arith) (after base size top between l e))
          (λ l e. searched n base (size - size / 2) (omega arith) (omega arith) (before base size top between l e))
          (at_one base size top between)
          (none base size top between)

      found : Bears count (sought_in t index count id)
      unfolding sought_in
      found = searched 16 0 count (omega arith) (omega arith) (λ k l q. (omega arith, omega arith))

      pub found_first : sought_in t index count id ≡ operation_of t first count id
      unfolding operation_of
      found_first = one-bears (sought_in t index count id) (first_below t first id count) found (scanned count)

      -- none is found exactly where no entry bears the ID
      pub none-bears : sought_in t index count id ≡ None → (k : ℕ) → k < count → id_at t first k ≡ id → ⊥
      none-bears e = subst (Bears count) e found

      pub nowhere-then : ((k : ℕ) → k < count → id_at t first k ≡ id → ⊥) → sought_in t index count id ≡ None
      nowhere-then h = one-bears (sought_in t index count id) None found h

    -- with the index as it is laid
    module _ (words : List ℕ) (room : count ≤ length words) (inside : op_place t first count ≤ length t) (low-place : first < 65536)
        (few : count < 65536) where
      its-words : (i : ℕ) → i < count → get_or (indexed t first count words) i 0 ≡ index_word t first i
      its-words i h = word-laid t first words count i h (omega arith)

      pub laid-first : sought_in t (indexed t first count words) count id ≡ operation_of t first count id
      laid-first = found_first (indexed t first count words) its-words inside low-place few

      pub laid_none : ((k : ℕ) → k < count → id_at t first k ≡ id → ⊥) → sought_in t (indexed t first count words) count id ≡ None
      laid_none = nowhere-then (indexed t first count words) its-words inside low-place few

      pub laid-nowhere : sought_in t (indexed t first count words) count id ≡ None → (k : ℕ) → k < count → id_at t first k ≡ id → ⊥
      laid-nowhere = none-bears (indexed t first count words) its-words inside low-place few
