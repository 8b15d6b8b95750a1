-- Laws of the largest sizes: what the returns come to, that nothing wraps, and what filling the room does.
-- Assumes nothing.
use Rattle.std.proofs.Common.{◌≡◌, ℕ, zero, suc, ◌+◌, ◌*◌, ◌<◌, ◌≤◌, Bool, true, false, ◌&&◌, ◌||◌, ltb, List, [], ◌∷◌, ◌++◌, length, get_or, take, set, sym, refl, ap, ◌∙◌, subst, ⊎_elim, mul-le-mul, eq-or-lt_of_le, add-one, arith, length-append, take-suc-set, w16, w32, w64, Fits, ltb-false, ltb-true, eq-eqb, ne_eqb, le-leb}
use Rattle.std.specs.Prelude.{Option, Some, None}
use borrow.Author.Tests.{lt-leb}
use lib.ListN.{get_or-eq_default, get_or-append}
use lib.Seq.{get_or_at}
use Rattle.table.specs.declared.Sections.{Sections}
use Rattle.table.specs.declared.Entry.{Entry}
use Rattle.wire.specs.All.{all_below}
use Rattle.table.specs.Leaf.{width}
use Rattle.table.specs.Entries.{type_at, member_at, is_type}
use Rattle.types.specs.Sizes.{most_bytes, sum_of, sum_from, size_of, sizes, largest, fits_in_size, bytes_up_to, largest_below, largest_of}
use Rattle.wire.proofs.AllBelow.{next-below, stop-below}

-- where nothing is known nothing is asked
pub unknown : (A : Type 0) → false ≡ true → A
unknown A h = absurd (let z : ◌≡◌ {A = ℕ} 0 1 = cc in omega arith)

-- a 16-bit count times a 32-bit size
product : (n z : ℕ) → Fits w16 n → Fits w32 z → n * z ≤ 65535 * 4294967295
product n z a b =
    let x : n ≤ 65535 = omega arith in
    let y : z ≤ 4294967295 = omega arith in
    mul-le-mul x y

pub times_fits : (n z : ℕ) → Fits w16 n → Fits w32 z → Fits w64 (n * z)
times_fits n z a b = record { fits = omega (arith, product n z a b) }

pub up_to : (z : ℕ) → z ≤ most_bytes → Some z ≡ bytes_up_to z
unfolding bytes_up_to
up_to z h = rw (le-leb z most_bytes h) refl

pub over_it : (z : ℕ) → most_bytes < z → None ≡ bytes_up_to z
unfolding bytes_up_to
over_it z h = rw (lt-leb z most_bytes h) refl

pub is-there : (b : Bool) (n i : ℕ) → (b || ltb i n) ≡ true → (b ≡ true → i < n) → i < n
is-there true n i h k = k refl
is-there false n i h k = ltb-true i n h

pub not_known : (b : Bool) (l : List ℕ) (i : ℕ) → (b || ltb i (length l)) ≡ false → 0 ≡ get_or l i 0
not_known true l i h = unknown (0 ≡ get_or l i 0) (sym h)
not_known false l i h = sym (get_or-eq_default l 0 (ltb-false i (length l) h))

-- the sum over a record's members, member by member
module _ (t : List ℕ) (s : Sections) (known : List ℕ) (first : ℕ) where
  pub sum-none : 0 ≡ sum_from t s known first 0
  unfolding sum_from
  sum-none = refl

  pub sum_more : (k total m z : ℕ) → total ≡ sum_from t s known first k → m ≡ member_at t s (first + k) → z ≡ get_or known m 0 → total + z
      ≡ sum_from t s known first (k + 1)
  unfolding sum_from
  sum_more k total m z h p q = rw (add-one k, ← h, ← p, ← q) refl

  pub sum_done : (k n total : ℕ) → total ≡ sum_from t s known first k → k ≤ n → n ≤ k → total ≡ sum_from t s known first n
  sum_done k n total h a b = h ∙ ap (sum_from t s known first) (omega arith)

module _ (t : List ℕ) (s : Sections) (known : List ℕ) (e : Entry) where
  sum-from : (n : ℕ) → sum_from t s known e.first n ≡ sum_of t s known e n
  unfolding sum_from sum_of
  sum-from zero = refl
  sum-from (suc n) = rw (sum-from n) refl

  -- the size of an entry, by its kind
  pub leaf-size : (r : ℕ) → e.kind ≤ 1 → r ≡ width e.of → r ≡ size_of t s known e
  unfolding size_of
  leaf-size r k h = rw (le-leb e.kind 1 k) h

  pub base-size : (r : ℕ) → e.kind ≡ 0 → r ≡ width e.of → r ≡ size_of t s known e
  base-size r k h = leaf-size r (omega arith) h

  pub enum-size : (r : ℕ) → e.kind ≡ 1 → r ≡ width e.of → r ≡ size_of t s known e
  enum-size r k h = leaf-size r (omega arith) h

  pub record-size : (r : ℕ) → e.kind ≡ 2 → r ≡ sum_from t s known e.first e.count → r ≡ size_of t s known e
  unfolding size_of
  record-size r k h = rw (lt-leb e.kind 1 (omega arith), eq-eqb e.kind 2 k) (h ∙ sum-from e.count)

  pub fixed-size : (r z : ℕ) → e.kind ≡ 3 → r ≡ e.count * z → z ≡ get_or known e.of 0 → r ≡ size_of t s known e
  unfolding size_of
  fixed-size r z k h q = rw (lt-leb e.kind 1 (omega arith), ne_eqb e.kind 2 (omega arith), eq-eqb e.kind 3 k, ← q) h

  pub array_size : (r z : ℕ) → e.kind ≡ 4 → r ≡ e.count * z → z ≡ get_or known e.of 0 → r + 4 ≡ size_of t s known e
  unfolding size_of
  array_size r z k h q =
      rw (lt-leb e.kind 1 (omega arith), ne_eqb e.kind 2 (omega arith), ne_eqb e.kind 3 (omega arith), eq-eqb e.kind 4 k, ← q, ← h) refl

  pub no_size : (e.kind ≡ 0 → ⊥) → (e.kind ≡ 1 → ⊥) → (e.kind ≡ 2 → ⊥) → (e.kind ≡ 3 → ⊥) → (e.kind ≡ 4 → ⊥) → 0 ≡ size_of t s known e
  unfolding size_of
  no_size a b c d f = simp (lt-leb e.kind 1 (omega arith), ne_eqb e.kind 2 c, ne_eqb e.kind 3 d, ne_eqb e.kind 4 f)

-- filling the room: what it holds below i is the sizes of the types below i
module _ (t : List ℕ) (s : Sections) where
  pub fill_none : (room : List ℕ) → take 0 room ≡ sizes t s 0
  unfolding sizes
  fill_none room = refl

  module _ (room : List ℕ) (i : ℕ) (e : Entry) (z : ℕ) (so_far : take i room ≡ sizes t s i) (here : e ≡ type_at t s i)
      (is : z ≡ size_of t s (take i room) e) where
    pub the-largest : z ≡ largest t s i
    unfolding largest
    the-largest = is ∙ ap (λ (l : List ℕ). size_of t s l e) so_far ∙ ap (size_of t s (sizes t s i)) here

    pub fill_more : (n : ℕ) (before : List ℕ) → length room ≡ length before → n ≤ length before → i < n → take (i + 1) (set room i z) ≡ sizes t s (i + 1)
    unfolding sizes
    fill_more n before l b h =
        ap (λ (n : ℕ). take n (set room i z)) (add-one i) ∙ take-suc-set room i z (omega arith)
        ∙ ap (λ (l : List ℕ). l ++ (z ∷ [])) so_far
        ∙ rw (add-one i, is, so_far, here) refl

    pub fits_more : all_below (fits_in_size t s) i ≡ true → z ≤ 65536 → all_below (fits_in_size t s) (i + 1) ≡ true
    unfolding fits_in_size
    fits_more a h = next-below (fits_in_size t s) i true a (rw (← the-largest, le-leb z 65536 h) refl) refl

    pub fits-no-more : (n : ℕ) → i < n → 65536 < z → false ≡ all_below (fits_in_size t s) n
    unfolding fits_in_size
    fits-no-more n l h = stop-below (fits_in_size t s) n i false (rw (← the-largest, lt-leb z 65536 h) refl) refl l

    pub known_bytes : (b : Option ℕ) → b ≡ bytes_up_to z → b ≡ bytes_up_to (largest t s i)
    known_bytes b h = h ∙ ap bytes_up_to the-largest

  pub filled : (room : List ℕ) (i n : ℕ) → take i room ≡ sizes t s i → i ≤ n → n ≤ i → true ≡ true → take n room ≡ sizes t s n
  filled room i n h a b _ = let e : i ≡ n = omega arith in subst (λ (k : ℕ). take k room ≡ sizes t s k) e h

  module _ (i : ℕ) (f : Bool) (p : f ≡ all_below (fits_in_size t s) i) where
    pub below-known : (room : List ℕ) (e : Entry) (z : ℕ) (b : Option ℕ) → f ≡ true → (f ≡ true → take i room ≡ sizes t s i) → e
        ≡ type_at t s i → z ≡ size_of t s (take i room) e → b ≡ bytes_up_to z → b ≡ largest_below t s i
    unfolding largest_below
    below-known room e z b h k q r u = rw (← p, h) (known_bytes room i e z (k h) q r b u)

    pub below-unknown : f ≡ false → None ≡ largest_below t s i
    unfolding largest_below
    below-unknown h = rw (← p, h) refl

  pub is_known : (i : ℕ) (x : Bool) (b : Option ℕ) → x ≡ is_type s i → (x && ltb i 256) ≡ true → b ≡ largest_below t s i → b ≡ largest_of t s i
  unfolding largest_of
  is_known i x b p h q = rw (← p, h) q

  pub is-unknown : (i : ℕ) (x : Bool) → x ≡ is_type s i → (x && ltb i 256) ≡ false → None ≡ largest_of t s i
  unfolding largest_of
  is-unknown i x p h = rw (← p, h) refl

-- the sizes below n are the largest sizes of the types below n
module _ (t : List ℕ) (s : Sections) where
  pub length-sizes : (n : ℕ) → length (sizes t s n) ≡ n
  unfolding sizes
  length-sizes zero = refl
  length-sizes (suc n) = length-append (sizes t s n) (size_of t s (sizes t s n) (type_at t s n) ∷ []) ∙ omega (arith, length-sizes n)

  pub size-known : (n i : ℕ) → i < n → get_or (sizes t s n) i 0 ≡ largest t s i
  unfolding sizes largest
  size-known zero i h = absurd (omega arith)
  size-known (suc n) i h =
      let m : i ≤ n = omega arith in
      let z : ℕ = size_of t s (sizes t s n) (type_at t s n) in
      ⊎_elim
      (λ (e : i ≡ n). ap (λ (k : ℕ). get_or (sizes t s n ++ (z ∷ [])) k 0) e ∙ get_or_at (sizes t s n) z [] 0 n (length-sizes n) ∙ ap (largest t s) (sym e))
      (λ (g : i < n). get_or-append (sizes t s n) (z ∷ []) 0 i (omega (arith, length-sizes n)) ∙ size-known n i g)
      (eq-or-lt_of_le m)
