-- 64 places and 0 block at most 65 numbers, so that one of the first 66 from the next own number on is free. Counted are those
-- that block and that lie d draws or more behind the next own number: a number d draws behind it that is blocked makes them fewer,
-- and where there are none it is free.
-- Assumes nothing.
use Rattle.std.proofs.Common.{◌≡◌, ℕ, zero, suc, ◌+◌, ◌-◌, ◌%◌, ◌^◌, ◌<◌, ◌≤◌, Bool, true, false, cond, ◌||◌, eqb, leb, List, sym, refl, ap, ◌∙◌, subst, true≢false, arith, ne_eqb, eqb-true, le-leb, leb-false, leb-true}
use Rattle.std.specs.Prelude.{Option, Some, None}
use borrow.Author.Tests.{eqb-false, lt-leb}
use Rattle.wire.proofs.Cond.{yes-if, no-if}
use Rattle.pending.specs.Places.{number_at, place_of}
use Rattle.pending.specs.Free.{drawn, is_at, is_pending, blocked, free_within, next_free, on_from, IsNextFree}
use Rattle.pending.specs.Counted.{how_many}
use Rattle.pending.proofs.Looking.{its-place}
use Rattle.pending.proofs.Counts.{one, one_le, count-le, count-lt, count_most}

-- how many draws x lies behind n
far : ℕ → ℕ → ℕ
far n x = (x + (2 ^ 32 - n)) % 2 ^ 32

ahead : ℕ → ℕ → ℕ → Bool
ahead n d x = leb d (far n x)

-- how many of 0 and the 64 numbers lie d draws or more behind n
left : List ℕ → ℕ → ℕ → ℕ
left l n d = one (ahead n d 0) + how_many (λ k. ahead n d (number_at l k)) 64

module _ (n d : ℕ) (n-small : n < 2 ^ 32) (d_small : d < 2 ^ 32) where
  -- a number d draws behind n
  far-is : far n (on_from n d) ≡ d
  unfolding far
  far-is = omega arith

-- one draw more
drawn_on_from : (n d : ℕ) → drawn (on_from n d) ≡ on_from n (d + 1)
drawn_on_from n d = omega arith

or_false : (a b : Bool) → (a || b) ≡ false → (a ≡ false) × (b ≡ false)
or_false true b e = absurd (true≢false e)
or_false false b e = (refl, e)

or_right : (a b : Bool) → (a || b) ≡ true → a ≡ false → b ≡ true
or_right true b e f = absurd (true≢false f)
or_right false b e f = e

module _ (l : List ℕ) (n : ℕ) (n-small : n < 2 ^ 32) where
  module _ (d : ℕ) (d_small : d < 2 ^ 32) where
    met : (x : ℕ) → x ≡ on_from n d → ahead n d x ≡ true
    unfolding ahead
    met x e =
        let a : far n x ≡ d = ap (far n) e ∙ far-is n d n-small d_small in
        le-leb d (far n x) (omega arith)

    left_behind : (x : ℕ) → x ≡ on_from n d → ahead n (d + 1) x ≡ false
    unfolding ahead
    left_behind x e =
        let a : far n x ≡ d = ap (far n) e ∙ far-is n d n-small d_small in
        lt-leb (d + 1) (far n x) (omega arith)

    still : (x : ℕ) → ahead n (d + 1) x ≡ true → ahead n d x ≡ true
    unfolding ahead
    still x e =
        let a : d + 1 ≤ far n x = leb-true (d + 1) (far n x) e in
        le-leb d (far n x) (omega arith)

    before : ℕ → Bool
    before k = ahead n d (number_at l k)

    after : ℕ → Bool
    after k = ahead n (d + 1) (number_at l k)

    one_fewer : blocked l (on_from n d) ≡ true → left l n (d + 1) < left l n d
    unfolding left before after
    one_fewer e = go (eqb (on_from n d) 0) refl (place_of l (on_from n d)) refl
      where
        go : (b : Bool) → eqb (on_from n d) 0 ≡ b → (s : Option ℕ) → place_of l (on_from n d) ≡ s
            → one (ahead n (d + 1) 0) + how_many after 64 < one (ahead n d 0) + how_many before 64
        go true t s p =
            let z : 0 ≡ on_from n d = sym (eqb-true (on_from n d) 0 t) in
            let a : one (ahead n d 0) ≡ 1 = ap one (met 0 z) in
            let c : one (ahead n (d + 1) 0) ≡ 0 = ap one (left_behind 0 z) in
            let r : how_many after 64 ≤ how_many before 64 = count-le before after 64 (λ k b. still (number_at l k)) in
            omega arith
        go false t (Some k) p =
            let q : number_at l k ≡ on_from n d = (its-place l (on_from n d) k p).named in
            let b : k < 64 = (its-place l (on_from n d) k p).below in
            let r : how_many after 64 < how_many before 64 =
            count-lt before after 64 k (λ i c. still (number_at l i)) b (met (number_at l k) q) (left_behind (number_at l k) q) in
            let o : one (ahead n (d + 1) 0) ≤ one (ahead n d 0) = one_le (ahead n d 0) (ahead n (d + 1) 0) (still 0) in
            omega arith
        go false t None p = absurd (true≢false (sym (or_right (eqb (on_from n d) 0) (is_pending l (on_from n d)) e t) ∙ ap is_at p))

  Passed : ℕ → Type 0
  Passed d = (i : ℕ) → i < d → (on_from n i ≡ 0 → ⊥) → is_pending l (on_from n i) ≡ true

  free-here : (d : ℕ) → Passed d → blocked l (on_from n d) ≡ false → IsNextFree (is_pending l) n (on_from n d)
  unfolding Passed
  free-here d before e =
      let o : (eqb (on_from n d) 0 ≡ false) × (is_pending l (on_from n d) ≡ false) = or_false (eqb (on_from n d) 0) (is_pending l (on_from n d)) e in
      record {
        draws = d;
        reached = refl;
        not_zero = eqb-false (on_from n d) 0 o.0;
        not_taken = o.1;
        passed = before;
      }

  passed-more : (d : ℕ) → Passed d → blocked l (on_from n d) ≡ true → Passed (d + 1)
  unfolding Passed
  passed-more d before e i b z = go (eqb i d) refl
    where
      go : (t : Bool) → eqb i d ≡ t → is_pending l (on_from n i) ≡ true
      go true t =
          let q : i ≡ d = eqb-true i d t in
          let y : eqb (on_from n i) 0 ≡ false = ne_eqb (on_from n i) 0 z in
          or_right (eqb (on_from n i) 0) (is_pending l (on_from n i)) (subst (λ (j : ℕ). blocked l (on_from n j) ≡ true) (sym q) e) y
      go false t =
          let q : i ≡ d → ⊥ = eqb-false i d t in
          before i (omega arith) z

  none_left : (d : ℕ) → d < 2 ^ 32 → left l n d ≤ 0 → blocked l (on_from n d) ≡ false
  none_left d small few = go (blocked l (on_from n d)) refl
    where
      go : (b : Bool) → blocked l (on_from n d) ≡ b → blocked l (on_from n d) ≡ false
      go true e =
          let r : left l n (d + 1) < left l n d = one_fewer d small e in
          absurd (omega arith)
      go false e = e

  draw : (m d : ℕ) → (blocked l (on_from n d) ≡ true → IsNextFree (is_pending l) n (free_within l m (on_from n (d + 1)))) → Passed d
      → IsNextFree (is_pending l) n (free_within l (suc m) (on_from n d))
  unfolding free_within
  draw m d rest before = go (blocked l (on_from n d)) refl
    where
      go : (b : Bool) → blocked l (on_from n d) ≡ b
          → IsNextFree (is_pending l) n (cond (blocked l (on_from n d)) (free_within l m (drawn (on_from n d))) (on_from n d))
      go true e =
          let q : cond (blocked l (on_from n d)) (free_within l m (drawn (on_from n d))) (on_from n d) ≡ free_within l m (on_from n (d + 1)) =
          yes-if (free_within l m (drawn (on_from n d))) (on_from n d) e ∙ ap (free_within l m) (drawn_on_from n d) in
          subst (λ (x : ℕ). IsNextFree (is_pending l) n x) (sym q) (rest e)
      go false e =
          subst (λ (x : ℕ). IsNextFree (is_pending l) n x) (sym (no-if (free_within l m (drawn (on_from n d))) (on_from n d) e)) (free-here d before e)

  finds : (m d : ℕ) → d + m < 2 ^ 32 → left l n d ≤ m → Passed d → IsNextFree (is_pending l) n (free_within l m (on_from n d))
  unfolding free_within
  finds zero d small few before = free-here d before (none_left d (omega arith) few)
  finds (suc m) d small few before =
      draw m d
      (λ e.
      let r : left l n (d + 1) < left l n d = one_fewer d (omega arith) e in
      finds m (d + 1) (omega arith) (omega arith) (passed-more d before e))
      before

  -- the number that a request takes is the next one free, on any list
  pub next-is-free : IsNextFree (is_pending l) n (next_free l n)
  unfolding Passed left
  next-is-free =
      let o : one (ahead n 0 0) ≤ 1 = one_le true (ahead n 0 0) (λ e. refl) in
      let h : how_many (λ k. ahead n 0 (number_at l k)) 64 ≤ 64 = count_most (λ k. ahead n 0 (number_at l k)) 64 in
      let z : on_from n 0 ≡ n = omega arith in
      subst (λ (x : ℕ). IsNextFree (is_pending l) n (free_within l 65 x)) z (finds 65 0 (omega arith) (omega arith) (λ i b. absurd (omega arith)))

-- there is only one
pub one_is_next : (taken : ℕ → Bool) (n x y : ℕ) → IsNextFree taken n x → IsNextFree taken n y → x ≡ y
one_is_next taken n x y a b = go (eqb a.draws b.draws) refl (leb a.draws b.draws) refl
  where
    clash : (u v : ℕ) (p : IsNextFree taken n u) (q : IsNextFree taken n v) → p.draws < q.draws → ⊥
    clash u v p q h =
        let e : taken u ≡ true = subst (λ (w : ℕ). taken w ≡ true) (sym p.reached) (q.passed p.draws h (λ z. p.not_zero (p.reached ∙ z))) in
        true≢false (sym e ∙ p.not_taken)

    go : (s : Bool) → eqb a.draws b.draws ≡ s → (t : Bool) → leb a.draws b.draws ≡ t → x ≡ y
    go true s t u = a.reached ∙ ap (on_from n) (eqb-true a.draws b.draws s) ∙ sym b.reached
    go false s true u =
        let d : a.draws ≡ b.draws → ⊥ = eqb-false a.draws b.draws s in
        let h : a.draws ≤ b.draws = leb-true a.draws b.draws u in
        absurd (clash x y a b (omega arith))
    go false s false u = absurd (clash y x b a (leb-false a.draws b.draws u))
