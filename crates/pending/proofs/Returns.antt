-- What the functions of `pending` come to at their returns.
-- Assumes nothing.
use Rattle.std.proofs.Common.{◌≡◌, ℕ, suc, ◌+◌, ◌-◌, ◌<◌, ◌≤◌, Bool, true, false, cond, ◌&&◌, ◌||◌, eqb, leb, List, length, set, sym, refl, ap, ◌∙◌, subst, arith, eq-eqb, ne_eqb, leb-true}
use Rattle.std.specs.Prelude.{Option, Some, None}
use lib.Seq.{set_out}
use Rattle.wire.proofs.Cond.{yes_lt, no_lt, yes-eq, no_eq, yes-if, no-if}
use Rattle.pending.proofs.Looking.{its-place}
use Rattle.pending.specs.Places.{number_at, pending_id_at, target_at, bearing, first_bearing, place_of, placed}
use Rattle.pending.specs.Free.{drawn, is_at, blocked, free_within, next_free}
use Rattle.pending.specs.Answers.{bears}

module _ (l : List ℕ) where
  pub not_set : (i a : ℕ) → length l ≤ i → l ≡ set l i a
  not_set i a h = sym (set_out l i a h)

  module _ (k w t : ℕ) where
    pub both-put : (m r : List ℕ) → k < 64 → m ≡ set l k w → r ≡ set m (64 + k) t → r ≡ placed l k w t
    both-put m r h p q = q ∙ ap (λ (x : List ℕ). set x (64 + k) t) p ∙ sym (yes_lt (set (set l k w) (64 + k) t) l k 64 h)

    pub not_put : 64 ≤ k → l ≡ placed l k w t
    not_put h = sym (no_lt (set (set l k w) (64 + k) t) l k 64 h)

  -- the place looked at, and those behind it
  module _ (n k : ℕ) (h : k < 64) where
    next_place : bearing l n (64 - k) k ≡ cond (eqb (number_at l k) n) (Some k) (bearing l n (64 - (k + 1)) (k + 1))
    unfolding bearing
    next_place =
        let e : 64 - k ≡ suc (64 - (k + 1)) = omega arith in
        rw e refl

    module _ (x : ℕ) (p : x ≡ number_at l k) (left : bearing l n (64 - k) k ≡ first_bearing l n) where
      pub bears-it : x ≡ n → Some k ≡ first_bearing l n
      bears-it e = sym (yes-eq (Some k) (bearing l n (64 - (k + 1)) (k + 1)) (number_at l k) n (sym p ∙ e)) ∙ sym next_place ∙ left

      pub bears-another : (x ≡ n → ⊥) → bearing l n (64 - (k + 1)) (k + 1) ≡ first_bearing l n
      bears-another e =
          sym (no_eq (Some k) (bearing l n (64 - (k + 1)) (k + 1)) (number_at l k) n (λ q. e (p ∙ q))) ∙ sym next_place ∙ left

  pub none-bears : (n k : ℕ) → k ≤ 64 → 64 ≤ k → bearing l n (64 - k) k ≡ first_bearing l n → None ≡ first_bearing l n
  unfolding bearing
  none-bears n k a b left =
      let e : 64 - k ≡ 0 = omega arith in
      sym (ap (λ (m : ℕ). bearing l n m k) e) ∙ left

  -- a list that has all its places
  pub in_whole : (k : ℕ) (w : Bool) → w ≡ leb 64 (length l) → w ≡ true → k < 64 → k < length l
  in_whole k w e t h =
      let g : 64 ≤ length l = leb-true 64 (length l) (sym e ∙ t) in
      omega arith

  -- the same where only whether one bears it is asked
  or_at : (k : ℕ) (s : Option ℕ) (a b : Bool) → ((a || b) || is_at s) ≡ (a || is_at (cond b (Some k) s))
  or_at k s true b = refl
  or_at k s false true = refl
  or_at k s false false = refl

  pub borne-on : (n k x : ℕ) (f : Bool) → k < 64 → x ≡ number_at l k → (f || is_at (bearing l n (64 - k) k)) ≡ is_at (first_bearing l n)
      → ((f || eqb x n) || is_at (bearing l n (64 - (k + 1)) (k + 1))) ≡ is_at (first_bearing l n)
  borne-on n k x f h p left =
      ap (λ (y : ℕ). (f || eqb y n) || is_at (bearing l n (64 - (k + 1)) (k + 1))) p
      ∙ or_at k (bearing l n (64 - (k + 1)) (k + 1)) f (eqb (number_at l k) n)
      ∙ sym (ap (λ (s : Option ℕ). f || is_at s) (next_place n k h)) ∙ left

  pub borne-all : (n k : ℕ) (f : Bool) → k ≤ 64 → 64 ≤ k → (f || is_at (bearing l n (64 - k) k)) ≡ is_at (first_bearing l n)
      → f ≡ is_at (first_bearing l n)
  unfolding bearing
  borne-all n k f a b left =
      let e : 64 - k ≡ 0 = omega arith in
      sym (or-none f) ∙ sym (ap (λ (m : ℕ). f || is_at (bearing l n m k)) e) ∙ left
    where
      or-none : (b : Bool) → (b || false) ≡ b
      or-none true = refl
      or-none false = refl

  -- where a number stands, and whether it is one that a request may take
  module _ (n : ℕ) where
    pub no_number : n ≡ 0 → None ≡ place_of l n
    no_number e = sym (yes-eq None (first_bearing l n) n 0 e)

    pub some_number : (r : Option ℕ) → (n ≡ 0 → ⊥) → r ≡ first_bearing l n → r ≡ place_of l n
    some_number r h p = p ∙ sym (no_eq None (first_bearing l n) n 0 h)

    pub zero-blocked : n ≡ 0 → true ≡ blocked l n
    zero-blocked e = rw (eq-eqb n 0 e)

    pub as-borne : (b : Bool) → (n ≡ 0 → ⊥) → b ≡ is_at (first_bearing l n) → b ≡ blocked l n
    as-borne b h p = rw (ne_eqb n 0 h, p) refl

  pub asked-this : (k id target i t : ℕ) → i ≡ pending_id_at l k → t ≡ target_at l k → (eqb i id && eqb t target) ≡ bears l k id target
  asked-this k id target i t p q = rw (p, q)

  -- a number that is looked for, one draw after the other
  module _ (n x i : ℕ) (b : Bool) (p : b ≡ blocked l x) (left : free_within l (65 - i) x ≡ next_free l n) (h : i < 65) where
    one-draw : free_within l (65 - i) x ≡ cond (blocked l x) (free_within l (65 - (i + 1)) (drawn x)) x
    unfolding free_within
    one-draw =
        let e : 65 - i ≡ suc (65 - (i + 1)) = omega arith in
        ap (λ (k : ℕ). free_within l k x) e

    pub drawn-on : (y : ℕ) → b ≡ true → y ≡ drawn x → free_within l (65 - (i + 1)) y ≡ next_free l n
    drawn-on y t e =
        ap (free_within l (65 - (i + 1))) e ∙ sym (yes-if (free_within l (65 - (i + 1)) (drawn x)) x (sym p ∙ t)) ∙ sym one-draw ∙ left

    pub is_free : b ≡ false → x ≡ next_free l n
    is_free t = sym (no-if (free_within l (65 - (i + 1)) (drawn x)) x (sym p ∙ t)) ∙ sym one-draw ∙ left

  pub last-draw : (n x i : ℕ) → 65 ≤ i → free_within l (65 - i) x ≡ next_free l n → x ≡ next_free l n
  unfolding free_within
  last-draw n x i h left =
      let e : 65 - i ≡ 0 = omega arith in
      sym (ap (λ (k : ℕ). free_within l k x) e) ∙ left

  -- what was found under a number is a place of the list
  pub in_list : (n k : ℕ) (s : Option ℕ) → s ≡ place_of l n → s ≡ Some k → k < 64
  in_list n k s p e = (its-place l n k (sym p ∙ e)).below
