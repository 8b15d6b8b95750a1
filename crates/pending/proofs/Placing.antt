-- The words of a list after both words of a place are written.
-- Assumes nothing.
use Rattle.std.proofs.Common.{◌≡◌, ℕ, ◌+◌, ◌*◌, ◌/◌, ◌%◌, ◌^◌, ◌<◌, List, length, get_or, set, ap, ◌∙◌, arith, length-set, get_or-set_other, get_or-set_same}
use Rattle.wire.proofs.Cond.{yes_lt}
use Rattle.pending.specs.Places.{target_at, placed}

module _ (l : List ℕ) (k w t : ℕ) (in_List : k < 64) where
  both : List ℕ
  both = set (set l k w) (64 + k) t

  as-both : placed l k w t ≡ both
  unfolding both
  as-both = yes_lt (set (set l k w) (64 + k) t) l k 64 in_List

  pub placed-length : length (placed l k w t) ≡ length l
  unfolding both
  placed-length = ap length as-both ∙ length-set (set l k w) (64 + k) t ∙ length-set l k w

  module _ (whole : length l ≡ 128) where
    pub word-here : get_or (placed l k w t) k 0 ≡ w
    unfolding both
    word-here =
        let a : k < length l = omega arith in
        let d : k ≡ 64 + k → ⊥ = λ e. omega arith in
        ap (λ (x : List ℕ). get_or x k 0) as-both ∙ get_or-set_other (set l k w) (64 + k) k t 0 d ∙ get_or-set_same l k w 0 a

    pub target-here : target_at (placed l k w t) k ≡ t
    unfolding both
    target-here =
        let e : length (set l k w) ≡ length l = length-set l k w in
        let a : 64 + k < length (set l k w) = omega arith in
        ap (λ (x : List ℕ). get_or x (64 + k) 0) as-both ∙ get_or-set_same (set l k w) (64 + k) t 0 a

  module _ (j : ℕ) (other : j ≡ k → ⊥) (h : j < 64) where
    pub word-elsewhere : get_or (placed l k w t) j 0 ≡ get_or l j 0
    unfolding both
    word-elsewhere =
        let d : j ≡ 64 + k → ⊥ = λ e. omega arith in
        ap (λ (x : List ℕ). get_or x j 0) as-both ∙ get_or-set_other (set l k w) (64 + k) j t 0 d ∙ get_or-set_other l k j w 0 other

    pub target-elsewhere : target_at (placed l k w t) j ≡ target_at l j
    unfolding both
    target-elsewhere =
        let c : 64 + j ≡ k → ⊥ = λ e. omega arith in
        let d : 64 + j ≡ 64 + k → ⊥ = λ e. other (omega arith) in
        ap (λ (x : List ℕ). get_or x (64 + j) 0) as-both ∙ get_or-set_other (set l k w) (64 + k) (64 + j) t 0 d ∙ get_or-set_other l k (64 + j) w 0 c

-- a number and an ID in one word
pub number_in : (n id : ℕ) → id < 2 ^ 32 → (n * 2 ^ 32 + id) / 2 ^ 32 ≡ n
number_in n id h = omega arith

pub id-in : (n id : ℕ) → id < 2 ^ 32 → (n * 2 ^ 32 + id) % 2 ^ 32 ≡ id
id-in n id h = omega arith
