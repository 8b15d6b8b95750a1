-- One platform set up: it speaks Issue 3 or does not, as was said, and no other is touched; those that are listed, and no others, speak it.
-- Assumes nothing.
use Prim.Native.Nat.{ℕ, zero, suc, ◌-◌, ◌/◌, ◌%◌, ◌≤◌, ◌<◌}
use mathlib.Core.Path.{◌≡◌, refl, sym, ap, ◌∙◌}
use mathlib.Core.Bool.{Bool, true, false, cond, ◌&&◌, ◌||◌}
use mathlib.Core.List.{List, [], ◌∷◌}
use native.Mathlib.Omega.{arith}
use native.Mathlib.Nat.{div-eq_of_lt}
use borrow.Author.Tests.{lt-ltb, le-ltb, ltb-true, ltb-false, eqb-true, eqb-false}
use lib.Bits.{bit_or, bit_xor}
use lib.Dec.{eqb, ltb}
use lib.Pow.{pow_pos}
use lib.ListN.{length, get_or, set, replicate, length-set}
use lib.Seq.{set_out, get_or-set_same, get_or-set_other}
use Rattle.message.specs.Refusal.{platforms}
use Rattle.states.specs.States.{word_bits, mask}
use Rattle.states.proofs.Bits.{bit, set_there, set-elsewhere, turned-there, turned-elsewhere}
use Rattle.services.specs.Known.{is_in}
use Rattle.wire.proofs.Cond.{yes-if, no-if}
use Rattle.partners.specs.Threes.{bit_in, is_three, with_three, three_set, listed}
use Rattle.partners.proofs.Counting.{above_is_none, by_bit}

-- the bit of a platform in its word
module _ (x k : ℕ) where
  three-there : (three : Bool) → eqb (bit (with_three x k three) (k % word_bits)) 1 ≡ three
  unfolding with_three
  three-there true = ap (λ (n : ℕ). eqb n 1) (set_there x (k % word_bits))
  three-there false =
      let off : bit (bit_xor (bit_or x (mask k)) (mask k)) (k % word_bits) ≡ 1 - bit (bit_or x (mask k)) (k % word_bits) =
      turned-there (bit_or x (mask k)) (k % word_bits) in
      ap (λ (n : ℕ). eqb n 1) (off ∙ ap (λ (n : ℕ). 1 - n) (set_there x (k % word_bits)))

  three-elsewhere : (three : Bool) (j : ℕ) → (j ≡ k % word_bits → ⊥) → bit (with_three x k three) j ≡ bit x j
  unfolding with_three
  three-elsewhere true j h = set-elsewhere x (k % word_bits) j h
  three-elsewhere false j h = turned-elsewhere (bit_or x (mask k)) (k % word_bits) j h ∙ set-elsewhere x (k % word_bits) j h

-- above 255 nothing is set up
pub above_sets_nothing : (w : List ℕ) (k : ℕ) (three : Bool) → platforms ≤ k → three_set w k three ≡ w
unfolding three_set
above_sets_nothing w k three h = no-if _ _ (le-ltb k platforms h)

pub set_long : (w : List ℕ) (k : ℕ) (three : Bool) → length (three_set w k three) ≡ length w
unfolding three_set
set_long w k three = go (ltb k platforms)
  where
    go : (t : Bool) → length (cond t (set w (k / word_bits) (with_three (get_or w (k / word_bits) 0) k three)) w) ≡ length w
    go true = length-set w _ _
    go false = refl

module _ (w : List ℕ) (k : ℕ) (three : Bool) where
  its_word : k < platforms → three_set w k three ≡ set w (k / word_bits) (with_three (get_or w (k / word_bits) 0) k three)
  unfolding three_set
  its_word h = yes-if _ _ (lt-ltb k platforms h)

  -- the platform that was named
  pub is_set : k < platforms → k / word_bits < length w → is_three (three_set w k three) k ≡ three
  unfolding bit_in
  is_set h l =
      by_bit (three_set w k three) k h ∙ ap (λ (c : List ℕ). eqb (bit_in c k) 1) (its_word h)
      ∙ ap (λ (x : ℕ). eqb (x / mask k % 2) 1) (get_or-set_same w (k / word_bits) (with_three (get_or w (k / word_bits) 0) k three) 0 l)
      ∙ three-there (get_or w (k / word_bits) 0) k three

  -- and any other
  module _ (j : ℕ) (h : j ≡ k → ⊥) where
    bit-stays : k < platforms → bit_in (three_set w k three) j ≡ bit_in w j
    unfolding bit_in
    bit-stays hk = ap (λ (c : List ℕ). bit_in c j) (its_word hk) ∙ go (eqb (j / word_bits) (k / word_bits)) refl (ltb (k / word_bits) (length w)) refl
      where
        x : ℕ
        x = with_three (get_or w (k / word_bits) 0) k three

        go : (t : Bool) → eqb (j / word_bits) (k / word_bits) ≡ t → (u : Bool) → ltb (k / word_bits) (length w) ≡ u
            → bit_in (set w (k / word_bits) x) j ≡ bit_in w j
        go true t true u =
            let q : j / word_bits ≡ k / word_bits = eqb-true (j / word_bits) (k / word_bits) t in
            let apart : j % word_bits ≡ k % word_bits → ⊥ = λ e. h (omega arith) in
            let there : get_or (set w (k / word_bits) x) (j / word_bits) 0 ≡ x =
            ap (λ (i : ℕ). get_or (set w (k / word_bits) x) i 0) q ∙ get_or-set_same w (k / word_bits) x 0 (ltb-true _ _ u) in
            ap (λ (y : ℕ). y / mask j % 2) there ∙ three-elsewhere (get_or w (k / word_bits) 0) k three (j % word_bits) apart
            ∙ ap (λ (i : ℕ). get_or w i 0 / mask j % 2) (sym q)
        go true t false u = ap (λ (c : List ℕ). bit_in c j) (set_out w (k / word_bits) x (ltb-false _ _ u))
        go false t b u = ap (λ (y : ℕ). y / mask j % 2) (get_or-set_other w (k / word_bits) (j / word_bits) x 0 (eqb-false (j / word_bits) (k / word_bits) t))

    pub others_stay : is_three (three_set w k three) j ≡ is_three w j
    unfolding is_three
    others_stay = go (ltb k platforms) refl
      where
        go : (t : Bool) → ltb k platforms ≡ t → is_three (three_set w k three) j ≡ is_three w j
        go true t = ap (λ (b : ℕ). ltb j platforms && eqb b 1) (bit-stays (ltb-true k platforms t))
        go false t = ap (λ (c : List ℕ). is_three c j) (above_sets_nothing w k three (ltb-false k platforms t))

-- those that are listed
listed_long : (ks : List ℕ) → length (listed ks) ≡ 4
unfolding listed
listed_long [] = refl
listed_long (k ∷ ks) = set_long (listed ks) k true ∙ listed_long ks

zeros : (n i : ℕ) → ◌≡◌ {A = ℕ} (get_or (replicate n 0) i 0) 0
zeros zero i = refl
zeros (suc n) zero = refl
zeros (suc n) (suc i) = zeros n i

-- words of 0 say of none that it speaks Issue 3, however many they are
pub none_in : (n k : ℕ) → is_three (replicate n 0) k ≡ false
unfolding bit_in
none_in n k = go (ltb k platforms) refl
  where
    no-bit : bit_in (replicate n 0) k ≡ 0
    no-bit = ap (λ (y : ℕ). y / mask k % 2) (zeros n (k / word_bits)) ∙ ap (λ (x : ℕ). x % 2) (div-eq_of_lt (pow_pos (k % word_bits)))

    go : (t : Bool) → ltb k platforms ≡ t → is_three (replicate n 0) k ≡ false
    go true t = by_bit (replicate n 0) k (ltb-true k platforms t) ∙ ap (λ (x : ℕ). eqb x 1) no-bit
    go false t = above_is_none (replicate n 0) k (ltb-false k platforms t)

pub just_those : (ks : List ℕ) (k : ℕ) → k < platforms → is_three (listed ks) k ≡ is_in k ks
unfolding listed is_in
just_those [] k h = none_in 4 k
just_those (j ∷ ks) k h = go (eqb j k) refl (just_those ks k h)
  where
    go : (t : Bool) → eqb j k ≡ t → is_three (listed ks) k ≡ is_in k ks → is_three (three_set (listed ks) j true) k ≡ (eqb j k || is_in k ks)
    go true t r =
        let q : j ≡ k = eqb-true j k t in
        ap (λ (i : ℕ). is_three (three_set (listed ks) i true) k) q
        ∙ is_set (listed ks) k true h (omega (arith, listed_long ks)) ∙ ap (λ (b : Bool). b || is_in k ks) (sym t)
    go false t r =
        let other : k ≡ j → ⊥ = λ e. eqb-false j k t (sym e) in
        others_stay (listed ks) j true k other ∙ r ∙ ap (λ (b : Bool). b || is_in k ks) (sym t)
