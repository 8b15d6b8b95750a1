-- What the functions come to at their returns.
-- Assumes nothing.
use Prim.Native.Nat.{ℕ, zero, suc, ◌+◌, ◌/◌, ◌%◌, ◌^◌, ◌≤◌, ◌<◌}
use mathlib.Core.Path.{◌≡◌, refl, sym, ap, ◌∙◌}
use mathlib.Core.Bool.{Bool, cond, ◌&&◌, ◌||◌}
use borrow.Author.Tests.{lt-ltb, le-ltb}
use lib.Dec.{eqb, ltb}
use lib.Bits.{bit_or, bit_xor}
use lib.Count.{ones}
use Rattle.message.specs.Refusal.{platforms}
use Rattle.states.specs.declared.States.{States}
use Rattle.states.specs.States.{word_of, with_word, mask, bit_of, stands_up, turned, with_own, sum_of_ones, how_many_up}

module _ (s : States) (i : ℕ) where
  pub word-0 : i ≡ 0 → s.w0 ≡ word_of s i
  unfolding word_of
  word-0 e = rw e

  pub word-1 : i ≡ 1 → s.w1 ≡ word_of s i
  unfolding word_of
  word-1 e = rw e

  pub word-2 : i ≡ 2 → s.w2 ≡ word_of s i
  unfolding word_of
  word-2 e = rw e

  pub word-3 : (i ≡ 0 → ⊥) → (i ≡ 1 → ⊥) → (i ≡ 2 → ⊥) → s.w3 ≡ word_of s i
  unfolding word_of
  word-3 a b c = go i a b c
    where
      go : (n : ℕ) → (n ≡ 0 → ⊥) → (n ≡ 1 → ⊥) → (n ≡ 2 → ⊥) → s.w3 ≡ word_of s n
      go zero a b c = absurd (a refl)
      go (suc zero) a b c = absurd (b refl)
      go (suc (suc zero)) a b c = absurd (c refl)
      go (suc (suc (suc n))) a b c = refl

  module _ (x : ℕ) where
    pub with-0 : i ≡ 0 → ◌≡◌ {A = States} (record { w0 = x; w1 = s.w1; w2 = s.w2; w3 = s.w3 }) (with_word s i x)
    unfolding with_word
    with-0 e = rw e

    pub with-1 : i ≡ 1 → ◌≡◌ {A = States} (record { w0 = s.w0; w1 = x; w2 = s.w2; w3 = s.w3 }) (with_word s i x)
    unfolding with_word
    with-1 e = rw e

    pub with-2 : i ≡ 2 → ◌≡◌ {A = States} (record { w0 = s.w0; w1 = s.w1; w2 = x; w3 = s.w3 }) (with_word s i x)
    unfolding with_word
    with-2 e = rw e

    pub with-3 : (i ≡ 0 → ⊥) → (i ≡ 1 → ⊥) → (i ≡ 2 → ⊥) → ◌≡◌ {A = States} (record { w0 = s.w0; w1 = s.w1; w2 = s.w2; w3 = x }) (with_word s i x)
    unfolding with_word
    with-3 a b c = go i a b c
      where
        go : (n : ℕ) → (n ≡ 0 → ⊥) → (n ≡ 1 → ⊥) → (n ≡ 2 → ⊥) → ◌≡◌ {A = States} (record { w0 = s.w0; w1 = s.w1; w2 = s.w2; w3 = x }) (with_word s n x)
        go zero a b c = absurd (a refl)
        go (suc zero) a b c = absurd (b refl)
        go (suc (suc zero)) a b c = absurd (c refl)
        go (suc (suc (suc n))) a b c = refl

pub the_sum : (s : States) → ones s.w0 + ones s.w1 + ones s.w2 + ones s.w3 ≡ sum_of_ones s
unfolding sum_of_ones
the_sum s = refl

module _ (s : States) (k w : ℕ) (e : w ≡ word_of s (k / 64)) where
  pub the_bit : w / 2 ^ (k % 64) % 2 ≡ bit_of s k
  unfolding bit_of
  the_bit = rw e

  module _ (m : ℕ) (q : m ≡ mask k) where
    pub turned_is : (r : States) → k < platforms → r ≡ with_word s (k / 64) (bit_xor w m) → r ≡ turned s k
    unfolding turned
    turned_is r l h = h ∙ ap (with_word s (k / 64)) (rw (e, q) refl)
        ∙ sym (ap (λ (b : Bool). cond b (with_word s (k / 64) (bit_xor (word_of s (k / 64)) (mask k))) s) (lt-ltb k platforms l))

    pub own_is : (r : States) → r ≡ with_word s (k / 64) (bit_or w m) → r ≡ with_own k s
    unfolding with_own
    own_is r h = h ∙ ap (with_word s (k / 64)) (rw (e, q) refl)

pub not_turned : (s : States) (k : ℕ) → platforms ≤ k → s ≡ turned s k
unfolding turned
not_turned s k l = sym (ap (λ (b : Bool). cond b (with_word s (k / 64) (bit_xor (word_of s (k / 64)) (mask k))) s) (le-ltb k platforms l))

pub up_is : (own : ℕ) (s : States) (k b : ℕ) → b ≡ bit_of s k → (eqb k own || (ltb k platforms && eqb b 1)) ≡ stands_up own s k
unfolding stands_up
up_is own s k b e = rw e

pub many_are : (own : ℕ) (s t : States) (r : ℕ) → t ≡ with_own own s → r ≡ sum_of_ones t → r ≡ how_many_up own s
unfolding how_many_up
many_are own s t r e h = h ∙ ap sum_of_ones e
