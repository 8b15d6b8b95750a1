-- The states: this platform is always UP, a state that is noted is that of one platform, at the start no other is UP, and
-- the count is the number of platforms that are UP.
-- Assumes nothing.
use Prim.Native.Nat.{ℕ, zero, suc, ◌+◌, ◌-◌, ◌*◌, ◌/◌, ◌%◌, ◌^◌, ◌≤◌, ◌<◌}
use mathlib.Core.Path.{◌≡◌, refl, sym, ap, ap₂, ◌∙◌}
use mathlib.Core.Bool.{Bool, true, false, not, cond, ◌||◌}
use native.Mathlib.Omega.{arith}
use native.Mathlib.Nat.{zero-add, mod-lt, div-eq_of_lt, zero-lt-suc}
use borrow.Author.Tests.{eq-eqb, ne_eqb, eqb-true, eqb-false, lt-ltb, le-ltb}
use lib.Dec.{eqb}
use lib.Pow.{pow-lt, pow_pos}
use lib.Bits.{bit_or, bit_xor, or_lt}
use lib.Count.{ones}
use Rattle.states.specs.declared.States.{States}
use Rattle.states.specs.States.{word_of, with_word, mask, bit_of, stands_up, turned, with_own, sum_of_ones, how_many_up, count_below, Words, none_up, fresh_states}
use Rattle.states.proofs.WordLaws.{not_turned}
use Rattle.states.proofs.Bits.{bit, set_there, set-elsewhere, turned-there, turned-elsewhere, is_set, count_split, count_same, ones_count}

-- 01: this platform is UP
pub own_is_up : (own : ℕ) (s : States) → stands_up own s own ≡ true
unfolding stands_up
own_is_up own s = rw (eq-eqb own own refl) refl

-- a word that is replaced, and the others
word_there : (s : States) (i x : ℕ) → word_of (with_word s i x) i ≡ x
unfolding word_of with_word
word_there s zero x = refl
word_there s (suc zero) x = refl
word_there s (suc (suc zero)) x = refl
word_there s (suc (suc (suc i))) x = refl

module _ (s : States) (x : ℕ) where
  word-elsewhere : (i j : ℕ) → i ≤ 3 → j ≤ 3 → (j ≡ i → ⊥) → word_of (with_word s i x) j ≡ word_of s j
  unfolding word_of with_word
  word-elsewhere zero zero a b h = absurd (h refl)
  word-elsewhere zero (suc zero) a b h = refl
  word-elsewhere zero (suc (suc zero)) a b h = refl
  word-elsewhere zero (suc (suc (suc j))) a b h = refl
  word-elsewhere (suc zero) zero a b h = refl
  word-elsewhere (suc zero) (suc zero) a b h = absurd (h refl)
  word-elsewhere (suc zero) (suc (suc zero)) a b h = refl
  word-elsewhere (suc zero) (suc (suc (suc j))) a b h = refl
  word-elsewhere (suc (suc zero)) zero a b h = refl
  word-elsewhere (suc (suc zero)) (suc zero) a b h = refl
  word-elsewhere (suc (suc zero)) (suc (suc zero)) a b h = absurd (h refl)
  word-elsewhere (suc (suc zero)) (suc (suc (suc j))) a b h = refl
  word-elsewhere (suc (suc (suc i))) zero a b h = refl
  word-elsewhere (suc (suc (suc i))) (suc zero) a b h = refl
  word-elsewhere (suc (suc (suc i))) (suc (suc zero)) a b h = refl
  word-elsewhere (suc (suc (suc i))) (suc (suc (suc j))) a b h = absurd (h (omega arith))

-- platform j's bit where the word of platform k is replaced: in k's word, and in another
module _ (s : States) (x k j : ℕ) (hk : k < 256) (hj : j < 256) where
  in-its-word : j / 64 ≡ k / 64 → bit_of (with_word s (k / 64) x) j ≡ bit x (j % 64)
  unfolding bit_of
  in-its-word e = ap (λ (w : ℕ). bit w (j % 64)) (ap (word_of (with_word s (k / 64) x)) e ∙ word_there s (k / 64) x)

  in-another : (j / 64 ≡ k / 64 → ⊥) → bit_of (with_word s (k / 64) x) j ≡ bit_of s j
  unfolding bit_of
  in-another h = ap (λ (w : ℕ). bit w (j % 64)) (word-elsewhere s x (k / 64) (j / 64) (omega arith) (omega arith) h)

-- a state noted is one bit of one word; above 255 there is none
one_turned : (s : States) (k : ℕ) → k < 256 → turned s k ≡ with_word s (k / 64) (bit_xor (word_of s (k / 64)) (mask k))
unfolding turned
one_turned s k h = ap (λ (b : Bool). cond b (with_word s (k / 64) (bit_xor (word_of s (k / 64)) (mask k))) s) (lt-ltb k 256 h)

pub none_turned : (s : States) (k : ℕ) → 256 ≤ k → turned s k ≡ s
none_turned s k h = sym (not_turned s k h)

-- 01: states are kept of 256; any other number is DOWN
pub above_is_down : (own : ℕ) (s : States) (k : ℕ) → own < 256 → 256 ≤ k → stands_up own s k ≡ false
unfolding stands_up
above_is_down own s k ho h =
    let n : k ≡ own → ⊥ = λ e. omega arith in
    rw (ne_eqb k own n, le-ltb k 256 h) refl

-- of a platform that has a bit, the bit tells
by_bit : (own : ℕ) (s : States) (k : ℕ) → k < 256 → stands_up own s k ≡ (eqb k own || eqb (bit_of s k) 1)
unfolding stands_up
by_bit own s k h = rw (lt-ltb k 256 h) refl

module _ (s : States) (k j : ℕ) (hk : k < 256) (hj : j < 256) (h : j ≡ k → ⊥) where
  -- two platforms of one word have bits of their own
  apart : j / 64 ≡ k / 64 → j % 64 ≡ k % 64 → ⊥
  apart a b = h (omega arith)

  turned-other : bit_of (turned s k) j ≡ bit_of s j
  unfolding bit_of
  turned-other = ap (λ (x : States). bit_of x j) (one_turned s k hk) ∙ go (eqb (j / 64) (k / 64)) refl
    where
      go : (b : Bool) → eqb (j / 64) (k / 64) ≡ b → bit_of (with_word s (k / 64) (bit_xor (word_of s (k / 64)) (mask k))) j ≡ bit_of s j
      go true e =
          let q : j / 64 ≡ k / 64 = eqb-true (j / 64) (k / 64) e in
          in-its-word s (bit_xor (word_of s (k / 64)) (mask k)) k j hk hj q ∙ turned-elsewhere (word_of s (k / 64)) (k % 64) (j % 64) (apart q)
          ∙ ap (λ (i : ℕ). bit (word_of s i) (j % 64)) (sym q)
      go false e = in-another s (bit_xor (word_of s (k / 64)) (mask k)) k j hk hj (eqb-false (j / 64) (k / 64) e)

  own-other : bit_of (with_own k s) j ≡ bit_of s j
  unfolding with_own bit_of
  own-other = go (eqb (j / 64) (k / 64)) refl
    where
      go : (b : Bool) → eqb (j / 64) (k / 64) ≡ b → bit_of (with_own k s) j ≡ bit_of s j
      go true e =
          let q : j / 64 ≡ k / 64 = eqb-true (j / 64) (k / 64) e in
          in-its-word s (bit_or (word_of s (k / 64)) (mask k)) k j hk hj q ∙ set-elsewhere (word_of s (k / 64)) (k % 64) (j % 64) (apart q)
          ∙ ap (λ (i : ℕ). bit (word_of s i) (j % 64)) (sym q)
      go false e = in-another s (bit_or (word_of s (k / 64)) (mask k)) k j hk hj (eqb-false (j / 64) (k / 64) e)

turned_same : (s : States) (k : ℕ) → k < 256 → bit_of (turned s k) k ≡ 1 - bit_of s k
unfolding bit_of
turned_same s k h = ap (λ (x : States). bit_of x k) (one_turned s k h)
    ∙ in-its-word s (bit_xor (word_of s (k / 64)) (mask k)) k k h h refl ∙ turned-there (word_of s (k / 64)) (k % 64)

own_same : (s : States) (k : ℕ) → k < 256 → bit_of (with_own k s) k ≡ 1
unfolding with_own bit_of
own_same s k h = in-its-word s (bit_or (word_of s (k / 64)) (mask k)) k k h h refl ∙ set_there (word_of s (k / 64)) (k % 64)

-- 01: a state noted changes that platform's state, and no other's
flips : (b : ℕ) → b < 2 → eqb (1 - b) 1 ≡ not (eqb b 1)
flips zero h = refl
flips (suc zero) h = refl
flips (suc (suc b)) h = absurd (omega arith)

module _ (own : ℕ) (s : States) (k : ℕ) (hk : k < 256) where
  pub noted-there : (k ≡ own → ⊥) → stands_up own (turned s k) k ≡ not (stands_up own s k)
  unfolding bit_of
  noted-there h =
      let n : eqb k own ≡ false = ne_eqb k own h in
      rw (by_bit own (turned s k) k hk, by_bit own s k hk, n, turned_same s k hk)
      (flips (bit_of s k) (mod-lt (word_of s (k / 64) / 2 ^ (k % 64)) (zero-lt-suc 1)))

  pub noted-elsewhere : (j : ℕ) → j < 256 → (j ≡ k → ⊥) → stands_up own (turned s k) j ≡ stands_up own s j
  noted-elsewhere j hj h =
      by_bit own (turned s k) j hj ∙ ap (λ (b : ℕ). eqb j own || eqb b 1) (turned-other s k j hk hj h) ∙ sym (by_bit own s j hj)

-- 000, 6.3 b: at the start every other platform is DOWN
none_bit : (k : ℕ) → k < 256 → bit_of none_up k ≡ 0
unfolding bit_of word_of
none_bit k h = ap (λ (w : ℕ). bit w (k % 64)) (zeros (k / 64)) ∙ bit-zero (k % 64)
  where
    zeros : (i : ℕ) → word_of none_up i ≡ 0
    zeros zero = refl
    zeros (suc zero) = refl
    zeros (suc (suc zero)) = refl
    zeros (suc (suc (suc i))) = refl

    bit-zero : (j : ℕ) → bit 0 j ≡ 0
    bit-zero j = ap (λ (n : ℕ). n % 2) (div-eq_of_lt (pow_pos j))

pub others_start_down : (own k : ℕ) → own < 256 → k < 256 → (k ≡ own → ⊥) → stands_up own (fresh_states own) k ≡ false
others_start_down own k ho hk h = rw (by_bit own (fresh_states own) k hk, ne_eqb k own h, own-other none_up own k ho hk h, none_bit k hk) refl

-- 01: how many of the 256 are UP, this one counted
module _ (own : ℕ) (s : States) (ho : own < 256) where
  -- with the own bit set, the bits are the states
  up-bit : (k : ℕ) → k < 256 → stands_up own s k ≡ eqb (bit_of (with_own own s) k) 1
  up-bit k hk = by_bit own s k hk ∙ go (eqb k own) refl
    where
      go : (b : Bool) → eqb k own ≡ b → (eqb k own || eqb (bit_of s k) 1) ≡ eqb (bit_of (with_own own s) k) 1
      go true e =
          let q : k ≡ own = eqb-true k own e in
          rw e (sym (ap (λ (i : ℕ). eqb (bit_of (with_own own s) i) 1) q ∙ ap (λ (b : ℕ). eqb b 1) (own_same s own ho)))
      go false e = rw e (ap (λ (b : ℕ). eqb b 1) (sym (own-other s own k ho hk (eqb-false k own e))))

  -- the platforms of word i
  block : (i w : ℕ) → i ≤ 3 → word_of (with_own own s) i ≡ w → w < 2 ^ 64 → count_below (λ (k : ℕ). stands_up own s (64 * i + k)) 64 ≡ ones w
  unfolding bit_of
  block i w hi e l =
      count_same (λ (k : ℕ). stands_up own s (64 * i + k)) (is_set w) 64 (λ k h. one k h) ∙ sym (ones_count 64 w l)
    where
      one : (k : ℕ) → k < 64 → stands_up own s (64 * i + k) ≡ is_set w k
      one k h =
          let q : (64 * i + k) / 64 ≡ i = omega arith in
          let r : (64 * i + k) % 64 ≡ k = omega arith in
          up-bit (64 * i + k) (omega arith) ∙ ap₂ (λ (x y : ℕ). eqb (bit (word_of (with_own own s) x) y) 1) q r ∙ ap (λ (x : ℕ). is_set x k) e

words_stay : (s : States) (i x : ℕ) → Words s → x < 2 ^ 64 → Words (with_word s i x)
unfolding with_word
words_stay s zero x a h = record { first = h; second = a.second; third = a.third; fourth = a.fourth }
words_stay s (suc zero) x a h = record { first = a.first; second = h; third = a.third; fourth = a.fourth }
words_stay s (suc (suc zero)) x a h = record { first = a.first; second = a.second; third = h; fourth = a.fourth }
words_stay s (suc (suc (suc i))) x a h = record { first = a.first; second = a.second; third = a.third; fourth = h }

word_fits : (s : States) (i : ℕ) → Words s → word_of s i < 2 ^ 64
unfolding word_of
word_fits s zero a = a.first
word_fits s (suc zero) a = a.second
word_fits s (suc (suc zero)) a = a.third
word_fits s (suc (suc (suc i))) a = a.fourth

with_own_words : (own : ℕ) (s : States) → Words s → Words (with_own own s)
unfolding with_own
with_own_words own s a =
    words_stay s (own / 64) (bit_or (word_of s (own / 64)) (mask own)) a
    (or_lt 64 (word_of s (own / 64)) (mask own) (word_fits s (own / 64) a) (pow-lt (mod-lt own (zero-lt-suc 63))))

pub count_is : (own : ℕ) (s : States) → own < 256 → Words s → how_many_up own s ≡ count_below (stands_up own s) 256
unfolding how_many_up sum_of_ones word_of count_below
count_is own s ho a =
    let v : States = with_own own s in
    let b : Words v = with_own_words own s a in
    let f : ℕ → Bool = stands_up own s in
    let c0 : count_below f 64 ≡ ones v.w0 = count_split f 0 64
    ∙ ap (λ (n : ℕ). 0 + n) (block own s ho 0 v.w0 (omega arith) refl b.first) ∙ zero-add (ones v.w0) in
    let c1 : count_below f 128 ≡ ones v.w0 + ones v.w1 = count_split f 64 64
    ∙ ap₂ (λ (x y : ℕ). x + y) c0 (block own s ho 1 v.w1 (omega arith) refl b.second) in
    let c2 : count_below f 192 ≡ ones v.w0 + ones v.w1 + ones v.w2 = count_split f 128 64
    ∙ ap₂ (λ (x y : ℕ). x + y) c1 (block own s ho 2 v.w2 (omega arith) refl b.third) in
    sym (count_split f 192 64 ∙ ap₂ (λ (x y : ℕ). x + y) c2 (block own s ho 3 v.w3 (omega arith) refl b.fourth))
