-- Laws of a leaf's bytes and words: the bytes of a value read as that value, and what was read has those bytes, but that any
-- byte but 0 is a true boolean. Integer leaves: one fact over the width and the sign.
-- Assumes nothing.
use Rattle.std.proofs.Common.{◌≡◌, ℕ, zero, suc, ◌+◌, ◌-◌, ◌*◌, ◌/◌, ◌%◌, ◌^◌, ◌<◌, ◌≤◌, Bool, true, false, ◌&&◌, eqb, ltb, leb, List, [], ◌++◌, length, get_or, take, drop, sym, refl, ap, ◌∙◌, add-zero, mod-lt, mod-eq_of_lt, zero-lt-suc, arith, ltb-false, ltb-true, leb-true}
use native.Mathlib.Nat.{one-le-pow}
use lib.Arith.{digits_mod}
use lib.Pow.{pow-lt}
use Rattle.wire.specs.Bytes.{span, number, bytes, Octets}
use Rattle.wire.proofs.Cond.{yes_lt, no_lt, and_left, and_right}
use Rattle.wire.proofs.Numbers.{number_lt, number_append, number_bytes, length_bytes, bytes_number}
use Rattle.table.specs.Leaf.{Leaf, boolean, signed, unsigned, float, none, base, bytes_of, in_signed, finite, is_value, width}
use Rattle.table.proofs.Leaves.{no-base, any}
use Rattle.leaf.specs.Forms.{truth, extended, word_of, form, form_of, Says}

-- no base code is wider than 8 bytes, and none takes a number that its bytes do not hold
abbrev pub Real : Leaf → Type 0
Real boolean = 0 ≤ 3
Real (signed k) = k ≤ 3
Real (unsigned k n) = (k ≤ 3) × (n ≤ span k)
Real (float k e f) = k ≤ 3
Real none = 0 ≤ 3

pub real : (code : ℕ) → Real (base code)
unfolding base
real code = any (λ n. Real (base n)) (search arith) (λ n h. rw (no-base n h) (omega arith)) code

same_power : (j k : ℕ) → 2 ^ j ≡ 2 ^ k → j ≡ k
same_power j k e = go (ltb j k) (ltb k j) refl refl
  where
    go : (a b : Bool) → ltb j k ≡ a → ltb k j ≡ b → j ≡ k
    go true b p q = absurd (omega (arith, pow-lt (ltb-true j k p)))
    go false true p q = absurd (omega (arith, pow-lt (ltb-true k j q)))
    go false false p q = omega (arith, ltb-false j k p, ltb-false k j q)

-- the bytes of a leaf of 2 ^ k bytes
form-of : (k : ℕ) (l : Leaf) (w : ℕ) → bytes_of l ≡ 2 ^ k → form l w ≡ bytes k (w % span k)
unfolding bytes_of form
form-of k boolean w e = ap (λ (j : ℕ). bytes j (w % span j)) (same_power 0 k e)
form-of k (signed j) w e = ap (λ (i : ℕ). bytes i (w % span i)) (same_power j k e)
form-of k (unsigned j n) w e = ap (λ (i : ℕ). bytes i (w % span i)) (same_power j k e)
form-of k (float j a f) w e = ap (λ (i : ℕ). bytes i (w % span i)) (same_power j k e)
form-of k none w e = absurd (omega (arith, one-le-pow k 2 (zero-lt-suc 1)))

pub form_is : (k code w : ℕ) → width code ≡ 2 ^ k → form_of code w ≡ bytes k (w % span k)
unfolding width form_of
form_is k code w e = form-of k (base code) w e

-- a width of no leaf
abbrev pub Other : ℕ → Type 0
Other n = (n ≡ 1 → ⊥) × (n ≡ 2 → ⊥) × (n ≡ 4 → ⊥) × (n ≡ 8 → ⊥)

power_known : (k : ℕ) → k ≤ 3 → Other (2 ^ k) → ⊥
power_known zero h o = o.0 refl
power_known (suc zero) h o = o.1 refl
power_known (suc (suc zero)) h o = o.2 refl
power_known (suc (suc (suc zero))) h o = o.3 refl
power_known (suc (suc (suc (suc k)))) h o = omega arith

no_leaf : (l : Leaf) (w : ℕ) → Real l → Other (bytes_of l) → form l w ≡ []
unfolding bytes_of form
no_leaf boolean w r o = absurd (power_known 0 r o)
no_leaf (signed k) w r o = absurd (power_known k r o)
no_leaf (unsigned k n) w r o = absurd (power_known k r.0 o)
no_leaf (float k a f) w r o = absurd (power_known k r o)
no_leaf none w r o = refl

pub no_bytes : (code w : ℕ) → Other (width code) → form_of code w ≡ []
unfolding width form_of
no_bytes code w o = no_leaf (base code) w (real code) o

pub length_form : (l : Leaf) (w : ℕ) → length (form l w) ≡ bytes_of l
unfolding bytes_of form
length_form boolean w = length_bytes 0 (w % span 0)
length_form (signed k) w = length_bytes k (w % span k)
length_form (unsigned k n) w = length_bytes k (w % span k)
length_form (float k e f) w = length_bytes k (w % span k)
length_form none w = refl

-- 2 ^ 64 is so many times what 2 ^ k bytes hold, and once more
pub record Wide (k : ℕ) : Type 0 where
  pub times : ℕ
  pub is : 2 ^ 64 ≡ times * span k + span k
  pub even : 2 * (span k / 2) ≡ span k

pub wide : (k : ℕ) → k ≤ 3 → Wide k
wide zero h = record { times = 72057594037927935; is = refl; even = refl }
wide (suc zero) h = record { times = 281474976710655; is = refl; even = refl }
wide (suc (suc zero)) h = record { times = 4294967295; is = refl; even = refl }
wide (suc (suc (suc zero))) h = record { times = 0; is = refl; even = refl }
wide (suc (suc (suc (suc k)))) h = absurd (omega arith)

-- two's complement over the width: the low bytes of a number's word are the number again, and the word of a number's low
-- bytes is the word again
module _ (k : ℕ) (r : k ≤ 3) where
  low-of-word : (x : ℕ) → x < span k → extended (span k / 2) x % span k ≡ x
  unfolding extended
  low-of-word x h = go (ltb x (span k / 2)) refl
    where
      v : Wide k
      v = wide k r

      go : (b : Bool) → ltb x (span k / 2) ≡ b → extended (span k / 2) x % span k ≡ x
      go true e = rw e (mod-eq_of_lt h)
      go false e =
          let m : ℕ = v.times * span k in
          let n : 2 ^ 64 ≡ m + span k = v.is in
          let d : 2 * (span k / 2) ≡ span k = v.even in
          let j : x + (2 ^ 64 - 2 * (span k / 2)) ≡ m + x = omega arith in
          rw (e, j) (digits_mod v.times h)

  word-of-low : (w : ℕ) → in_signed (span k / 2) w ≡ true → extended (span k / 2) (w % span k) ≡ w
  unfolding extended in_signed
  word-of-low w e = go (ltb w (span k / 2)) refl
    where
      v : Wide k
      v = wide k r

      go : (b : Bool) → ltb w (span k / 2) ≡ b → extended (span k / 2) (w % span k) ≡ w
      go true p =
          let l : w < span k / 2 = ltb-true w (span k / 2) p in
          let d : 2 * (span k / 2) ≡ span k = v.even in
          let q : w % span k ≡ w = mod-eq_of_lt (omega arith) in
          rw q (yes_lt w (w + (2 ^ 64 - 2 * (span k / 2))) w (span k / 2) l)
      go false p =
          let h : (leb (2 ^ 64 - span k / 2) w && ltb w (2 ^ 64)) ≡ true = rw p at e in
          let a : 2 ^ 64 - span k / 2 ≤ w = leb-true (2 ^ 64 - span k / 2) w (and_left (leb (2 ^ 64 - span k / 2) w) (ltb w (2 ^ 64)) h) in
          let b : w < 2 ^ 64 = ltb-true w (2 ^ 64) (and_right (leb (2 ^ 64 - span k / 2) w) (ltb w (2 ^ 64)) h) in
          let m : ℕ = v.times * span k in
          let n : 2 ^ 64 ≡ m + span k = v.is in
          let d : 2 * (span k / 2) ≡ span k = v.even in
          let x : ℕ = w - m in
          let s : w ≡ m + x = omega arith in
          let l : x < span k = omega arith in
          let q : w % span k ≡ x = ap (λ (i : ℕ). i % span k) s ∙ digits_mod v.times l in
          let u : span k / 2 ≤ x = omega arith in
          rw q (no_lt x (x + (2 ^ 64 - 2 * (span k / 2))) x (span k / 2) u ∙ omega arith)

-- a number read back from its bytes
read_form : (k w : ℕ) (ys : List ℕ) → w % span k < span k → number k (bytes k (w % span k) ++ ys) 0 ≡ w % span k
read_form k w ys h = number_bytes k (w % span k) ys h

low_lt : (k w : ℕ) → w % span k < span k
low_lt k w = mod-lt w (one-le-pow (2 ^ k) 256 (zero-lt-suc 255))

low_same : (k n w : ℕ) → n ≤ span k → ltb w n ≡ true → w % span k ≡ w
low_same k n w h e = mod-eq_of_lt (omega (arith, ltb-true w n e))

pub truth_small : (b : ℕ) → truth b < 2
unfolding truth
truth_small b = go (eqb b 0) refl
  where
    go : (c : Bool) → eqb b 0 ≡ c → truth b < 2
    go true e = rw e (omega arith)
    go false e = rw e (omega arith)

truth_self : (w : ℕ) → w < 2 → truth w ≡ w
unfolding truth
truth_self zero h = refl
truth_self (suc zero) h = refl
truth_self (suc (suc w)) h = absurd (omega arith)

-- the bytes of a value read as the value
pub word_of_form : (l : Leaf) (w : ℕ) (ys : List ℕ) → Real l → is_value l w ≡ true → word_of l (form l w ++ ys) 0 ≡ w
unfolding is_value word_of form
word_of_form boolean w ys r e =
    let h : w < 2 = ltb-true w 2 e in
    ap truth (mod-eq_of_lt (omega arith)) ∙ truth_self w h
word_of_form (signed k) w ys r e = rw (read_form k w ys (low_lt k w)) (word-of-low k r w e)
word_of_form (unsigned k n) w ys r e = read_form k w ys (low_lt k w) ∙ low_same k n w r.1 e
word_of_form (float k a f) w ys r e = read_form k w ys (low_lt k w) ∙ low_same k (span k) w (omega arith) (and_left (ltb w (span k)) (finite a f w) e)
word_of_form none w ys r e = absurd (let z : ◌≡◌ {A = ℕ} 0 1 = cc in omega arith)

-- and so does any byte form of it
pub word_said : (l : Leaf) (w : ℕ) (bs ys : List ℕ) → Real l → is_value l w ≡ true → Says l w bs → word_of l (bs ++ ys) 0 ≡ w
unfolding Says word_of
word_said boolean w bs ys r e h = ap (λ (u : List ℕ). truth (get_or (u ++ ys) 0 0)) h.is ∙ sym h.says
word_said (signed k) w bs ys r e h = rw h (word_of_form (signed k) w ys r e)
word_said (unsigned k n) w bs ys r e h = rw h (word_of_form (unsigned k n) w ys r e)
word_said (float k a f) w bs ys r e h = rw h (word_of_form (float k a f) w ys r e)
word_said none w bs ys r e h = word_of_form none w ys r e

-- where a word was read, its byte form stands
pub said_there : (l : Leaf) (s : List ℕ) (p : ℕ) → Real l → Octets s → p + bytes_of l ≤ length s → Says l (word_of l s p) (take (bytes_of l) (drop p s))
unfolding Says word_of form bytes_of
said_there boolean s p r o h =
    record { byte = number 0 s p; octet = o p; is = sym (bytes_number 0 s p o h); says = refl }
said_there (signed k) s p r o h =
    sym (ap (bytes k) (low-of-word k r (number k s p) (number_lt k s p o)) ∙ bytes_number k s p o h)
said_there (unsigned k n) s p r o h =
    sym (ap (bytes k) (mod-eq_of_lt (number_lt k s p o)) ∙ bytes_number k s p o h)
said_there (float k a f) s p r o h =
    sym (ap (bytes k) (mod-eq_of_lt (number_lt k s p o)) ∙ bytes_number k s p o h)
said_there none s p r o h = refl

-- a value's bytes are one of its byte forms; a byte form has as many bytes
pub form_says : (l : Leaf) (w : ℕ) → is_value l w ≡ true → Says l w (form l w)
unfolding Says form is_value
form_says boolean w e =
    let h : w < 2 = ltb-true w 2 e in
    let m : w % span 0 ≡ w = mod-eq_of_lt (omega arith) in
    record { byte = w % span 0; octet = omega arith; is = refl; says = sym (ap truth m ∙ truth_self w h) }
form_says (signed k) w e = refl
form_says (unsigned k n) w e = refl
form_says (float k a f) w e = refl
form_says none w e = refl

pub length_said : (l : Leaf) (w : ℕ) (bs : List ℕ) → Says l w bs → length bs ≡ bytes_of l
unfolding Says bytes_of form
length_said boolean w bs h = ap length h.is
length_said (signed k) w bs h = ap length h ∙ length_form (signed k) w
length_said (unsigned k n) w bs h = ap length h ∙ length_form (unsigned k n) w
length_said (float k a f) w bs h = ap length h ∙ length_form (float k a f) w
length_said none w bs h = ap length h

at_zero : (k : ℕ) (xs ys : List ℕ) → number k (xs ++ ys) (length xs) ≡ number k ys 0
at_zero k xs ys = ap (number k (xs ++ ys)) (sym (add-zero (length xs))) ∙ number_append k xs ys 0

-- a leaf reads the same wherever it stands
pub word_append : (l : Leaf) (xs ys : List ℕ) → word_of l (xs ++ ys) (length xs) ≡ word_of l ys 0
unfolding word_of
word_append boolean xs ys = ap truth (at_zero 0 xs ys)
word_append (signed k) xs ys = ap (extended (span k / 2)) (at_zero k xs ys)
word_append (unsigned k n) xs ys = at_zero k xs ys
word_append (float k a f) xs ys = at_zero k xs ys
word_append none xs ys = refl
