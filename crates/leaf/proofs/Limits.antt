-- Laws of the leaves' ranges: the test of a word's measure is the test of its leaf, and where every word is allowed, each that is
-- read is.
-- Assumes nothing.
use Rattle.std.proofs.Common.{◌≡◌, ℕ, ◌+◌, ◌-◌, ◌*◌, ◌/◌, ◌%◌, ◌^◌, ◌<◌, ◌≤◌, Bool, true, false, cond, not, ◌&&◌, ◌||◌, eqb, ltb, leb, List, sym, refl, ap, ◌∙◌, true≢false, zero-lt-suc, arith, w64, Fits, ltb-false, ltb-true, le-ltb, lt-ltb, ne_eqb, eqb-true, le-leb, leb-false, leb-true}
use native.Mathlib.Nat.{one-le-pow}
use borrow.Author.Tests.{lt-leb, eqb-false}
use Rattle.wire.specs.Bytes.{span, number, Octets}
use Rattle.wire.proofs.Numbers.{number_lt}
use Rattle.table.specs.Leaf.{Leaf, boolean, signed, unsigned, float, none, base, in_signed, finite, is_value, allowed}
use Rattle.table.proofs.Leaves.{no-base, Each, each, any, arm}
use Rattle.leaf.specs.declared.codes.Range.{Range}
use Rattle.leaf.specs.Forms.{truth, extended, word_of, word_at}
use Rattle.leaf.specs.Limits.{range, is_signed, range_of, moved, measure}
use Rattle.leaf.proofs.Leaves.{Real, real, Wide, wide, truth_small}

-- two tests are one where each says what the other says
same : (a b : Bool) → (a ≡ true → b ≡ true) → (a ≡ false → b ≡ false) → a ≡ b
same true b t f = sym (t refl)
same false b t f = sym (f refl)

module _ (w : ℕ) (fits : w < 18446744073709551616) where
  -- so many values from 0 on
  from_zero : (n : ℕ) → n < 18446744073709551616 → ltb w (n + 1) ≡ leb ((w + 0) % 2 ^ 64) n
  from_zero n h =
      same (ltb w (n + 1)) (leb ((w + 0) % 2 ^ 64) n)
      (λ e. le-leb ((w + 0) % 2 ^ 64) n (omega (arith, ltb-true w (n + 1) e)))
      (λ e. lt-leb ((w + 0) % 2 ^ 64) n (omega (arith, ltb-false w (n + 1) e)))

  -- half of them below 0, which lie at the top of 64 bits
  either_side : (half n : ℕ) → half + half ≡ n + 1 → n < 18446744073709551616 → in_signed half w ≡ leb ((w + half) % 2 ^ 64) n
  unfolding in_signed
  either_side half n h l = go (ltb w half) (leb (2 ^ 64 - half) w) refl refl
    where
      go : (a b : Bool) → ltb w half ≡ a → leb (2 ^ 64 - half) w ≡ b → (ltb w half || (leb (2 ^ 64 - half) w && ltb w (2 ^ 64))) ≡ leb ((w + half) % 2 ^ 64) n
      go true b e g = rw (e, le-leb ((w + half) % 2 ^ 64) n (omega (arith, ltb-true w half e))) refl
      go false true e g = rw (e, g, lt-ltb w (2 ^ 64) fits, le-leb ((w + half) % 2 ^ 64) n (omega (arith, leb-true (2 ^ 64 - half) w g))) refl
      go false false e g = rw (e, g, lt-leb ((w + half) % 2 ^ 64) n (omega (arith, ltb-false w half e, leb-false (2 ^ 64 - half) w g))) refl

  -- the leaf takes a word just where its measure is not above the last
  Counts : Leaf → Type 0
  Counts l = is_value l w ≡ leb (measure l w) (range_of l).last

  of-signed : (k : ℕ) → k ≤ 3 → Counts (signed k)
  unfolding Counts is_value measure range_of
  of-signed k r =
      let v : Wide k = wide k r in
      let i : 2 ^ 64 ≡ v.times * span k + span k = v.is in
      let e : 2 * (span k / 2) ≡ span k = v.even in
      let o : 1 ≤ span k = one-le-pow (2 ^ k) 256 (zero-lt-suc 255) in
      either_side (span k / 2) (span k - 1) (omega arith) (omega arith)

  of-unsigned : (k n : ℕ) → 1 ≤ n → n ≤ 18446744073709551616 → Counts (unsigned k n)
  unfolding Counts is_value measure range_of
  of-unsigned k n o h = let e : n ≡ n - 1 + 1 = omega arith in ap (ltb w) e ∙ from_zero (n - 1) (omega arith)

  single : Counts (float 2 8 23)
  unfolding Counts is_value measure range_of finite
  single = go (ltb w 4294967296) (eqb (w / 8388608 % 256) 255) refl refl
    where
      go : (a b : Bool) → ltb w 4294967296 ≡ a → eqb (w / 8388608 % 256) 255 ≡ b
          → (ltb w 4294967296 && not (eqb (w / 8388608 % 256) 255)) ≡ leb (w - w / 2147483648 % 2 * 2147483648 + 8388608) 2147483647
      go true true p q =
          let m : ℕ = w - w / 2147483648 % 2 * 2147483648 + 8388608 in
          rw (p, q, lt-leb m 2147483647 (omega (arith, ltb-true w 4294967296 p, eqb-true (w / 8388608 % 256) 255 q))) refl
      go true false p q =
          let m : ℕ = w - w / 2147483648 % 2 * 2147483648 + 8388608 in
          rw (p, q, le-leb m 2147483647 (omega (arith, ltb-true w 4294967296 p, eqb-false (w / 8388608 % 256) 255 q))) refl
      go false b p q =
          let m : ℕ = w - w / 2147483648 % 2 * 2147483648 + 8388608 in
          rw (p, lt-leb m 2147483647 (omega (arith, ltb-false w 4294967296 p))) refl

  no_sign : w - w / 9223372036854775808 % 2 * 9223372036854775808 ≡ w % 9223372036854775808
  no_sign = omega arith

  double : Counts (float 3 11 52)
  unfolding Counts is_value measure range_of finite
  double = rw (lt-ltb w 18446744073709551616 fits, no_sign) (go (eqb (w / 4503599627370496 % 2048) 2047) refl)
    where
      go : (b : Bool) → eqb (w / 4503599627370496 % 2048) 2047 ≡ b → not (eqb (w / 4503599627370496 % 2048) 2047)
          ≡ leb (w % 9223372036854775808 + 4503599627370496) 9223372036854775807
      go true q =
          let m : ℕ = w % 9223372036854775808 + 4503599627370496 in
          rw (q, lt-leb m 9223372036854775807 (omega (arith, eqb-true (w / 4503599627370496 % 2048) 2047 q))) refl
      go false q =
          let m : ℕ = w % 9223372036854775808 + 4503599627370496 in
          rw (q, le-leb m 9223372036854775807 (omega (arith, eqb-false (w / 4503599627370496 % 2048) 2047 q))) refl

  counts : Each (λ n. Counts (base n))
  unfolding base Counts is_value measure range_of
  counts = (
    from_zero 1 (omega arith),
    of-signed 0 (omega arith),
    of-unsigned 0 128 (omega arith) (omega arith),
    of-signed 1 (omega arith),
    of-signed 2 (omega arith),
    of-signed 3 (omega arith),
    of-unsigned 0 256 (omega arith) (omega arith),
    of-unsigned 0 256 (omega arith) (omega arith),
    of-unsigned 1 65536 (omega arith) (omega arith),
    of-unsigned 2 4294967296 (omega arith) (omega arith),
    of-unsigned 3 18446744073709551616 (omega arith) (omega arith),
    single,
    double,
  )

pub counted : (code w : ℕ) → code < 13 → w < 18446744073709551616 → allowed code w ≡ leb (measure (base code) w) (range_of (base code)).last
unfolding allowed Counts
counted code w h fits = each (λ n. Counts w fits (base n)) (counts w fits) code h

-- the measures, arm by arm: the floats, and all that is counted
pub measured : (n : ℕ) (w x : ℕ) {r : ℕ} → r ≡ measure (base n) w → x ≡ n → r ≡ measure (base x) w
measured n w x e h = arm (λ l. measure l w) n x e h

not_float : (x w : ℕ) → (x ≡ 11 → ⊥) → (x ≡ 12 → ⊥) → moved (base x) w ≡ measure (base x) w
unfolding base measure
not_float x w =
    any (λ n. (n ≡ 11 → ⊥) → (n ≡ 12 → ⊥) → moved (base n) w ≡ measure (base n) w) (
      λ a b. refl,
      λ a b. refl,
      λ a b. refl,
      λ a b. refl,
      λ a b. refl,
      λ a b. refl,
      λ a b. refl,
      λ a b. refl,
      λ a b. refl,
      λ a b. refl,
      λ a b. refl,
      λ a b. absurd (a refl),
      λ a b. absurd (b refl),
    ) (λ n o a b. rw (no-base n o) refl) x

pub moved_up : (w x r : ℕ) (g : Range) → g ≡ range_of (base x) → r ≡ (w + g.below) % 2 ^ 64 → (x ≡ 11 → ⊥) → (x ≡ 12 → ⊥) → r ≡ measure (base x) w
moved_up w x r g e h a b = rw (h, e) (not_float x w a b)

-- of the integers, which are the codes before the floats
pub counted_up : (code w : ℕ) → code < 11 → w < 18446744073709551616 → allowed code w ≡ leb (moved (base code) w) (range_of (base code)).last
counted_up code w h fits =
    counted code w (omega arith) fits
    ∙ ap (λ (m : ℕ). leb m (range_of (base code)).last)
    (sym (not_float code w (λ (e : code ≡ 11). omega arith) (λ (e : code ≡ 12). omega arith)))

-- whether a word is allowed, arm by arm: an integer by its range, a float by its exponent, and no other number has a word
pub in_range : (code w : ℕ) (g : Range) (r : Bool) → Fits w64 w → code < 11 → g ≡ range_of (base code) → r ≡ leb ((w + g.below) % 2 ^ 64) g.last
    → r ≡ allowed code w
in_range code w g r f h e t = t ∙ rw e (sym (counted_up code w h (omega arith)))

pub tested : (m w below last : ℕ) → m ≡ (w + below) % 2 ^ 64 → leb m last ≡ leb ((w + below) % 2 ^ 64) last
tested m w below last e = ap (λ (n : ℕ). leb n last) e

pub at_code : (n w x : ℕ) (r : Bool) → r ≡ allowed n w → x ≡ n → r ≡ allowed x w
at_code n w x r e h = rw h e

pub at_double : (w x : ℕ) (r : Bool) → x ≡ 12 → Fits w64 w → r ≡ finite 11 52 w → r ≡ allowed x w
unfolding allowed base is_value
at_double w x r h l e = rw (h, lt-ltb w (2 ^ 64) (omega arith)) e

pub no_code : (x w : ℕ) → 11 ≤ x → (x ≡ 11 → ⊥) → (x ≡ 12 → ⊥) → false ≡ allowed x w
unfolding allowed is_value
no_code x w h d e = sym (ap (λ (l : Leaf). is_value l w) (no-base x (omega arith)))

-- the range of a code, from its last word and its sign
pub signs : (x : ℕ) → (eqb x 1 || eqb x 3 || eqb x 4 || eqb x 5) ≡ is_signed (base x)
unfolding base is_signed
signs =
    any (λ n. (eqb n 1 || eqb n 3 || eqb n 4 || eqb n 5) ≡ is_signed (base n))
    (refl, refl, refl, refl, refl, refl, refl, refl, refl, refl, refl, refl, refl)
    (λ n h. rw (no-base n h)
    (simp (ne_eqb n 1 (λ e. omega arith), ne_eqb n 3 (λ e. omega arith), ne_eqb n 4 (λ e. omega arith), ne_eqb n 5 (λ e. omega arith))))

-- the integers of which every word that their bytes can be is allowed: all but char8
abbrev takes_all : ℕ → Bool
takes_all x = ltb x 11 && not (eqb x 2)

by_sign : (x : ℕ) → range (cond (is_signed (base x)) ((range_of (base x)).last / 2 + 1) 0) (range_of (base x)).last (takes_all x) ≡ range_of (base x)
unfolding base is_signed range_of
by_sign =
    any (λ n. range (cond (is_signed (base n)) ((range_of (base n)).last / 2 + 1) 0) (range_of (base n)).last (takes_all n) ≡ range_of (base n))
    (refl, refl, refl, refl, refl, refl, refl, refl, refl, refl, refl, refl, refl)
    (λ n h. rw (no-base n h, le-ltb n 11 (omega arith)) refl)

module _ (x l : ℕ) (s : Bool) (last : l ≡ (range_of (base x)).last) (sign : s ≡ is_signed (base x)) where
  with-sign : (b : Bool) → s ≡ b → range (cond b (l / 2 + 1) 0) l (takes_all x) ≡ range_of (base x)
  with-sign b h = rw (← h, sign, last) (by_sign x)

  pub both-signs : s ≡ true → range (l / 2 + 1) l (takes_all x) ≡ range_of (base x)
  both-signs h = with-sign true h

  pub no-signs : s ≡ false → range 0 l (takes_all x) ≡ range_of (base x)
  no-signs h = with-sign false h

-- a number of two's complement that is read is in its range
sign_in : (half x : ℕ) → half ≤ 2 ^ 63 → x < 2 * half → in_signed half (extended half x) ≡ true
unfolding in_signed extended
sign_in half x h l = go (ltb x half) refl
  where
    go : (t : Bool) → ltb x half ≡ t → in_signed half (extended half x) ≡ true
    go true e = rw (e, e) refl
    go false e =
        let a : half ≤ x = ltb-false x half e in
        let v : ℕ = x + (2 ^ 64 - 2 * half) in
        rw (e, le-ltb v half (omega arith), le-leb (2 ^ 64 - half) v (omega arith), lt-ltb v (2 ^ 64) (omega arith)) refl

-- where every word is a value, the one that is read is
module _ (s : List ℕ) (p : ℕ) (o : Octets s) where
  every_value : (l : Leaf) → Real l → (range_of l).every ≡ true → is_value l (word_of l s p) ≡ true
  unfolding range_of is_value word_of
  every_value boolean r e = lt-ltb (truth (number 0 s p)) 2 (truth_small (number 0 s p))
  every_value (signed k) r e =
      let v : Wide k = wide k r in
      let i : 2 ^ 64 ≡ v.times * span k + span k = v.is in
      let d : 2 * (span k / 2) ≡ span k = v.even in
      sign_in (span k / 2) (number k s p) (omega arith) (omega (arith, number_lt k s p o))
  every_value (unsigned k n) r e = lt-ltb (number k s p) n (omega (arith, number_lt k s p o, leb-true (span k) n e))
  every_value (float k a f) r e = absurd (true≢false (sym e))
  every_value none r e = absurd (true≢false (sym e))

  pub every-word : (code : ℕ) (g : Range) → g ≡ range_of (base code) → g.every ≡ true → allowed code (word_at code s p) ≡ true
  unfolding allowed word_at
  every-word code g h e = every_value (base code) (real code) (rw h at e)
