-- Laws of `little`, `low_first` and `swapped` over the width: a little-endian number, swapped, is the big-endian one; the bytes of a
-- swapped number, low byte first, are the number's bytes; and a number that is swapped twice is itself.
-- Assumes nothing.
use Prim.Native.Nat.{ℕ, zero, suc, ◌+◌, ◌/◌, ◌%◌, ◌^◌, ◌<◌}
use mathlib.Core.Path.{◌≡◌, refl, sym, ap, subst, ◌∙◌}
use mathlib.Core.Bool.{Bool, true, false}
use mathlib.Core.List.{List}
use native.Mathlib.Nat.{mod-lt, div-lt_iff_lt-mul, div-add-mod'}
use borrow.Author.Tests.{eqb-true, eqb-false, eq-eqb, ne_eqb}
use lib.Arith.{digits_lt, digits_div, digits_mod}
use lib.Dec.{eqb}
use lib.ListN.{length, length-append}
use Rattle.wire.specs.Bytes.{span, number, bytes, Octets}
use Rattle.wire.specs.LowFirst.{little, low_first, swapped}
use Rattle.wire.proofs.Numbers.{span_suc, span_pos, twice}

little_lt : (k : ℕ) (s : List ℕ) (p : ℕ) → Octets s → little k s p < span k
little_lt zero s p o = o p
little_lt (suc k) s p o = rw (span_suc k) (digits_lt (little_lt k s (p + 2 ^ k) o) (little_lt k s p o))

pub swapped_little : (k : ℕ) (s : List ℕ) (p : ℕ) → Octets s → swapped k (little k s p) ≡ number k s p
swapped_little zero s p o = refl
swapped_little (suc k) s p o =
    rw (
      digits_div (little k s (p + 2 ^ k)) (little_lt k s p o),
      digits_mod (little k s (p + 2 ^ k)) (little_lt k s p o),
      swapped_little k s p o,
      swapped_little k s (p + 2 ^ k) o,
    )

high_lt : (k x : ℕ) → x < span (suc k) → x / span k < span k
high_lt k x h = (div-lt_iff_lt-mul (span_pos k)).1 (subst (λ (n : ℕ). x < n) (span_suc k) h)

swapped_lt : (k x : ℕ) → x < span k → swapped k x < span k
swapped_lt zero x h = h
swapped_lt (suc k) x h = rw (span_suc k) (digits_lt (swapped_lt k (x % span k) (mod-lt x (span_pos k))) (swapped_lt k (x / span k) (high_lt k x h)))

-- swapped again, it is the number
pub swapped_twice : (k x : ℕ) → x < span k → swapped k (swapped k x) ≡ x
swapped_twice zero x h = refl
swapped_twice (suc k) x h =
    let l : swapped k (x / span k) < span k = swapped_lt k (x / span k) (high_lt k x h) in
    rw (
      digits_div (swapped k (x % span k)) l,
      digits_mod (swapped k (x % span k)) l,
      swapped_twice k (x / span k) (high_lt k x h),
      swapped_twice k (x % span k) (mod-lt x (span_pos k)),
    )
    (div-add-mod' x (span k))

-- so a number is swapped exactly where the other is
pub swapped_eqb : (k x y : ℕ) → x < span k → y < span k → eqb (swapped k x) y ≡ eqb x (swapped k y)
swapped_eqb k x y h l = go (eqb x (swapped k y)) refl
  where
    go : (b : Bool) → eqb x (swapped k y) ≡ b → eqb (swapped k x) y ≡ eqb x (swapped k y)
    go true e = eq-eqb (swapped k x) y (ap (swapped k) (eqb-true x (swapped k y) e) ∙ swapped_twice k y l) ∙ sym e
    go false e =
        ne_eqb (swapped k x) y (λ q. eqb-false x (swapped k y) e (sym (swapped_twice k x h) ∙ ap (swapped k) q)) ∙ sym e

pub low_swapped : (k x : ℕ) → x < span k → low_first k (swapped k x) ≡ bytes k x
low_swapped zero x h = refl
low_swapped (suc k) x h =
    let l : swapped k (x / span k) < span k = swapped_lt k (x / span k) (high_lt k x h) in
    rw (
      digits_div (swapped k (x % span k)) l,
      digits_mod (swapped k (x % span k)) l,
      low_swapped k (x / span k) (high_lt k x h),
      low_swapped k (x % span k) (mod-lt x (span_pos k)),
    )

pub length_low : (k x : ℕ) → length (low_first k x) ≡ 2 ^ k
length_low zero x = refl
length_low (suc k) x =
    rw (length-append (low_first k (x % span k)) (low_first k (x / span k)), length_low k (x % span k), length_low k (x / span k)) (sym (twice k))
