-- Laws of `number` and `bytes` over the width: a number has 2 ^ k bytes, and every law is one statement over k.
-- Assumes nothing.
use Prim.Native.Nat.{ℕ, zero, suc, ◌+◌, ◌-◌, ◌*◌, ◌/◌, ◌%◌, ◌^◌, ◌≤◌, ◌<◌}
use mathlib.Core.Path.{◌≡◌, refl, sym, ap, subst, ◌∙◌}
use mathlib.Core.List.{List, ◌++◌, append_assoc}
use native.Mathlib.Nat.{add_assoc, add-zero, add-sub_cancel_left, one-le-pow, zero-lt-suc, mod-lt, div-lt_iff_lt-mul, div-add-mod'}
use native.Mathlib.Omega.{arith}
use mathlib.Core.Bool.{Bool, true, false}
use borrow.Author.Tests.{ltb-true, ltb-false}
use lib.Dec.{ltb, leb}
use lib.Arith.{digits_lt, digits_div, digits_mod}
use lib.Pow.{pow-add}
use lib.ListN.{length, get_or, take, drop, length-append, length-take, length-drop, get_or-eq_default, get_or-append}
use lib.Seq.{length-take-le, get_or-append-add, get_or-take, get_or-drop, take-add, drop-drop, drop-cons}
use Rattle.wire.specs.Bytes.{span, number, whole, bytes, over, written, part, Octets}
use Rattle.wire.proofs.Cond.{yes_le, no_le}
use Rattle.wire.proofs.Runs.{failed, written_in, part_in}

-- 2 ^ suc k bytes are twice 2 ^ k bytes
pub twice : (k : ℕ) → 2 ^ suc k ≡ 2 ^ k + 2 ^ k
twice k = omega arith

pub span_suc : (k : ℕ) → span (suc k) ≡ span k * span k
span_suc k = ap (λ (n : ℕ). 256 ^ n) (twice k) ∙ pow-add 256 (2 ^ k) (2 ^ k)

pub span_pos : (k : ℕ) → 0 < span k
span_pos k = one-le-pow (2 ^ k) 256 (zero-lt-suc 255)

-- a part of a list of bytes is one
pub octets_drop : (n : ℕ) (s : List ℕ) → Octets s → Octets (drop n s)
octets_drop n s o i = rw (get_or-drop n s i 0) (o (n + i))

pub octets_take : (n : ℕ) (s : List ℕ) → Octets s → Octets (take n s)
octets_take n s o i = go (ltb i n) refl
  where
    go : (b : Bool) → ltb i n ≡ b → get_or (take n s) i 0 < 256
    go true e = rw (get_or-take n s i 0 (ltb-true i n e)) (o i)
    go false e =
        let l : length (take n s) ≤ i = omega (arith, ltb-false i n e, length-take n s) in
        rw (get_or-eq_default (take n s) 0 l) (omega arith)

-- past the end every number is 0
pub past_end : (k : ℕ) (s : List ℕ) (p : ℕ) → length s ≤ p → number k s p ≡ 0
past_end zero s p h = get_or-eq_default s 0 h
past_end (suc k) s p h = rw (past_end k s p h, past_end k s (p + 2 ^ k) (omega arith)) (omega arith)

pub past : (k : ℕ) (s : List ℕ) (p : ℕ) → length s ≤ p → 0 ≡ number k s p
past k s p h = sym (past_end k s p h)

-- of two bytes that do not both fit, the second is past the end
pub first_byte : {r : Bool} {x : ℕ} (s : List ℕ) (p : ℕ) → r ≡ leb (p + 2) (length s) → r ≡ false → x ≡ number 0 s p → x * 256 ≡ number 1 s p
first_byte s p e f b = omega (arith, past_end 0 s (p + 1) (omega (arith, failed (p + 2) (length s) e f)))

pub number_lt : (k : ℕ) (s : List ℕ) (p : ℕ) → Octets s → number k s p < span k
number_lt zero s p o = o p
number_lt (suc k) s p o = rw (span_suc k) (digits_lt (number_lt k s p o) (number_lt k s (p + 2 ^ k) o))

-- where a number stands in a list that is two lists, or a part of one
pub number_append : (k : ℕ) (xs ys : List ℕ) (n : ℕ) → number k (xs ++ ys) (length xs + n) ≡ number k ys n
number_append zero xs ys n = get_or-append-add xs ys n 0
number_append (suc k) xs ys n = rw (number_append k xs ys n, add_assoc (length xs) n (2 ^ k), number_append k xs ys (n + 2 ^ k))

pub number_front : (k : ℕ) (xs ys : List ℕ) (n : ℕ) → n + 2 ^ k ≤ length xs → number k (xs ++ ys) n ≡ number k xs n
number_front zero xs ys n h = get_or-append xs ys 0 n (omega arith)
number_front (suc k) xs ys n h =
    rw (number_front k xs ys n (omega (arith, twice k)), number_front k xs ys (n + 2 ^ k) (omega (arith, twice k)))

pub number_take : (k n : ℕ) (s : List ℕ) (p : ℕ) → p + 2 ^ k ≤ n → number k (take n s) p ≡ number k s p
number_take zero n s p h = get_or-take n s p 0 (omega arith)
number_take (suc k) n s p h = rw (number_take k n s p (omega (arith, twice k)), number_take k n s (p + 2 ^ k) (omega (arith, twice k)))

pub number_drop : (k n : ℕ) (s : List ℕ) (p : ℕ) → number k (drop n s) p ≡ number k s (n + p)
number_drop zero n s p = get_or-drop n s p 0
number_drop (suc k) n s p = rw (number_drop k n s p, number_drop k n s (p + 2 ^ k), add_assoc n p (2 ^ k))

-- a number that is whole, in a list or in a part of one
pub whole_in : (k : ℕ) (s : List ℕ) (p : ℕ) → p + 2 ^ k ≤ length s → whole k s p ≡ number k s p
whole_in k s p h = yes_le (number k s p) 0 (p + 2 ^ k) (length s) h

pub whole_out : (k : ℕ) (s : List ℕ) (p : ℕ) → length s < p + 2 ^ k → whole k s p ≡ 0
whole_out k s p h = no_le (number k s p) 0 (p + 2 ^ k) (length s) h

pub number_part : (k : ℕ) (s : List ℕ) (p n q : ℕ) → p + n ≤ length s → q + 2 ^ k ≤ n → number k (part s p n) q ≡ number k s (p + q)
number_part k s p n q h l = ap (λ (u : List ℕ). number k u q) (part_in s p n h) ∙ number_take k n (drop p s) q l ∙ number_drop k p s q

pub length_part : (s : List ℕ) (p n : ℕ) → p + n ≤ length s → length (part s p n) ≡ n
length_part s p n h = ap length (part_in s p n h) ∙ length-take-le n (drop p s) (omega (arith, length-drop p s))

pub whole_part : (k : ℕ) (s : List ℕ) (p n q : ℕ) → p + n ≤ length s → q + 2 ^ k ≤ n → whole k (part s p n) q ≡ number k s (p + q)
whole_part k s p n q h l = whole_in k (part s p n) q (omega (arith, length_part s p n h)) ∙ number_part k s p n q h l

-- a number read from a part of just its length
pub read_in : (k : ℕ) (s : List ℕ) (p r : ℕ) → p + 2 ^ k ≤ length s → r ≡ whole k (take (p + 2 ^ k - p) (drop p s)) 0 → r ≡ number k s p
read_in k s p r h e =
    e
    ∙ ap (λ (n : ℕ). whole k (take n (drop p s)) 0) (add-sub_cancel_left p (2 ^ k))
    ∙ ap (λ (u : List ℕ). whole k u 0) (sym (part_in s p (2 ^ k) h))
    ∙ whole_part k s p (2 ^ k) 0 h (omega arith)
    ∙ ap (number k s) (add-zero p)

-- the bytes of a number, and the number of its bytes
pub length_bytes : (k x : ℕ) → length (bytes k x) ≡ 2 ^ k
length_bytes zero x = refl
length_bytes (suc k) x =
    rw (length-append (bytes k (x / span k)) (bytes k (x % span k)), length_bytes k (x / span k), length_bytes k (x % span k)) (sym (twice k))

pub number_bytes : (k x : ℕ) (ys : List ℕ) → x < span k → number k (bytes k x ++ ys) 0 ≡ x
number_bytes zero x ys h = refl
number_bytes (suc k) x ys h =
    let a : List ℕ = bytes k (x / span k) in
    let b : List ℕ = bytes k (x % span k) in
    let q : x / span k < span k = (div-lt_iff_lt-mul (span_pos k)).1 (subst (λ (n : ℕ). x < n) (span_suc k) h) in
    let l : length a + 0 ≡ 0 + 2 ^ k = omega (arith, length_bytes k (x / span k)) in
    rw (
      append_assoc a b ys,
      number_bytes k (x / span k) (b ++ ys) q,
      ← l,
      number_append k a (b ++ ys) 0,
      number_bytes k (x % span k) ys (mod-lt x (span_pos k)),
    )
    (div-add-mod' x (span k))

pub bytes_number : (k : ℕ) (s : List ℕ) (p : ℕ) → Octets s → p + 2 ^ k ≤ length s → bytes k (number k s p) ≡ take (2 ^ k) (drop p s)
bytes_number zero s p o h = rw (drop-cons s p 0 (omega arith))
bytes_number (suc k) s p o h =
    rw (
      digits_div (number k s p) (number_lt k s (p + 2 ^ k) o),
      digits_mod (number k s p) (number_lt k s (p + 2 ^ k) o),
      bytes_number k s p o (omega (arith, twice k)),
      bytes_number k s (p + 2 ^ k) o (omega (arith, twice k)),
      twice k,
      take-add (2 ^ k) (2 ^ k) (drop p s),
      drop-drop (2 ^ k) p s,
    )

-- a number that was written is read there again, and elsewhere nothing has changed
pub read_back : (k : ℕ) (s : List ℕ) (p x : ℕ) → x < span k → p + 2 ^ k ≤ length s → number k (written s p (bytes k x)) p ≡ x
read_back k s p x h l =
    let n : length (bytes k x) ≡ 2 ^ k = length_bytes k x in
    let t : length (take p s) + 0 ≡ p = omega (arith, length-take-le p s (omega arith)) in
    ap (λ (u : List ℕ). number k u p) (written_in s p (bytes k x) (omega arith))
    ∙ ap (number k (over s p (bytes k x))) (sym t)
    ∙ number_append k (take p s) (bytes k x ++ drop (p + length (bytes k x)) s) 0
    ∙ number_bytes k x (drop (p + length (bytes k x)) s) h

pub read_before : (k : ℕ) (s : List ℕ) (p : ℕ) (b : List ℕ) (q : ℕ) → q + 2 ^ k ≤ p → p ≤ length s → number k (over s p b) q ≡ number k s q
read_before k s p b q h l =
    number_front k (take p s) (b ++ drop (p + length b) s) q (omega (arith, length-take-le p s l)) ∙ number_take k p s q h

pub read_behind : (k : ℕ) (s : List ℕ) (p : ℕ) (b : List ℕ) (q : ℕ) → p + length b ≤ q → p + length b ≤ length s → number k (over s p b) q ≡ number k s q
read_behind k s p b q h l =
    let x : List ℕ = take p s ++ b in
    let d : List ℕ = drop (p + length b) s in
    let n : length x ≡ p + length b = length-append (take p s) b ∙ ap (λ (m : ℕ). m + length b) (length-take-le p s (omega arith)) in
    let e : q ≡ length x + (q - (p + length b)) = omega arith in
    ap (λ (u : List ℕ). number k u q) (sym (append_assoc (take p s) b d))
    ∙ ap (number k (x ++ d)) e
    ∙ number_append k x d (q - (p + length b))
    ∙ number_drop k (p + length b) s (q - (p + length b))
    ∙ ap (number k s) (omega arith)
