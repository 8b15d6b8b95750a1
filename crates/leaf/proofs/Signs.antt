-- A sign carried up to 64 bits, by turning it over and over again.
-- Assumes nothing.
use Rattle.std.proofs.Common.{◌≡◌, ℕ, ◌+◌, ◌-◌, ◌*◌, ◌^◌, ◌<◌, ◌≤◌, Bool, true, false, ltb, sym, refl, ap, ◌∙◌, one-mul, arith, pow_pos, pow_mono, w64, Fits, ltb-false, ltb-true}
use lib.Bits.{bit_and, bit_xor, xor_comm, xor_zero_r, xor_add_and, xor_shifted, xor_block}
use Rattle.wire.proofs.Cond.{yes_lt, no_lt}
use Rattle.leaf.specs.Forms.{extended, carried}

-- one bit turned over
on : (k x : ℕ) → x < 2 ^ k → bit_xor x (2 ^ k) ≡ 2 ^ k + x
on k x h =
    let one : 1 * 2 ^ k ≡ 2 ^ k = one-mul (2 ^ k) in
    xor_comm x (2 ^ k) ∙ ap (λ (n : ℕ). bit_xor n x) (sym one) ∙ xor_shifted 1 k x h ∙ ap (λ (n : ℕ). n + x) one

off : (k x : ℕ) → x < 2 ^ k → bit_xor (2 ^ k + x) (2 ^ k) ≡ x
off k x h =
    let two : ℕ = 2 ^ k in
    let a : 1 * two + x ≡ two + x = omega arith in
    let b : 1 * two + 0 ≡ two = omega arith in
    let block : bit_xor (1 * two + x) (1 * two + 0) ≡ 0 * two + bit_xor x 0 = xor_block k 1 1 x 0 h (pow_pos k) in
    let none : 0 * two + bit_xor x 0 ≡ bit_xor x 0 = omega arith in
    ap (λ (n : ℕ). bit_xor n two) (sym a) ∙ ap (bit_xor (1 * two + x)) (sym b) ∙ block ∙ none ∙ xor_zero_r x

pub carried_fits : (x half : ℕ) → half ≤ 2 ^ 31 → x < 2 * half → Fits w64 (bit_xor x half + (9223372036854775808 - half))
carried_fits x half h l =
    let sum : bit_xor x half + bit_and x half * 2 ≡ x + half = xor_add_and x half in
    record { fits = omega arith }

-- a number of k + 1 bits
pub sign_carried : (k x : ℕ) → k ≤ 31 → x < 2 * 2 ^ k → carried (2 ^ k) x ≡ extended (2 ^ k) x
unfolding extended
sign_carried k x few l = go (ltb x half) refl
  where
    half : ℕ
    half = 2 ^ k

    small : half ≤ 2 ^ 31
    small = pow_mono few

    go : (t : Bool) → ltb x half ≡ t → carried half x ≡ extended half x
    go true p =
        let h : x < half = ltb-true x half p in
        let sum : half + x + (2 ^ 63 - half) ≡ 2 ^ 63 + x = omega (arith, small) in
        ap (λ (n : ℕ). bit_xor (n + (2 ^ 63 - half)) (2 ^ 63)) (on k x h) ∙ ap (λ (n : ℕ). bit_xor n (2 ^ 63)) sum ∙ off 63 x (omega (arith, small))
        ∙ sym (yes_lt x (x + (2 ^ 64 - 2 * half)) x half h)
    go false p =
        let h : half ≤ x = ltb-false x half p in
        let y : ℕ = x - half in
        let split : half + y ≡ x = omega arith in
        let turned : bit_xor x half ≡ y = ap (λ (n : ℕ). bit_xor n half) (sym split) ∙ off k y (omega arith) in
        let sum : 2 ^ 63 + (y + (2 ^ 63 - half)) ≡ x + (2 ^ 64 - 2 * half) = omega (arith, small) in
        ap (λ (n : ℕ). bit_xor (n + (2 ^ 63 - half)) (2 ^ 63)) turned ∙ on 63 (y + (2 ^ 63 - half)) (omega (arith, small)) ∙ sum
        ∙ sym (no_lt x (x + (2 ^ 64 - 2 * half)) x half h)

-- int8, int16, int32
pub carried_8 : (x y : ℕ) → x < 256 → y ≡ carried 128 x → y ≡ extended 128 x
carried_8 x y l e = e ∙ sign_carried 7 x (omega arith) l

pub carried_16 : (x y : ℕ) → x < 65536 → y ≡ carried 32768 x → y ≡ extended 32768 x
carried_16 x y l e = e ∙ sign_carried 15 x (omega arith) l

pub carried_32 : (x y : ℕ) → x < 4294967296 → y ≡ carried 2147483648 x → y ≡ extended 2147483648 x
carried_32 x y l e = e ∙ sign_carried 31 x (omega arith) l
