-- Laws of `digits`: a number's digits read back as the number, none of them stands after a needless zero, and they are
-- written from the last to the first.
-- Assumes nothing.
use Rattle.std.proofs.Common.{◌≡◌, ℕ, zero, suc, ◌+◌, ◌-◌, ◌*◌, ◌/◌, ◌%◌, ◌^◌, ◌<◌, ◌≤◌, Bool, true, false, ltb, List, [], ◌∷◌, ◌++◌, length, get_or, drop, set, sym, refl, ap, ◌∙◌, append_assoc, zero-lt-suc, div-lt_iff_lt-mul, pow-suc, add-one, arith, length-append, length-set, drop-cons, get_or-set_same, drop-set-lt, ltb-false, ltb-true}
use Rattle.wire.proofs.Cond.{yes_lt, no_lt}
use Rattle.recording.specs.Decimal.{base, digit_limit, glyph, digits, decimal, value_from, value_of}

-- one digit, or the digits of a tenth and the last digit
pub digit : (k n : ℕ) → n < base → digits (suc k) n ≡ glyph n ∷ []
unfolding digits
digit k n h = yes_lt _ _ n base h

pub last_digit : (k n : ℕ) → base ≤ n → digits (suc k) n ≡ digits k (n / base) ++ (glyph (n % base) ∷ [])
unfolding digits
last_digit k n h = no_lt _ _ n base h

tenth : (k n : ℕ) → n < base ^ suc k → n / base < base ^ k
tenth k n h = (div-lt_iff_lt-mul (zero-lt-suc 9)).1 (rw (pow-suc base k) at h)

-- they are no more than asked for
pub digits_few : (k n : ℕ) → length (digits k n) ≤ k
unfolding digits
digits_few zero n = omega arith
digits_few (suc k) n = go (ltb n base) refl (digits_few k (n / base))
  where
    go : (t : Bool) → ltb n base ≡ t → length (digits k (n / base)) ≤ k → length (digits (suc k) n) ≤ suc k
    go true e r = rw (digit k n (ltb-true n base e)) (omega arith)
    go false e r = rw (last_digit k n (ltb-false n base e), length-append (digits k (n / base)) (glyph (n % base) ∷ [])) (omega arith)

value_append : (n : ℕ) (gs : List ℕ) (g : ℕ) → value_from n (gs ++ (g ∷ [])) ≡ value_from n gs * base + (g - 48)
value_append n [] g = refl
value_append n (x ∷ xs) g = value_append (n * base + (x - 48)) xs g

-- the digits of n read back as n
pub digits_value : (k n : ℕ) → n < base ^ k → value_of (digits k n) ≡ n
unfolding digits
digits_value zero n h = omega arith
digits_value (suc k) n h = go (ltb n base) refl (digits_value k (n / base) (tenth k n h))
  where
    go : (t : Bool) → ltb n base ≡ t → value_of (digits k (n / base)) ≡ n / base → value_of (digits (suc k) n) ≡ n
    go true e r = rw (digit k n (ltb-true n base e)) (omega arith)
    go false e r =
        ap value_of (last_digit k n (ltb-false n base e))
        ∙ value_append 0 (digits k (n / base)) (glyph (n % base))
        ∙ ap (λ (m : ℕ). m * base + (glyph (n % base) - 48)) r
        ∙ omega arith

pub decimal_value : (n : ℕ) → n < 2 ^ 64 → value_of (decimal n) ≡ n
decimal_value n h = digits_value digit_limit n (omega arith)

-- no zero stands before them: the first digit is 0 only where the number is
pub digits_lead : (k n : ℕ) → 0 < n → n < base ^ k → 48 < get_or (digits k n) 0 0
unfolding digits
digits_lead zero n z h = absurd (omega arith)
digits_lead (suc k) n z h = go (ltb n base) refl (λ (p : 0 < n / base). digits_lead k (n / base) p (tenth k n h))
  where
    more : (gs : List ℕ) (g : ℕ) → 48 < get_or gs 0 0 → 48 < get_or (gs ++ (g ∷ [])) 0 0
    more [] g p = absurd (omega arith)
    more (x ∷ xs) g p = p

    go : (t : Bool) → ltb n base ≡ t → (0 < n / base → 48 < get_or (digits k (n / base)) 0 0) → 48 < get_or (digits (suc k) n) 0 0
    go true e r = rw (digit k n (ltb-true n base e)) (omega arith)
    go false e r =
        let b : base ≤ n = ltb-false n base e in
        rw (last_digit k n b) (more (digits k (n / base)) (glyph (n % base)) (r (omega arith)))

pub decimal_lead : (n : ℕ) → 0 < n → n < 2 ^ 64 → 48 < get_or (decimal n) 0 0
decimal_lead n z h = digits_lead digit_limit n z (omega arith)

pub decimal_zero : decimal 0 ≡ 48 ∷ []
decimal_zero = digit 19 0 (omega arith)

-- the loop that writes them: what stands from `at` on, with the digits of `rest` still to come before it
abbrev pub left : ℕ → ℕ → ℕ
left end at = at + digit_limit - end

pub digits_none : (n end : ℕ) (l : List ℕ) → decimal n ++ drop end l ≡ digits (left end end) n ++ drop end l
digits_none n end l = ap (λ (k : ℕ). digits k n ++ drop end l) (omega arith)

pub digits_enough : (n end : ℕ) → n < 2 ^ 64 → n < base ^ left end end
digits_enough n end h = let e : left end end ≡ digit_limit = omega arith in rw e (omega arith)

pub put_first : (l : List ℕ) (at x : ℕ) → at < length l → drop at (set l at x) ≡ x ∷ drop (at + 1) l
put_first l at x h =
    drop-cons (set l at x) at 0 (rw (length-set l at x) h)
    ∙ rw (get_or-set_same l at x 0 h, drop-set-lt (suc at) l at x (omega arith), add-one at)

module _ (end at rest : ℕ) (l : List ℕ) (i : at ≤ end) (j : end < at + digit_limit) (g : digit_limit ≤ end) (f : end ≤ length l)
    (b : rest < base ^ left end at) where
  several : base ≤ rest → 2 ≤ left end at
  several h = go (left end at) refl
    where
      go : (k : ℕ) → left end at ≡ k → 2 ≤ k
      go zero e = absurd (omega arith)
      go (suc zero) e = absurd (omega (arith, rw e at b))
      go (suc (suc k)) e = omega arith

  -- one place less is left, and at least one
  pub one_less : base ≤ rest → end < at - 1 + digit_limit
  one_less h = omega (arith, several h)

  pub rest-less : base ≤ rest → rest / base < base ^ left end (at - 1)
  rest-less h =
      let s : 2 ≤ left end at = several h in
      let e : left end at ≡ suc (left end (at - 1)) = omega arith in
      tenth (left end (at - 1)) rest (rw e at b)

  -- the last digit of `rest` is put before what stands there
  pub digits_more : {d : List ℕ} → base ≤ rest → d ≡ digits (left end at) rest ++ drop at l → d ≡ digits (left end (at - 1)) (rest / base)
      ++ drop (at - 1) (set l (at - 1) (48 + rest % base))
  digits_more {d} h q =
      let s : 2 ≤ left end at = several h in
      let e : left end at ≡ suc (left end (at - 1)) = omega arith in
      let m : at - 1 + 1 ≡ at = omega arith in
      let x : List ℕ = digits (left end (at - 1)) (rest / base) in
      q
      ∙ ap (λ (k : ℕ). digits k rest ++ drop at l) e
      ∙ ap (λ (u : List ℕ). u ++ drop at l) (last_digit (left end (at - 1)) rest h)
      ∙ append_assoc x (glyph (rest % base) ∷ []) (drop at l)
      ∙ ap (λ (k : ℕ). x ++ (glyph (rest % base) ∷ drop k l)) (sym m)
      ∙ ap (λ (u : List ℕ). x ++ u) (sym (put_first l (at - 1) (48 + rest % base) (omega arith)))

  -- and the first digit ends the number
  pub digits-done : {d : List ℕ} → rest < base → d ≡ digits (left end at) rest ++ drop at l → drop (at - 1) (set l (at - 1) (48 + rest)) ≡ d
  digits-done {d} h q =
      let e : left end at ≡ suc (left end (at - 1)) = omega arith in
      let m : at - 1 + 1 ≡ at = omega arith in
      put_first l (at - 1) (48 + rest) (omega arith)
      ∙ ap (λ (k : ℕ). glyph rest ∷ drop k l) m
      ∙ ap (λ (u : List ℕ). u ++ drop at l) (sym (digit (left end (at - 1)) rest h))
      ∙ ap (λ (k : ℕ). digits k rest ++ drop at l) (sym e)
      ∙ sym q
