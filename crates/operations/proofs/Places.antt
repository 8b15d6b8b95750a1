-- Where the entries stand: what is read of one, how far one is from the next, and what a section is that ends past the bytes.
-- Assumes nothing.
use Prim.Native.Nat.{ℕ, zero, suc, ◌+◌, ◌-◌, ◌*◌, ◌≤◌, ◌<◌}
use mathlib.Core.Path.{◌≡◌, refl, sym, ap, ◌∙◌}
use mathlib.Core.Bool.{Bool, true, false, cond}
use mathlib.Core.Logic.{⊎_elim}
use mathlib.Core.List.{List}
use native.Mathlib.Nat.{eq-or-lt_of_le, le_of_eq}
use native.Mathlib.Numerals.{add-one}
use native.Mathlib.Omega.{arith}
use borrow.Author.Tests.{lt-ltb, le-ltb, ltb-true, ltb-false}
use lib.Dec.{ltb}
use lib.ListN.{length}
use mir.Syntax.{w64}
use mir.Val.{Fits}
use Rattle.wire.specs.Bytes.{number}
use Rattle.wire.proofs.Cond.{yes-if, no-if}
use Rattle.operations.specs.declared.Operation.{Operation}
use Rattle.operations.specs.Entries.{no_type, wide, width_of, kind_at, op_width, op_place, response_at, operation_at}
use Rattle.operations.specs.Cut.{cut_from}

-- an entry's width and its response, by its kind
module _ (k : ℕ) (b : Bool) (e : b ≡ wide k) where
  pub has-ten : b ≡ true → 10 ≡ width_of k
  unfolding width_of
  has-ten h = sym (yes-if 10 8 (sym e ∙ h))

  pub has-eight : b ≡ false → 8 ≡ width_of k
  unfolding width_of
  has-eight h = sym (no-if 10 8 (sym e ∙ h))

  module _ (t : List ℕ) (p : ℕ) where
    pub responds-with : (r : ℕ) → b ≡ true → r ≡ number 1 t p → r ≡ response_at t p k
    unfolding response_at
    responds-with r h g = g ∙ sym (yes-if (number 1 t p) no_type (sym e ∙ h))

    pub no_response : b ≡ false → no_type ≡ response_at t p k
    unfolding response_at
    no_response h = sym (no-if (number 1 t p) no_type (sym e ∙ h))

-- the last number of an entry is what it responds with, if it is wide
module _ (t : List ℕ) (p k v : ℕ) (e : v ≡ width_of k) where
  pub ends_behind : 2 ≤ p + v
  unfolding width_of
  ends_behind = go (wide k) e
    where
      go : (b : Bool) → v ≡ cond b 10 8 → 2 ≤ p + v
      go true q = omega arith
      go false q = omega arith

  pub responds-last : (b : Bool) (n r : ℕ) → b ≡ wide k → n ≡ number 1 t (p + v - 2) → r ≡ cond b n no_type → r ≡ response_at t (p + 8) k
  unfolding width_of response_at
  responds-last b n r w last is = is ∙ go b w (e ∙ ap (λ (x : Bool). cond x 10 8) (sym w)) ∙ ap (λ (x : Bool). cond x (number 1 t (p + 8)) no_type) w
    where
      go : (b : Bool) → b ≡ wide k → v ≡ cond b 10 8 → cond b n no_type ≡ cond b (number 1 t (p + 8)) no_type
      go true w q = let h : p + v - 2 ≡ p + 8 = omega arith in last ∙ ap (number 1 t) h
      go false w q = refl

most_wide : (k : ℕ) → width_of k ≤ 10
unfolding width_of
most_wide k = go (wide k)
  where
    go : (b : Bool) → cond b 10 8 ≤ 10
    go true = omega arith
    go false = omega arith

-- the width of the entry at p
module _ (t : List ℕ) (p : ℕ) where
  pub width_read : (k r : ℕ) → k ≡ kind_at t p → r ≡ width_of k → r ≡ op_width t p
  unfolding op_width
  width_read k r a b = b ∙ ap width_of a

  -- an entry is at least 8 bytes, and at most 10
  pub width-least : 8 ≤ op_width t p
  unfolding op_width width_of
  width-least = go (wide (kind_at t p))
    where
      go : (b : Bool) → 8 ≤ cond b 10 8
      go true = omega arith
      go false = omega arith

  pub width-most : op_width t p ≤ 10
  unfolding op_width
  width-most = most_wide (kind_at t p)

module _ (t : List ℕ) (first : ℕ) where
  pub first-place : first ≡ op_place t first 0
  unfolding op_place
  first-place = refl

  pub place-most : (i : ℕ) → op_place t first i ≤ first + 10 * i
  unfolding op_place
  place-most zero = omega arith
  place-most (suc i) = omega (arith, place-most i, width-most t (op_place t first i))

  pub place-up-to : (i j : ℕ) → i ≤ j → op_place t first i ≤ op_place t first j
  unfolding op_place
  place-up-to i zero h = let e : i ≡ 0 = omega arith in le_of_eq (ap (op_place t first) e)
  place-up-to i (suc j) h =
      ⊎_elim
      (λ (e : i ≡ suc j). le_of_eq (ap (op_place t first) e))
      (λ (g : i < suc j). omega (arith, place-up-to i j (omega arith)))
      (eq-or-lt_of_le h)

  -- an entry below n ends where the n-th stands, or before
  pub entry-within : (i n : ℕ) → i < n → op_place t first i + op_width t (op_place t first i) ≤ op_place t first n
  unfolding op_place
  entry-within i n h = place-up-to (suc i) n (omega arith)

  -- one entry further
  module _ (i p : ℕ) (here : p ≡ op_place t first i) where
    pub next_place : (w : ℕ) → w ≡ op_width t p → p + w ≡ op_place t first (i + 1)
    unfolding op_place
    next_place w e = rw (add-one i, e, here) refl

    pub next-by-kind : (k w : ℕ) → k ≡ kind_at t p → w ≡ width_of k → p + w ≡ op_place t first (i + 1)
    next-by-kind k w a b = next_place w (width_read t p k w a b)

    pub next-by-entry : (o : Operation) (w : ℕ) → o ≡ operation_at t p → w ≡ width_of o.kind → p + w ≡ op_place t first (i + 1)
    unfolding operation_at
    next-by-entry o w a b = next-by-kind o.kind w (ap (λ (x : Operation). x.kind) a) b

    -- its place is a number of 32 bits
    module _ (n : ℕ) (low : first < 65536) (l : i < n) (few : n < 65536) where
      pub place_fits : p < 4294967296
      place_fits = omega (arith, place-most i)

      pub step_fits : (w : ℕ) → w ≡ op_width t p → Fits w64 (p + w)
      step_fits w e = record { fits = omega (arith, place-most i, width-most t p) }

      pub step-by-kind : (k w : ℕ) → w ≡ width_of k → Fits w64 (p + w)
      step-by-kind k w e = record { fits = omega (arith, place-most i, most_wide k) }

-- the place of an entry, counted from the one behind the first
place_behind : (t : List ℕ) (first i : ℕ) → op_place t first (suc i) ≡ op_place t (first + op_width t first) i
unfolding op_place
place_behind t first zero = refl
place_behind t first (suc i) = ap (λ (p : ℕ). p + op_width t p) (place_behind t first i)

-- one entry of a section that is cut short, or not
module _ (t : List ℕ) (first n : ℕ) where
  cut-here : length t < first + op_width t first → true ≡ ltb (length t) (op_place t first (suc n))
  unfolding op_place
  cut-here l =
      let up : first + op_width t first ≤ op_place t (first + op_width t first) n = place-up-to t (first + op_width t first) 0 n (omega arith) in
      sym (lt-ltb (length t) (op_place t first (suc n)) (omega (arith, place_behind t first n)))

  cut_on : (first + op_width t first ≤ length t
      → cut_from t (first + op_width t first) n ≡ ltb (length t) (op_place t (first + op_width t first) n))
      → cut_from t first (suc n) ≡ ltb (length t) (op_place t first (suc n))
  unfolding cut_from
  cut_on rest = go (ltb (length t) (first + 8)) refl (ltb (length t) (first + op_width t first)) refl
    where
      go : (a : Bool) → ltb (length t) (first + 8) ≡ a → (b : Bool) → ltb (length t) (first + op_width t first) ≡ b
          → cond (ltb (length t) (first + 8)) true (cond (ltb (length t) (first + op_width t first)) true (cut_from t (first + op_width t first) n))
          ≡ ltb (length t) (op_place t first (suc n))
      go true p b q = yes-if true _ p ∙ cut-here (omega (arith, ltb-true (length t) (first + 8) p, width-least t first))
      go false p true q = no-if true _ p ∙ yes-if true _ q ∙ cut-here (ltb-true (length t) (first + op_width t first) q)
      go false p false q =
          no-if true _ p ∙ no-if true _ q ∙ rest (ltb-false (length t) (first + op_width t first) q) ∙ ap (ltb (length t)) (sym (place_behind t first n))

-- 30 by where the section ends is 30 as it is met entry by entry, in a section that starts within the bytes
pub cut_by_its_end : (t : List ℕ) (first n : ℕ) → first ≤ length t → cut_from t first n ≡ ltb (length t) (op_place t first n)
unfolding cut_from op_place
cut_by_its_end t first zero h = sym (le-ltb (length t) first h)
cut_by_its_end t first (suc n) h = cut_on t first n (cut_by_its_end t (first + op_width t first) n)
