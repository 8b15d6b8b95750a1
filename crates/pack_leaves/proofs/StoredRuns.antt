-- A run of leaves of one base code: how many of them there is room for, and that their width is all that is stored by.
-- Assumes nothing.
use Prim.Native.Nat.{ℕ, zero, suc, min, ◌+◌, ◌-◌, ◌*◌, ◌/◌, ◌%◌, ◌^◌, ◌≤◌, ◌<◌}
use mathlib.Core.Path.{◌≡◌, refl, sym, ap, ap₂, ◌∙◌}
use mathlib.Core.Logic.{⊎_elim}
use mathlib.Core.Bool.{cond}
use mathlib.Core.List.{List}
use native.Mathlib.Nat.{add-zero, zero-mul, mod-lt, mul-le-mul_right, eq-or-lt_of_le, div-add-mod'}
use native.Mathlib.Numerals.{add-one}
use native.Mathlib.Omega.{arith}
use lib.Dec.{leb}
use lib.ListN.{length, get_or}
use Rattle.wire.specs.Bytes.{written}
use Rattle.wire.proofs.Cond.{yes_le, no_le}
use Rattle.wire.proofs.Runs.{written_out, length_written}
use Rattle.table.specs.Leaf.{base, bytes_of, width}
use Rattle.table.proofs.Leaves.{each}
use Rattle.leaf.specs.Forms.{form_of}
use Rattle.leaf.proofs.Leaves.{form_is}
use Rattle.leaf.proofs.Returns.{no_form}
use Rattle.walk.specs.declared.Place.{Place}
use Rattle.pack_leaves.specs.StoredRuns.{stored_all}
use Rattle.pack_leaves.proofs.Laid.{length_of}

-- a base code has a byte at least
pub has_width : (code : ℕ) → code < 13 → 1 ≤ width code
unfolding width base bytes_of
has_width code h = each (λ n. 1 ≤ width n) (search arith) code h

module _ (ws : List ℕ) (code : ℕ) (p : Place) (x : List ℕ) where
  pub length_all : (n : ℕ) → length (stored_all ws code p n x) ≡ length x
  unfolding stored_all
  length_all zero = refl
  length_all (suc n) = length_written (stored_all ws code p n x) (p.to + n * width code) (form_of code (get_or ws (p.from + n) 0)) ∙ length_all n

  pub none_stored : x ≡ stored_all ws code p 0 x
  unfolding stored_all
  none_stored = refl

  pub one-stored : (n k : ℕ) {y z : List ℕ} → k ≡ width code → y ≡ stored_all ws code p n x → z
      ≡ written y (p.to + n * k) (form_of code (get_or ws (p.from + n) 0)) → z ≡ stored_all ws code p (n + 1) x
  unfolding stored_all
  one-stored n k e h g = g ∙ rw (e, h, add-one n) refl

  pub as_long : (n : ℕ) {y : List ℕ} → y ≡ stored_all ws code p n x → length y ≡ length x
  as_long n h = ap length h ∙ length_all n

  -- what lies behind the room is not stored
  rest : (m n : ℕ) → m ≤ n → length x < p.to + m * width code + width code → stored_all ws code p n x ≡ stored_all ws code p m x
  unfolding stored_all
  rest m zero h l = let e : 0 ≡ m = omega arith in ap (λ (k : ℕ). stored_all ws code p k x) e
  rest m (suc n) h l =
      ⊎_elim
      (λ (e : m ≡ suc n). ap (λ (k : ℕ). stored_all ws code p k x) (sym e))
      (λ (b : m < suc n).
      let a : m ≤ n = omega arith in
      let y : List ℕ = stored_all ws code p n x in
      let v : List ℕ = form_of code (get_or ws (p.from + n) 0) in
      let s : length y ≡ length x = length_all n in
      let d : length v ≡ width code = length_of code (get_or ws (p.from + n) 0) in
      let u : m * width code ≤ n * width code = mul-le-mul_right (width code) a in
      written_out y (p.to + n * width code) v (omega arith) ∙ rest m n a l)
      (eq-or-lt_of_le h)

  pub none-fits : (n : ℕ) → code < 13 → length x ≤ p.to → x ≡ stored_all ws code p n x
  unfolding stored_all
  none-fits n h l = sym (rest 0 n (omega arith) (omega (arith, has_width code h, zero-mul (width code))))

  -- as many as there is room for
  module _ (few : code < 13) (n room w count : ℕ) (is : w ≡ width code) (inside : p.to < length x) (whole : room ≡ (length x - p.to) / w) where
    div : ((length x - p.to) / width code * width code + (length x - p.to) % width code ≡ length x - p.to) × ((length x - p.to) % width code < width code)
    div = (div-add-mod' (length x - p.to) (width code), mod-lt (length x - p.to) (has_width code few))

    pub fit-in : n ≡ min room count → p.to + n * width code ≤ length x
    fit-in least =
        let h : n ≤ room = omega arith in
        let q : room * width code
        ≡ (length x - p.to) / width code * width code = ap (λ (k : ℕ). k * width code) (whole ∙ ap (λ (k : ℕ). (length x - p.to) / k) is) in
        let u : n * width code ≤ room * width code = mul-le-mul_right (width code) h in
        omega (arith, div.0)

    pub all-that-fit : {z : List ℕ} → n ≡ min room count → z ≡ stored_all ws code p n x → z ≡ stored_all ws code p count x
    all-that-fit least e =
        let h : n ≤ count = omega arith in
        e
        ∙ ⊎_elim
        (λ (s : n ≡ count). ap (λ (k : ℕ). stored_all ws code p k x) s)
        (λ (b : n < count).
        let all : n ≡ room = omega arith in
        let q : n * width code ≡ (length x - p.to) / width code * width code = ap (λ (k : ℕ). k * width code)
        (all ∙ whole ∙ ap (λ (k : ℕ). (length x - p.to) / k) is) in
        sym (rest n count h (omega (arith, div.0, div.1))))
        (eq-or-lt_of_le h)

-- by its width: a code of 2 ^ k bytes in place of another, and no bytes at all
module _ (ws : List ℕ) (code : ℕ) (p : Place) (x : List ℕ) where
  as_wide : (k own : ℕ) → width own ≡ 2 ^ k → width code ≡ 2 ^ k → (n : ℕ) → stored_all ws own p n x ≡ stored_all ws code p n x
  unfolding stored_all
  as_wide k own a b zero = refl
  as_wide k own a b (suc n) =
      let w : ℕ = get_or ws (p.from + n) 0 in
      let f : form_of own w ≡ form_of code w = form_is k own w a ∙ sym (form_is k code w b) in
      let g : p.to + n * width own ≡ p.to + n * width code = ap (λ (m : ℕ). p.to + n * m) (a ∙ sym b) in
      ap (λ (m : ℕ). written (stored_all ws own p n x) m (form_of own w)) g
      ∙ ap (λ (v : List ℕ). written (stored_all ws own p n x) (p.to + n * width code) v) f
      ∙ ap (λ (y : List ℕ). written y (p.to + n * width code) (form_of code w)) (as_wide k own a b n)

  pub no_width : (m : ℕ) → m ≡ width code → (m ≡ 1 → ⊥) → (m ≡ 2 → ⊥) → (m ≡ 4 → ⊥) → (m ≡ 8 → ⊥) → (n : ℕ) → x ≡ stored_all ws code p n x
  unfolding stored_all
  no_width m is a b c d zero = refl
  no_width m is a b c d (suc n) =
      no_width m is a b c d n ∙ no_form (stored_all ws code p n x) (p.to + n * width code) code (get_or ws (p.from + n) 0) m is a b c d

  -- what is stored of a run whose words are there, and of any other
  abbrev Run : ℕ → List ℕ → Type 0
  Run n y = y ≡ cond (leb (p.from + n) (length ws)) (stored_all ws code p n x) x

  pub run_short : (n : ℕ) → length ws < p.from → Run n x
  run_short n h = sym (no_le (stored_all ws code p n x) x (p.from + n) (length ws) (omega arith))

  pub run-few : (n : ℕ) → p.from ≤ length ws → length ws - p.from < n → Run n x
  run-few n a h = sym (no_le (stored_all ws code p n x) x (p.from + n) (length ws) (omega arith))

  module _ (n : ℕ) (from : p.from ≤ length ws) (there : n ≤ length ws - p.from) where
    whole_run : Run n (stored_all ws code p n x)
    whole_run = sym (yes_le (stored_all ws code p n x) x (p.from + n) (length ws) (omega arith))

    pub run-all : (y : List ℕ) → y ≡ stored_all ws code p n x → Run n y
    run-all y h = h ∙ whole_run

  -- of one leaf
  pub one_written : (n : ℕ) (y : List ℕ) → n ≡ 1 → p.from < length ws → y ≡ written x p.to (form_of code (get_or ws p.from 0)) → Run n y
  unfolding stored_all
  one_written n y e h put =
      put
      ∙ ap₂ (λ (a b : ℕ). written x a (form_of code (get_or ws b 0)))
      (sym (ap (λ (m : ℕ). p.to + m) (zero-mul (width code)) ∙ add-zero p.to)) (sym (add-zero p.from))
      ∙ ap (λ (m : ℕ). stored_all ws code p m x) (sym e)
      ∙ whole_run n (omega arith) (omega arith)

  pub one_missing : (n : ℕ) → n ≡ 1 → length ws ≤ p.from → Run n x
  one_missing n e h = sym (no_le (stored_all ws code p n x) x (p.from + n) (length ws) (omega arith))

-- the arm of 2 ^ k bytes, which stores by a code of its own
pub run_stored : (k own : ℕ) → width own ≡ 2 ^ k → (ws : List ℕ) (code : ℕ) (p : Place) (x : List ℕ) (n m : ℕ) → m ≡ width code → m ≡ 2 ^ k
    → (y : List ℕ) → y ≡ stored_all ws own p n x → y ≡ stored_all ws code p n x
run_stored k own a ws code p x n m is b y h = h ∙ as_wide ws code p x k own a (sym is ∙ b) n
