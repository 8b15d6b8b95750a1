-- Leaves of one base code, one behind another: where they stand, that they are judged by counting, and what they come to.
-- Assumes nothing.
use Prim.Native.Nat.{ℕ, zero, suc, min, ◌+◌, ◌-◌, ◌*◌, ◌≤◌, ◌<◌}
use mathlib.Core.Path.{◌≡◌, refl, sym, ap, ◌∙◌}
use mathlib.Core.Bool.{true, cond}
use mathlib.Core.List.{List, [], ◌∷◌}
use mathlib.Core.Logic.{⊎_elim}
use native.Mathlib.Nat.{eq-or-lt_of_le, mul-le-mul_right, suc-mul, zero-mul, add-zero}
use native.Mathlib.Numerals.{add-one}
use native.Mathlib.Omega.{arith}
use borrow.Author.Tests.{le-leb}
use lib.Dec.{leb, eqb}
use lib.ListN.{length, set}
use Rattle.wire.specs.Bytes.{written, Octets}
use Rattle.wire.proofs.Runs.{length_written, written_out}
use Rattle.wire.specs.All.{all_below}
use Rattle.table.specs.Leaf.{base, width, allowed}
use Rattle.wire.proofs.AllBelow.{all-below}
use Rattle.leaf.specs.declared.codes.Range.{Range}
use Rattle.leaf.specs.Limits.{range_of}
use Rattle.leaf.specs.Forms.{word_at}
use Rattle.leaf.proofs.Limits.{every-word}
use Rattle.leaf.proofs.Counted.{counted-more}
use Rattle.walk.specs.declared.Place.{Place}
use Rattle.walk.specs.Walk.{Step, on, through}
use Rattle.walk.proofs.Walks.{through-none, through-more}
use Rattle.walk.proofs.Returns.{stored as put_in}
use Rattle.unpack_leaves.specs.Leaves.{is_there, behind, stored}
use Rattle.unpack_leaves.specs.OneCode.{along, is_good, filled}
use Rattle.unpack_leaves.specs.Steps.{Reads}

-- the k-th of n leaves stands within them
module _ (l from n w code k : ℕ) (is : w ≡ width code) (room : from + n * width code ≤ l) (less : k < n) where
  leaf-in : from + (k * width code + width code) ≤ l
  leaf-in = omega (arith, mul-le-mul_right (width code) less)

  pub leaf_room : from + k * w + width code ≤ l
  leaf_room = rw is (omega (arith, leaf-in))

module _ (b : List ℕ) (code from : ℕ) where
  pub all_good : (n : ℕ) → Octets b → (g : Range) → g ≡ range_of (base code) → g.every ≡ true → true ≡ all_below (is_good b code from) n
  all_good n o g e h = sym (all-below (is_good b code from) n (λ k l. every-word b (from + k * width code) o code g e h))

  pub judged-more : (k n v r w : ℕ) → w ≡ width code → v ≡ word_at code b (from + k * w) → r ≡ cond (allowed code v) 0 1 → eqb n 0
      ≡ all_below (is_good b code from) k → eqb (n + r) 0 ≡ all_below (is_good b code from) (k + 1)
  judged-more k n v r w is e g h = counted-more (is_good b code from) k n r h (g ∙ rw (e, is) refl)

-- storing
module _ (b : List ℕ) (code : ℕ) (p : Place) (x : List ℕ) where
  pub filled_none : x ≡ filled b code p 0 x
  unfolding filled
  filled_none = refl

  length-filled : (n : ℕ) → length (filled b code p n x) ≡ length x
  unfolding filled
  length-filled zero = refl
  length-filled (suc n) = length_written (filled b code p n x) (p.to + n) (word_at code b (p.from + n * width code) ∷ []) ∙ length-filled n

  pub same-many : (n : ℕ) (y : List ℕ) → y ≡ filled b code p n x → length y ≡ length x
  same-many n y h = ap length h ∙ length-filled n

  pub filled_more : (n k w v : ℕ) (y : List ℕ) → w ≡ width code → v ≡ word_at code b (p.from + k * w) → p.to + n ≤ length x → k < n → y
      ≡ filled b code p k x → set y (p.to + k) v ≡ filled b code p (k + 1) x
  unfolding filled
  filled_more n k w v y is e h l g =
      put_in y (p.to + k) v (omega (arith, same-many k y g))
      ∙ ap (λ (u : ℕ). written y (p.to + k) (u ∷ [])) (e ∙ ap (λ (m : ℕ). word_at code b (p.from + k * m)) is)
      ∙ ap (λ (u : List ℕ). written u (p.to + k) (word_at code b (p.from + k * width code) ∷ [])) g
      ∙ ap (λ (m : ℕ). filled b code p m x) (sym (add-one k))

  -- past the end of the words nothing is stored
  past : (n m : ℕ) → length x ≤ p.to + m → m ≤ n → filled b code p m x ≡ filled b code p n x
  unfolding filled
  past zero m h l = let e : m ≡ 0 = omega arith in ap (λ (j : ℕ). filled b code p j x) e
  past (suc n) m h l =
      ⊎_elim
      (λ (e : m ≡ suc n). ap (λ (j : ℕ). filled b code p j x) e)
      (λ (g : m < suc n). past n m h (omega arith)
      ∙ sym (written_out (filled b code p n x) (p.to + n) (word_at code b (p.from + n * width code) ∷ []) (omega (arith, length-filled n))))
      (eq-or-lt_of_le l)

  pub no-room-left : (n : ℕ) → length x ≤ p.to → x ≡ filled b code p n x
  unfolding filled
  no-room-left n h = past n 0 (omega arith) (omega arith)

  pub room-filled : (n m : ℕ) (y : List ℕ) → p.to < length x → m ≡ min n (length x - p.to) → y ≡ filled b code p m x → y ≡ filled b code p n x
  room-filled n m y h s e =
      let l : m ≤ n = omega arith in
      e
      ∙ ⊎_elim
      (λ (i : m ≡ n). ap (λ (j : ℕ). filled b code p j x) i)
      (λ (i : m < n). past n m (omega arith) l)
      (eq-or-lt_of_le l)

-- the k-th of n leaves that have their bytes is there where its word is allowed
pub good_there : (b : List ℕ) (code from n k : ℕ) → from + n * width code ≤ length b → k < n → is_good b code from k ≡ true
    → is_there b code (from + k * width code) ≡ true
unfolding is_there
good_there b code from n k h l g =
    let r : leb (from + k * width code + width code) (length b) ≡ true = le-leb (from + k * width code + width code) (length b)
    (leaf_room (length b) from n (width code) code k refl h l) in
    rw (r, g) refl

-- a run that is there and allowed is walked over
same_place : {a b c d : ℕ} (y : List ℕ) → a ≡ c → b ≡ d → on (record { from = a; to = b }) y ≡ on (record { from = c; to = d }) y
same_place y e h = rw (e, h) refl

module _ (b : List ℕ) (code : ℕ) (p : Place) (x : List ℕ) (f : ℕ → Place → List ℕ → Step) where
  pub steps_on : (n : ℕ)
      → ((k : ℕ) → k < n → f k (along code p k) (filled b code p k x)
      ≡ on (behind code (along code p k)) (stored b code (along code p k) (filled b code p k x)))
      → through n f p x ≡ on (along code p n) (filled b code p n x)
  unfolding filled
  steps_on zero g = through-none f p x ∙ rw (zero-mul (width code), add-zero p.from, add-zero p.to) refl
  steps_on (suc n) g =
      let a : n * width code + width code ≡ suc n * width code = sym (suc-mul n (width code)) in
      let u : p.from + n * width code + width code ≡ p.from + suc n * width code = omega arith in
      let v : p.to + n + 1 ≡ p.to + suc n = omega arith in
      ap (λ (j : ℕ). through j f p x) (sym (add-one n))
      ∙ through-more f p x n (along code p n) (filled b code p n x) (steps_on n (λ k l. g k (omega arith)))
      ∙ g n (omega arith)
      ∙ same_place (filled b code p (suc n) x) u v

  pub run_on : Reads b code f → (n : ℕ) → p.from + n * width code ≤ length b → ((k : ℕ) → k < n → is_good b code p.from k ≡ true) → through n f p x
      ≡ on (along code p n) (filled b code p n x)
  run_on reads n h g = steps_on n (λ k l. reads k (along code p k) (filled b code p k x) (good_there b code p.from n k h l (g k l)))
