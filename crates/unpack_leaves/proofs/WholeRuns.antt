-- A run of leaves of one base code, all there and allowed or not: what that says, and what judging and storing one come to.
-- Assumes nothing.
use Prim.Native.Nat.{ℕ, zero, suc, ◌+◌, ◌*◌, ◌^◌, ◌≤◌, ◌<◌}
use mathlib.Core.Path.{◌≡◌, refl, sym, ap, ◌∙◌}
use mathlib.Core.Bool.{Bool, true, false, ◌&&◌, cond}
use mathlib.Core.List.{List}
use native.Mathlib.Nat.{mul-le-mul_left, zero-mul, add-zero}
use native.Mathlib.Omega.{arith}
use borrow.Author.Tests.{le-leb, leb-true, ne_eqb}
use mir.Syntax.{w64}
use mir.Val.{Fits}
use lib.Dec.{leb, eqb}
use lib.ListN.{length}
use Rattle.wire.proofs.Cond.{yes-if, and_left, and_right}
use Rattle.wire.specs.All.{all_below}
use Rattle.table.specs.Leaf.{Leaf, none, base, is_value, width, allowed}
use Rattle.wire.proofs.AllBelow.{at-below}
use Rattle.table.proofs.Leaves.{none_of}
use Rattle.leaf.specs.Forms.{word_at}
use Rattle.walk.specs.declared.Place.{Place}
use Rattle.walk.specs.Walk.{Step, on, through}
use Rattle.walk.proofs.Walks.{width_few}
use Rattle.unpack_leaves.specs.OneCode.{along, is_good, filled, run_there}
use Rattle.unpack_leaves.specs.Steps.{Reads}
use Rattle.unpack_leaves.proofs.OneCode.{run_on}

-- the bytes of so many leaves are few
pub bytes_fit : (n w code : ℕ) → w ≡ width code → n < 2 ^ 32 → Fits w64 (n * w)
bytes_fit n w code is few = let h : n * w ≤ n * 8 = mul-le-mul_left n (width_few w code is) in record { fits = omega arith }

module _ (b : List ℕ) (code from n : ℕ) where
  -- a run that is there: its bytes are, and each of its words is allowed
  module _ (h : run_there b code from n ≡ true) where
    pub run_room : from + n * width code ≤ length b
    unfolding run_there
    run_room = leb-true (from + n * width code) (length b) (and_left (leb (from + n * width code) (length b)) (all_below (is_good b code from) n) h)

    pub run-good : all_below (is_good b code from) n ≡ true
    unfolding run_there
    run-good = and_right (leb (from + n * width code) (length b)) (all_below (is_good b code from) n) h

  -- one whose bytes are there
  pub run-allowed : (r : Bool) → from + n * width code ≤ length b → r ≡ run_there b code from n → r ≡ all_below (is_good b code from) n
  unfolding run_there
  run-allowed r h e = e ∙ rw (le-leb (from + n * width code) (length b) h) refl

  -- judging one, by what the test of its bytes said
  module _ (w : ℕ) (is : w ≡ width code) (h : Bool) (room : h ≡ leb (from + n * w) (length b)) where
    has : h ≡ leb (from + n * width code) (length b)
    has = room ∙ ap (λ (m : ℕ). leb (from + n * m) (length b)) is

    pub run_in : h ≡ true → from + n * width code ≤ length b
    run_in t = leb-true (from + n * width code) (length b) (sym has ∙ t)

    pub run-judged : (r : Bool) → h ≡ true → r ≡ all_below (is_good b code from) n → r ≡ run_there b code from n
    unfolding run_there
    run-judged r t e = rw (← has, t) e

    pub run_short : h ≡ false → false ≡ run_there b code from n
    unfolding run_there
    run_short f = rw (← has, f) refl

-- storing one
module _ (b : List ℕ) (code n : ℕ) (p : Place) (x : List ℕ) where
  -- a run that is there, and stored, is walked over
  pub run-walked : (y : List ℕ) → run_there b code p.from n ≡ true → y
      ≡ cond (leb (p.from + n * width code) (length b)) (filled b code p n x) x → (f : ℕ → Place → List ℕ → Step) → Reads b code f
      → through n f p x ≡ on (along code p n) y
  run-walked y h e f reads =
      run_on b code p x f reads n (run_room b code p.from n h) (λ k l. at-below (is_good b code p.from) n k (run-good b code p.from n h) l)
      ∙ ap (on (along code p n)) (sym (e ∙ yes-if (filled b code p n x) x (le-leb (p.from + n * width code) (length b) (run_room b code p.from n h))))

-- a code that is no base: no leaf at all is there
with_true : (a : Bool) → a ≡ (a && true)
with_true true = refl
with_true false = refl

with_false : (a b c : Bool) → c ≡ false → false ≡ (a && (b && c))
with_false true true c e = sym e
with_false true false c e = refl
with_false false b c e = refl

module _ (b : List ℕ) (code from : ℕ) where
  none-run : (n : ℕ) → base code ≡ none → (eqb n 0 && leb from (length b)) ≡ run_there b code from n
  unfolding run_there all_below allowed is_value
  none-run zero e = rw (zero-mul (width code), add-zero from) (with_true (leb from (length b)))
  none-run (suc n) e =
      ap (λ (z : Bool). z && leb from (length b)) (ne_eqb (suc n) 0 (λ (z : suc n ≡ 0). omega arith))
      ∙ with_false (leb (from + suc n * width code) (length b)) (all_below (is_good b code from) n) (allowed code (word_at code b (from + n * width code)))
      (ap (λ (l : Leaf). is_value l (word_at code b (from + n * width code))) e)

  pub arm-none : (code ≡ 0 → ⊥) → (code ≡ 1 → ⊥) → (code ≡ 2 → ⊥) → (code ≡ 3 → ⊥) → (code ≡ 4 → ⊥) → (code ≡ 5 → ⊥) → (code ≡ 6 → ⊥)
      → (code ≡ 7 → ⊥) → (code ≡ 8 → ⊥) → (code ≡ 9 → ⊥) → (code ≡ 10 → ⊥) → (code ≡ 11 → ⊥) → (code ≡ 12 → ⊥) → (n : ℕ)
      → (eqb n 0 && leb from (length b)) ≡ run_there b code from n
  arm-none d0 d1 d2 d3 d4 d5 d6 d7 d8 d9 d10 d11 d12 n = none-run n (none_of code d0 d1 d2 d3 d4 d5 d6 d7 d8 d9 d10 d11 d12)
