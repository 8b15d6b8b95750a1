-- A run of words of one base code that are there: what a walk over it comes to.
-- Assumes nothing.
use Prim.Native.Nat.{ℕ, zero, suc, ◌+◌, ◌*◌, ◌^◌, ◌≤◌, ◌<◌}
use mathlib.Core.Path.{◌≡◌, refl, sym, ap, ap₂, ◌∙◌}
use mathlib.Core.Bool.{cond}
use mathlib.Core.List.{List}
use native.Mathlib.Nat.{add-zero, zero-add, add-suc, zero-mul, suc-mul, mul-le-mul_left}
use native.Mathlib.Omega.{arith}
use mir.Syntax.{w64}
use mir.Val.{Fits}
use lib.Dec.{leb}
use lib.ListN.{length}
use Rattle.wire.proofs.Cond.{yes_le}
use Rattle.table.specs.Leaf.{width}
use Rattle.walk.specs.declared.Place.{Place}
use Rattle.walk.specs.Walk.{Step, on, next, through, Going}
use Rattle.walk.proofs.Walks.{few_bytes}
use Rattle.walk.proofs.Turns.{from_first}
use Rattle.pack_leaves.specs.Stored.{behind, stored}
use Rattle.pack_leaves.specs.StoredRuns.{behind_all, stored_all}
use Rattle.pack_leaves.proofs.StoredRuns.{as_long}
use Rattle.pack.specs.Writing.{Writing, Writes}
use Rattle.pack.specs.JudgedRuns.{AllThere}

module _ (ws : List ℕ) (code : ℕ) (p : Place) (x : List ℕ) where
  -- the place behind none of its leaves, and behind one more
  pub none_yet : on p x ≡ on (behind_all code p 0) x
  none_yet = ap₂ (λ (a b : ℕ). on (record { from = a; to = b }) x) (sym (add-zero p.from))
      (sym (ap (λ (m : ℕ). p.to + m) (zero-mul (width code)) ∙ add-zero p.to))

  pub one_more : (n : ℕ) (y : List ℕ) → on (behind code (behind_all code p n)) y ≡ on (behind_all code p (suc n)) y
  one_more n y =
      let m : ℕ = n * width code in
      ap₂ (λ (a b : ℕ). on (record { from = a; to = b }) y) (omega arith) (omega (arith, suc-mul n (width code)))

  -- a walk over the run, from the k-th step on, and from the first
  pub rest-on : (k n : ℕ) (f : ℕ → Place → List ℕ → Step) → ((j : ℕ) (y : List ℕ) → j < n → f (k + j) (behind_all code p j) y
      ≡ on (behind code (behind_all code p j)) (stored ws code (behind_all code p j) y)) → (p₀ : Place) (x₀ : List ℕ) → through k f p₀ x₀
      ≡ on p x → through (k + n) f p₀ x₀ ≡ on (behind_all code p n) (stored_all ws code p n x)
  unfolding through next stored_all
  rest-on k zero f g p₀ x₀ h = ap (λ (m : ℕ). through m f p₀ x₀) (add-zero k) ∙ h ∙ none_yet
  rest-on k (suc n) f g p₀ x₀ h =
      ap (λ (m : ℕ). through m f p₀ x₀) (add-suc k n)
      ∙ ap (λ (st : Step). next st (f (k + n))) (rest-on k n f (λ j y l. g j y (omega arith)) p₀ x₀ h)
      ∙ g n (stored_all ws code p n x) (omega arith)
      ∙ one_more n (stored_all ws code p (suc n) x)

  pub run_on : (n : ℕ) (f : ℕ → Place → List ℕ → Step) → ((k : ℕ) (y : List ℕ) → k < n → f k (behind_all code p k) y
      ≡ on (behind code (behind_all code p k)) (stored ws code (behind_all code p k) y)) → through n f p x
      ≡ on (behind_all code p n) (stored_all ws code p n x)
  unfolding through
  run_on n f g =
      ap (λ (m : ℕ). through m f p x) (sym (zero-add n))
      ∙ rest-on 0 n f (λ j y l. ap (λ (m : ℕ). f m (behind_all code p j) y) (zero-add j) ∙ g j y l) p x refl

  -- all of it was stored, since its words are there
  module _ (n : ℕ) (y : List ℕ) (inside : p.from + n ≤ length ws) (is : y ≡ cond (leb (p.from + n) (length ws)) (stored_all ws code p n x) x) where
    pub all_stored : y ≡ stored_all ws code p n x
    all_stored = is ∙ yes_le (stored_all ws code p n x) x (p.from + n) (length ws) inside

    pub run_long : length y ≡ length x
    run_long = as_long ws code p x n all_stored

    pub run-went : (w : ℕ) → w ≡ width code → AllThere ws code p.from n → (f : ℕ → Place → List ℕ → Step) → Writes ws code f
        → through n f p x ≡ on (record { from = p.from + n; to = p.to + n * w }) y
    run-went w e there f g = run_on n f (λ k y l. g k (behind_all code p k) y (there k l)) ∙ rw (← e, ← all_stored) refl

-- a run's end is a place that writing can come to
module _ (ws : List ℕ) (code w : ℕ) (p : Place) (n : ℕ) (is : w ≡ width code) (inside : p.from + n ≤ length ws) (so_far : Writing ws p) where
  few : n * w ≤ n * 8
  few = mul-le-mul_left n (omega (arith, few_bytes code))

  pub writing-run : Writing ws (record { from = p.from + n; to = p.to + n * w })
  writing-run = (omega (arith, few, so_far.0), inside)

  pub run-times : length ws * 8 < 2 ^ 63 → Fits w64 (n * w)
  run-times l = record { fits = omega (arith, few) }

  pub run_end : length ws * 8 < 2 ^ 63 → Fits w64 (p.to + n * w)
  run_end l = record { fits = omega (arith, few, so_far.0) }

pub run_going : (ws : List ℕ) (code w : ℕ) (p : Place) (n : ℕ) (is : w ≡ width code) (inside : p.from + n ≤ length ws) (so_far : Writing ws p)
    (x y : List ℕ) → y ≡ cond (leb (p.from + n) (length ws)) (stored_all ws code p n x) x → AllThere ws code p.from n
    → (f : ℕ → Place → List ℕ → Step) → Writes ws code f → Going (Writing ws) f n 0 p x n (record { from = p.from + n; to = p.to + n * w }) y
run_going ws code w p n is inside so_far x y put there f writes =
    from_first
    (omega arith)
    (writing-run ws code w p n is inside so_far)
    (run_long ws code p x n y inside put)
    (run-went ws code p x n y inside put w is there f writes)
