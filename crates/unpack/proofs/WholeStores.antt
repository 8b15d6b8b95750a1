-- All leaves of the runs of a plan stored: a turn of the loop over them, and that it is what a walk leaves that went over all of them.
-- Assumes nothing.
use Prim.Native.Nat.{ℕ, zero, suc, ◌+◌, ◌*◌, ◌^◌, ◌≤◌, ◌<◌}
use mathlib.Core.Path.{◌≡◌, refl, sym, ap, ◌∙◌}
use mathlib.Core.List.{List}
use mathlib.Core.Logic.{⊎_elim}
use native.Mathlib.Nat.{eq-or-lt_of_le}
use native.Mathlib.Numerals.{add-one}
use native.Mathlib.Omega.{arith}
use mir.Syntax.{w64}
use mir.Val.{Fits}
use lib.ListN.{length, get_or, set}
use Rattle.table.specs.Leaf.{width}
use Rattle.leaf.specs.Forms.{word_at}
use Rattle.walk.specs.declared.Place.{Place}
use Rattle.walk.specs.declared.Walked.{Walked}
use Rattle.walk.specs.declared.Walked.TheVariants.{Went, Stopped}
use Rattle.walk.specs.Runs.{code_in, many_in}
use Rattle.walk.specs.Walk.{Step, on, stop, start, answer, next, through}
use Rattle.unpack_leaves.specs.OneCode.{along, filled}
use Rattle.unpack.specs.RunByRun.{run_read, whole_at, stored_whole}
use Rattle.unpack.proofs.StoredRuns.{leaf-stored}
use Rattle.unpack.proofs.Upto.{Came, whole, cut, run-came}

-- one leaf, for which there is room
pub one_left : (x : List ℕ) (p : Place) (at n : ℕ) → at ≡ p.to → n ≡ 1 → p.to + n ≤ length x → at < length x
one_left x p at n e one h = omega arith

pub leaf_left : (b x : List ℕ) (code n : ℕ) (p : Place) (at w : ℕ) → at ≡ p.to → n ≡ 1 → p.to + n ≤ length x → w ≡ word_at code b p.from
    → set x at w ≡ filled b code p n x
leaf_left b x code n p at w e one h r =
    leaf-stored b code p x at w e (one_left x p at n e one h) r ∙ ap (λ (m : ℕ). filled b code p m x) (sym one)

-- behind no run, and behind all
pub at_start : (runs : List ℕ) → start ≡ whole_at runs 0
unfolding whole_at
at_start runs = refl

pub none_stored : (b runs x : List ℕ) → x ≡ stored_whole b runs 0 x
unfolding stored_whole
none_stored b runs x = refl

-- places only go on
module _ (runs : List ℕ) where
  from-grows : (n k : ℕ) → k ≤ n → (whole_at runs k).from ≤ (whole_at runs n).from
  unfolding whole_at
  from-grows zero k l = let e : k ≡ 0 = omega arith in rw e (omega arith)
  from-grows (suc n) k l =
      ⊎_elim (λ (e : k ≡ suc n). rw e (omega arith)) (λ (h : k < suc n). omega (arith, from-grows n k (omega arith))) (eq-or-lt_of_le l)

  to-grows : (n k : ℕ) → k ≤ n → (whole_at runs k).to ≤ (whole_at runs n).to
  unfolding whole_at
  to-grows zero k l = let e : k ≡ 0 = omega arith in rw e (omega arith)
  to-grows (suc n) k l =
      ⊎_elim (λ (e : k ≡ suc n). rw e (omega arith)) (λ (h : k < suc n). omega (arith, to-grows n k (omega arith))) (eq-or-lt_of_le l)

-- the leaves of the next
module _ (runs : List ℕ) (k from to : ℕ) (at : ◌≡◌ {A = Place} (record { from = from; to = to }) (whole_at runs k)) (code many : ℕ)
    (code_is : code ≡ code_in (get_or runs k 0)) (many_is : many ≡ many_in (get_or runs k 0)) where
  place_is : along code (record { from = from; to = to }) many ≡ whole_at runs (k + 1)
  unfolding whole_at
  place_is = rw (add-one k, ← at, ← code_is, ← many_is) refl

  pub next-at : (w : ℕ) → w ≡ width code → ◌≡◌ {A = Place} (record { from = from + many * w; to = to + many }) (whole_at runs (k + 1))
  next-at w is = ap (λ (v : ℕ). record { from = from + many * v; to = to + many }) is ∙ place_is

  pub next-stored : (b x y z : List ℕ) → y ≡ stored_whole b runs k x → z ≡ filled b code (record { from = from; to = to }) many y
      → z ≡ stored_whole b runs (k + 1) x
  unfolding stored_whole
  next-stored b x y z h e = e ∙ rw (add-one k, ← at, ← code_is, ← many_is, ← h) refl

  module _ (less : k < length runs) where
    pub next-bytes : (b : List ℕ) → (whole_at runs (length runs)).from ≤ length b → from + many * width code ≤ length b
    next-bytes b h = omega (arith, ap (λ (q : Place). q.from) place_is, from-grows runs (length runs) (k + 1) (omega arith))

    pub next-room : (x y : List ℕ) → (whole_at runs (length runs)).to ≤ length x → length y ≡ length x → to + many ≤ length y
    next-room x y h e = omega (arith, ap (λ (q : Place). q.to) place_is, to-grows runs (length runs) (k + 1) (omega arith))

    pub next-from-fits : (b : List ℕ) (w : ℕ) → w ≡ width code → (whole_at runs (length runs)).from ≤ length b → length b * 1 < 2 ^ 63
        → Fits w64 (from + many * w)
    next-from-fits b w is h few = rw is (record { fits = omega (arith, next-bytes b h) })

    pub next-to-fits : (x : List ℕ) → (whole_at runs (length runs)).to ≤ length x → length x * 8 < 2 ^ 63 → Fits w64 (to + many)
    next-to-fits x h few = record { fits = omega (arith, next-room x x h refl) }

-- behind so many runs the walk stands there, or has stopped
data Gone (b t runs x : List ℕ) (k : ℕ) : Type 0 where
  goes_on : through k (run_read b t runs) start x ≡ on (whole_at runs k) (stored_whole b runs k x) → Gone b t runs x k
  stopped : (m : ℕ) (q : Place) (y : List ℕ) → through k (run_read b t runs) start x ≡ stop m q y → Gone b t runs x k

module _ (b t runs x : List ℕ) where
  gone : (k : ℕ) → Gone b t runs x k
  unfolding through next whole_at stored_whole
  gone zero = goes_on refl
  gone (suc k) = go (gone k)
    where
      f : ℕ → Place → List ℕ → Step
      f = run_read b t runs

      q : Place
      q = whole_at runs k

      y : List ℕ
      y = stored_whole b runs k x

      c : ℕ
      c = code_in (get_or runs k 0)

      step : through k f start x ≡ on q y → Came b c q y (many_in (get_or runs k 0)) (f k q y) → Gone b t runs x (suc k)
      step e (whole h) = goes_on (ap (λ (st : Step). next st (f k)) e ∙ h)
      step e (cut j m less h) = stopped m (along c q j) (filled b c q j y) (ap (λ (st : Step). next st (f k)) e ∙ h)

      go : Gone b t runs x k → Gone b t runs x (suc k)
      go (goes_on e) = step e (run-came b t (get_or runs k 0) q y)
      go (stopped m o z e) = stopped m o z (ap (λ (st : Step). next st (f k)) e)

-- where a walk ended
place_of : Walked → Place
place_of (Went q) = q
place_of (Stopped n q) = q

has_gone : Walked → ℕ
has_gone (Went q) = 1
has_gone (Stopped n q) = 0

-- so, where it went
module _ (b t runs x : List ℕ) (q : Place) (went : answer (through (length runs) (run_read b t runs) start x) ≡ Went q) where
  pub went_on : through (length runs) (run_read b t runs) start x ≡ on q (stored_whole b runs (length runs) x)
  unfolding answer place_of has_gone
  went_on = go (gone b t runs x (length runs))
    where
      go : Gone b t runs x (length runs) → through (length runs) (run_read b t runs) start x ≡ on q (stored_whole b runs (length runs) x)
      go (goes_on e) =
          e ∙ ap (λ (o : Place). on o (stored_whole b runs (length runs) x)) (ap place_of (sym (ap answer e) ∙ went))
      go (stopped m o z e) = absurd (let h : ◌≡◌ {A = ℕ} 0 1 = ap has_gone (sym (ap answer e) ∙ went) in omega arith)

  pub went_to : whole_at runs (length runs) ≡ q
  unfolding answer place_of has_gone
  went_to = go (gone b t runs x (length runs))
    where
      go : Gone b t runs x (length runs) → whole_at runs (length runs) ≡ q
      go (goes_on e) = ap place_of (sym (ap answer e) ∙ went)
      go (stopped m o z e) = absurd (let h : ◌≡◌ {A = ℕ} 0 1 = ap has_gone (sym (ap answer e) ∙ went) in omega arith)
