-- All leaves of the runs of a plan stored: a turn of the loop over them, and that it is what a walk leaves that went over all of them.
-- Assumes nothing.
use Prim.Native.Nat.{ℕ, zero, suc, ◌+◌, ◌*◌, ◌^◌, ◌≤◌, ◌<◌}
use mathlib.Core.Path.{◌≡◌, refl, sym, ap, ap₂, ◌∙◌}
use mathlib.Core.Bool.{Bool, true, false, ◌&&◌}
use mathlib.Core.List.{List}
use mathlib.Core.Logic.{⊎_elim}
use native.Mathlib.Nat.{eq-or-lt_of_le, zero-mul, add-zero, mul-le-mul_left}
use native.Mathlib.Numerals.{add-one}
use native.Mathlib.Omega.{arith}
use mir.Syntax.{w64}
use mir.Val.{Fits}
use lib.ListN.{length, get_or}
use Rattle.wire.specs.Bytes.{written}
use Rattle.table.specs.Leaf.{width, allowed}
use Rattle.leaf.specs.Forms.{form_of}
use Rattle.leaf.proofs.Returns.{no_form}
use Rattle.walk.specs.declared.Place.{Place}
use Rattle.walk.specs.declared.Walked.{Walked}
use Rattle.walk.specs.declared.Walked.TheVariants.{Went, Stopped}
use Rattle.walk.specs.Runs.{code_in, many_in, taken_by, runs_tree}
use Rattle.walk.specs.Walk.{Step, on, stop, start, answer, next, through, walk}
use Rattle.walk.proofs.Walks.{width_few}
use Rattle.pack_leaves.specs.StoredRuns.{behind_all, stored_all}
use Rattle.pack.specs.Writing.{writer}
use Rattle.pack.specs.ByPlan.{whole_at, stored_whole}
use Rattle.pack.proofs.PlanWalks.{overRun}
use Rattle.pack.proofs.PlanStores.{RunEnds, whole, part, run_ends}

-- a word that a leaf of a run takes, by its code and by its values
module _ (t : List ℕ) (w c v : ℕ) (is : c ≡ code_in w) (a : Bool) (by_code : a ≡ allowed c v) where
  pub one-chosen : (b : Bool) → a ≡ true → b ≡ taken_by t w v → b ≡ (allowed (code_in w) v && taken_by t w v)
  one-chosen b h e = e ∙ ap (λ (u : Bool). u && taken_by t w v) (sym h ∙ by_code ∙ ap (λ (n : ℕ). allowed n v) is)

  pub one-refused : a ≡ false → false ≡ (allowed (code_in w) v && taken_by t w v)
  one-refused h = ap (λ (u : Bool). u && taken_by t w v) (sym h ∙ by_code ∙ ap (λ (n : ℕ). allowed n v) is)

-- the bytes of so many leaves
pub run_wide : (n w code : ℕ) → w ≡ width code → n * w ≡ n * width code
run_wide n w code e = ap (λ (m : ℕ). n * m) e

pub bytes_fit : (n w code : ℕ) → w ≡ width code → n < 2 ^ 32 → Fits w64 (n * w)
bytes_fit n w code is few = let h : n * w ≤ n * 8 = mul-le-mul_left n (width_few w code is) in record { fits = omega arith }

-- and of one
pub one_wide : (n code bytes : ℕ) → n ≡ 1 → bytes ≡ n * width code → bytes ≡ width code
one_wide n code bytes e h = h ∙ rw e (omega arith)

pub one_room : (l to n code bytes : ℕ) → n ≡ 1 → bytes ≡ n * width code → to + bytes ≤ l → to + width code ≤ l
one_room l to n code bytes e h room = omega (arith, one_wide n code bytes e h)

pub not_wide : (k : ℕ) (code bytes : ℕ) → bytes ≡ width code → (bytes ≡ k → ⊥) → width code ≡ k → ⊥
not_wide k code bytes is h e = h (is ∙ e)

pub none_written : (s : List ℕ) (p code w n : ℕ) → n ≡ width code → (n ≡ 1 → ⊥) → (width code ≡ 2 → ⊥) → (width code ≡ 4 → ⊥) → (width code ≡ 8 → ⊥)
    → s ≡ written s p (form_of code w)
none_written s p code w n is a b c d =
    no_form s p code w n is a (λ (e : n ≡ 2). b (sym is ∙ e)) (λ (e : n ≡ 4). c (sym is ∙ e)) (λ (e : n ≡ 8). d (sym is ∙ e))

pub leaf_written : (ws x y : List ℕ) (code n : ℕ) (p : Place) (at : ℕ) → at ≡ p.from → n ≡ 1 → y ≡ written x p.to (form_of code (get_or ws at 0))
    → y ≡ stored_all ws code p n x
unfolding stored_all
leaf_written ws x y code n p at is e put =
    put
    ∙ ap₂ (λ (a b : ℕ). written x a (form_of code (get_or ws b 0))) (sym (ap (λ (m : ℕ). p.to + m) (zero-mul (width code)) ∙ add-zero p.to))
    (is ∙ sym (add-zero p.from))
    ∙ ap (λ (m : ℕ). stored_all ws code p m x) (sym e)

-- behind no run
pub at_start : (rs : List ℕ) → start ≡ whole_at rs 0
unfolding whole_at
at_start rs = refl

pub none_stored : (ws rs x : List ℕ) → x ≡ stored_whole ws rs 0 x
unfolding stored_whole
none_stored ws rs x = refl

-- places only go on
module _ (rs : List ℕ) where
  from-grows : (n k : ℕ) → k ≤ n → (whole_at rs k).from ≤ (whole_at rs n).from
  unfolding whole_at
  from-grows zero k l = let e : k ≡ 0 = omega arith in rw e (omega arith)
  from-grows (suc n) k l =
      ⊎_elim (λ (e : k ≡ suc n). rw e (omega arith)) (λ (h : k < suc n). omega (arith, from-grows n k (omega arith))) (eq-or-lt_of_le l)

  to-grows : (n k : ℕ) → k ≤ n → (whole_at rs k).to ≤ (whole_at rs n).to
  unfolding whole_at
  to-grows zero k l = let e : k ≡ 0 = omega arith in rw e (omega arith)
  to-grows (suc n) k l =
      ⊎_elim (λ (e : k ≡ suc n). rw e (omega arith)) (λ (h : k < suc n). omega (arith, to-grows n k (omega arith))) (eq-or-lt_of_le l)

-- the leaves of the next
module _ (rs : List ℕ) (k from to : ℕ) (at : ◌≡◌ {A = Place} (record { from = from; to = to }) (whole_at rs k)) (code many : ℕ)
    (code_is : code ≡ code_in (get_or rs k 0)) (many_is : many ≡ many_in (get_or rs k 0)) where
  place_is : behind_all code (record { from = from; to = to }) many ≡ whole_at rs (k + 1)
  unfolding whole_at
  place_is = rw (add-one k, ← at, ← code_is, ← many_is) refl

  pub next-at : (w : ℕ) → w ≡ width code → ◌≡◌ {A = Place} (record { from = from + many; to = to + many * w }) (whole_at rs (k + 1))
  next-at w is = ap (λ (v : ℕ). record { from = from + many; to = to + many * v }) is ∙ place_is

  pub next-stored : (ws x y z : List ℕ) → y ≡ stored_whole ws rs k x → z ≡ stored_all ws code (record { from = from; to = to }) many y
      → z ≡ stored_whole ws rs (k + 1) x
  unfolding stored_whole
  next-stored ws x y z h e = e ∙ rw (add-one k, ← at, ← code_is, ← many_is, ← h) refl

  module _ (less : k < length rs) where
    pub next-words : (ws : List ℕ) → (whole_at rs (length rs)).from ≤ length ws → from + many ≤ length ws
    next-words ws h = omega (arith, ap (λ (q : Place). q.from) place_is, from-grows rs (length rs) (k + 1) (omega arith))

    pub next-room : (x y : List ℕ) (w : ℕ) → w ≡ width code → (whole_at rs (length rs)).to ≤ length x → length y ≡ length x → to + many * w ≤ length y
    next-room x y w is h e = rw is (omega (arith, ap (λ (q : Place). q.to) place_is, to-grows rs (length rs) (k + 1) (omega arith)))

    pub next-from-fits : (ws : List ℕ) → (whole_at rs (length rs)).from ≤ length ws → length ws * 8 < 2 ^ 63 → Fits w64 (from + many)
    next-from-fits ws h few = record { fits = omega (arith, next-words ws h) }

    pub next-to-fits : (x : List ℕ) (w : ℕ) → w ≡ width code → (whole_at rs (length rs)).to ≤ length x → length x * 1 < 2 ^ 63 → Fits w64 (to + many * w)
    next-to-fits x w is h few = record { fits = omega (arith, next-room x x w is h refl) }

-- behind so many runs the walk stands there, or has stopped
abbrev pub run_written : List ℕ → List ℕ → List ℕ → ℕ → Place → List ℕ → Step
run_written ws t rs k q y = overRun ws t (get_or rs k 0) q y

pub runs_are : (ws t rs : List ℕ) (p : Place) (x : List ℕ) → walk (writer ws) (runs_tree t rs) p x ≡ through (length rs) (run_written ws t rs) p x
unfolding walk runs_tree
runs_are ws t rs p x = refl

data Gone (ws t rs x : List ℕ) (k : ℕ) : Type 0 where
  goes_on : through k (run_written ws t rs) start x ≡ on (whole_at rs k) (stored_whole ws rs k x) → Gone ws t rs x k
  stopped : (m : ℕ) (q : Place) (y : List ℕ) → through k (run_written ws t rs) start x ≡ stop m q y → Gone ws t rs x k

module _ (ws t rs x : List ℕ) where
  gone : (k : ℕ) → Gone ws t rs x k
  unfolding through next whole_at stored_whole
  gone zero = goes_on refl
  gone (suc k) = go (gone k)
    where
      f : ℕ → Place → List ℕ → Step
      f = run_written ws t rs

      q : Place
      q = whole_at rs k

      y : List ℕ
      y = stored_whole ws rs k x

      c : ℕ
      c = code_in (get_or rs k 0)

      step : through k f start x ≡ on q y → RunEnds ws c q y (many_in (get_or rs k 0)) (f k q y) → Gone ws t rs x (suc k)
      step e (whole h) = goes_on (ap (λ (st : Step). next st (f k)) e ∙ h)
      step e (part j m less h) = stopped m (behind_all c q j) (stored_all ws c q j y) (ap (λ (st : Step). next st (f k)) e ∙ h)

      go : Gone ws t rs x k → Gone ws t rs x (suc k)
      go (goes_on e) = step e (run_ends ws t (get_or rs k 0) q y)
      go (stopped m o z e) = stopped m o z (ap (λ (st : Step). next st (f k)) e)

-- where a walk ended
place_of : Walked → Place
place_of (Went q) = q
place_of (Stopped n q) = q

has_gone : Walked → ℕ
has_gone (Went q) = 1
has_gone (Stopped n q) = 0

-- so, where it went
module _ (ws t rs x : List ℕ) (q : Place) (went : answer (through (length rs) (run_written ws t rs) start x) ≡ Went q) where
  pub went_on : through (length rs) (run_written ws t rs) start x ≡ on q (stored_whole ws rs (length rs) x)
  unfolding answer place_of has_gone
  went_on = go (gone ws t rs x (length rs))
    where
      go : Gone ws t rs x (length rs) → through (length rs) (run_written ws t rs) start x ≡ on q (stored_whole ws rs (length rs) x)
      go (goes_on e) =
          e ∙ ap (λ (o : Place). on o (stored_whole ws rs (length rs) x)) (ap place_of (sym (ap answer e) ∙ went))
      go (stopped m o z e) = absurd (let h : ◌≡◌ {A = ℕ} 0 1 = ap has_gone (sym (ap answer e) ∙ went) in omega arith)

  pub went_to : whole_at rs (length rs) ≡ q
  unfolding answer place_of has_gone
  went_to = go (gone ws t rs x (length rs))
    where
      go : Gone ws t rs x (length rs) → whole_at rs (length rs) ≡ q
      go (goes_on e) = ap place_of (sym (ap answer e) ∙ went)
      go (stopped m o z e) = absurd (let h : ◌≡◌ {A = ℕ} 0 1 = ap has_gone (sym (ap answer e) ∙ went) in omega arith)
