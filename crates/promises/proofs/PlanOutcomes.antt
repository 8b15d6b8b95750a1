-- The one outcome that the contracts of unpacking and packing allow, on sections and by plans.
-- Assumes nothing.
use Prim.{Unit}
use Prim.Native.Nat.{ℕ, ◌≤◌}
use mathlib.Core.Path.{◌≡◌, refl, sym, ap, ap₂, ◌∙◌}
use mathlib.Core.Logic.{◌↔◌}
use mathlib.Core.List.{List, []}
use lib.ListN.{length}
use Rattle.table.specs.Words.{sections_in}
use Rattle.walk.specs.Walk.{Codec}
use Rattle.payload.specs.declared.Answer.{Answer}
use Rattle.payload.specs.declared.Answer.TheVariants.{Gave}
use Rattle.payload.specs.Calls.{number_given, answered_in, left_over_in}
use Rattle.payload.specs.ByPlans.{answered_by, left_for}
use Rattle.nyrkovash.specs.PayloadCalls.{walked_left}
use Rattle.promises.specs.Linked.{Allows}
use Rattle.promises.specs.LinkedPlans.{WalkLent, WalkLeft, walk_left, Walking, HandedIn, lent_in, exit_in}
use Rattle.promises.specs.LinkedPlans.{PlansLent, ◌with-plans◌, HandedBy, lent_by, exit_by, GoesBy}
use Rattle.promises.proofs.LinkedCut.{lent, lent_mut}
use Rattle.promises.proofs.LinkedPayloads.{as-told, gave_given}
use Rattle.promises.proofs.Numbered.{Numbered, by-numbered}

-- what a contract says of number and exit, at what was lent and what was left
pub outcome : {B C : Type 0} {n : ℕ} {x : B} {y : C} (number : B → ℕ) (left : B → C) (l : B) (r : C)
    → n ≡ number x → y ≡ left x → x ≡ l → y ≡ r → (n ≡ number l) × (r ≡ left l)
outcome number left l r e f g h = (e ∙ ap number g, sym h ∙ f ∙ ap left g)

-- the one outcome of unpacking and packing, on sections and by plans
module _ (c : List ℕ → Codec) where
  abbrev pub answer_in : WalkLent → Answer
  answer_in l = answered_in (c l.input) (length l.input) l.table (sections_in l.sections) l.number (length l.output)

  abbrev pub end_in : WalkLent → WalkLeft
  end_in l =
      walk_left (left_over_in (c l.input) (length l.input) l.table (sections_in l.sections) l.number l.output) (walked_left l.walked (answer_in l))

  abbrev pub answerBy : PlansLent → Answer
  answerBy m =
      let l : WalkLent = m.lent in
      answered_by (c l.input) (length l.input) m.plans l.table (sections_in l.sections) l.number (length l.output)

  abbrev pub outputBy : PlansLent → List ℕ
  outputBy m =
      let l : WalkLent = m.lent in
      left_for (c l.input) (length l.input) m.plans l.table (sections_in l.sections) l.number l.output

  abbrev pub endBy : PlansLent → WalkLeft
  endBy m = walk_left (outputBy m) (walked_left m.lent.walked (answerBy m))

  abbrev pub IsIn : WalkLent → ℕ → WalkLeft → Type 0
  IsIn l n r = (n ≡ number_given (answer_in l)) × (r ≡ end_in l)

  abbrev pub IsBy : PlansLent → ℕ → WalkLeft → Type 0
  IsBy m n r = (n ≡ number_given (answerBy m)) × (r ≡ endBy m)

  -- by plans that go as the walk they are one
  pub same : (l : WalkLent) (ps : List ℕ) (n : ℕ) (r : WalkLeft) → answerBy (l with-plans ps) ≡ answer_in l → outputBy (l with-plans ps) ≡ (end_in l).output
      → IsBy (l with-plans ps) n r ↔ IsIn l n r
  same l ps n r e f =
      let number = ap number_given e in
      let left = ap₂ (λ (y : List ℕ) (a : Answer). walk_left y (walked_left l.walked a)) f e in
      (λ p. (p.0 ∙ number, p.1 ∙ left), λ p. (p.0 ∙ sym number, p.1 ∙ sym left))

  -- by any
  pub goes : (m : PlansLent) (n : ℕ) (r : WalkLeft) → IsBy m n r → length (outputBy m) ≡ length m.lent.output
      → ((k : ℕ) → answerBy m ≡ Gave k → k ≤ length m.lent.output) → GoesBy (answerBy m) (outputBy m) m.lent n r
  goes m n r p long fits =
      let l : WalkLent = m.lent in
      let left : r.output ≡ outputBy m = ap (λ (y : WalkLeft). y.output) p.1 in
      let sound : Numbered (answerBy m) =
      by-numbered (c l.input) (length l.input) l.table m.plans (sections_in l.sections) l.number (length l.output) in
      let told = as-told (answerBy m) l.walked refl sound p.0 (ap (λ (y : WalkLeft). y.walked) p.1) in
      record { answer = told; output = left; as_long = ap length left ∙ long; fits = λ z. fits _ (sym told ∙ gave_given n r.walked z) }

-- the contracts allow it, and no other. What is lent has a lifetime each, which tells nothing
abbrev pub Lifetimes5 : Type 0
Lifetimes5 = List ℕ × (List ℕ × (List ℕ × (List ℕ × (List ℕ × Unit {0}))))

abbrev pub lifetimes5 : Lifetimes5
lifetimes5 = ([], ([], ([], ([], ([], tt)))))

module _ {l r : WalkLeft} (e : l ≡ r) where
  pub both-parts : (l.output ≡ r.output) × (l.walked ≡ r.walked)
  both-parts = (ap (λ (y : WalkLeft). y.output) e, ap (λ (y : WalkLeft). y.walked) e)

abbrev pub walking : List ℕ → WalkLeft → Walking
walking x r = (lent x, (lent_mut r.output, (lent_mut r.walked, tt)))

abbrev pub start : WalkLent → WalkLeft
start l = walk_left l.output l.walked

abbrev pub handed_in : WalkLent → WalkLeft → HandedIn
handed_in l r = (lent l.table, (lent l.sections, (l.number, walking l.input r)))

abbrev pub handed_by : PlansLent → WalkLeft → HandedBy
handed_by m r = (lent m.lent.table, (lent m.lent.sections, (lent m.plans, (m.lent.number, walking m.lent.input r))))

module _ (c : List ℕ → Codec) where
  abbrev pub SaysIn : Lifetimes5 → HandedIn → ℕ → HandedIn → Type 0
  SaysIn k a n e =
      (n ≡ number_given (answer_in c (lent_in a))) × (((exit_in e).output ≡ (end_in c (lent_in a)).output) × ((exit_in e).walked ≡ (end_in c (lent_in a)).walked))

  pub walks-in : (l : WalkLent) (n : ℕ) (r : WalkLeft) → Allows SaysIn (λ k a. lent_in a) (λ k e. exit_in e) l n r ↔ IsIn c l n r
  walks-in l n r = (
    λ x. let p = x.1.1.1.0 in
        outcome (λ y. number_given (answer_in c y)) (end_in c) l r p.0 (ap₂ walk_left p.1.0 p.1.1) x.1.1.1.1.0 x.1.1.1.1.1,
    λ e. (lifetimes5, (handed_in l (start l), (handed_in l r, ((e.0, both-parts e.1), (refl, refl))))),
  )

  abbrev pub SaysBy : List ℕ × Lifetimes5 → HandedBy → ℕ → HandedBy → Type 0
  SaysBy k a n e =
      (n ≡ number_given (answerBy c (lent_by a))) × (((exit_by e).output ≡ (endBy c (lent_by a)).output) × ((exit_by e).walked ≡ (endBy c (lent_by a)).walked))

  pub walks-by : (m : PlansLent) (n : ℕ) (r : WalkLeft) → Allows SaysBy (λ k a. lent_by a) (λ k e. exit_by e) m n r ↔ IsBy c m n r
  walks-by m n r = (
    λ x. let p = x.1.1.1.0 in
        outcome (λ y. number_given (answerBy c y)) (endBy c) m r p.0 (ap₂ walk_left p.1.0 p.1.1) x.1.1.1.1.0 x.1.1.1.1.1,
    λ e. (([], lifetimes5), (handed_by m (start m.lent), (handed_by m r, ((e.0, both-parts e.1), (refl, refl))))),
  )
