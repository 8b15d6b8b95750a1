-- The calls by plans, at the case that the code has met; the laws of unpacking and packing are one.
-- Assumes nothing.
use Prim.Native.Nat.{ℕ}
use Prim.{Unit}
use Rattle.std.specs.Prelude.{Result, Ok, Err}
use Rattle.refusal.specs.declared.Refusal.{Refusal}
use Rattle.refusal.specs.Refusal.{number_of, verdict_of}
use mathlib.Core.Path.{◌≡◌, refl, sym, ap, ◌∙◌}
use mathlib.Core.Bool.{Bool, true, false, cond}
use lib.Dec.{ltb}
use Rattle.table.specs.Layout.{within}
use mathlib.Core.List.{List}
use lib.ListN.{length}
use Rattle.table.specs.declared.Sections.{Sections}
use Rattle.walk.specs.Walk.{Codec, start, left, walk}
use Rattle.walk.specs.Planned.{is_planned, plan_tree, type_by}
use Rattle.plan.specs.Layout.{plans_length, laid_number, laid_out}
use Rattle.payload.specs.declared.Answer.{Answer}
use Rattle.payload.specs.Calls.{number_given, answered_tree, left_over_by}
use Rattle.payload.specs.ByPlans.{answered_on, answered_by, left_for}
use Rattle.payload.proofs.ByPlans.{by-plan, by_parts}
use Rattle.nyrkovash.specs.PayloadCalls.{walked_left}
use Rattle.nyrkovash.proofs.Giving.{given-number, given-words}

-- the number of a verdict
abbrev pub said : Result Unit Refusal → ℕ
said (Ok u) = 0
said (Err e) = number_of e

said-laid : (t : List ℕ) (s : Sections) (room : ℕ) → said (verdict_of (laid_number t s room)) ≡ laid_number t s room
unfolding laid_number
said-laid t s room = go (within t s) (ltb room (plans_length t s))
  where
    go : (a b : Bool) → said (verdict_of (cond a (cond b 10 0) 30)) ≡ cond a (cond b 10 0) 30
    go true true = refl
    go true false = refl
    go false b = refl

-- on the sections that words hold
module _ {z : Sections} (t : List ℕ) (s : Sections) (es : z ≡ s) where
  same : {A : Type 0} {g : A} (F : Sections → A) → g ≡ F z → g ≡ F s
  same F e = e ∙ ap F es

  -- plans laid out: a number that refuses is given back by its name
  pub laid-number : {r : Result Unit Refusal} {x : ℕ} (room : ℕ) (v : Result Unit Refusal) → r ≡ verdict_of (laid_number t z room) → r ≡ v
      → x ≡ said v → x ≡ laid_number t s room
  laid-number room v e f g = g ∙ ap said (sym f ∙ e) ∙ same (λ y. laid_number t y room) (said-laid t z room)

  pub laid-left : {x : List ℕ} (ws : List ℕ) → x ≡ laid_out t z ws → x ≡ laid_out t s ws
  laid-left ws e = same (λ y. laid_out t y ws) e

  -- a type that has no plan
  module _ {u : Bool} {a : Answer} {y : List ℕ} (c : Codec) (n : ℕ) (ps : List ℕ) (i : ℕ) (x : List ℕ) (p : u ≡ is_planned ps i) (h : u ≡ false)
      (e : a ≡ answered_on c n t z i (type_by ps t z i) (length x)) (f : y ≡ left_over_by a x (left (walk c (type_by ps t z i) start x))) where
    its-parts : (a ≡ answered_by c n ps t s i (length x)) × (y ≡ left_for c n ps t s i x)
    its-parts =
        by_parts c n ps t s i x u p a y h
        (same (λ q. answered_on c n t q i (type_by ps t q i) (length x)) e, same (λ q. left_over_by a x (left (walk c (type_by ps t q i) start x))) f)

    pub number_by : {k : ℕ} → k ≡ number_given a → k ≡ number_given (answered_by c n ps t s i (length x))
    number_by g = given-number (answered_by c n ps t s i (length x)) its-parts.0 g

    pub left_by : y ≡ left_for c n ps t s i x
    left_by = its-parts.1

    pub walked_by : {w : List ℕ} (was : List ℕ) → w ≡ walked_left was a → w ≡ walked_left was (answered_by c n ps t s i (length x))
    walked_by was g = given-words (answered_by c n ps t s i (length x)) its-parts.0 was g

-- a type that has one, whatever the sections
module _ {u : Bool} {a : Answer} {y : List ℕ} (c : Codec) (n : ℕ) (ps t : List ℕ) (s : Sections) (i : ℕ) (x : List ℕ)
    (p : u ≡ is_planned ps i) (h : u ≡ true) (e : a ≡ answered_tree c n (plan_tree t ps i) (length x))
    (f : y ≡ left_over_by a x (left (walk c (plan_tree t ps i) start x))) where
  its-plan : (a ≡ answered_by c n ps t s i (length x)) × (y ≡ left_for c n ps t s i x)
  its-plan = by-plan c n ps t s i x u p a y h (e, f)

  pub number-planned : {k : ℕ} → k ≡ number_given a → k ≡ number_given (answered_by c n ps t s i (length x))
  number-planned g = given-number (answered_by c n ps t s i (length x)) its-plan.0 g

  pub left-planned : y ≡ left_for c n ps t s i x
  left-planned = its-plan.1

  pub walked-planned : {w : List ℕ} (was : List ℕ) → w ≡ walked_left was a → w ≡ walked_left was (answered_by c n ps t s i (length x))
  walked-planned was g = given-words (answered_by c n ps t s i (length x)) its-plan.0 was g
