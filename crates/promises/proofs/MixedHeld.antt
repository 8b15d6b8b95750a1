-- What a platform that holds another for DOWN can still cause, and the sum that an arrival makes smaller.
-- Assumes nothing.
use Prim.Native.Nat.{ℕ, ◌+◌, ◌≤◌, ◌<◌}
use mathlib.Core.Path.{◌≡◌, ap, ◌∙◌}
use mathlib.Core.Bool.{Bool, true, false, not, cond}
use mathlib.Core.List.{List, []}
use native.Mathlib.Omega.{arith}
use Rattle.partners.specs.Threes.{is_three}
use Rattle.states.specs.declared.States.{States}
use Rattle.states.specs.States.{stands_up, turned}
use Rattle.states.proofs.Ups.{noted-there}
use Rattle.platform.specs.declared.reactions.Standing.{Standing}
use Rattle.mixed.specs.declared.AnyReceived.{AnyReceived}
use Rattle.promises.specs.MixedExchange.{messages_sent}
use Rattle.promises.proofs.MixedMeasure.{total, Every}
use Rattle.promises.proofs.MixedWeights.{weighs_at, BearsAt}
use Rattle.promises.proofs.MixedReplies.{LightAll}

-- what a platform can still cause that holds the other for DOWN: to Issue 3 a status, a request for services, which is answered, and a pull; to
-- Issue 6 a status and a pull, which may be answered
abbrev pub answer_weight : Bool → ℕ
answer_weight three = cond three 4 3

abbrev pub held : ℕ → List ℕ → ℕ → Standing → ℕ
held own i other p = cond (stands_up own p.states other) 0 (answer_weight (is_three i other))

pub answer_le : (three : Bool) → answer_weight three ≤ 4
answer_le true = omega arith
answer_le false = omega arith

pub held_le : (own : ℕ) (i : List ℕ) (other : ℕ) (p : Standing) → held own i other p ≤ answer_weight (is_three i other)
held_le own i other p = go (stands_up own p.states other)
  where
    go : (b : Bool) → cond b 0 (answer_weight (is_three i other)) ≤ answer_weight (is_three i other)
    go true = omega arith
    go false = omega arith

-- i is the set-up of `own`, which a message of weight w reached, and j that of `other`, to which messages were sent
pub record Lighter (own other : ℕ) (i j : List ℕ) (p : Standing) (w : ℕ) (q : Standing) (sent : List (List ℕ)) : Type 0 where
  pub sum : total (weighs_at j other) sent + held own i other q + 1 ≤ w + held own i other p
  pub bear : Every (BearsAt j other own) sent

-- after a call that answers r and leaves the output out
abbrev pub After : ℕ → ℕ → List ℕ → List ℕ → Standing → ℕ → AnyReceived → List ℕ → Type 0
After own other i j p w r out = Lighter own other i j p w r.standing (messages_sent r out)

module _ (own other : ℕ) (i j : List ℕ) (p : Standing) where
  pub nothing-sent : (w : ℕ) → 1 ≤ w → Lighter own other i j p w p []
  nothing-sent w h = record { sum = omega (arith, h); bear = tt }

  pub light-sent : (w v : ℕ) (q : Standing) (ms : List (List ℕ)) → LightAll j other own v ms → v + held own i other q + 1 ≤ w + held own i other p
      → Lighter own other i j p w q ms
  light-sent w v q ms l h = record { sum = omega (arith, l.weight, h); bear = l.bear }

-- a platform that held the other for DOWN and notes that it is UP
pub came_up : (own other : ℕ) (i : List ℕ) (p q : Standing) → other < 256 → (other ≡ own → ⊥) → q.states ≡ turned p.states other
    → stands_up own p.states other ≡ false → (held own i other p ≡ answer_weight (is_three i other)) × (held own i other q ≡ 0)
came_up own other i p q h d t e =
    let u : stands_up own q.states other ≡ true = ap (λ (s : States). stands_up own s other) t ∙ noted-there own p.states other h d ∙ ap not e in
    (ap (λ (b : Bool). cond b 0 (answer_weight (is_three i other))) e, ap (λ (b : Bool). cond b 0 (answer_weight (is_three i other))) u)
