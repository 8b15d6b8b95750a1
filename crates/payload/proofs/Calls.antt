-- What the returns of the calls come to, over any tree.
-- Assumes nothing.
use Prim.Native.Nat.{ℕ, ◌≤◌, ◌<◌}
use mathlib.Core.Path.{◌≡◌, refl, sym, ap, ◌∙◌}
use mathlib.Core.Bool.{Bool, true, false, cond}
use mathlib.Core.List.{List, []}
use borrow.Author.Tests.{le-leb, lt-leb, ltb-true, ltb-false}
use lib.Dec.{ltb, eqb}
use lib.ListN.{length}
use Rattle.wire.proofs.Cond.{yes-eq, no_eq, yes_lt, no_lt}
use Rattle.walk.specs.declared.Place.{Place}
use Rattle.walk.specs.declared.Walked.{Walked}
use Rattle.walk.specs.declared.Walked.TheVariants as walked
use Rattle.payload.specs.declared.Answer.{Answer}
use Rattle.payload.specs.declared.Answer.TheVariants.{Refused, Stopped, Gave}
use Rattle.walk.specs.Tree.{Tree}
use Rattle.walk.specs.Walk.{Codec, start, answer, left, walk}
use Rattle.walk.specs.Whole.{fits, is_whole, all_or_nothing}
use Rattle.payload.specs.Calls.{spot, stopped_at, went_to, answered, answered_tree, left_over_by}

-- a walk that stopped
module _ (k : ℕ) (q : Place) (l : ℕ) where
  pub by-rule : k ≡ 32 → Refused k ≡ stopped_at k q l
  unfolding stopped_at
  by-rule e = sym (yes-eq (Refused k) (Stopped k (spot q l)) k 32 e)

  pub by-walk : (k ≡ 32 → ⊥) → Stopped k (spot q l) ≡ stopped_at k q l
  unfolding stopped_at
  by-walk e = sym (no_eq (Refused k) (Stopped k (spot q l)) k 32 e)

-- a walk that went to the end
module _ (n room : ℕ) (q : Place) (l : ℕ) where
  pub left_over : q.from < n → Stopped 41 (spot q l) ≡ went_to n room q l
  unfolding went_to
  left_over h = sym (yes_lt (Stopped 41 (spot q l)) (cond (ltb room q.to) (Refused 45) (Gave q.to)) q.from n h)

  module _ (h : n ≤ q.from) where
    whole : went_to n room q l ≡ cond (ltb room q.to) (Refused 45) (Gave q.to)
    unfolding went_to
    whole = no_lt (Stopped 41 (spot q l)) (cond (ltb room q.to) (Refused 45) (Gave q.to)) q.from n h

    pub too_short : room < q.to → Refused 45 ≡ went_to n room q l
    too_short g = sym (whole ∙ yes_lt (Refused 45) (Gave q.to) room q.to g)

    pub gave : q.to ≤ room → Gave q.to ≡ went_to n room q l
    gave g = sym (whole ∙ no_lt (Refused 45) (Gave q.to) room q.to g)

-- either end of a walk, at the case that the code has met
module _ (l : Place → ℕ) (n room : ℕ) (w : Walked) (q : Place) {m : ℕ} (is : m ≡ l q) (a : Answer) where
  pub at-stop : (k : ℕ) → w ≡ walked.Stopped k q → a ≡ stopped_at k q m → a ≡ answered l n room w
  unfolding answered
  at-stop k h e = rw h (e ∙ ap (stopped_at k q) is)

  pub at_end : w ≡ walked.Went q → a ≡ went_to n room q m → a ≡ answered l n room w
  unfolding answered
  at_end h e = rw h (e ∙ ap (went_to n room q) is)

-- what is stored is all or nothing, by the answer
left_by : (l : Place → ℕ) (n room : ℕ) (w : Walked) (x z : List ℕ) → cond (is_whole n room w) z x ≡ left_over_by (answered l n room w) x z
unfolding is_whole answered stopped_at went_to left_over_by
left_by l n room (walked.Stopped k q) x z = go (eqb k 32) refl
  where
    go : (b : Bool) → eqb k 32 ≡ b → x ≡ left_over_by (cond (eqb k 32) (Refused k) (Stopped k (spot q (l q)))) x z
    go true h = rw h refl
    go false h = rw h refl
left_by l n room (walked.Went q) x z = go (ltb q.from n) (ltb room q.to) refl refl
  where
    go : (a b : Bool) → ltb q.from n ≡ a → ltb room q.to ≡ b → cond (fits n room q) z x ≡ left_over_by (answered l n room (walked.Went q)) x z
    go true b h g = rw (h, lt-leb n q.from (ltb-true q.from n h)) refl
    go false true h g = rw (h, g, le-leb n q.from (ltb-false q.from n h), lt-leb q.to room (ltb-true room q.to g)) refl
    go false false h g = rw (h, g, le-leb n q.from (ltb-false q.from n h), le-leb q.to room (ltb-false room q.to g)) refl

-- what a walk over a tree comes to
abbrev pub Answers : Codec → ℕ → Tree → List ℕ → Answer → List ℕ → Type 0
Answers c n tr x a y = (a ≡ answered_tree c n tr (length x)) × (y ≡ left_over_by a x (left (walk c tr start x)))

pub tree_answered : (c : Codec) (n : ℕ) (tr : Tree) (x y : List ℕ) (w : Walked) (a : Answer) → w ≡ answer (walk c tr start [])
    → y ≡ all_or_nothing c n tr x → a ≡ answered c.leaves n (length x) w → Answers c n tr x a y
unfolding all_or_nothing
tree_answered c n tr x y w a first is h =
    let e : a ≡ answered_tree c n tr (length x) = h ∙ ap (answered c.leaves n (length x)) first in (
      e,
      is ∙ left_by c.leaves n (length x) (answer (walk c tr start [])) x (left (walk c tr start x))
          ∙ ap (λ (o : Answer). left_over_by o x (left (walk c tr start x))) (sym e),
    )
