-- The numbers of refusals: of a table 30 to 33; of packing and unpacking 40 to 43 where a walk stopped, and otherwise neither these nor
-- 0, which is what a call gives back where nothing is refused. So a number tells what an answer is.
-- Assumes nothing.
use Prim.{Unit}
use Rattle.std.specs.Prelude.{Result, Ok, Err}
use Rattle.refusal.specs.Refusal.{refused, number_of}
use Rattle.refusal.specs.declared.Refusal.{Refusal}
use Prim.Native.Nat.{ℕ, zero, suc, ◌≤◌}
use mathlib.Core.Path.{◌≡◌, refl}
use mathlib.Core.Bool.{Bool, true, false, cond, ◌&&◌}
use mathlib.Core.List.{List, [], ◌∷◌}
use native.Mathlib.Omega.{arith}
use borrow.Author.Tests.{eqb-true, eqb-false}
use lib.Dec.{leb, ltb, eqb}
use Rattle.wire.specs.Bytes.{written}
use Rattle.table.specs.declared.Sections.{Sections}
use Rattle.table.specs.Layout.{within}
use Rattle.table.specs.Entries.{is_type}
use Rattle.table.specs.Leaf.{allowed}
use Rattle.types.specs.Table.{checked}
use Rattle.walk.specs.declared.Place.{Place}
use Rattle.walk.specs.Tree.{Tree, leaf, row, array, broken, tree}
use Rattle.walk.specs.Walk.{Step, on, stop, answer, next as goOn, through, Codec, item, counted, count_code, walk, start}
use Rattle.payload.specs.declared.Answer.{Answer}
use Rattle.payload.specs.declared.Answer.TheVariants.{Refused, Stopped, Gave}
use Rattle.walk.specs.Planned.{is_planned, plan_tree, type_by}
use Rattle.payload.specs.Calls.{spot, stopped_at, went_to, answered, answered_tree, answered_type, answered_in, answered_if}
use Rattle.payload.specs.ByPlans.{answered_on, answered_by}
use Rattle.promises.specs.Checks.{Check, Answers, Outside, none, this, next, below, above}
use Rattle.promises.specs.TableOrder.{table_checks}
use Rattle.promises.proofs.TableOrder.{table_in_order}

-- a table's refusal
abbrev pub TableNumbered : Result Sections Refusal → Type 0
TableNumbered (Err e) = (30 ≤ number_of e) × (number_of e ≤ 33)
TableNumbered (Ok s) = Unit {0}

abbrev AllNumbered : List Check → Type 0
AllNumbered [] = Unit {0}
AllNumbered (c ∷ cs) = TableNumbered (refused c.refusal) × AllNumbered cs

by_checks : {s : Sections} {cs : List Check} {x : Result Sections Refusal} → AllNumbered cs → Answers refused (Ok s) cs x → TableNumbered x
by_checks a none = tt
by_checks a (this h) = a.0
by_checks a (next h r) = by_checks a.1 r

all_numbered : (t : List ℕ) → AllNumbered (table_checks t)
unfolding table_checks
all_numbered t =
    let cut : (30 ≤ 30) × (30 ≤ 33) = (omega arith, omega arith) in
    let limit : (30 ≤ 31) × (31 ≤ 33) = (omega arith, omega arith) in
    let rule : (30 ≤ 32) × (32 ≤ 33) = (omega arith, omega arith) in
    let size : (30 ≤ 33) × (33 ≤ 33) = (omega arith, omega arith) in
    (cut, (limit, (cut, (cut, (limit, (cut, (cut, (limit, (cut, (cut, (limit, (cut, (cut, (rule, (size, tt)))))))))))))))

pub table_numbered : (t : List ℕ) → TableNumbered (checked t)
table_numbered t = by_checks (all_numbered t) (table_in_order t)

-- where a walk stops: 40 to 43, or 32
abbrev WalkNumber : ℕ → Type 0
WalkNumber n = ¬ (n ≡ 32) → (40 ≤ n) × (n ≤ 43)

abbrev StopNumbered : Step → Type 0
StopNumbered (on p x) = Unit {0}
StopNumbered (stop n p x) = WalkNumber n

item_numbered : (c : Codec) (n code : ℕ) (ok : ℕ → Bool) (p : Place) (x : List ℕ) → WalkNumber n → StopNumbered (item c n code ok p x)
unfolding item
item_numbered c n code ok p x h = go (c.there code p) (allowed code (c.word code p) && ok (c.word code p))
  where
    go : (a b : Bool) → StopNumbered (cond a (cond b (on (c.after code p) (written x p.to (c.gives code (c.word code p)))) (stop n p x)) (stop 40 p x))
    go true true = tt
    go true false = h
    go false b = λ _. (omega arith, omega arith)

next_numbered : (st : Step) (f : Place → List ℕ → Step) → StopNumbered st → ((p : Place) (x : List ℕ) → StopNumbered (f p x)) → StopNumbered (goOn st f)
unfolding goOn
next_numbered (on p x) f a b = b p x
next_numbered (stop n p x) f a b = a

through_numbered : (f : ℕ → Place → List ℕ → Step) → ((k : ℕ) (p : Place) (x : List ℕ) → StopNumbered (f k p x))
    → (n : ℕ) (p : Place) (x : List ℕ) → StopNumbered (through n f p x)
unfolding through
through_numbered f h zero p x = tt
through_numbered f h (suc n) p x = next_numbered (through n f p x) (f n) (through_numbered f h n p x) (h n)

walk_numbered : (c : Codec) (tr : Tree) (p : Place) (x : List ℕ) → StopNumbered (walk c tr p x)
unfolding walk counted
walk_numbered c (leaf code ok) p x = item_numbered c 42 code ok p x (λ _. (omega arith, omega arith))
walk_numbered c (row n f) p x = through_numbered (λ k q y. walk c (f k) q y) (λ k q y. walk_numbered c (f k) q y) n p x
walk_numbered c (array most a) p x =
    next_numbered (item c 43 count_code (λ n. leb n most) p x) (λ q y. through (c.word count_code p) (λ k r z. walk c a r z) q y)
    (item_numbered c 43 count_code (λ n. leb n most) p x (λ _. (omega arith, omega arith)))
    (λ q y. through_numbered (λ k r z. walk c a r z) (λ k r z. walk_numbered c a r z) (c.word count_code p) q y)
walk_numbered c broken p x = λ d. absurd (d refl)

-- the answer of a call
abbrev pub Numbered : Answer → Type 0
Numbered (Refused n) = (1 ≤ n) × Outside 40 43 n
Numbered (Stopped n o) = (40 ≤ n) × (n ≤ 43)
Numbered (Gave n) = Unit {0}

module _ (c : Codec) (n : ℕ) (t : List ℕ) where
  step_numbered : (room : ℕ) (st : Step) → StopNumbered st → Numbered (answered c.leaves n room (answer st))
  unfolding answered stopped_at went_to answer
  step_numbered room (on q y) h = go (ltb q.from n) (ltb room q.to)
    where
      go : (a b : Bool) → Numbered (cond a (Stopped 41 (spot q (c.leaves q))) (cond b (Refused 45) (Gave q.to)))
      go true b = (omega arith, omega arith)
      go false true = (omega arith, above (omega arith))
      go false false = tt
  step_numbered room (stop k q y) h = go (eqb k 32) refl
    where
      go : (b : Bool) → eqb k 32 ≡ b → Numbered (cond b (Refused k) (Stopped k (spot q (c.leaves q))))
      go true e = (omega (arith, eqb-true k 32 e), below (omega (arith, eqb-true k 32 e)))
      go false e = h (eqb-false k 32 e)

  on-numbered : (s : Sections) (i : ℕ) (tr : Tree) (room : ℕ) → Numbered (answered_on c n t s i tr room)
  on-numbered s i tr room = go (within t s) (is_type s i)
    where
      go : (a b : Bool) → Numbered (cond a (cond b (answered_tree c n tr room) (Refused 44)) (Refused 30))
      go true true = step_numbered room (walk c tr start []) (walk_numbered c tr start [])
      go true false = (omega arith, above (omega arith))
      go false b = (omega arith, below (omega arith))

  pub in-numbered : (s : Sections) (i room : ℕ) → Numbered (answered_in c n t s i room)
  unfolding answered_in answered_type
  in-numbered s i room = on-numbered s i (tree t s i) room

  pub by-numbered : (ps : List ℕ) (s : Sections) (i room : ℕ) → Numbered (answered_by c n ps t s i room)
  unfolding answered_by
  by-numbered ps s i room = go (is_planned ps i)
    where
      go : (a : Bool) → Numbered (cond a (answered_tree c n (plan_tree t ps i) room) (answered_on c n t s i (type_by ps t s i) room))
      go true = step_numbered room (walk c (plan_tree t ps i) start []) (walk_numbered c (plan_tree t ps i) start [])
      go false = on-numbered s i (type_by ps t s i) room

  pub bytes-numbered : (i room : ℕ) → Numbered (answered_if (checked t) c n t i room)
  unfolding answered_if
  bytes-numbered i room = go (checked t) (table_numbered t)
    where
      go : (x : Result Sections Refusal) → TableNumbered x → Numbered (answered_if x c n t i room)
      go (Err k) h = (omega (arith, h.0), below (omega (arith, h.1)))
      go (Ok s) h = in-numbered s i room
