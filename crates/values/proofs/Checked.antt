-- On a table that `check` accepts, the calls on sections and the calls on bytes answer and leave the same; none of them gives 30
-- to 33; and a walk's own numbers are 40 to 43.
-- Assumes nothing.
use Prim.Native.Nat.{ℕ, zero, suc, ◌+◌, ◌≤◌, ◌<◌}
use Rattle.std.specs.Prelude.{Result, Ok}
use Rattle.refusal.specs.declared.Refusal.{Refusal}
use mathlib.Core.Path.{◌≡◌, refl, sym, ap, subst}
use mathlib.Core.Bool.{Bool, true, false, ◌&&◌, cond}
use mathlib.Core.Logic.{◌⊎◌, inl, inr}
use mathlib.Core.List.{List, []}
use native.Mathlib.Omega.{arith}
use borrow.Author.Tests.{ltb-true, leb-true, leb-false, eqb-true, eqb-false}
use lib.Dec.{ltb, leb, eqb}
use lib.ListN.{get_or}
use Rattle.wire.proofs.Cond.{no_eq}
use Rattle.table.specs.declared.Sections.{Sections}
use Rattle.table.specs.declared.Entry.{Entry}
use Rattle.table.specs.Entries.{type_at, member_at, value_at}
use Rattle.table.specs.Leaf.{base, bytes_of, width, allowed}
use Rattle.types.specs.Table.{checked}
use Rattle.table.proofs.Leaves.{each}
use Rattle.types.proofs.Accepted.{Accepted, is_within, fields_keep, kind-known, base-is, enum_is, record_is, fixed-is, array-is}
use Rattle.walk.specs.declared.Place.{Place}
use Rattle.payload.specs.declared.Answer.{Answer}
use Rattle.payload.specs.declared.Answer.TheVariants.{Refused, Stopped, Gave}
use Rattle.walk.specs.Tree.{Tree, leaf, row, array, broken, by_kind, look, elements_of, tree_of, trees, tree}
use Rattle.walk.specs.Walk.{start, Step, on, stop, answer, next, through, Codec, item, counted, count_code, walk, type_walk}
use Rattle.payload.specs.Calls.{spot, stopped_at, went_to, answered, answered_type, answered_in, left_over_in, answered_if, left_if}
use Rattle.walk.proofs.Walks.{some_bytes}
use Rattle.walk.proofs.Trees.{known}

-- both forms of a call are one
module _ (t : List ℕ) (s : Sections) (h : checked t ≡ Ok s) (c : Codec) (n i : ℕ) where
  pub same_answer : (room : ℕ) → answered_if (checked t) c n t i room ≡ answered_in c n t s i room
  unfolding answered_if
  same_answer room = ap (λ (r : Result Sections Refusal). answered_if r c n t i room) h

  pub same_left : (x : List ℕ) → left_if (checked t) c n t i x ≡ left_over_in c n t s i x
  unfolding left_if
  same_left x = ap (λ (r : Result Sections Refusal). left_if r c n t i x) h

-- a tree with no broken part, each of whose leaves has a byte at least
abbrev pub Whole : Tree → Type 0
Whole (leaf code ok) = 1 ≤ width code
Whole (row n f) = (k : ℕ) → k < n → Whole (f k)
Whole (array most a) = Whole a
Whole broken = ⊥

-- numbers of a walk's own
abbrev Own : Step → Type 0
Own (on p x) = 0 ≤ 1
Own (stop n p x) = (40 ≤ n) × (n ≤ 43)

next_own : (st : Step) (f : Place → List ℕ → Step) → Own st → ((q : Place) (y : List ℕ) → Own (f q y)) → Own (next st f)
unfolding next
next_own (on p x) f h g = g p x
next_own (stop n p x) f h g = h

through_own : (n : ℕ) (f : ℕ → Place → List ℕ → Step) (p : Place) (x : List ℕ)
    → ((k : ℕ) → k < n → (q : Place) (y : List ℕ) → Own (f k q y)) → Own (through n f p x)
unfolding through
through_own zero f p x g = omega arith
through_own (suc n) f p x g = next_own (through n f p x) (f n) (through_own n f p x (λ k l. g k (omega arith))) (g n (omega arith))

item_own : (c : Codec) (n code : ℕ) (ok : ℕ → Bool) (p : Place) (x : List ℕ) → 40 ≤ n → n ≤ 43 → Own (item c n code ok p x)
unfolding item
item_own c n code ok p x l m = go (c.there code p) (allowed code (c.word code p) && ok (c.word code p)) refl refl
  where
    go : (a b : Bool) → c.there code p ≡ a → (allowed code (c.word code p) && ok (c.word code p)) ≡ b → Own (item c n code ok p x)
    go true true e g = rw (e, g) (omega arith)
    go true false e g = rw (e, g) (l, m)
    go false b e g = rw e (omega arith, omega arith)

walk_own : (c : Codec) (tr : Tree) (p : Place) (x : List ℕ) → Whole tr → Own (walk c tr p x)
unfolding walk counted
walk_own c (leaf code ok) p x w = item_own c 42 code ok p x (omega arith) (omega arith)
walk_own c (row n f) p x w = through_own n (λ k q y. walk c (f k) q y) p x (λ k l q y. walk_own c (f k) q y (w k l))
walk_own c (array most a) p x w =
    next_own (item c 43 count_code (λ n. leb n most) p x) (λ q y. through (c.word count_code p) (λ k r z. walk c a r z) q y)
    (item_own c 43 count_code (λ n. leb n most) p x (omega arith) (omega arith))
    (λ q y. through_own (c.word count_code p) (λ k r z. walk c a r z) q y (λ k l r z. walk_own c a r z w))
walk_own c broken p x w = absurd w

-- the numbers of a call on an accepted table: none of 30 to 33, and the walk's own apart
abbrev pub Numbers : Answer → Type 0
Numbers (Refused k) = (k ≡ 44) ⊎ (k ≡ 45)
Numbers (Stopped k s) = (40 ≤ k) × (k ≤ 43)
Numbers (Gave k) = 0 ≤ 1

own_numbers : (l : Place → ℕ) (n room : ℕ) (st : Step) → Own st → Numbers (answered l n room (answer st))
unfolding answered stopped_at went_to answer
own_numbers l n room (on q x) o = go (ltb q.from n) (ltb room q.to) refl refl
  where
    go : (a b : Bool) → ltb q.from n ≡ a → ltb room q.to ≡ b
        → Numbers (cond (ltb q.from n) (Stopped 41 (spot q (l q))) (cond (ltb room q.to) (Refused 45) (Gave q.to)))
    go true b e g = rw e (omega arith, omega arith)
    go false true e g = rw (e, g) (inr refl)
    go false false e g = rw (e, g) (omega arith)
own_numbers l n room (stop k q x) o = subst Numbers (sym (no_eq (Refused k) (Stopped k (spot q (l q))) k 32 (λ e. omega (arith, o.0)))) o

-- every base code has a byte at least
base_bytes : (code : ℕ) → code ≤ 12 → 1 ≤ width code
unfolding width base bytes_of
base_bytes code h = each (λ n. 1 ≤ width n) (omega arith) code (omega arith)

four : (n : ℕ) → 1 < n → n ≤ 4 → (n ≡ 2 → ⊥) → (n ≡ 3 → ⊥) → n ≡ 4
four n u o x y = omega arith

-- every tree of an accepted table is whole
module _ (t : List ℕ) (s : Sections) (a : Accepted t s) where
  module _ (i : ℕ) (h : i < s.types.count) (before : (c : ℕ) → c < i → Whole (tree t s c)) where
    child-whole : (c : ℕ) → c < i → Whole (get_or (trees t s i) c broken)
    child-whole c l = subst Whole (sym (known t s i c l)) (before c l)

    leaf-bytes : (type_at t s i).kind ≤ 1 → 1 ≤ width (type_at t s i).of
    leaf-bytes l = go (eqb x.kind 0) refl
      where
        x : Entry
        x = type_at t s i

        go : (b : Bool) → eqb x.kind 0 ≡ b → 1 ≤ width x.of
        go true e = base_bytes x.of (leb-true x.of 12 (base-is t s a i h (eqb-true x.kind 0 e)).code)
        go false e =
            let n : x.kind ≡ 0 → ⊥ = eqb-false x.kind 0 e in
            let o = enum_is t s a i h (omega arith) in
            some_bytes x.of (value_at t s (x.first + 0)) (o.values 0 o.some)

    entry_whole : Whole (tree_of t s (trees t s i) (by_kind (type_at t s i)))
    unfolding by_kind tree_of elements_of
    entry_whole = go (leb k 1) (eqb k 2) (eqb k 3) refl refl refl
      where
        e : Entry
        e = type_at t s i

        k : ℕ
        k = e.kind

        go : (x y z : Bool) → leb k 1 ≡ x → eqb k 2 ≡ y → eqb k 3 ≡ z → Whole (tree_of t s (trees t s i) (by_kind (type_at t s i)))
        go true y z p q r = rw p (leaf-bytes (leb-true k 1 p))
        go false true z p q r = rw (p, q) (λ j l. child-whole (member_at t s (e.first + j)) ((record_is t s a i h (eqb-true k 2 q)).smaller j l))
        go false false true p q r = rw (p, q, r) (λ j l. child-whole e.of (fixed-is t s a i h (eqb-true k 3 r)).smaller)
        go false false false p q r =
            let u : 1 < k = leb-false k 1 p in
            let o : k ≤ 4 = kind-known t s a i h in
            let m : k ≡ 4 = four k u o (eqb-false k 2 q) (eqb-false k 3 r) in
            rw (p, q, r) (child-whole e.of (array-is t s a i h m).smaller)

    tree-next : Whole (tree t s i)
    unfolding tree look
    tree-next = rw (fields_keep t s a i h) entry_whole

  pub trees-whole : (n i : ℕ) → i < n → i < s.types.count → Whole (tree t s i)
  trees-whole zero i l h = absurd (omega arith)
  trees-whole (suc n) i l h = tree-next i h (λ c g. trees-whole n c (omega arith) (omega arith))

  -- no 30 to 33
  pub numbers : (c : Codec) (n i room : ℕ) → Numbers (answered_in c n t s i room)
  unfolding answered_in answered_type type_walk
  numbers c n i room = rw (is_within t s a) (go (ltb i s.types.count) refl)
    where
      go : (b : Bool) → ltb i s.types.count ≡ b
          → Numbers (cond (ltb i s.types.count) (answered c.leaves n room (answer (walk c (tree t s i) start []))) (Refused 44))
      go true e = rw e (own_numbers c.leaves n room (walk c (tree t s i) start [])
          (walk_own c (tree t s i) start [] (trees-whole (suc i) i (omega arith) (ltb-true i s.types.count e))))
      go false e = rw e (inl refl)
