-- A walk that is known to go: so is each of its steps, and what a step goes over is taken.
-- Assumes nothing.
use Prim.Native.Nat.{ℕ, ◌<◌}
use mathlib.Core.Path.{◌≡◌, refl, sym, ap, ◌∙◌}
use mathlib.Core.Bool.{Bool, true, false, ◌&&◌, true≢false}
use mathlib.Core.List.{List, []}
use native.Mathlib.Omega.{arith}
use borrow.Author.Tests.{ltb-true, le-leb}
use lib.Dec.{ltb}
use lib.ListN.{length, get_or}
use Rattle.wire.proofs.Cond.{yes-if, no-if, and_left, and_true}
use Rattle.table.specs.declared.Sections.{Sections}
use Rattle.table.specs.declared.Entry.{Entry}
use Rattle.table.specs.Entries.{type_at}
use Rattle.table.specs.Fields.{fields_ok}
use Rattle.table.specs.Leaf.{allowed}
use Rattle.leaf.specs.Choice.{choice, takes}
use Rattle.walk.specs.declared.Place.{Place}
use Rattle.walk.specs.declared.Met.{Met}
use Rattle.walk.specs.declared.Met.TheVariants.{Leaf, Members, Elements}
use Rattle.walk.specs.declared.Walked.{Walked}
use Rattle.walk.specs.declared.Walked.TheVariants.{Went}
use Rattle.walk.specs.Tree.{Tree, base_of, base_at, look, meet, tree_of}
use Rattle.walk.specs.Walk.{Step, on, stop, start, answer, left, through, Codec, item, walk, begun, times, leaf_walk, Going}
use Rattle.walk.specs.Planned.{is_planned, tree_by, type_by, child_by, walk_by}
use Rattle.walk.proofs.Walks.{through-none, through-stop, walk_same}
use Rattle.walk.proofs.Trees.{a_leaf, looked, met, child_met}
use Rattle.walk.proofs.Bases.{Plain, Fields, fields}
use Rattle.walk.proofs.Returns.{Did, item-short, item-bad, member_step, element_step, members-did, elements-did}
use Rattle.walk.proofs.Returns.{tree_looked, met-leaf, met-members, met-elements}
use Rattle.walk.proofs.Turns.{leaf-stepped, members-stepped, elements-stepped}
use Rattle.pack_leaves.specs.Stored.{is_there}
use Rattle.pack.specs.Writing.{writer}
use Rattle.pack.specs.Sure.{is_went}

-- it goes
abbrev pub Goes_on : Step → Type 0
Goes_on st = is_went (answer st) ≡ true

no_stop : (st : Step) → Goes_on st → (n : ℕ) (q : Place) (x : List ℕ) → st ≡ stop n q x → ⊥
unfolding is_went answer
no_stop st h n q x e = true≢false (sym h ∙ ap (λ (a : Step). is_went (answer a)) e)

pub step_sure : (f : ℕ → Place → List ℕ → Step) (p : Place) (x : List ℕ) (n k : ℕ) (q : Place) (y : List ℕ) → Goes_on (through n f p x) → k < n
    → through k f p x ≡ on q y → Goes_on (f k q y)
unfolding is_went answer
step_sure f p x n k q y h l so_far = go (f k q y) refl
  where
    go : (st : Step) → f k q y ≡ st → is_went (answer st) ≡ true
    go (on o z) e = refl
    go (stop c o z) e = absurd (no_stop (through n f p x) h c o z (through-stop f p x n k c q o y z so_far e l))

-- the step behind those that were walked
pub going_sure : {P : Place → Type 0} {f : ℕ → Place → List ℕ → Step} {n : ℕ} {p : Place} {x : List ℕ} {k : ℕ} {q : Place} {y : List ℕ}
    → Going P f n 0 p x k q y → (0 < length x → Goes_on (through n f p x)) → k < n → 0 < length y → Goes_on (f k q y)
going_sure {P} {f} {n} {p} {x} {k} {q} {y} g whole l h =
    step_sure f p x n k q y (whole (omega (arith, g.as_long))) l (g.goes p x (through-none f p x))

-- the second walk, where the first went
pub second_sure : (c : Codec) (tr : Tree) (x : List ℕ) (w : Walked) (q : Place) → w ≡ answer (walk c tr start []) → w ≡ Went q
    → Goes_on (walk c tr start x)
unfolding is_went
second_sure c tr x w q first h = ap is_went (walk_same c tr start x [] ∙ sym first ∙ h)

-- an item
pub item_sure : (c : Codec) (n code : ℕ) (ok : ℕ → Bool) (p : Place) (x : List ℕ) → Goes_on (item c n code ok p x)
    → (c.there code p ≡ true) × ((allowed code (c.word code p) && ok (c.word code p)) ≡ true)
item_sure c n code ok p x h = go (c.there code p) (allowed code (c.word code p) && ok (c.word code p)) refl refl
  where
    go : (a b : Bool) → c.there code p ≡ a → (allowed code (c.word code p) && ok (c.word code p)) ≡ b
        → (c.there code p ≡ true) × ((allowed code (c.word code p) && ok (c.word code p)) ≡ true)
    go true true e g = (e, g)
    go true false e g = absurd (no_stop (item c n code ok p x) h n p x (item-bad c n code ok p x e g))
    go false b e g = absurd (no_stop (item c n code ok p x) h 40 p x (item-short c n code ok p x e))

-- a leaf's word
module _ (ws t : List ℕ) (s : Sections) (e : Entry) (p : Place) (x : List ℕ) (h : Goes_on (leaf_walk (writer ws) t s e p x)) where
  pub leaf-sure : (w : ℕ) → w ≡ get_or ws p.from 0 → takes t s e w ≡ true
  unfolding leaf_walk writer takes
  leaf-sure w is = rw is (item_sure (writer ws) 42 e.of (choice t s e) p x h).1

-- a base's word
base_fields : (s : Sections) (i : ℕ) (e : Entry) → Fields e → true ≡ fields_ok s i e
unfolding fields_ok
base_fields s i e f = rw (f.kind, le-leb e.of 12 (omega (arith, f.of)), f.first, f.count) refl

module _ (ws t : List ℕ) (s : Sections) (i c code : ℕ) (is : code ≡ base_at t s i c) (base : code < 13) (ps : List ℕ) (p : Place) (x : List ℕ) where
  pub base-sure : Goes_on (walk (writer ws) (child_by ps t s i c) p x) → is_there ws code p.from ≡ true
  unfolding base_at base_of walk tree_of tree_by is_there writer
  base-sure h = go (ltb c i) (Plain (type_at t s c)) refl refl
    where
      go : (a b : Bool) → ltb c i ≡ a → Plain (type_at t s c) ≡ b → (ltb p.from (length ws) && allowed code (get_or ws p.from 0)) ≡ true
      go false b g k = absurd (let z : code ≡ 13 = is ∙ no-if (base_of (type_at t s c)) 13 g in omega arith)
      go true false g k = absurd (let z : code ≡ 13 = is ∙ yes-if (base_of (type_at t s c)) 13 g ∙ no-if (type_at t s c).of 13 k in omega arith)
      go true true g k =
          let f : Fields (type_at t s c) = fields (type_at t s c) k in
          let o : code ≡ (type_at t s c).of = is ∙ yes-if (base_of (type_at t s c)) 13 g ∙ yes-if (type_at t s c).of 13 k in
          let m : Leaf (type_at t s c)
          ≡ meet t s i c = met t s i c (Leaf (type_at t s c)) (ltb-true c i g)
          (looked t s c (type_at t s c) true (Leaf (type_at t s c)) refl (base_fields s c (type_at t s c) f) refl
          (a_leaf (type_at t s c) (omega (arith, f.kind)))) in
          let e : walk (writer ws) (child_by ps t s i c) p x
          ≡ item (writer ws) 42 code (choice t s (type_at t s c)) p x = ap (λ u. walk (writer ws) u p x) (child_met ps t s i c (Leaf (type_at t s c)) m)
          ∙ ap (λ (n : ℕ). item (writer ws) 42 n (choice t s (type_at t s c)) p x) (sym o) in
          let d = item_sure (writer ws) 42 code (choice t s (type_at t s c)) p x (ap (λ (st : Step). is_went (answer st)) (sym e) ∙ h) in
          and_true (ltb p.from (length ws)) (allowed code (get_or ws p.from 0)) d.0
          (and_left (allowed code (get_or ws p.from 0)) (choice t s (type_at t s c) (get_or ws p.from 0)) d.1)

-- the members of a record, and the elements of an array, of a type that has no plan
module _ (w : Codec) (ps t : List ℕ) (s : Sections) (i : ℕ) (e : Entry) {u : Bool} (is : u ≡ is_planned ps i) (no : u ≡ false) (p : Place) (x : List ℕ) where
  pub members-sure : Goes_on (walk_by w ps t s i (Members e) p x) → Goes_on (through e.count (member_step w ps t s i e) p x)
  members-sure h =
      let st : Step = through e.count (member_step w ps t s i e) p x in
      ap is_went (members-did w ps t s i e is no p x (answer st) (left st) (refl, refl)).0 ∙ h

  pub elements-sure : (r : Walked) (y : List ℕ) → Did (begun w e p x) r y → (q : Place) (n : ℕ) → r ≡ Went q → n ≡ times w e p
      → Goes_on (walk_by w ps t s i (Elements e) p x) → Goes_on (through n (element_step w ps t s i e.of) q y)
  elements-sure r y begins q n g many h =
      let st : Step = through n (element_step w ps t s i e.of) q y in
      ap is_went (elements-did w ps t s i e is no p x r y begins q n (answer st) (left st) g many (refl, refl)).0 ∙ h

-- a child, by what was met there
module _ (w : Codec) (ps t : List ℕ) (s : Sections) (i c d : ℕ) (is : c ≡ d) (p : Place) (x : List ℕ) (m : Met) (meets : m ≡ meet t s i c)
    (e : Entry) (h : Goes_on (walk w (child_by ps t s i d) p x)) where
  pub sure-leaf : m ≡ Leaf e → Goes_on (leaf_walk w t s e p x)
  sure-leaf g =
      let st : Step = leaf_walk w t s e p x in
      ap is_went (leaf-stepped w ps t s i c d is p x m meets e (answer st) (answer st) (left st) (left st) g (refl, refl) refl refl).0 ∙ h

  pub sure-members : m ≡ Members e → Goes_on (walk_by w ps t s c (Members e) p x)
  sure-members g =
      let st : Step = walk_by w ps t s c (Members e) p x in
      ap is_went (members-stepped w ps t s i c d is p x m meets e (answer st) (answer st) (left st) (left st) g (refl, refl) refl refl).0 ∙ h

  pub sure-elements : m ≡ Elements e → Goes_on (walk_by w ps t s c (Elements e) p x)
  sure-elements g =
      let st : Step = walk_by w ps t s c (Elements e) p x in
      ap is_went (elements-stepped w ps t s i c d is p x m meets e (answer st) (answer st) (left st) (left st) g (refl, refl) refl refl).0 ∙ h

-- the type itself, likewise
module _ (w : Codec) (ps t : List ℕ) (s : Sections) (i : ℕ) (p : Place) (x : List ℕ) (m : Met) (looks : m ≡ look t s i) (e : Entry)
    (h : Goes_on (walk w (type_by ps t s i) p x)) where
  pub type-leaf : m ≡ Leaf e → Goes_on (leaf_walk w t s e p x)
  type-leaf g =
      let st : Step = leaf_walk w t s e p x in
      ap is_went (met-leaf w ps t s i (type_by ps t s i) p x m (tree_looked ps t s i m looks) e (answer st) (left st) g refl refl).0 ∙ h

  pub type-members : m ≡ Members e → Goes_on (walk_by w ps t s i (Members e) p x)
  type-members g =
      let st : Step = walk_by w ps t s i (Members e) p x in
      ap is_went (met-members w ps t s i (type_by ps t s i) p x m (tree_looked ps t s i m looks) e (answer st) (left st) g refl refl).0 ∙ h

  pub type-elements : m ≡ Elements e → Goes_on (walk_by w ps t s i (Elements e) p x)
  type-elements g =
      let st : Step = walk_by w ps t s i (Elements e) p x in
      ap is_went (met-elements w ps t s i (type_by ps t s i) p x m (tree_looked ps t s i m looks) e (answer st) (left st) g refl refl).0 ∙ h
