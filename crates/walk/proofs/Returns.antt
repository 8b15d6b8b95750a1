-- What the returns of the walks come to, whatever is read and written.
-- Assumes nothing.
use Prim.Native.Nat.{ℕ, ◌+◌, ◌≤◌, ◌<◌}
use mathlib.Core.Path.{◌≡◌, refl, sym, ap, subst, ◌∙◌}
use mathlib.Core.Bool.{Bool, true, false, ◌&&◌}
use mathlib.Core.List.{List, [], ◌∷◌}
use native.Mathlib.Omega.{arith}
use lib.Dec.{eqb}
use lib.ListN.{length, set}
use Rattle.wire.specs.Bytes.{written}
use Rattle.wire.proofs.Cond.{yes-if, no-if, yes-eq, no_eq}
use Rattle.wire.proofs.Runs.{set_over, written_in, written_out}
use Rattle.table.specs.declared.Sections.{Sections}
use Rattle.table.specs.declared.Entry.{Entry}
use Rattle.table.specs.Entries.{member_at}
use Rattle.table.specs.Leaf.{allowed}
use Rattle.walk.specs.declared.Place.{Place}
use Rattle.walk.specs.declared.Met.{Met}
use Rattle.walk.specs.declared.Met.TheVariants.{Leaf, Members, Elements, Broken}
use Rattle.walk.specs.declared.Walked.{Walked}
use Rattle.walk.specs.declared.Walked.TheVariants.{Went, Stopped}
use Rattle.walk.specs.Tree.{Tree, look, tree_of, elements_of}
use Rattle.walk.specs.Walk.{Step, on, stop, answer, left, next, through, Codec, item, counted, count_code, walk, begun, times, leaf_walk}
use Rattle.walk.specs.Planned.{is_planned, plan_tree, tree_by, trees_by, type_by, child_by, walk_by}
use Rattle.walk.proofs.Walks.{went, stopped, through-more, through-stop, through-done, Holds}

-- what a function did is what the step says
abbrev pub Did : Step → Walked → List ℕ → Type 0
Did st r y = (r ≡ answer st) × (y ≡ left st)

pub did_on : (st : Step) (q : Place) (y z : List ℕ) → st ≡ on q z → y ≡ z → Did st (Went q) y
unfolding answer left
did_on st q y z h e = (ap answer (sym h), e ∙ ap left (sym h))

pub did_stop : (st : Step) (n : ℕ) (q : Place) (y : List ℕ) → st ≡ stop n q y → Did st (Stopped n q) y
unfolding answer left
did_stop st n q y h = (ap answer (sym h), ap left (sym h))

-- one item
module _ (c : Codec) (n code : ℕ) (ok : ℕ → Bool) (p : Place) (x : List ℕ) where
  pub item-short : c.there code p ≡ false → item c n code ok p x ≡ stop 40 p x
  unfolding item
  item-short h = rw h refl

  pub item-bad : c.there code p ≡ true → (allowed code (c.word code p) && ok (c.word code p)) ≡ false → item c n code ok p x ≡ stop n p x
  unfolding item
  item-bad h g = rw (h, g) refl

  pub item_on : c.there code p ≡ true → (allowed code (c.word code p) && ok (c.word code p)) ≡ true → item c n code ok p x
      ≡ on (c.after code p) (written x p.to (c.gives code (c.word code p)))
  unfolding item
  item_on h g = rw (h, g) refl

-- a store of one word
pub stored : (x : List ℕ) (p w : ℕ) → p < length x → set x p w ≡ written x p (w ∷ [])
stored x p w h = set_over x p w h ∙ sym (written_in x p (w ∷ []) (omega arith))

pub not_stored : (x : List ℕ) (p w : ℕ) → length x ≤ p → x ≡ written x p (w ∷ [])
not_stored x p w h = sym (written_out x p (w ∷ []) (omega arith))

-- before the elements
module _ (c : Codec) (e : Entry) (p : Place) where
  pub fixed-times : (r : ℕ) → e.kind ≡ 3 → r ≡ e.count → r ≡ times c e p
  unfolding times
  fixed-times r k h = h ∙ sym (yes-eq e.count (c.word count_code p) e.kind 3 k)

  pub fixed-begun : (x : List ℕ) → e.kind ≡ 3 → Did (begun c e p x) (Went p) x
  unfolding begun
  fixed-begun x k = did_on (begun c e p x) p x x (yes-eq (on p x) (counted c e.count p x) e.kind 3 k) refl

  pub counts : (x : List ℕ) → (e.kind ≡ 3 → ⊥) → begun c e p x ≡ counted c e.count p x
  unfolding begun
  counts x k = no_eq (on p x) (counted c e.count p x) e.kind 3 k

-- a tree by what was met at type c
module _ (w : Codec) (ps t : List ℕ) (s : Sections) (c : ℕ) (tr : Tree) (p : Place) (x : List ℕ) (m : Met)
    (is : tr ≡ tree_by ps t s c (trees_by ps t s c) m) where
  met-walk : walk w tr p x ≡ walk_by w ps t s c m p x
  unfolding walk_by
  met-walk = ap (λ u. walk w u p x) is

  did : (st : Step) (r : Walked) (y : List ℕ) → walk w tr p x ≡ st → Did st r y → Did (walk w tr p x) r y
  did st r y h d = (d.0 ∙ ap answer (sym h), d.1 ∙ ap left (sym h))

  leaf-is : (e : Entry) → walk_by w ps t s c (Leaf e) p x ≡ leaf_walk w t s e p x
  unfolding walk_by leaf_walk tree_by tree_of walk
  leaf-is e = refl

  broken-is : walk_by w ps t s c Broken p x ≡ stop 32 p x
  unfolding walk_by tree_by walk
  broken-is = refl

  pub met-leaf : (e : Entry) (r : Walked) (y : List ℕ) → m ≡ Leaf e → r ≡ answer (leaf_walk w t s e p x) → y ≡ left (leaf_walk w t s e p x)
      → Did (walk w tr p x) r y
  met-leaf e r y h u v = did (leaf_walk w t s e p x) r y (met-walk ∙ ap (λ o. walk_by w ps t s c o p x) h ∙ leaf-is e) (u, v)

  pub met-members : (e : Entry) (r : Walked) (y : List ℕ) → m ≡ Members e → r ≡ answer (walk_by w ps t s c (Members e) p x) → y
      ≡ left (walk_by w ps t s c (Members e) p x) → Did (walk w tr p x) r y
  met-members e r y h u v = did (walk_by w ps t s c (Members e) p x) r y (met-walk ∙ ap (λ o. walk_by w ps t s c o p x) h) (u, v)

  pub met-elements : (e : Entry) (r : Walked) (y : List ℕ) → m ≡ Elements e → r ≡ answer (walk_by w ps t s c (Elements e) p x) → y
      ≡ left (walk_by w ps t s c (Elements e) p x) → Did (walk w tr p x) r y
  met-elements e r y h u v = did (walk_by w ps t s c (Elements e) p x) r y (met-walk ∙ ap (λ o. walk_by w ps t s c o p x) h) (u, v)

  pub met-broken : m ≡ Broken → Did (walk w tr p x) (Stopped 32 p) x
  met-broken h = did (stop 32 p x) (Stopped 32 p) x (met-walk ∙ ap (λ o. walk_by w ps t s c o p x) h ∙ broken-is) (did_stop (stop 32 p x) 32 p x refl)

-- the loops: what was walked so far, one more, a stop and the end
module _ (f : ℕ → Place → List ℕ → Step) (p : Place) (x : List ℕ) (k : ℕ) (q : Place) (y : List ℕ) (so_far : through k f p x ≡ on q y) where
  pub loop-next : (r : Walked) (z : List ℕ) (o : Place) → Did (f k q y) r z → r ≡ Went o → through (k + 1) f p x ≡ on o z
  loop-next r z o d h = through-more f p x k q y so_far ∙ went (f k q y) o (sym h ∙ d.0) ∙ ap (on o) (sym d.1)

  pub loop-stop : (r : Walked) (z : List ℕ) (n m : ℕ) (o : Place) → Did (f k q y) r z → r ≡ Stopped n o → k < m → Did (through m f p x) (Stopped n o) z
  loop-stop r z n m o d h l =
      did_stop (through m f p x) n o z (through-stop f p x m k n q o y z so_far (stopped (f k q y) n o (sym h ∙ d.0) ∙ ap (stop n o) (sym d.1)) l)

  pub loop-done : (m : ℕ) → k ≤ m → m ≤ k → Did (through m f p x) (Went q) y
  loop-done m a b = did_on (through m f p x) q y y (through-done f p x m k (on q y) so_far a b) refl

-- the members of a record, and the elements of an array
abbrev pub member_step : Codec → List ℕ → List ℕ → Sections → ℕ → Entry → ℕ → Place → List ℕ → Step
member_step w ps t s i e k q y = walk w (child_by ps t s i (member_at t s (e.first + k))) q y

abbrev pub element_step : Codec → List ℕ → List ℕ → Sections → ℕ → ℕ → ℕ → Place → List ℕ → Step
element_step w ps t s i c k q y = walk w (child_by ps t s i c) q y

as_did : (a st : Step) (r : Walked) (y : List ℕ) → a ≡ st → Did st r y → Did a r y
as_did a st r y h d = (d.0 ∙ ap answer (sym h), d.1 ∙ ap left (sym h))

-- of a type that has a plan, the plan's leaves are walked over
module _ (w : Codec) (ps t : List ℕ) (s : Sections) (i : ℕ) (e : Entry) {u : Bool} (is : u ≡ is_planned ps i) (yes : u ≡ true) (p : Place) (x : List ℕ)
    (r : Walked) (y : List ℕ) (d : Did (walk w (plan_tree t ps i) p x) r y) where
  pub members-planned : Did (walk_by w ps t s i (Members e) p x) r y
  unfolding walk_by tree_by
  members-planned =
      as_did (walk_by w ps t s i (Members e) p x) (walk w (plan_tree t ps i) p x) r y
      (ap (λ (tr : Tree). walk w tr p x) (yes-if (plan_tree t ps i) (tree_of t s (trees_by ps t s i) (Members e)) (sym is ∙ yes))) d

  pub elements-planned : Did (walk_by w ps t s i (Elements e) p x) r y
  unfolding walk_by tree_by
  elements-planned =
      as_did (walk_by w ps t s i (Elements e) p x) (walk w (plan_tree t ps i) p x) r y
      (ap (λ (tr : Tree). walk w tr p x) (yes-if (plan_tree t ps i) (tree_of t s (trees_by ps t s i) (Elements e)) (sym is ∙ yes))) d

-- of one that has none, its members or its elements
module _ (w : Codec) (ps t : List ℕ) (s : Sections) (i : ℕ) (e : Entry) {u : Bool} (is : u ≡ is_planned ps i) (no : u ≡ false) (p : Place) (x : List ℕ) where
  members-are : walk_by w ps t s i (Members e) p x ≡ through e.count (member_step w ps t s i e) p x
  unfolding walk_by tree_by tree_of walk child_by
  members-are =
      ap (λ (tr : Tree). walk w tr p x) (no-if (plan_tree t ps i) (tree_of t s (trees_by ps t s i) (Members e)) (sym is ∙ no))

  pub members-did : (r : Walked) (y : List ℕ) → Did (through e.count (member_step w ps t s i e) p x) r y → Did (walk_by w ps t s i (Members e) p x) r y
  members-did r y d = as_did (walk_by w ps t s i (Members e) p x) (through e.count (member_step w ps t s i e) p x) r y members-are d

  elements_are : walk_by w ps t s i (Elements e) p x ≡ next (begun w e p x) (λ q y. through (times w e p) (element_step w ps t s i e.of) q y)
  unfolding walk_by tree_by tree_of walk child_by elements_of begun times next
  elements_are =
      ap (λ (tr : Tree). walk w tr p x) (no-if (plan_tree t ps i) (tree_of t s (trees_by ps t s i) (Elements e)) (sym is ∙ no)) ∙ go (eqb e.kind 3) refl
    where
      go : (b : Bool) → eqb e.kind 3 ≡ b → walk w (tree_of t s (trees_by ps t s i) (Elements e)) p x
          ≡ next (begun w e p x) (λ q y. through (times w e p) (element_step w ps t s i e.of) q y)
      go true h = rw h refl
      go false h = rw h refl

  module _ (r : Walked) (y : List ℕ) (begins : Did (begun w e p x) r y) where
    pub elements-stopped : (n : ℕ) (o : Place) → r ≡ Stopped n o → Did (walk_by w ps t s i (Elements e) p x) (Stopped n o) y
    unfolding next
    elements-stopped n o h =
        did_stop (walk_by w ps t s i (Elements e) p x) n o y
        (elements_are
        ∙ ap (λ st. next st (λ q y. through (times w e p) (element_step w ps t s i e.of) q y))
        (stopped (begun w e p x) n o (sym h ∙ begins.0) ∙ ap (stop n o) (sym begins.1)))

    pub elements-did : (q : Place) (n : ℕ) (v : Walked) (z : List ℕ) → r ≡ Went q → n ≡ times w e p
        → Did (through n (element_step w ps t s i e.of) q y) v z → Did (walk_by w ps t s i (Elements e) p x) v z
    unfolding next
    elements-did q n v z h c d =
        as_did (walk_by w ps t s i (Elements e) p x) (through n (element_step w ps t s i e.of) q y) v z
        (elements_are
        ∙ ap (λ st. next st (λ o u. through (times w e p) (element_step w ps t s i e.of) o u))
        (went (begun w e p x) q (sym h ∙ begins.0) ∙ ap (on q) (sym begins.1))
        ∙ ap (λ m. through m (element_step w ps t s i e.of) q y) (sym c))
        d

-- where a step comes to that keeps to the payload
on_place : (o q : Place) (z u : List ℕ) → on o z ≡ on q u → o ≡ q
on_place o q z u e = cc

module _ (Q : Place → Type 0) (n : ℕ) (st : Step) (kept : Holds (λ q z. Q q × (length z ≡ n)) st) (r : Walked) (y : List ℕ) (d : Did st r y) where
  pub kept-length : length y ≡ n
  unfolding left
  kept-length = ap length d.1 ∙ go st kept
    where
      go : (st : Step) → Holds (λ q z. Q q × (length z ≡ n)) st → length (left st) ≡ n
      go (on q z) g = g.1
      go (stop m q z) g = g.1

  pub kept_on : (q : Place) → r ≡ Went q → Q q
  kept_on q g = go st (went st q (sym g ∙ d.0)) kept
    where
      go : (st : Step) → st ≡ on q (left st) → Holds (λ q z. Q q × (length z ≡ n)) st → Q q
      go (on o z) e g = subst Q (on_place o q z (left (on o z)) e) g.0
      go (stop m o z) e g = absurd (let v : ◌≡◌ {A = ℕ} 0 1 = cc in omega arith)

-- the tree of a type by what stands at its entry
pub tree_looked : (ps t : List ℕ) (s : Sections) (i : ℕ) (m : Met) → m ≡ look t s i → type_by ps t s i ≡ tree_by ps t s i (trees_by ps t s i) m
unfolding type_by
tree_looked ps t s i m h = ap (tree_by ps t s i (trees_by ps t s i)) (sym h)
