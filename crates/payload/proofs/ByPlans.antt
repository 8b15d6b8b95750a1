-- The calls on sections and by plans: what their returns come to; without plans nothing changes; and by plans that go as the walk
-- the calls answer and leave what they do on sections.
-- Assumes nothing.
use Prim.Native.Nat.{ℕ}
use mathlib.Core.Path.{◌≡◌, refl, ap, ap₂, subst, ◌∙◌}
use mathlib.Core.Bool.{Bool, true, false, cond}
use mathlib.Core.List.{List, []}
use lib.ListN.{length}
use Rattle.wire.proofs.Cond.{no-if}
use Rattle.table.specs.declared.Sections.{Sections}
use Rattle.table.specs.Layout.{within}
use Rattle.table.specs.Entries.{is_type}
use Rattle.walk.specs.declared.Place.{Place}
use Rattle.payload.specs.declared.Answer.{Answer}
use Rattle.payload.specs.declared.Answer.TheVariants.{Refused}
use Rattle.walk.specs.Tree.{Tree, tree}
use Rattle.walk.specs.Walk.{Step, Codec, start, answer, left, walk, type_walk}
use Rattle.walk.specs.Planned.{is_planned, plan_tree, type_by}
use Rattle.walk.proofs.ByPlans.{none_planned, type-same}
use Rattle.payload.specs.Calls.{answered, answered_tree, answered_type, answered_in, left_over_by, left_over_in}
use Rattle.payload.specs.ByPlans.{answered_on, answered_by, tree_for, left_for}
use Rattle.payload.proofs.Calls.{Answers}

-- what is left goes by the answer
same_left : {a b : Answer} {y : List ℕ} (x z : List ℕ) → a ≡ b → y ≡ left_over_by a x z → y ≡ left_over_by b x z
same_left x z h e = e ∙ ap (λ (o : Answer). left_over_by o x z) h

-- on sections, over a type's tree
module _ (c : Codec) (n : ℕ) (t : List ℕ) (s : Sections) (i : ℕ) (x : List ℕ) (tr : Tree) where
  abbrev pub On : Answer → List ℕ → Type 0
  On a y = (a ≡ answered_on c n t s i tr (length x)) × (y ≡ left_over_by a x (left (walk c tr start x)))

  module _ (u : Bool) (p : u ≡ within t s) where
    pub not_within : u ≡ false → On (Refused 30) x
    unfolding left_over_by
    not_within h = (rw (← p, h) refl, refl)

    module _ (h : u ≡ true) (v : Bool) (q : v ≡ is_type s i) where
      pub no_type : v ≡ false → On (Refused 44) x
      unfolding left_over_by
      no_type g = (rw (← p, h, ← q, g) refl, refl)

      pub the_type : (a : Answer) (y : List ℕ) → v ≡ true → Answers c n tr x a y → On a y
      the_type a y g e = (e.0 ∙ (rw (← p, h, ← q, g) refl), e.1)

-- the call on sections is the one without plans
module _ (c : Codec) (n : ℕ) (t : List ℕ) (s : Sections) (i : ℕ) (x : List ℕ) where
  pub in-sections : (a : Answer) (y : List ℕ) → On c n t s i x (type_by [] t s i) a y
      → (a ≡ answered_in c n t s i (length x)) × (y ≡ left_over_in c n t s i x)
  unfolding answered_in answered_type left_over_in type_walk
  in-sections a y e =
      let f : On c n t s i x (tree t s i) a y = subst (λ (tr : Tree). On c n t s i x tr a y) (type-same t s i) e in
      (f.0, same_left x (left (walk c (tree t s i) start x)) f.0 f.1)

-- the calls by plans
module _ (c : Codec) (n : ℕ) (ps t : List ℕ) (s : Sections) (i : ℕ) (x : List ℕ) where
  abbrev pub By : Answer → List ℕ → Type 0
  By a y = (a ≡ answered_by c n ps t s i (length x)) × (y ≡ left_for c n ps t s i x)

  module _ (u : Bool) (p : u ≡ is_planned ps i) (a : Answer) (y : List ℕ) where
    pub by-plan : u ≡ true → Answers c n (plan_tree t ps i) x a y → By a y
    unfolding answered_by left_for tree_for
    by-plan h e = rw (← p, h) (e.0, same_left x (left (walk c (plan_tree t ps i) start x)) e.0 e.1)

    pub by_parts : u ≡ false → On c n t s i x (type_by ps t s i) a y → By a y
    unfolding answered_by left_for tree_for
    by_parts h e = rw (← p, h) (e.0, same_left x (left (walk c (type_by ps t s i) start x)) e.0 e.1)

-- without plans nothing changes
module _ (c : Codec) (n : ℕ) (t : List ℕ) (s : Sections) (i : ℕ) where
  pub no-plans : (room : ℕ) → answered_by c n [] t s i room ≡ answered_in c n t s i room
  unfolding answered_by answered_in answered_type
  no-plans room = rw (none_planned i) (ap (λ (tr : Tree). answered_on c n t s i tr room) (type-same t s i))

  pub no-plans-left : (x : List ℕ) → left_for c n [] t s i x ≡ left_over_in c n t s i x
  unfolding left_for tree_for left_over_in type_walk
  no-plans-left x =
      ap₂ (λ (a : Answer) (tr : Tree). left_over_by a x (left (walk c tr start x))) (no-plans (length x))
      (no-if (plan_tree t [] i) (type_by [] t s i) (none_planned i) ∙ type-same t s i)

-- by plans that go as the walk, and that types alone have, nothing changes either
module _ (ps t : List ℕ) (s : Sections) (i : ℕ) (lie : within t s ≡ true) (types : (k : ℕ) → is_planned ps k ≡ true → is_type s k ≡ true)
    (planned : (c : Codec) (p : Place) (x : List ℕ) → is_planned ps i ≡ true → walk c (plan_tree t ps i) p x ≡ walk c (tree t s i) p x)
    (parts : (c : Codec) (p : Place) (x : List ℕ) → walk c (type_by ps t s i) p x ≡ walk c (tree t s i) p x) (c : Codec) (n : ℕ) where
  same-walk : (x : List ℕ) → walk c (tree_for ps t s i) start x ≡ walk c (tree t s i) start x
  unfolding tree_for
  same-walk x = go (is_planned ps i) refl
    where
      go : (b : Bool) → is_planned ps i ≡ b → walk c (cond (is_planned ps i) (plan_tree t ps i) (type_by ps t s i)) start x ≡ walk c (tree t s i) start x
      go true h = rw h (planned c start x h)
      go false h = rw h (parts c start x)

  pub as-walk : (room : ℕ) → answered_by c n ps t s i room ≡ answered_in c n t s i room
  unfolding answered_by answered_in answered_type
  as-walk room = go (is_planned ps i) refl
    where
      go : (b : Bool) → is_planned ps i ≡ b
          → cond b (answered_tree c n (plan_tree t ps i) room) (answered_on c n t s i (type_by ps t s i) room) ≡ answered_on c n t s i (tree t s i) room
      go true h = rw (lie, types i h) (ap (λ (w : Step). answered c.leaves n room (answer w)) (planned c start [] h))
      go false h = rw (parts c start []) refl

  pub as-walk-left : (x : List ℕ) → left_for c n ps t s i x ≡ left_over_in c n t s i x
  unfolding left_for left_over_in type_walk
  as-walk-left x = ap₂ (λ (a : Answer) (w : Step). left_over_by a x (left w)) (as-walk (length x)) (same-walk x)
