-- Laws of a base that a walk meets: its entry is a leaf's, which takes all that its code allows.
-- Assumes nothing.
use Prim.Native.Nat.{ℕ, ◌<◌, ◌≤◌}
use mathlib.Core.Path.{◌≡◌, refl, sym, ap, ◌∙◌}
use mathlib.Core.Bool.{Bool, true, false, ◌&&◌}
use mathlib.Core.List.{List}
use native.Mathlib.Omega.{arith}
use borrow.Author.Tests.{ltb-true, eqb-true, le-leb}
use lib.Dec.{ltb, eqb}
use Rattle.wire.specs.Bytes.{written}
use Rattle.wire.proofs.Cond.{yes-if, no-if, yes_lt, no_lt, both}
use Rattle.table.specs.declared.Sections.{Sections}
use Rattle.table.specs.declared.Entry.{Entry}
use Rattle.table.specs.Entries.{type_at}
use Rattle.table.specs.Leaf.{base, is_value, allowed}
use Rattle.table.specs.Fields.{fields_ok}
use Rattle.leaf.specs.Choice.{choice}
use Rattle.walk.specs.declared.Place.{Place}
use Rattle.walk.specs.declared.Met.TheVariants.{Leaf}
use Rattle.walk.specs.Tree.{meet, tree_of, base_of, base_at}
use Rattle.walk.specs.Walk.{on, Codec, item, walk}
use Rattle.walk.specs.Planned.{tree_by, child_by}
use Rattle.walk.proofs.Trees.{a_leaf, looked, met, child_met}
use Rattle.walk.proofs.Returns.{item_on}

-- by the entry's fields
abbrev pub Plain : Entry → Bool
Plain e = eqb e.kind 0 && ltb e.of 13 && eqb e.first 0 && eqb e.count 0

pub a_base : (e : Entry) → Plain e ≡ true → e.of ≡ base_of e
unfolding base_of
a_base e h = sym (yes-if e.of 13 h)

pub no-base : (e : Entry) → Plain e ≡ false → 13 ≡ base_of e
unfolding base_of
no-base e h = sym (no-if e.of 13 h)

pub record Fields (e : Entry) : Type 0 where
  pub kind : e.kind ≡ 0
  pub of : e.of < 13
  pub first : e.first ≡ 0
  pub count : e.count ≡ 0

pub fields : (e : Entry) → Plain e ≡ true → Fields e
fields e h =
    let a : ((eqb e.kind 0 && ltb e.of 13 && eqb e.first 0) ≡ true)
    × (eqb e.count 0 ≡ true) = both (eqb e.kind 0 && ltb e.of 13 && eqb e.first 0) (eqb e.count 0) h in
    let b : ((eqb e.kind 0 && ltb e.of 13) ≡ true) × (eqb e.first 0 ≡ true) = both (eqb e.kind 0 && ltb e.of 13) (eqb e.first 0) a.0 in
    let d : (eqb e.kind 0 ≡ true) × (ltb e.of 13 ≡ true) = both (eqb e.kind 0) (ltb e.of 13) b.0 in
    record { kind = eqb-true e.kind 0 d.0; of = ltb-true e.of 13 d.1; first = eqb-true e.first 0 b.1; count = eqb-true e.count 0 a.1 }

base_fields : (s : Sections) (i : ℕ) (e : Entry) → Fields e → true ≡ fields_ok s i e
unfolding fields_ok
base_fields s i e f = rw (f.kind, le-leb e.of 12 (omega (arith, f.of)), f.first, f.count) refl

all_taken : (t : List ℕ) (s : Sections) (e : Entry) (w : ℕ) → e.kind ≡ 0 → choice t s e w ≡ true
unfolding choice
all_taken t s e w h = rw h refl

module _ (t : List ℕ) (s : Sections) (i c : ℕ) where
  pub base-met : (e : Entry) (r : ℕ) → c < i → e ≡ type_at t s c → r ≡ base_of e → r ≡ base_at t s i c
  unfolding base_at
  base-met e r h k g = g ∙ ap base_of k ∙ sym (yes_lt (base_of (type_at t s c)) 13 c i h)

  pub no-base-met : i ≤ c → 13 ≡ base_at t s i c
  unfolding base_at
  no-base-met h = sym (no_lt (base_of (type_at t s c)) 13 c i h)

  -- a base that is there and whose word is allowed is walked over
  module _ (w : Codec) (ps : List ℕ) (code : ℕ) (p : Place) (x : List ℕ) (is : code ≡ base_at t s i c) (there : w.there code p ≡ true)
      (good : allowed code (w.word code p) ≡ true) where
    none : code ≡ 13 → ⊥
    unfolding allowed base is_value
    none h = let z : false ≡ true = rw h at good in let y : ◌≡◌ {A = ℕ} 0 1 = cc in omega arith

    pub base_on : walk w (child_by ps t s i c) p x ≡ on (w.after code p) (written x p.to (w.gives code (w.word code p)))
    unfolding base_at base_of walk tree_of tree_by
    base_on = go (ltb c i) (Plain (type_at t s c)) refl refl
      where
        go : (a b : Bool) → ltb c i ≡ a → Plain (type_at t s c) ≡ b → walk w (child_by ps t s i c) p x
            ≡ on (w.after code p) (written x p.to (w.gives code (w.word code p)))
        go false b g h = absurd (none (is ∙ no-if (base_of (type_at t s c)) 13 g))
        go true false g h = absurd (none (is ∙ yes-if (base_of (type_at t s c)) 13 g ∙ no-if (type_at t s c).of 13 h))
        go true true g h =
            let e : Entry = type_at t s c in
            let f : Fields (type_at t s c) = fields (type_at t s c) h in
            let k : code ≡ (type_at t s c).of = is ∙ yes-if (base_of (type_at t s c)) 13 g ∙ yes-if (type_at t s c).of 13 h in
            let m : Leaf (type_at t s c)
            ≡ meet t s i c = met t s i c (Leaf (type_at t s c)) (ltb-true c i g)
            (looked t s c (type_at t s c) true (Leaf (type_at t s c)) refl (base_fields s c (type_at t s c) f) refl
            (a_leaf (type_at t s c) (omega (arith, f.kind)))) in
            ap (λ u. walk w u p x) (child_met ps t s i c (Leaf (type_at t s c)) m)
            ∙ ap (λ (n : ℕ). item w 42 n (choice t s (type_at t s c)) p x) (sym k)
            ∙ item_on w 42 code (choice t s (type_at t s c)) p x there (rw (good, all_taken t s (type_at t s c) (w.word code p) f.kind) refl)
