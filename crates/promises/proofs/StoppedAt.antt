-- What a call handed table bytes answers where its walk stopped, and what the place says of the input: one law for both
-- directions.
-- Assumes nothing.
use Prim.Native.Nat.{ℕ, suc, ◌+◌, ◌≤◌, ◌<◌}
use Rattle.std.specs.Prelude.{Result, Ok, Err}
use Rattle.refusal.specs.declared.Refusal.{Refusal}
use mathlib.Core.Path.{◌≡◌, refl, sym, ap, subst, ◌∙◌}
use mathlib.Core.Bool.{Bool, true, false, cond}
use mathlib.Core.Logic.{inl, inr, ⊎_elim}
use mathlib.Core.List.{List, []}
use native.Mathlib.Omega.{arith}
use borrow.Author.Tests.{ltb-true, lt-ltb}
use lib.Dec.{ltb, eqb}
use lib.ListN.{length, take, length-take}
use Rattle.wire.proofs.Cond.{no_lt, no_eq}
use Rattle.table.specs.declared.Sections.{Sections}
use Rattle.table.specs.Layout.{within}
use Rattle.types.specs.Table.{checked}
use Rattle.types.proofs.Accepted.{accepted, is_within}
use Rattle.walk.specs.declared.Place.{Place}
use Rattle.walk.specs.Tree.{Tree, tree}
use Rattle.walk.specs.Walk.{Step, on, stop, answer, start, Codec, walk, type_walk}
use Rattle.walk.proofs.Walks.{Holds}
use Rattle.payload.specs.declared.Spot.{Spot}
use Rattle.payload.specs.declared.Answer.{Answer}
use Rattle.payload.specs.declared.Answer.TheVariants.{Refused, Stopped, Gave}
use Rattle.payload.specs.Calls.{spot, stopped_at, went_to, answered, answered_type, answered_in, answered_if}
use Rattle.values.proofs.Checked.{Whole, trees-whole, same_answer}
use Rattle.promises.specs.Places.{GivenFor, OneMore, refused, more, last, ItemAt, LeftOverAt, PlacesOf}
use Rattle.promises.proofs.CutShort.{Along, Own, late, Further, ItemIn, went-there, stopped-there}

-- a call that stopped has walked
pub record Walks (t : List ℕ) (i : ℕ) : Type 0 where
  pub sections : Sections
  pub is_table : checked t ≡ Ok sections
  pub is-type : i < sections.types.count

module _ (t : List ℕ) (i : ℕ) where
  in_table : (c : Codec) (n room k : ℕ) (p : Spot) → answered_if (checked t) c n t i room ≡ Stopped k p → Walks t i
  unfolding answered_if answered_in
  in_table c n room k p h = go (checked t) refl
    where
      in-sections : (s : Sections) → checked t ≡ Ok s → (a b : Bool) → within t s ≡ a → ltb i s.types.count ≡ b
          → Walks t i
      in-sections s e true true f g = record { sections = s; is_table = e; is-type = ltb-true i s.types.count g }
      in-sections s e true false f g = let j = rw (e, f, g) at h in absurd (let z : ◌≡◌ {A = ℕ} 0 1 = cc in omega arith)
      in-sections s e false b f g = let j = rw (e, f) at h in absurd (let z : ◌≡◌ {A = ℕ} 0 1 = cc in omega arith)

      go : (r : Result Sections Refusal) → checked t ≡ r → Walks t i
      go (Err m) e = let j = rw e at h in absurd (let z : ◌≡◌ {A = ℕ} 0 1 = cc in omega arith)
      go (Ok s) e = in-sections s e (within t s) (ltb i s.types.count) refl refl

  by-walk : (u : Walks t i) (c : Codec) (n room : ℕ)
      → answered_if (checked t) c n t i room ≡ answered c.leaves n room (answer (walk c (tree t u.sections i) start []))
  unfolding answered_in answered_type type_walk
  by-walk u c n room =
      let s : Sections = u.sections in
      same_answer t s u.is_table c n i room
      ∙ rw (is_within t s (accepted t s u.is_table), lt-ltb i s.types.count u.is-type) refl

-- what an answer that is a stop says of the walk's end
abbrev EndsAt : (Place → ℕ) → ℕ → ℕ → Spot → Step → Type 0
EndsAt l n k p (on q y) = (k ≡ 41) × (q.from < n) × (p ≡ spot q (l q))
EndsAt l n k p (stop j q y) = (j ≡ k) × (p ≡ spot q (l q))

ends_at : (l : Place → ℕ) (n room k : ℕ) (p : Spot) (st : Step) → answered l n room (answer st) ≡ Stopped k p → EndsAt l n k p st
unfolding answered stopped_at went_to answer
ends_at l n room k p (on q y) h = go (ltb q.from n) (ltb room q.to) refl refl
  where
    go : (a b : Bool) → ltb q.from n ≡ a → ltb room q.to ≡ b → EndsAt l n k p (on q y)
    go true b e g = let j = rw e at h in (cc, ltb-true q.from n e, cc)
    go false true e g = let j = rw (e, g) at h in absurd (let z : ◌≡◌ {A = ℕ} 0 1 = cc in omega arith)
    go false false e g = let j = rw (e, g) at h in absurd (let z : ◌≡◌ {A = ℕ} 0 1 = cc in omega arith)
ends_at l n room k p (stop m q y) h = go (eqb m 32) refl
  where
    go : (a : Bool) → eqb m 32 ≡ a → EndsAt l n k p (stop m q y)
    go true e = let j = rw e at h in absurd (let z : ◌≡◌ {A = ℕ} 0 1 = cc in omega arith)
    go false e = let j = rw e at h in (cc, cc)

own_range : (k : ℕ) → Own k → (40 ≤ k) × (k ≤ 43)
own_range k h = ⊎_elim (λ (e : k ≡ 40). omega arith) (λ g. ⊎_elim (λ (e : k ≡ 42). omega arith) (λ (e : k ≡ 43). omega arith) g) h

not_over : (k : ℕ) → Own k → k ≡ 41 → ⊥
not_over k h l =
    ⊎_elim (λ (e : k ≡ 40). omega arith) (λ g. ⊎_elim (λ (e : k ≡ 42). omega arith) (λ (e : k ≡ 43). omega arith) g) h

the_spot : (m n k l : ℕ) → m ≡ n → k ≡ l → ◌≡◌ {A = Spot} (record { at = m; leaves = k }) (record { at = n; leaves = l })
the_spot m n k l e h = cc

-- what is so of each place to which a walk comes
abbrev pub Lying : (Spot → Type 0) → (Spot → ℕ → Type 0) → (Place → ℕ) → Step → Type 0
Lying Lies Given leaves = Holds (λ q y. Lies (spot q (leaves q)) × Given (spot q (leaves q)) q.to)

-- the laws of one direction
module _ (R : List ℕ → Codec) (size : ℕ → ℕ) (most : ℕ) (a : Along R size most) (Lies : Spot → Type 0) (Given : Spot → ℕ → Type 0)
    (lie : (tr : Tree) (xs : List ℕ) → Lying Lies Given (R xs).leaves (walk (R xs) tr start [])) (t : List ℕ) (i : ℕ) where
  abbrev call : List ℕ → ℕ → Answer
  call xs room = answered_if (checked t) (R xs) (length xs) t i room

  -- how the walk of a call ended that stopped
  module _ (xs : List ℕ) (room k : ℕ) (p : Spot) (h : call xs room ≡ Stopped k p) where
    walks : Walks t i
    walks = in_table t i (R xs) (length xs) room k p h

    tr : Tree
    tr = tree t walks.sections i

    whole : Whole tr
    unfolding tr
    whole =
        let s : Sections = walks.sections in
        trees-whole t s (accepted t s walks.is_table) (suc i) i (omega arith) walks.is-type

    abbrev Ended : Step → Type 0
    Ended = EndsAt (R xs).leaves (length xs) k p

    ended : Ended (walk (R xs) tr start [])
    unfolding tr
    ended =
        ends_at (R xs).leaves (length xs) room k p (walk (R xs) tr start []) (sym (by-walk t i walks (R xs) (length xs) room) ∙ h)

    -- an input whose walk stops, and one whose walk is at its end
    stops_at : (ys : List ℕ) (room' j : ℕ) (q : Place) (y : List ℕ) → walk (R ys) tr start [] ≡ stop j q y → Own j
        → call ys room' ≡ Stopped j (spot q ((R ys).leaves q))
    unfolding tr answered stopped_at answer
    stops_at ys room' j q y g n =
        by-walk t i walks (R ys) (length ys) room'
        ∙ ap (λ (st : Step). answered (R ys).leaves (length ys) room' (answer st)) g
        ∙ no_eq (Refused j) (Stopped j (spot q ((R ys).leaves q))) j 32 (λ z. omega (arith, own_range j n))

    stops-there : (ys : List ℕ) (room' j : ℕ) (q : Place) (y : List ℕ) → walk (R ys) tr start [] ≡ stop j q y → Own j
        → call ys room' ≡ Stopped j (spot q ((R xs).leaves q))
    stops-there ys room' j q y g n = stops_at ys room' j q y g n ∙ ap (λ (l : ℕ). Stopped j (spot q l)) (a.same_leaves xs ys q)

    is-value : (ys : List ℕ) (q : Place) (y : List ℕ) → walk (R ys) tr start [] ≡ on q y → length ys ≤ q.from
        → GivenFor call Given ys (spot q ((R ys).leaves q))
    unfolding tr answered went_to answer
    is-value ys q y e short =
        let over : Answer = Stopped 41 (spot q ((R ys).leaves q)) in
        record {
          count = q.to;
          given = (subst (Lying Lies Given (R ys).leaves) e (lie tr ys)).1;
          value = λ room' l.
              by-walk t i walks (R ys) (length ys) room'
              ∙ ap (λ (st : Step). answered (R ys).leaves (length ys) room' (answer st)) e
              ∙ no_lt over (cond (ltb room' q.to) (Refused 45) (Gave q.to)) q.from (length ys) short
              ∙ no_lt (Refused 45) (Gave q.to) room' q.to l;
        }

    range : (40 ≤ k) × (k ≤ 43)
    range = go (walk (R xs) tr start []) refl ended
      where
        go : (st : Step) → walk (R xs) tr start [] ≡ st → Ended st → (40 ≤ k) × (k ≤ 43)
        go (on q y) e s = omega (arith, s.0)
        go (stop j q y) e s = own_range k (subst Own s.0 (stopped-there R size most a tr whole xs j q y e).own)

    lies : Lies p
    lies = go (walk (R xs) tr start []) (lie tr xs) ended
      where
        go : (st : Step) → Lying Lies Given (R xs).leaves st → Ended st → Lies p
        go (on q y) l s = subst Lies (sym s.2) l.0
        go (stop j q y) l s = subst Lies (sym s.1) l.0

    -- an input that ends with an item
    module _ (j : ℕ) (q : Place) (y : List ℕ) (g : ItemIn R most tr xs j q y) where
      abbrev next : Spot
      next = record { at = q.from + g.size; leaves = (R xs).leaves q + 1 }

      further : (ys : List ℕ) → length ys ≡ q.from + g.size → Further R tr ys (q.from + g.size) ((R ys).leaves q + 1)
          → OneMore call Given ys (spot q ((R xs).leaves q)) next
      further ys l f =
          let v : (R ys).leaves f.next ≡ (R xs).leaves q + 1 = f.with_leaves ∙ ap (λ (n : ℕ). n + 1) (a.same_leaves xs ys q) in
          let it : spot f.next ((R ys).leaves f.next) ≡ next =
          the_spot f.next.from (q.from + g.size) ((R ys).leaves f.next) ((R xs).leaves q + 1) f.from_there v in
          ⊎_elim
          (λ e. last (subst (GivenFor call Given ys) it (is-value ys f.next f.left e (omega (arith, f.from_there)))))
          (λ e. more (λ room'. stops_at ys room' 40 f.next f.left e (inl refl) ∙ ap (Stopped 40) it))
          f.idle

      one_more : (ys : List ℕ) → take q.from ys ≡ take q.from xs → length ys ≡ q.from + g.size
          → OneMore call Given ys (spot q ((R xs).leaves q)) next
      one_more ys h l =
          ⊎_elim (λ e. refused e.0 (late e.0 e.1) (λ room'. stops-there ys room' e.0 q y e.2 (inr e.1))) (further ys l)
          (g.one_more ys h l)

    its-item : (k ≡ 41 → ⊥) → ItemAt call most Given xs k p
    its-item n = go (walk (R xs) tr start []) refl ended
      where
        there : (j : ℕ) (q : Place) (y : List ℕ) → ItemIn R most tr xs j q y
            → ItemAt call most Given xs j (spot q ((R xs).leaves q))
        there j q y g =
            record {
              size = g.size;
              some = g.some;
              few = g.few;
              inside = g.inside;
              cut_off = λ ys room' h l. stops-there ys room' 40 q y (g.cut_off ys h l) (inl refl);
              one_more = one_more j q y g;
              cut = g.cut;
              whole = g.whole;
              alike = λ z ys room' h. stops-there ys room' j q y (g.alike z ys h) g.own;
            }

        go : (st : Step) → walk (R xs) tr start [] ≡ st → Ended st → ItemAt call most Given xs k p
        go (on q y) e s = absurd (n s.0)
        go (stop j q y) e s =
            subst (ItemAt call most Given xs k) (sym s.1)
            (subst (λ (m : ℕ). ItemAt call most Given xs m (spot q ((R xs).leaves q))) s.0
            (there j q y (stopped-there R size most a tr whole xs j q y e)))

    left_over : k ≡ 41 → LeftOverAt call Given xs p
    left_over n = go (walk (R xs) tr start []) refl ended
      where
        there : (q : Place) (y : List ℕ) → walk (R xs) tr start [] ≡ on q y → q.from < length xs
            → LeftOverAt call Given xs (spot q ((R xs).leaves q))
        there q y e l =
            let ys : List ℕ = take q.from xs in
            let v : GivenFor call Given ys (spot q ((R ys).leaves q)) =
            is-value ys q y (went-there R size most a tr whole xs q y e) (omega (arith, length-take q.from xs)) in
            record { inside = l; before = subst (λ (m : ℕ). GivenFor call Given ys (spot q m)) (a.same_leaves xs ys q) v }

        go : (st : Step) → walk (R xs) tr start [] ≡ st → Ended st → LeftOverAt call Given xs p
        go (stop j q y) e s = absurd (not_over k (subst Own s.0 (stopped-there R size most a tr whole xs j q y e).own) n)
        go (on q y) e s = subst (LeftOverAt call Given xs) (sym s.2) (there q y e s.1)

  pub laws : PlacesOf call most Lies Given
  laws =
      record {
        numbers = range;
        lies = lies;
        item = its-item;
        left_over = λ xs room p h. left_over xs room 41 p h refl;
      }
