-- Laws of a walk: one thing behind another, how a walk stops, and that what is written into makes no difference to the way.
-- Assumes nothing.
use Prim.Native.Nat.{ℕ, zero, suc, ◌+◌, ◌≤◌, ◌<◌}
use mathlib.Core.Path.{◌≡◌, refl, sym, ap, ◌∙◌}
use mathlib.Core.Bool.{Bool, true, false, ◌&&◌}
use mathlib.Core.Logic.{⊎_elim}
use mathlib.Core.List.{List}
use native.Mathlib.Nat.{eq-or-lt_of_le, one-le-pow, pow-le-pow_right, zero-lt-suc}
use native.Mathlib.Numerals.{add-one}
use native.Mathlib.Omega.{arith}
use lib.Dec.{leb, eqb}
use Rattle.wire.specs.Bytes.{written}
use Rattle.table.specs.declared.Entry.{Entry}
use Rattle.table.specs.Leaf.{Leaf, boolean, signed, unsigned, float, none, base, bytes_of, is_value, width, allowed}
use Rattle.wire.proofs.Cond.{and_left}
use Rattle.leaf.proofs.Leaves.{Real, real}
use Rattle.walk.specs.declared.Place.{Place}
use Rattle.walk.specs.declared.Walked.TheVariants.{Went, Stopped}
use Rattle.walk.specs.Tree.{Tree, leaf, row, array, broken}
use Rattle.walk.specs.Walk.{Step, on, stop, answer, left, next, through, Codec, item, counted, count_code, walk, begun}

-- what an answer says of the step
pub went : (st : Step) (q : Place) → Went q ≡ answer st → st ≡ on q (left st)
unfolding answer left
went (on p x) q h = cc
went (stop n p x) q h = absurd (let z : ◌≡◌ {A = ℕ} 0 1 = cc in omega arith)

pub stopped : (st : Step) (n : ℕ) (q : Place) → Stopped n q ≡ answer st → st ≡ stop n q (left st)
unfolding answer left
stopped (on p x) n q h = absurd (let z : ◌≡◌ {A = ℕ} 0 1 = cc in omega arith)
stopped (stop m p x) n q h = cc

module _ (f : ℕ → Place → List ℕ → Step) (p : Place) (x : List ℕ) where
  pub through-none : through 0 f p x ≡ on p x
  unfolding through
  through-none = refl

  pub through-more : (k : ℕ) (q : Place) (y : List ℕ) → through k f p x ≡ on q y → through (k + 1) f p x ≡ f k q y
  unfolding through next
  through-more k q y h = ap (λ (n : ℕ). through n f p x) (add-one k) ∙ ap (λ (st : Step). next st (f k)) h

  pub through-stop : (m k n : ℕ) (q r : Place) (y z : List ℕ) → through k f p x ≡ on q y → f k q y ≡ stop n r z → k < m → through m f p x ≡ stop n r z
  unfolding through next
  through-stop zero k n q r y z h g l = absurd (omega arith)
  through-stop (suc m) k n q r y z h g l =
      let a : k ≤ m = omega arith in
      ⊎_elim
      (λ (e : k ≡ m). ap (λ (j : ℕ). next (through j f p x) (f j)) (sym e) ∙ ap (λ (st : Step). next st (f k)) h ∙ g)
      (λ (b : k < m). ap (λ (st : Step). next st (f m)) (through-stop m k n q r y z h g b))
      (eq-or-lt_of_le a)

  pub through-done : (m k : ℕ) (st : Step) → through k f p x ≡ st → k ≤ m → m ≤ k → through m f p x ≡ st
  through-done m k st h a b = ap (λ (n : ℕ). through n f p x) (omega arith) ∙ h

-- what holds at the start of a walk and over each item holds wherever it ends
module _ (P : Place → List ℕ → Type 0) where
  abbrev pub Holds : Step → Type 0
  Holds (on p x) = P p x
  Holds (stop n p x) = P p x

  next-holds : (st : Step) (f : Place → List ℕ → Step) → Holds st → ((q : Place) (y : List ℕ) → P q y → Holds (f q y)) → Holds (next st f)
  unfolding next
  next-holds (on p x) f h g = g p x h
  next-holds (stop n p x) f h g = h

  through-holds : (n : ℕ) (f : ℕ → Place → List ℕ → Step) (p : Place) (x : List ℕ) → P p x
      → ((k : ℕ) (q : Place) (y : List ℕ) → P q y → Holds (f k q y)) → Holds (through n f p x)
  unfolding through
  through-holds zero f p x h g = h
  through-holds (suc n) f p x h g = next-holds (through n f p x) (f n) (through-holds n f p x h g) (g n)

  module _ (c : Codec) (over : (code : ℕ) (p : Place) (x : List ℕ) → c.there code p ≡ true → allowed code (c.word code p) ≡ true → P p x
      → P (c.after code p) (written x p.to (c.gives code (c.word code p)))) where
    item-holds : (n code : ℕ) (ok : ℕ → Bool) (p : Place) (x : List ℕ) → P p x → Holds (item c n code ok p x)
    unfolding item
    item-holds n code ok p x h = go (c.there code p) (allowed code (c.word code p) && ok (c.word code p)) refl refl
      where
        go : (a b : Bool) → c.there code p ≡ a → (allowed code (c.word code p) && ok (c.word code p)) ≡ b → Holds (item c n code ok p x)
        go true true e g = rw (e, g) (over code p x e (and_left (allowed code (c.word code p)) (ok (c.word code p)) g) h)
        go true false e g = rw (e, g) h
        go false b e g = rw e h

    pub walk-holds : (tr : Tree) (p : Place) (x : List ℕ) → P p x → Holds (walk c tr p x)
    unfolding walk counted
    walk-holds (leaf code ok) p x h = item-holds 42 code ok p x h
    walk-holds (row n f) p x h = through-holds n (λ k q y. walk c (f k) q y) p x h (λ k q y g. walk-holds (f k) q y g)
    walk-holds (array most a) p x h =
        next-holds (item c 43 count_code (λ n. leb n most) p x) (λ q y. through (c.word count_code p) (λ k r z. walk c a r z) q y)
        (item-holds 43 count_code (λ n. leb n most) p x h)
        (λ q y g. through-holds (c.word count_code p) (λ k r z. walk c a r z) q y g (λ k r z d. walk-holds a r z d))
    walk-holds broken p x h = h

    pub begun-holds : (e : Entry) (p : Place) (x : List ℕ) → P p x → Holds (begun c e p x)
    unfolding begun counted
    begun-holds e p x h = go (eqb e.kind 3) refl
      where
        go : (u : Bool) → eqb e.kind 3 ≡ u → Holds (begun c e p x)
        go true g = rw g h
        go false g = rw g (item-holds 43 count_code (λ n. leb n e.count) p x h)

-- every leaf has a byte at least
pub value_bytes : (l : Leaf) (w : ℕ) → is_value l w ≡ true → 1 ≤ bytes_of l
unfolding is_value bytes_of
value_bytes boolean w h = omega arith
value_bytes (signed k) w h = one-le-pow k 2 (zero-lt-suc 1)
value_bytes (unsigned k n) w h = one-le-pow k 2 (zero-lt-suc 1)
value_bytes (float k e f) w h = one-le-pow k 2 (zero-lt-suc 1)
value_bytes none w h = absurd (let z : ◌≡◌ {A = ℕ} 0 1 = cc in omega arith)

pub some_bytes : (code w : ℕ) → allowed code w ≡ true → 1 ≤ width code
unfolding allowed width
some_bytes code w h = value_bytes (base code) w h

few_in : (l : Leaf) → Real l → bytes_of l ≤ 8
unfolding bytes_of
few_in boolean r = omega arith
few_in (signed k) r = pow-le-pow_right (zero-lt-suc 1) r
few_in (unsigned k n) r = pow-le-pow_right (zero-lt-suc 1) r.0
few_in (float k e f) r = pow-le-pow_right (zero-lt-suc 1) r
few_in none r = omega arith

pub few_bytes : (code : ℕ) → width code ≤ 8
unfolding width
few_bytes code = few_in (base code) (real code)

pub width_few : (n code : ℕ) → n ≡ width code → n ≤ 8
width_few n code h = omega (arith, few_bytes code)

-- what is written into makes no difference to where a walk comes
next_same : (a b : Step) (f : Place → List ℕ → Step) → answer a ≡ answer b → ((q : Place) (y z : List ℕ) → answer (f q y) ≡ answer (f q z))
    → answer (next a f) ≡ answer (next b f)
unfolding next answer
next_same (on p x) (on q y) f h g = g p x y ∙ ap (λ (o : Place). answer (f o y)) cc
next_same (on p x) (stop n q y) f h g = absurd (let z : ◌≡◌ {A = ℕ} 0 1 = cc in omega arith)
next_same (stop n p x) (on q y) f h g = absurd (let z : ◌≡◌ {A = ℕ} 0 1 = cc in omega arith)
next_same (stop n p x) (stop m q y) f h g = h

through_same : (n : ℕ) (f : ℕ → Place → List ℕ → Step) (p : Place) (x y : List ℕ)
    → ((k : ℕ) (q : Place) (u v : List ℕ) → answer (f k q u) ≡ answer (f k q v)) → answer (through n f p x) ≡ answer (through n f p y)
unfolding through answer
through_same zero f p x y g = refl
through_same (suc n) f p x y g = next_same (through n f p x) (through n f p y) (f n) (through_same n f p x y g) (g n)

item_same : (c : Codec) (n code : ℕ) (ok : ℕ → Bool) (p : Place) (x y : List ℕ) → answer (item c n code ok p x) ≡ answer (item c n code ok p y)
unfolding item answer
item_same c n code ok p x y = go (c.there code p) (allowed code (c.word code p) && ok (c.word code p)) refl refl
  where
    go : (a b : Bool) → c.there code p ≡ a → (allowed code (c.word code p) && ok (c.word code p)) ≡ b → answer (item c n code ok p x)
        ≡ answer (item c n code ok p y)
    go true true e g = rw (e, g) refl
    go true false e g = rw (e, g) refl
    go false b e g = rw e refl

pub walk_same : (c : Codec) (tr : Tree) (p : Place) (x y : List ℕ) → answer (walk c tr p x) ≡ answer (walk c tr p y)
unfolding walk counted answer
walk_same c (leaf code ok) p x y = item_same c 42 code ok p x y
walk_same c (row n f) p x y = through_same n (λ k q u. walk c (f k) q u) p x y (λ k q u v. walk_same c (f k) q u v)
walk_same c (array most a) p x y =
    next_same (item c 43 count_code (λ n. leb n most) p x) (item c 43 count_code (λ n. leb n most) p y)
    (λ q u. through (c.word count_code p) (λ k r z. walk c a r z) q u)
    (item_same c 43 count_code (λ n. leb n most) p x y)
    (λ q u v. through_same (c.word count_code p) (λ k r z. walk c a r z) q u v (λ k r z o. walk_same c a r z o))
walk_same c broken p x y = refl
