-- Two walks over one type, by codecs that have the same items as far as some place of their input: what the one comes to there,
-- the other comes to. Once, for any codec, and over all kinds.
-- Assumes nothing.
use Prim.Native.Nat.{ℕ, zero, suc, ◌≤◌, ◌<◌}
use mathlib.Core.Path.{◌≡◌, refl, sym, ap, subst, ◌∙◌}
use mathlib.Core.Bool.{Bool, true, false, ◌&&◌}
use mathlib.Core.Logic.{◌⊎◌, inl, inr, ⊎_elim}
use mathlib.Core.List.{List}
use native.Mathlib.Omega.{arith}
use lib.Dec.{leb}
use Rattle.table.specs.Leaf.{base, bytes_of, width, allowed}
use Rattle.walk.specs.declared.Place.{Place}
use Rattle.walk.specs.Tree.{Tree, leaf, row, array, broken}
use Rattle.walk.specs.Walk.{Step, on, stop, next, through, Codec, item, counted, count_code, walk}
use Rattle.values.proofs.Checked.{Whole}

-- d has the items of c that end at m or before it, with the same words
pub record SameItems (c d : Codec) (m : ℕ) : Type 0 where
  pub there_too : (code : ℕ) (p : Place) → c.there code p ≡ true → (c.after code p).from ≤ m → d.there code p ≡ true
  pub same_word : (code : ℕ) (p : Place) → c.there code p ≡ true → (c.after code p).from ≤ m → d.word code p ≡ c.word code p
  pub same_after : (code : ℕ) (p : Place) → d.after code p ≡ c.after code p
  pub same_given : (code w : ℕ) → d.gives code w ≡ c.gives code w

count_bytes : 1 ≤ width count_code
unfolding width base bytes_of
count_bytes = omega arith

-- nothing is left at r, and what then comes of a walk: it is at its end, or ends too early
abbrev pub Spent : Codec → Place → Type 0
Spent d r = (code : ℕ) → 1 ≤ width code → d.there code r ≡ false

abbrev pub Idle : Place → List ℕ → Step → Type 0
Idle r z st = (st ≡ on r z) ⊎ (st ≡ stop 40 r z)

pub item_missing : (c : Codec) (n code : ℕ) (ok : ℕ → Bool) (q : Place) (y : List ℕ) → c.there code q ≡ false
    → item c n code ok q y ≡ stop 40 q y
unfolding item
item_missing c n code ok q y e = rw e refl

module _ (d : Codec) (r : Place) (z : List ℕ) (spent : Spent d r) where
  next-idle : (st : Step) (f : Place → List ℕ → Step) → Idle r z st → Idle r z (f r z) → Idle r z (next st f)
  unfolding next
  next-idle st f h g = ⊎_elim (λ (e : st ≡ on r z). subst (λ (x : Step). Idle r z (next x f)) (sym e) g)
      (λ (e : st ≡ stop 40 r z). inr (ap (λ (x : Step). next x f) e)) h

  through-idle : (n : ℕ) (f : ℕ → Place → List ℕ → Step) → ((k : ℕ) → k < n → Idle r z (f k r z)) → Idle r z (through n f r z)
  unfolding through
  through-idle zero f g = inl refl
  through-idle (suc n) f g = next-idle (through n f r z) (f n) (through-idle n f (λ k l. g k (omega arith))) (g n (omega arith))

  walk-idle : (tr : Tree) → Whole tr → Idle r z (walk d tr r z)
  unfolding walk counted next
  walk-idle (leaf code ok) w = inr (item_missing d 42 code ok r z (spent code w))
  walk-idle (row n f) w = through-idle n (λ k q y. walk d (f k) q y) (λ k l. walk-idle (f k) (w k l))
  walk-idle (array most a) w =
      inr (ap (λ (st : Step). next st (λ q y. through (d.word count_code r) (λ k p x. walk d a p x) q y))
      (item_missing d 43 count_code (λ n. leb n most) r z (spent count_code count_bytes)))
  walk-idle broken w = absurd w

module _ (c : Codec) where
  pub nearer : (d : Codec) (m n : ℕ) → m ≤ n → SameItems c d n → SameItems c d m
  nearer d m n l a =
      record {
        there_too = λ code p e h. a.there_too code p e (omega arith);
        same_word = λ code p e h. a.same_word code p e (omega arith);
        same_after = a.same_after;
        same_given = a.same_given;
      }

  -- an item that both have
  pub item-alike : (d : Codec) (n code : ℕ) (ok : ℕ → Bool) (p : Place) (x : List ℕ) → c.there code p ≡ true
      → SameItems c d (c.after code p).from → item d n code ok p x ≡ item c n code ok p x
  unfolding item
  item-alike d n code ok p x e a =
      let l : (c.after code p).from ≤ (c.after code p).from = omega arith in
      rw (a.there_too code p e l, a.same_word code p e l, a.same_after code p, a.same_given code (c.word code p), e) refl

  -- where a walk stops: the item there. Any codec that has the same items so far stops there with the number that it has for it; or
  -- goes over it, and no further if nothing is left
  pub record Stuck (F : Codec → Step) (k : ℕ) (q : Place) (y : List ℕ) : Type 0 where
    pub number : ℕ
    pub code : ℕ
    pub ok : ℕ → Bool
    pub some : 1 ≤ width code
    pub known : (number ≡ 42) ⊎ (number ≡ 43)
    pub here : item c number code ok q y ≡ stop k q y
    pub likewise : (d : Codec) → SameItems c d q.from → (j : ℕ) → item d number code ok q y ≡ stop j q y → F d ≡ stop j q y
    pub onward : (d : Codec) → SameItems c d q.from → (r : Place) (z : List ℕ) → item d number code ok q y ≡ on r z → Spent d r
        → Idle r z (F d)

  stuck-as : (F G : Codec → Step) (k : ℕ) (q : Place) (y : List ℕ)
      → ((d : Codec) → SameItems c d q.from → (j : ℕ) → F d ≡ stop j q y → G d ≡ stop j q y)
      → ((d : Codec) → SameItems c d q.from → (r : Place) (z : List ℕ) → Spent d r → Idle r z (F d) → Idle r z (G d))
      → Stuck F k q y → Stuck G k q y
  stuck-as F G k q y f g s =
      record {
        number = s.number;
        code = s.code;
        ok = s.ok;
        some = s.some;
        known = s.known;
        here = s.here;
        likewise = λ d a j e. f d a j (s.likewise d a j e);
        onward = λ d a r z e n. g d a r z n (s.onward d a r z e n);
      }

  -- what F comes to by c is not before m, and any codec that has the same items so far comes to the same
  abbrev pub Steady : ℕ → (Codec → Step) → Step → Type 0
  Steady m F (on q y) = (m ≤ q.from) × ((d : Codec) → SameItems c d q.from → F d ≡ on q y)
  Steady m F (stop k q y) = (m ≤ q.from) × Stuck F k q y

  steady-as : (m n : ℕ) (F G : Codec → Step) → m ≤ n → ((d : Codec) → SameItems c d n → F d ≡ G d) → (st : Step) → Steady n F st
      → Steady m G st
  steady-as m n F G l e (on q y) h = (omega (arith, h.0), λ d a. sym (e d (nearer d n q.from h.0 a)) ∙ h.1 d a)
  steady-as m n F G l e (stop k q y) h =
      let same : (d : Codec) → SameItems c d q.from → F d ≡ G d = λ d a. e d (nearer d n q.from h.0 a) in
      (omega (arith, h.0), stuck-as F G k q y (λ d a j g. sym (same d a) ∙ g) (λ d a r z i g. subst (Idle r z) (same d a) g) h.1)

  next-steady : (m : ℕ) (F : Codec → Step) (G : Codec → Place → List ℕ → Step) (st : Step) → Steady m F st
      → ((q : Place) (y : List ℕ) → st ≡ on q y → Steady q.from (λ d. G d q y) (G c q y))
      → ((d : Codec) (r : Place) (z : List ℕ) → Spent d r → Idle r z (G d r z)) → Steady m (λ d. next (F d) (G d)) (next st (G c))
  unfolding next
  next-steady m F G (on q y) h g i =
      steady-as m q.from (λ d. G d q y) (λ d. next (F d) (G d)) h.0 (λ d a. ap (λ (st : Step). next st (G d)) (sym (h.1 d a)))
      (G c q y) (g q y refl)
  next-steady m F G (stop k q y) h g i = (
    h.0,
    stuck-as F (λ d. next (F d) (G d)) k q y (λ d a j e. ap (λ (st : Step). next st (G d)) e)
        (λ d a r z n e. next-idle d r z n (F d) (G d) e (i d r z n)) h.1,
  )

  through-steady : (n : ℕ) (f : Codec → ℕ → Place → List ℕ → Step) (p : Place) (x : List ℕ)
      → ((k : ℕ) → k < n → (q : Place) (y : List ℕ) → Steady q.from (λ d. f d k q y) (f c k q y))
      → ((k : ℕ) → k < n → (d : Codec) (r : Place) (z : List ℕ) → Spent d r → Idle r z (f d k r z))
      → Steady p.from (λ d. through n (f d) p x) (through n (f c) p x)
  unfolding through
  through-steady zero f p x g i = (omega arith, λ d a. refl)
  through-steady (suc n) f p x g i =
      next-steady p.from (λ d. through n (f d) p x) (λ d. f d n) (through n (f c) p x)
      (through-steady n f p x (λ k l. g k (omega arith)) (λ k l. i k (omega arith)))
      (λ q y e. g n (omega arith) q y) (i n (omega arith))

  -- an item that was walked over
  abbrev Behind : ℕ → Place → Place → Type 0
  Behind code p q = (c.there code p ≡ true) × (c.after code p ≡ q)

  item-went : (n code : ℕ) (ok : ℕ → Bool) (p q : Place) (x y : List ℕ) → item c n code ok p x ≡ on q y → Behind code p q
  unfolding item
  item-went n code ok p q x y h = go (c.there code p) (allowed code (c.word code p) && ok (c.word code p)) refl refl
    where
      go : (a b : Bool) → c.there code p ≡ a → (allowed code (c.word code p) && ok (c.word code p)) ≡ b → Behind code p q
      go true true e g = let i = rw (e, g) at h in (e, cc)
      go true false e g = let i = rw (e, g) at h in absurd (let z : ◌≡◌ {A = ℕ} 0 1 = cc in omega arith)
      go false b e g = let i = rw e at h in absurd (let z : ◌≡◌ {A = ℕ} 0 1 = cc in omega arith)

  module _ (grows : (code : ℕ) (p : Place) → p.from ≤ (c.after code p).from) where
    item-steady : (n code : ℕ) (ok : ℕ → Bool) (p : Place) (x : List ℕ) → 1 ≤ width code → (n ≡ 42) ⊎ (n ≡ 43)
        → Steady p.from (λ d. item d n code ok p x) (item c n code ok p x)
    unfolding item
    item-steady n code ok p x w i = go (c.there code p) (allowed code (c.word code p) && ok (c.word code p)) refl refl
      where
        here : (k : ℕ) → item c n code ok p x ≡ stop k p x → Stuck (λ d. item d n code ok p x) k p x
        here k e =
            record {
              number = n;
              code = code;
              ok = ok;
              some = w;
              known = i;
              here = e;
              likewise = λ d a j h. h;
              onward = λ d a r z h n. inl h;
            }

        go : (a b : Bool) → c.there code p ≡ a → (allowed code (c.word code p) && ok (c.word code p)) ≡ b
            → Steady p.from (λ d. item d n code ok p x) (item c n code ok p x)
        go true true e g = rw (e, g) (grows code p, λ d a. item-alike d n code ok p x e a ∙ rw (e, g) refl)
        go true false e g = rw (e, g) (omega arith, here n (rw (e, g) refl))
        go false b e g = rw e (omega arith, here 40 (rw e refl))

    pub walk-steady : (tr : Tree) (p : Place) (x : List ℕ) → Whole tr → Steady p.from (λ d. walk d tr p x) (walk c tr p x)
    unfolding walk counted
    walk-steady (leaf code ok) p x w = item-steady 42 code ok p x w (inl refl)
    walk-steady (row n f) p x w = through-steady n (λ d k q y. walk d (f k) q y) p x (λ k l q y. walk-steady (f k) q y (w k l))
        (λ k l d r z n. walk-idle d r z n (f k) (w k l))
    walk-steady (array most a) p x w =
        next-steady p.from count (λ d q y. elements d (d.word count_code p) q y) (count c)
        (item-steady 43 count_code (λ n. leb n most) p x count_bytes (inr refl))
        (λ q y e. behind q y (item-went 43 count_code (λ n. leb n most) p q x y e) (λ k r z. walk-steady a r z w))
        (λ d r z n. through-idle d r z n (d.word count_code p) (λ k q y. walk d a q y) (λ k l. walk-idle d r z n a w))
      where
        count : Codec → Step
        count d = item d 43 count_code (λ n. leb n most) p x

        elements : Codec → ℕ → Place → List ℕ → Step
        elements d n q y = through n (λ k r z. walk d a r z) q y

        behind : (q : Place) (y : List ℕ) → Behind count_code p q
            → ((k : ℕ) (r : Place) (z : List ℕ) → Steady r.from (λ d. walk d a r z) (walk c a r z))
            → Steady q.from (λ d. elements d (d.word count_code p) q y) (elements c (c.word count_code p) q y)
        behind q y h g =
            let l : (c.after count_code p).from ≤ q.from = omega (arith, ap (λ (o : Place). o.from) h.1) in
            steady-as q.from q.from (λ d. elements d (c.word count_code p) q y) (λ d. elements d (d.word count_code p) q y)
            (omega arith)
            (λ d b. ap (λ (n : ℕ). elements d n q y) (sym (b.same_word count_code p h.0 l)))
            (elements c (c.word count_code p) q y)
            (through-steady (c.word count_code p) (λ d k r z. walk d a r z) q y (λ k l r z. g k r z)
            (λ k l d r z n. walk-idle d r z n a w))
    walk-steady broken p x w = absurd w
