-- What the place at which a walk stopped says of its input: one law for reading and writing, over a walk of any type.
-- Assumes nothing.
use Prim.Native.Nat.{ℕ, ◌+◌, ◌≤◌, ◌<◌}
use mathlib.Core.Path.{◌≡◌, refl, sym, subst, ◌∙◌}
use mathlib.Core.Bool.{Bool, true, false, ◌&&◌}
use mathlib.Core.Logic.{◌⊎◌, inl, inr, ⊎_elim}
use mathlib.Core.List.{List, []}
use native.Mathlib.Omega.{arith}
use borrow.Author.Tests.{leb-true, leb-false, le-leb, lt-leb}
use lib.Dec.{leb}
use lib.ListN.{length, take}
use lib.Seq.{take-take}
use Rattle.wire.specs.Bytes.{written}
use Rattle.table.specs.Leaf.{width, allowed}
use Rattle.walk.specs.declared.Place.{Place}
use Rattle.walk.specs.Tree.{Tree}
use Rattle.walk.specs.Walk.{Step, on, stop, start, Codec, item, walk}
use Rattle.walk.proofs.Walks.{Holds, walk-holds}
use Rattle.values.proofs.Checked.{Whole}
use Rattle.promises.proofs.SameItems.{SameItems, Spent, Idle, item_missing, nearer, item-alike, Stuck, Steady, walk-steady}

-- codecs over a list, bytes or words: an item of a code takes so many of its elements, and what it is hangs on these alone
pub record Along (R : List ℕ → Codec) (size : ℕ → ℕ) (most : ℕ) : Type 0 where
  pub ends : (xs : List ℕ) (code : ℕ) (p : Place) → ((R xs).after code p).from ≡ p.from + size code
  pub held : (xs : List ℕ) (code : ℕ) (p : Place) → (R xs).there code p ≡ leb (p.from + size code) (length xs)
  pub some : (code : ℕ) → 1 ≤ width code → 1 ≤ size code
  pub few : (code : ℕ) → size code ≤ most
  pub same : (xs ys : List ℕ) (m : ℕ) → take m ys ≡ take m xs → SameItems (R xs) (R ys) m
  pub same_leaves : (xs ys : List ℕ) (p : Place) → (R ys).leaves p ≡ (R xs).leaves p
  pub one_leaf : (xs : List ℕ) (code : ℕ) (p : Place) → (R xs).leaves ((R xs).after code p) ≡ (R xs).leaves p + 1

-- an item that is there, and one at which a walk stopped, with a number by whether it is there
item_there : (c : Codec) (n code : ℕ) (ok : ℕ → Bool) (q : Place) (y : List ℕ) → c.there code q ≡ true
    → (item c n code ok q y ≡ stop n q y) ⊎ ((z : List ℕ) × (item c n code ok q y ≡ on (c.after code q) z))
unfolding item
item_there c n code ok q y e = go (allowed code (c.word code q) && ok (c.word code q)) refl
  where
    go : (b : Bool) → (allowed code (c.word code q) && ok (c.word code q)) ≡ b
        → (item c n code ok q y ≡ stop n q y) ⊎ ((z : List ℕ) × (item c n code ok q y ≡ on (c.after code q) z))
    go true g = inr (written y q.to (c.gives code (c.word code q)), rw (e, g) refl)
    go false g = inl (rw (e, g) refl)

abbrev ByNumber : Codec → ℕ → ℕ → Place → ℕ → Type 0
ByNumber c n code q k = ((k ≡ 40) × (c.there code q ≡ false)) ⊎ ((k ≡ n) × (c.there code q ≡ true))

item_stopped : (c : Codec) (n code : ℕ) (ok : ℕ → Bool) (q : Place) (y : List ℕ) (k : ℕ) → item c n code ok q y ≡ stop k q y
    → ByNumber c n code q k
unfolding item
item_stopped c n code ok q y k h = go (c.there code q) (allowed code (c.word code q) && ok (c.word code q)) refl refl
  where
    go : (a b : Bool) → c.there code q ≡ a → (allowed code (c.word code q) && ok (c.word code q)) ≡ b → ByNumber c n code q k
    go true true e g = let i = rw (e, g) at h in absurd (let z : ◌≡◌ {A = ℕ} 0 1 = cc in omega arith)
    go true false e g = let i = rw (e, g) at h in inr (cc, e)
    go false b e g = let i = rw e at h in inl (cc, e)

-- numbers of a walk's own
abbrev pub Own : ℕ → Type 0
Own k = (k ≡ 40) ⊎ ((k ≡ 42) ⊎ (k ≡ 43))

pub late : (n : ℕ) → (n ≡ 42) ⊎ (n ≡ 43) → n ≡ 40 → ⊥
late n d z = ⊎_elim (λ (e : n ≡ 42). omega arith) (λ (e : n ≡ 43). omega arith) d

-- a walk over an input that ends with an item, and goes over it: to the next place, where it is at its end or ends too early
pub record Further (R : List ℕ → Codec) (tr : Tree) (ys : List ℕ) (at leaves : ℕ) : Type 0 where
  pub next : Place
  pub left : List ℕ
  pub from_there : next.from ≡ at
  pub with_leaves : (R ys).leaves next ≡ leaves
  pub idle : Idle next left (walk (R ys) tr start [])

-- or it is refused for it
abbrev pub RefusedFor : (List ℕ → Codec) → Tree → List ℕ → Place → List ℕ → Type 0
RefusedFor R tr ys q y = (j : ℕ) × ((j ≡ 42) ⊎ (j ≡ 43)) × (walk (R ys) tr start [] ≡ stop j q y)

-- the item at which a walk stopped: what a walk over any input comes to that begins so
pub record ItemIn (R : List ℕ → Codec) (most : ℕ) (tr : Tree) (xs : List ℕ) (k : ℕ) (q : Place) (y : List ℕ) : Type 0 where
  pub size : ℕ
  pub some : 1 ≤ size
  pub few : size ≤ most
  pub inside : q.from ≤ length xs
  pub own : Own k
  pub cut_off : (ys : List ℕ) → take q.from ys ≡ take q.from xs → length ys < q.from + size
      → walk (R ys) tr start [] ≡ stop 40 q y
  pub one_more : (ys : List ℕ) → take q.from ys ≡ take q.from xs → length ys ≡ q.from + size
      → RefusedFor R tr ys q y ⊎ Further R tr ys (q.from + size) ((R ys).leaves q + 1)
  pub cut : k ≡ 40 → length xs < q.from + size
  pub whole : (k ≡ 40 → ⊥) → q.from + size ≤ length xs
  pub alike : (k ≡ 40 → ⊥) → (ys : List ℕ) → take (q.from + size) ys ≡ take (q.from + size) xs
      → walk (R ys) tr start [] ≡ stop k q y

module _ (R : List ℕ → Codec) (size : ℕ → ℕ) (most : ℕ) (a : Along R size most) (tr : Tree) (w : Whole tr) (xs : List ℕ) where
  abbrev Ends : Step → Type 0
  Ends = Steady (R xs) 0 (λ d. walk d tr start [])

  steady : Ends (walk (R xs) tr start [])
  steady = walk-steady (R xs) (λ code p. omega (arith, a.ends xs code p)) tr start [] w

  -- a walk comes to no place behind the input
  abbrev Inside : Step → Type 0
  Inside = Holds (λ q y. q.from ≤ length xs)

  inside : Inside (walk (R xs) tr start [])
  inside = walk-holds (λ q y. q.from ≤ length xs) (R xs) over tr start [] (omega arith)
    where
      over : (code : ℕ) (p : Place) (x : List ℕ) → (R xs).there code p ≡ true → allowed code ((R xs).word code p) ≡ true
          → p.from ≤ length xs → ((R xs).after code p).from ≤ length xs
      over code p x e ok l =
          let h : p.from + size code ≤ length xs = leb-true (p.from + size code) (length xs) (sym (a.held xs code p) ∙ e) in
          omega (arith, a.ends xs code p)

  pub went-there : (q : Place) (y : List ℕ) → walk (R xs) tr start [] ≡ on q y → walk (R (take q.from xs)) tr start [] ≡ on q y
  went-there q y e =
      let s : Ends (on q y) = subst Ends e steady in
      let ys : List ℕ = take q.from xs in
      s.1 (R ys) (a.same xs ys q.from (take-take q.from q.from xs (omega arith)))

  pub stopped-there : (k : ℕ) (q : Place) (y : List ℕ) → walk (R xs) tr start [] ≡ stop k q y → ItemIn R most tr xs k q y
  stopped-there k q y e =
      record {
        size = m;
        some = a.some s.code s.some;
        few = a.few s.code;
        inside = subst Inside e inside;
        own = ⊎_elim (λ h. inl h.0) (λ h. inr (⊎_elim (λ n. inl (h.0 ∙ n)) (λ n. inr (h.0 ∙ n)) s.known)) number;
        cut_off = cut_off;
        one_more = one_more;
        cut = λ z. leb-false (q.from + m) (length xs) (sym (a.held xs s.code q) ∙ missing z);
        whole = λ n. leb-true (q.from + m) (length xs) (sym (a.held xs s.code q) ∙ there n);
        alike = alike;
      }
    where
      s : Stuck (R xs) (λ d. walk d tr start []) k q y
      s = let h : Ends (stop k q y) = subst Ends e steady in h.1

      m : ℕ
      m = size s.code

      number : ByNumber (R xs) s.number s.code q k
      number = item_stopped (R xs) s.number s.code s.ok q y k s.here

      missing : k ≡ 40 → (R xs).there s.code q ≡ false
      missing z = ⊎_elim (λ h. h.1) (λ h. absurd (late s.number s.known (sym h.0 ∙ z))) number

      there : (k ≡ 40 → ⊥) → (R xs).there s.code q ≡ true
      there n = ⊎_elim (λ h. absurd (n h.0)) (λ h. h.1) number

      cut_off : (ys : List ℕ) → take q.from ys ≡ take q.from xs → length ys < q.from + m
          → walk (R ys) tr start [] ≡ stop 40 q y
      cut_off ys h l =
          s.likewise (R ys) (a.same xs ys q.from h) 40
          (item_missing (R ys) s.number s.code s.ok q y (a.held ys s.code q ∙ lt-leb (q.from + m) (length ys) l))

      one_more : (ys : List ℕ) → take q.from ys ≡ take q.from xs → length ys ≡ q.from + m
          → RefusedFor R tr ys q y ⊎ Further R tr ys (q.from + m) ((R ys).leaves q + 1)
      one_more ys h l =
          let c : SameItems (R xs) (R ys) q.from = a.same xs ys q.from h in
          let r : Place = (R ys).after s.code q in
          let u : r.from ≡ q.from + m = a.ends ys s.code q in
          let spent : Spent (R ys) r =
          λ code w. a.held ys code r ∙ lt-leb (r.from + size code) (length ys) (omega (arith, a.some code w)) in
          let there-is : (R ys).there s.code q ≡ true = a.held ys s.code q ∙ le-leb (q.from + m) (length ys) (omega arith) in
          ⊎_elim
          (λ e. inl (s.number, s.known, s.likewise (R ys) c s.number e))
          (λ e. inr (record {
            next = r;
            left = e.0;
            from_there = u;
            with_leaves = a.one_leaf ys s.code q;
            idle = s.onward (R ys) c r e.0 e.1 spent;
          }))
          (item_there (R ys) s.number s.code s.ok q y there-is)

      alike : (k ≡ 40 → ⊥) → (ys : List ℕ) → take (q.from + m) ys ≡ take (q.from + m) xs → walk (R ys) tr start [] ≡ stop k q y
      alike n ys h =
          let c : SameItems (R xs) (R ys) (q.from + m) = a.same xs ys (q.from + m) h in
          let l : ((R xs).after s.code q).from ≤ q.from + m = omega (arith, a.ends xs s.code q) in
          s.likewise (R ys) (nearer (R xs) (R ys) q.from (q.from + m) (omega arith) c) k
          (item-alike (R xs) (R ys) s.number s.code s.ok q y (there n)
          (nearer (R xs) (R ys) ((R xs).after s.code q).from (q.from + m) l c) ∙ s.here)
