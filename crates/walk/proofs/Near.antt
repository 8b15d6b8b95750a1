-- What a walk that goes writes is the same wherever it is written: so it can be walked over a room that is near, and copied.
-- Assumes nothing.
use Prim.Native.Nat.{ℕ, zero, suc, ◌+◌, ◌≤◌}
use mathlib.Core.Path.{◌≡◌, refl, sym, ap, ◌∙◌}
use mathlib.Core.Bool.{Bool, true, false, ◌&&◌}
use mathlib.Core.List.{List, [], ◌++◌}
use native.Mathlib.Nat.{zero-add}
use native.Mathlib.Omega.{arith}
use lib.Dec.{leb}
use lib.ListN.{length, take, length-append}
use Rattle.wire.specs.Bytes.{over, written}
use Rattle.wire.proofs.Cond.{and_left}
use Rattle.wire.proofs.Runs.{over_over, over_none, over_through, length_over, written_in}
use Rattle.table.specs.Leaf.{allowed}
use Rattle.walk.specs.declared.Place.{Place}
use Rattle.walk.specs.Tree.{Tree, leaf, row, array, broken}
use Rattle.walk.specs.declared.Walked.{Walked}
use Rattle.walk.specs.declared.Walked.TheVariants.{Went}
use Rattle.walk.specs.Walk.{Step, on, stop, answer, left, next, through, Codec, item, counted, count_code, start, walk}
use Rattle.walk.specs.Whole.{fits}
use Rattle.walk.proofs.Returns.{item-short, item-bad, item_on}
use Rattle.walk.proofs.Walks.{went, walk_same}
use Rattle.walk.proofs.Whole.{Gives, room_for, all_stored}

-- a walk from p over any list that has room for it goes to q, and writes these
pub record Writes (w : List ℕ → Step) (p q : Place) : Type 0 where
  pub ys : List ℕ
  pub to_there : q.to ≡ p.to + length ys
  pub goes : (z : List ℕ) → q.to ≤ length z → w z ≡ on q (over z p.to ys)

-- a walk that went on past one thing and another went on past each
pub record Between (a : Step) (f : Place → List ℕ → Step) (q : Place) (y : List ℕ) : Type 0 where
  pub r : Place
  pub z : List ℕ
  pub one : a ≡ on r z
  pub two : f r z ≡ on q y

pub between : (a : Step) (f : Place → List ℕ → Step) (q : Place) (y : List ℕ) → next a f ≡ on q y → Between a f q y
unfolding next
between (on r z) f q y h = record { r = r; z = z; one = refl; two = h }
between (stop n r z) f q y h = absurd (let v : ◌≡◌ {A = ℕ} 0 1 = cc in omega arith)

none_writes : (p : Place) → Writes (λ z. on p z) p p
none_writes p =
    record {
      ys = [];
      to_there = omega arith;
      goes = λ z h. ap (λ (u : List ℕ). on p u) (over_none z p.to []);
    }

next_writes : (a : List ℕ → Step) (f : Place → List ℕ → Step) (p r q : Place) → Writes a p r → Writes (λ z. f r z) r q
    → Writes (λ z. next (a z) f) p q
unfolding next
next_writes a f p r q g h =
    let l : length (g.ys ++ h.ys) ≡ length g.ys + length h.ys = length-append g.ys h.ys in
    let m : r.to ≡ p.to + length g.ys = g.to_there in
    let n : q.to ≡ r.to + length h.ys = h.to_there in
    record {
      ys = g.ys ++ h.ys;
      to_there = omega arith;
      goes = λ z k.
          let e : length (over z p.to g.ys) ≡ length z = length_over z p.to g.ys (omega arith) in
          ap (λ (st : Step). next st f) (g.goes z (omega arith))
          ∙ h.goes (over z p.to g.ys) (omega arith)
          ∙ ap (λ (j : ℕ). on q (over (over z p.to g.ys) j h.ys)) m
          ∙ ap (λ (u : List ℕ). on q u) (over_over z p.to g.ys h.ys (omega arith));
    }

through_writes : (n : ℕ) (f : ℕ → Place → List ℕ → Step) → ((k : ℕ) (p q : Place) (x y : List ℕ) → f k p x ≡ on q y → Writes (λ z. f k p z) p q)
    → (p q : Place) (x y : List ℕ) → through n f p x ≡ on q y → Writes (λ z. through n f p z) p q
unfolding through
through_writes zero f g p q x y h = let e : p ≡ q = cc in rw (← e) (none_writes p)
through_writes (suc n) f g p q x y h =
    let b : Between (through n f p x) (f n) q y = between (through n f p x) (f n) q y h in
    next_writes (λ z. through n f p z) (f n) p b.r q (through_writes n f g p b.r x b.z b.one) (g n b.r q b.z y b.two)

-- of a codec that moves on by as much as it gives
module _ (c : Codec) (moves : (code : ℕ) (p : Place) → c.there code p ≡ true → allowed code (c.word code p) ≡ true → (c.after code p).to
    ≡ p.to + length (c.gives code (c.word code p))) where
  item-writes : (n code : ℕ) (ok : ℕ → Bool) (p q : Place) (x y : List ℕ) → item c n code ok p x ≡ on q y → Writes (λ z. item c n code ok p z) p q
  item-writes n code ok p q x y h = go (c.there code p) (allowed code w && ok w) refl refl
    where
      w : ℕ
      w = c.word code p

      go : (a b : Bool) → c.there code p ≡ a → (allowed code w && ok w) ≡ b → Writes (λ z. item c n code ok p z) p q
      go true true e g =
          let m : on (c.after code p) (written x p.to (c.gives code w)) ≡ on q y = sym (item_on c n code ok p x e g) ∙ h in
          let i : c.after code p ≡ q = cc in
          let t : q.to ≡ p.to + length (c.gives code w) =
          ap (λ (o : Place). o.to) (sym i) ∙ moves code p e (and_left (allowed code w) (ok w) g) in
          record {
            ys = c.gives code w;
            to_there = t;
            goes = λ z k.
                item_on c n code ok p z e g
                ∙ ap (λ (o : Place). on o (written z p.to (c.gives code w))) i
                ∙ ap (λ (u : List ℕ). on q u) (written_in z p.to (c.gives code w) (omega arith));
          }
      go true false e g = absurd (let m : stop n p x ≡ on q y = sym (item-bad c n code ok p x e g) ∙ h in let v : ◌≡◌ {A = ℕ} 0 1 = cc in omega arith)
      go false b e g = absurd (let m : stop 40 p x ≡ on q y = sym (item-short c n code ok p x e) ∙ h in let v : ◌≡◌ {A = ℕ} 0 1 = cc in omega arith)

  pub walk-writes : (tr : Tree) (p q : Place) (x y : List ℕ) → walk c tr p x ≡ on q y → Writes (λ z. walk c tr p z) p q
  unfolding walk counted
  walk-writes (leaf code ok) p q x y h = item-writes 42 code ok p q x y h
  walk-writes (row n f) p q x y h = through_writes n (λ k o u. walk c (f k) o u) (λ k o r u v g. walk-writes (f k) o r u v g) p q x y h
  walk-writes (array most a) p q x y h =
      let n : ℕ = c.word count_code p in
      let f : Place → List ℕ → Step = λ o u. through n (λ k r z. walk c a r z) o u in
      let b : Between (item c 43 count_code (λ w. leb w most) p x) f q y = between (item c 43 count_code (λ w. leb w most) p x) f q y h in
      next_writes (λ z. item c 43 count_code (λ w. leb w most) p z) f p b.r q
      (item-writes 43 count_code (λ w. leb w most) p b.r x b.z b.one)
      (through_writes n (λ k r z. walk c a r z) (λ k o r u v g. walk-writes a o r u v g) b.r q b.z y b.two)
  walk-writes broken p q x y h = absurd (let v : ◌≡◌ {A = ℕ} 0 1 = cc in omega arith)

  -- a walk over a near room u, which all that it writes has room in: what it wrote there, copied, is what it writes into x
  module _ (n : ℕ) (tr : Tree) (x u : List ℕ) (w : Walked) (first : w ≡ answer (walk c tr start u)) where
    pub as_first : w ≡ answer (walk c tr start [])
    as_first = first ∙ walk_same c tr start u []

    pub near-stored : (q : Place) → w ≡ Went q → (b : Bool) → b ≡ fits n (length x) q → b ≡ true → q.to ≤ length u → (l z : List ℕ) → l
        ≡ left (walk c tr start u) → z ≡ over x 0 (take q.to l) → Gives c n tr x (Went q) z
    unfolding answer left
    near-stored q h b is e r l z g d =
        let k : Writes (λ y. walk c tr start y) start q =
        walk-writes tr start q u (left (walk c tr start u)) (went (walk c tr start u) q (sym h ∙ first)) in
        let i : q.to ≡ length k.ys = k.to_there ∙ zero-add (length k.ys) in
        let m : walk c tr start x ≡ on q (over x 0 k.ys) = k.goes x (room_for n (length x) q b is q.to e refl) in
        let o : l ≡ over u 0 k.ys = g ∙ ap left (k.goes u r) in
        let s : z ≡ over x 0 k.ys = over_through u x 0 k.ys o (d ∙ ap (λ (j : ℕ). over x 0 (take j l)) i) in
        all_stored c n tr x w as_first x refl q h b is (Went q) z e (ap answer (sym m)) (s ∙ ap left (sym m))
