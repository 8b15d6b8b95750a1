-- A walk's two loops, over the members of a record and over the elements of an array, whatever is read and written: a turn of
-- them, and how they end.
-- Assumes nothing.
use Prim.Native.Nat.{ℕ, ◌+◌, ◌≤◌, ◌<◌}
use mathlib.Core.Path.{◌≡◌, refl, sym, ap, ap₂, ◌∙◌}
use mathlib.Core.Bool.{Bool, true, false, ◌&&◌}
use mathlib.Core.Logic.{◌⊎◌, ⊎_elim}
use mathlib.Core.List.{List}
use native.Mathlib.Omega.{arith}
use borrow.Author.Tests.{leb-true}
use lib.Dec.{leb, eqb}
use lib.ListN.{length}
use Rattle.wire.specs.Bytes.{written}
use Rattle.wire.proofs.Cond.{and_right}
use Rattle.wire.proofs.Runs.{length_written}
use Rattle.table.specs.declared.Sections.{Sections}
use Rattle.table.specs.declared.Entry.{Entry}
use Rattle.table.specs.Leaf.{allowed}
use Rattle.walk.specs.declared.Place.{Place}
use Rattle.walk.specs.declared.Met.{Met}
use Rattle.walk.specs.declared.Met.TheVariants.{Leaf, Members, Elements, Broken}
use Rattle.walk.specs.declared.Walked.{Walked}
use Rattle.walk.specs.declared.Walked.TheVariants.{Went, Stopped}
use Rattle.walk.specs.Tree.{Tree, meet}
use Rattle.walk.specs.Walk.{Step, on, left, through, Codec, item, counted, count_code, walk, begun, times, leaf_walk, Going}
use Rattle.walk.specs.Planned.{is_planned, tree_by, trees_by, child_by, walk_by}
use Rattle.walk.proofs.Walks.{went, through-none, Holds, walk-holds, begun-holds}
use Rattle.walk.proofs.Trees.{child_met}
use Rattle.walk.proofs.Returns.{Did, item-short, item-bad, met-leaf, met-members, met-elements, met-broken}
use Rattle.walk.proofs.Returns.{loop-next, loop-stop, loop-done, member_step, element_step, members-did, elements-did, kept-length, kept_on}

-- a place that P says and a list that is as long
abbrev pub Within : (Place → Type 0) → List ℕ → Place → List ℕ → Type 0
Within P x q y = P q × (length y ≡ length x)

-- a walk that starts at a place that P says keeps to such places
pub record Keeps (w : Codec) (P : Place → Type 0) : Type 0 where
  pub walks : (tr : Tree) (p : Place) (x : List ℕ) → P p → Holds (Within P x) (walk w tr p x)
  pub begins : (e : Entry) (p : Place) (x : List ℕ) → P p → Holds (Within P x) (begun w e p x)

pub keeps : (w : Codec) (P : Place → Type 0)
    → ((code : ℕ) (p : Place) → w.there code p ≡ true → allowed code (w.word code p) ≡ true → P p → P (w.after code p)) → Keeps w P
keeps w P over =
    record {
      walks = λ tr p x h. walk-holds (Within P x) w (within x) tr p x (h, refl);
      begins = λ e p x h. begun-holds (Within P x) w (within x) e p x (h, refl);
    }
  where
    within : (x : List ℕ) (code : ℕ) (q : Place) (y : List ℕ) → w.there code q ≡ true → allowed code (w.word code q) ≡ true → Within P x q y
        → Within P x (w.after code q) (written y q.to (w.gives code (w.word code q)))
    within x code q y e a h = (over code q e a h.0, length_written y q.to (w.gives code (w.word code q)) ∙ h.1)

-- what a walk writes into stays as long
pub met_long : {w : Codec} {P : Place → Type 0} (ps t : List ℕ) (s : Sections) (i : ℕ) (m : Met) (p : Place) (x : List ℕ) (r : Walked)
    (y : List ℕ) → Keeps w P → P p → Did (walk_by w ps t s i m p x) r y → length y ≡ length x
unfolding walk_by
met_long {w} {P} ps t s i m p x r y k h d =
    kept-length P (length x) (walk w (tree_by ps t s i (trees_by ps t s i) m) p x) (k.walks (tree_by ps t s i (trees_by ps t s i) m) p x h) r y d

-- where the elements of an array begin
pub begun_here : {w : Codec} {P : Place → Type 0} (e : Entry) (p : Place) (x : List ℕ) (r : Walked) (y : List ℕ) (q : Place) → Keeps w P → P p
    → Did (begun w e p x) r y → r ≡ Went q → P q
begun_here {w} {P} e p x r y q k h d g = kept_on P (length x) (begun w e p x) (k.begins e p x h) r y d q g

-- and no more of them than its entry allows
pub times_few : (w : Codec) (e : Entry) (p : Place) (x : List ℕ) (r : Walked) (y : List ℕ) (q : Place) → Did (begun w e p x) r y → r ≡ Went q
    → times w e p ≤ e.count
unfolding begun times counted item
times_few w e p x r y q d g = go (eqb e.kind 3) refl (left (begun w e p x)) (went (begun w e p x) q (sym g ∙ d.0))
  where
    counts : (a b : Bool) → w.there count_code p ≡ a → (allowed count_code (w.word count_code p) && leb (w.word count_code p) e.count) ≡ b
        → (z : List ℕ) → counted w e.count p x ≡ on q z → w.word count_code p ≤ e.count
    counts true true t k z h =
        leb-true (w.word count_code p) e.count (and_right (allowed count_code (w.word count_code p)) (leb (w.word count_code p) e.count) k)
    counts true false t k z h = let o : ◌≡◌ {A = ℕ} 0 1 = cc (item-bad w 43 count_code (λ n. leb n e.count) p x t k) in absurd (omega arith)
    counts false b t k z h = let o : ◌≡◌ {A = ℕ} 0 1 = cc (item-short w 43 count_code (λ n. leb n e.count) p x t) in absurd (omega arith)

    go : (u : Bool) → eqb e.kind 3 ≡ u → (z : List ℕ) → begun w e p x ≡ on q z → times w e p ≤ e.count
    go true h z b = rw h (omega arith)
    go false h z b =
        rw h (counts (w.there count_code p) (allowed count_code (w.word count_code p) && leb (w.word count_code p) e.count) refl refl z (rw h at b))

-- one of four
pub of_four : {A B C D X : Type 0} → (A → X) → (B → X) → (C → X) → (D → X) → A ⊎ (B ⊎ (C ⊎ D)) → X
of_four a b c d w = ⊎_elim a (⊎_elim b (⊎_elim c d)) w

-- a step over a child, by what was met there, as it leaves the match
module _ (w : Codec) (ps t : List ℕ) (s : Sections) (i c d : ℕ) (is : c ≡ d) (p : Place) (x : List ℕ) (m : Met) (meets : m ≡ meet t s i c) where
  child-is : child_by ps t s i d ≡ tree_by ps t s c (trees_by ps t s c) m
  child-is = ap (child_by ps t s i) (sym is) ∙ child_met ps t s i c m meets

  pub leaf-stepped : (e : Entry) (v r : Walked) (z y : List ℕ) → m ≡ Leaf e → Did (leaf_walk w t s e p x) v z → y ≡ z → r ≡ v
      → Did (walk w (child_by ps t s i d) p x) r y
  leaf-stepped e v r z y h g a b = met-leaf w ps t s c (child_by ps t s i d) p x m child-is e r y h (b ∙ g.0) (a ∙ g.1)

  pub members-stepped : (e : Entry) (v r : Walked) (z y : List ℕ) → m ≡ Members e → Did (walk_by w ps t s c (Members e) p x) v z → y ≡ z → r ≡ v
      → Did (walk w (child_by ps t s i d) p x) r y
  members-stepped e v r z y h g a b = met-members w ps t s c (child_by ps t s i d) p x m child-is e r y h (b ∙ g.0) (a ∙ g.1)

  pub elements-stepped : (e : Entry) (v r : Walked) (z y : List ℕ) → m ≡ Elements e → Did (walk_by w ps t s c (Elements e) p x) v z → y ≡ z
      → r ≡ v → Did (walk w (child_by ps t s i d) p x) r y
  elements-stepped e v r z y h g a b = met-elements w ps t s c (child_by ps t s i d) p x m child-is e r y h (b ∙ g.0) (a ∙ g.1)

  pub broken-stepped : (r : Walked) (y : List ℕ) → m ≡ Broken → y ≡ x → r ≡ Stopped 32 p → Did (walk w (child_by ps t s i d) p x) r y
  broken-stepped r y h a b = let g = met-broken w ps t s c (child_by ps t s i d) p x m child-is h in (b ∙ g.0, a ∙ g.1)

-- a turn
module _ {P : Place → Type 0} {f : ℕ → Place → List ℕ → Step} {n k : ℕ} {p : Place} {x : List ℕ} {m : ℕ} {q : Place} {y : List ℕ}
    (g : Going P f n k p x m q y) where
  pub going_on : {j : ℕ} {o : Place} {z : List ℕ} → Going P f n m q y j o z → Going P f n k p x j o z
  going_on h =
      record {
        onward = omega (arith, g.onward, h.onward);
        most = h.most;
        here = h.here;
        as_long = h.as_long ∙ g.as_long;
        goes = λ p₀ x₀ so_far. h.goes p₀ x₀ (g.goes p₀ x₀ so_far);
      }

  pub going_next : (r : Walked) (z : List ℕ) (o : Place) → Holds (Within P y) (f m q y) → m < n → Did (f m q y) r z → r ≡ Went o
      → Going P f n k p x (m + 1) o z
  going_next r z o kept less d e =
      record {
        onward = omega (arith, g.onward);
        most = omega arith;
        here = kept_on P (length y) (f m q y) kept r z d o e;
        as_long = kept-length P (length y) (f m q y) kept r z d ∙ g.as_long;
        goes = λ p₀ x₀ so_far. loop-next f p₀ x₀ m q y (g.goes p₀ x₀ so_far) r z o d e;
      }

-- where nothing is walked yet
pub going_start : {P : Place → Type 0} {f : ℕ → Place → List ℕ → Step} {n k : ℕ} {p : Place} {x : List ℕ} → k ≤ n → P p → Going P f n k p x k p x
going_start l h = record { onward = omega arith; most = l; here = h; as_long = refl; goes = λ p₀ x₀ so_far. so_far }

-- from the first step on
pub from_first : {P : Place → Type 0} {f : ℕ → Place → List ℕ → Step} {n : ℕ} {p : Place} {x : List ℕ} {m : ℕ} {q : Place} {y : List ℕ} → m ≤ n
    → P q → length y ≡ length x → through m f p x ≡ on q y → Going P f n 0 p x m q y
from_first {P} {f} {n} {p} {x} {m} {q} {y} l h s g =
    record {
      onward = omega arith;
      most = l;
      here = h;
      as_long = s;
      goes = λ p₀ x₀ so_far. same_start f p x p₀ x₀ m (sym so_far ∙ through-none f p₀ x₀) ∙ g;
    }
  where
    same_start : (f : ℕ → Place → List ℕ → Step) (p : Place) (x : List ℕ) (p₀ : Place) (x₀ : List ℕ) (m : ℕ) → on p x ≡ on p₀ x₀
        → through m f p₀ x₀ ≡ through m f p x
    same_start f p x p₀ x₀ m e = ap₂ (through m f) (cc) (cc)

-- how the members end
module _ {P : Place → Type 0} (w : Codec) (ps t : List ℕ) (s : Sections) (i : ℕ) (e : Entry) {u : Bool} (is : u ≡ is_planned ps i) (no : u ≡ false)
    {p : Place} {x : List ℕ} {m : ℕ} {q : Place} {y : List ℕ} (g : Going P (member_step w ps t s i e) e.count 0 p x m q y) where
  pub members-done : e.count ≤ m → Did (walk_by w ps t s i (Members e) p x) (Went q) y
  members-done l =
      let f = member_step w ps t s i e in
      members-did w ps t s i e is no p x (Went q) y (loop-done f p x m q y (g.goes p x (through-none f p x)) e.count g.most l)

  pub members-stop : (r : Walked) (z : List ℕ) (n : ℕ) (o : Place) → m < e.count → Did (member_step w ps t s i e m q y) r z → r ≡ Stopped n o
      → Did (walk_by w ps t s i (Members e) p x) (Stopped n o) z
  members-stop r z n o l d h =
      let f = member_step w ps t s i e in
      members-did w ps t s i e is no p x (Stopped n o) z (loop-stop f p x m q y (g.goes p x (through-none f p x)) r z n e.count o d h l)

-- how the elements end, behind what began them
module _ {P : Place → Type 0} (w : Codec) (ps t : List ℕ) (s : Sections) (i : ℕ) (e : Entry) {u : Bool} (is : u ≡ is_planned ps i) (no : u ≡ false)
    (p : Place) (x : List ℕ) (b : Walked)
    {p₀ : Place} {x₀ : List ℕ} (begins : Did (begun w e p x) b x₀) (went : b ≡ Went p₀) {n : ℕ} (many : n ≡ times w e p) {m : ℕ} {q : Place}
    {y : List ℕ} (g : Going P (element_step w ps t s i e.of) n 0 p₀ x₀ m q y) where
  pub elements-done : n ≤ m → Did (walk_by w ps t s i (Elements e) p x) (Went q) y
  elements-done l =
      let f = element_step w ps t s i e.of in
      elements-did w ps t s i e is no p x b x₀ begins p₀ n (Went q) y went many (loop-done f p₀ x₀ m q y (g.goes p₀ x₀ (through-none f p₀ x₀)) n g.most l)

  pub elements-stop : (r : Walked) (z : List ℕ) (c : ℕ) (o : Place) → m < n → Did (element_step w ps t s i e.of m q y) r z → r ≡ Stopped c o
      → Did (walk_by w ps t s i (Elements e) p x) (Stopped c o) z
  elements-stop r z c o l d h =
      let f = element_step w ps t s i e.of in
      elements-did w ps t s i e is no p x b x₀ begins p₀ n (Stopped c o) z went many
      (loop-stop f p₀ x₀ m q y (g.goes p₀ x₀ (through-none f p₀ x₀)) r z c n o d h l)
