-- The words of runs stored up to the word at which the walk over them came to its end: they are what that walk leaves.
-- Assumes nothing.
use Prim.Native.Nat.{ℕ, zero, suc, min, ◌+◌, ◌-◌, ◌*◌, ◌≤◌, ◌<◌}
use mathlib.Core.Path.{◌≡◌, refl, sym, ap, ap₂, subst, ◌∙◌}
use mathlib.Core.Bool.{Bool, true, false, ◌&&◌}
use mathlib.Core.List.{List, []}
use mathlib.Core.Logic.{⊎_elim}
use native.Mathlib.Nat.{eq-or-lt_of_le, zero-mul, add-zero, suc-mul}
use native.Mathlib.Omega.{arith}
use lib.Dec.{leb}
use lib.ListN.{length, get_or}
use Rattle.table.specs.Leaf.{width, allowed}
use Rattle.leaf.specs.Forms.{word_at}
use Rattle.walk.specs.declared.Place.{Place}
use Rattle.walk.specs.declared.Walked.{Walked}
use Rattle.walk.specs.Tree.{Tree, row}
use Rattle.walk.specs.Runs.{code_in, many_in, taken_by, run_tree, runs_tree}
use Rattle.walk.specs.Walk.{Step, on, stop, answer, left, next, through, walk}
use Rattle.walk.proofs.Walks.{Holds, through-stop, walk-holds, walk_same}
use Rattle.walk.proofs.Returns.{item-short, item-bad, item_on}
use Rattle.unpack_leaves.specs.Leaves.{behind, stored}
use Rattle.unpack_leaves.specs.OneCode.{along, filled}
use Rattle.unpack.specs.Reading.{reader, Reading}
use Rattle.unpack.specs.RunByRun.{leaf_read, run_read, words_of, place_at, stored_upto, Within}
use Rattle.unpack_leaves.proofs.OneCode.{no-room-left}
use Rattle.unpack.proofs.ReadReturns.{reader_keeps}
use Rattle.unpack.proofs.GoodRuns.{run_is}
use Rattle.unpack.proofs.LeafByLeaf.{runs_are}

-- what a walk over n leaves of a run came to: all of them are read, or so many
pub data Came (b : List ℕ) (code : ℕ) (q : Place) (y : List ℕ) (n : ℕ) (st : Step) : Type 0 where
  whole : st ≡ on (along code q n) (filled b code q n y) → Came b code q y n st
  cut : (m k : ℕ) → m < n → st ≡ stop k (along code q m) (filled b code q m y) → Came b code q y n st

data One (b : List ℕ) (code : ℕ) (q : Place) (y : List ℕ) (st : Step) : Type 0 where
  read : st ≡ on (behind code q) (stored b code q y) → One b code q y st
  refused : (k : ℕ) → st ≡ stop k q y → One b code q y st

along_none : (code : ℕ) (q : Place) → along code q 0 ≡ q
along_none code q = rw (zero-mul (width code), add-zero q.from, add-zero q.to) refl

module _ (b t : List ℕ) (run : ℕ) where
  one_leaf : (k : ℕ) (q : Place) (y : List ℕ) → One b (code_in run) q y (leaf_read b t run k q y)
  unfolding reader
  one_leaf k q y = go (leb (q.from + width c) (length b)) (allowed c (word_at c b q.from) && taken_by t run (word_at c b q.from)) refl refl
    where
      c : ℕ
      c = code_in run

      go : (u v : Bool) → leb (q.from + width c) (length b) ≡ u → (allowed c (word_at c b q.from) && taken_by t run (word_at c b q.from)) ≡ v
          → One b (code_in run) q y (leaf_read b t run k q y)
      go true true e h = read (item_on (reader b) 42 (code_in run) (taken_by t run) q y e h)
      go true false e h = refused 42 (item-bad (reader b) 42 (code_in run) (taken_by t run) q y e h)
      go false v e h = refused 40 (item-short (reader b) 42 (code_in run) (taken_by t run) q y e)

  module _ (q : Place) (y : List ℕ) where
    one_more : (n : ℕ) → on (behind (code_in run) (along (code_in run) q n)) (filled b (code_in run) q (suc n) y)
        ≡ on (along (code_in run) q (suc n)) (filled b (code_in run) q (suc n) y)
    one_more n =
        let a : n * width (code_in run) + width (code_in run) ≡ suc n * width (code_in run) = sym (suc-mul n (width (code_in run))) in
        let u : q.from + n * width (code_in run) + width (code_in run) ≡ q.from + suc n * width (code_in run) = omega arith in
        let v : q.to + n + 1 ≡ q.to + suc n = omega arith in
        ap₂ (λ (i j : ℕ). on (record { from = i; to = j }) (filled b (code_in run) q (suc n) y)) u v

    came : (n : ℕ) → Came b (code_in run) q y n (through n (leaf_read b t run) q y)
    unfolding through next filled
    came zero = whole (ap (λ (o : Place). on o y) (sym (along_none (code_in run) q)))
    came (suc n) = go (came n)
      where
        f : ℕ → Place → List ℕ → Step
        f = leaf_read b t run

        one : through n f q y ≡ on (along (code_in run) q n) (filled b (code_in run) q n y)
            → One b (code_in run) (along (code_in run) q n) (filled b (code_in run) q n y) (f n (along (code_in run) q n) (filled b (code_in run) q n y))
            → Came b (code_in run) q y (suc n) (through (suc n) f q y)
        one e (read h) = whole (ap (λ (st : Step). next st (f n)) e ∙ h ∙ one_more n)
        one e (refused k h) = cut n k (omega arith) (ap (λ (st : Step). next st (f n)) e ∙ h)

        go : Came b (code_in run) q y n (through n f q y) → Came b (code_in run) q y (suc n) (through (suc n) f q y)
        go (whole e) = one e (one_leaf n (along (code_in run) q n) (filled b (code_in run) q n y))
        go (cut m k l e) = cut m k (omega arith) (ap (λ (st : Step). next st (f n)) e)

    pub run-came : Came b (code_in run) q y (many_in run) (walk (reader b) (run_tree t run) q y)
    run-came = subst (Came b (code_in run) q y (many_in run)) (sym (run_is t b run q y)) (came (many_in run))

-- a walk gives more and more words
module _ (b : List ℕ) where
  no-fewer : (tr : Tree) (q : Place) (y : List ℕ) → q.to ≤ words_of (answer (walk (reader b) tr q y))
  unfolding reader answer words_of
  no-fewer tr q y =
      go (walk (reader b) tr q y) (walk-holds (λ o z. q.to ≤ o.to) (reader b) (λ code p x e a h. omega (arith, h)) tr q y (omega arith))
    where
      go : (st : Step) → Holds (λ o z. q.to ≤ o.to) st → q.to ≤ words_of (answer st)
      go (on p x) h = h
      go (stop n p x) h = h

  module _ (t runs : List ℕ) (p : Place) (x : List ℕ) where
    abbrev walked : ℕ → Step
    walked k = through k (run_read b t runs) p x

    next-words : (k : ℕ) (st : Step) → words_of (answer st) ≤ words_of (answer (next st (run_read b t runs k)))
    unfolding next answer words_of
    next-words k (on q y) = no-fewer (run_tree t (get_or runs k 0)) q y
    next-words k (stop n q y) = omega arith

    more-words : (n k : ℕ) → k ≤ n → words_of (answer (walked k)) ≤ words_of (answer (walked n))
    unfolding through
    more-words zero k l = let e : k ≡ 0 = omega arith in rw e (omega arith)
    more-words (suc n) k l =
        ⊎_elim
        (λ (e : k ≡ suc n). rw e (omega arith))
        (λ (h : k < suc n). omega (arith, more-words n k (omega arith), next-words n (walked n)))
        (eq-or-lt_of_le l)

-- how many leaves of a run stand before the last word
module _ (m a u : ℕ) where
  all-before : a + m ≤ u → m ≡ min m (u - a)
  all-before h = omega arith

  some-before : (j : ℕ) → j < m → u ≡ a + j → j ≡ min m (u - a)
  some-before j h e = omega arith

  none_before : a ≡ u → 0 ≡ min m (u - a)
  none_before e = omega arith

-- behind so many runs the walk stands where storing stands, or has ended there
data Stands (b t runs : List ℕ) (p : Place) (x : List ℕ) (upto k : ℕ) : Type 0 where
  goes_on : through k (run_read b t runs) p x ≡ on (place_at runs p upto k) (stored_upto b runs p upto k x) → Stands b t runs p x upto k
  ended : (m : ℕ) → through k (run_read b t runs) p x ≡ stop m (place_at runs p upto k) (stored_upto b runs p upto k x) → (place_at runs p upto k).to ≡ upto
      → Stands b t runs p x upto k

module _ (b t runs : List ℕ) (p : Place) (x : List ℕ) (n upto : ℕ) (end : upto ≡ words_of (answer (through n (run_read b t runs) p x))) where
  stands : (k : ℕ) → k ≤ n → Stands b t runs p x upto k
  unfolding through next place_at stored_upto answer words_of filled
  stands zero l = goes_on refl
  stands (suc k) l = go (stands k (omega arith))
    where
      f : ℕ → Place → List ℕ → Step
      f = run_read b t runs

      q : Place
      q = place_at runs p upto k

      y : List ℕ
      y = stored_upto b runs p upto k x

      c : ℕ
      c = code_in (get_or runs k 0)

      m : ℕ
      m = many_in (get_or runs k 0)

      step : through k f p x ≡ on q y → Came b c q y m (f k q y) → Stands b t runs p x upto (suc k)
      step e (whole h) =
          let s : through (suc k) f p x ≡ on (along c q m) (filled b c q m y) = ap (λ (st : Step). next st (f k)) e ∙ h in
          let w : words_of (answer (through (suc k) f p x)) ≡ q.to + m = ap (λ (st : Step). words_of (answer st)) s in
          let i : q.to + m ≤ upto = omega (arith, more-words b t runs p x n (suc k) l) in
          goes_on (s ∙ ap (λ (j : ℕ). on (along c q j) (filled b c q j y)) (all-before m q.to upto i))
      step e (cut j num less h) =
          let s : through (suc k) f p x ≡ stop num (along c q j) (filled b c q j y) = ap (λ (st : Step). next st (f k)) e ∙ h in
          let u : through n f p x ≡ stop num (along c q j) (filled b c q j y) = through-stop f p x n k num q (along c q j) y (filled b c q j y) e h l in
          let w : upto ≡ q.to + j = end ∙ ap (λ (st : Step). words_of (answer st)) u in
          let i : j ≡ min m (upto - q.to) = some-before m q.to upto j less w in
          ended num (s ∙ ap (λ (o : ℕ). stop num (along c q o) (filled b c q o y)) i) (ap (λ (o : ℕ). q.to + o) (sym i) ∙ sym w)

      go : Stands b t runs p x upto k → Stands b t runs p x upto (suc k)
      go (goes_on e) = step e (run-came b t (get_or runs k 0) q y)
      go (ended num e h) =
          let i : 0 ≡ min m (upto - q.to) = none_before m q.to upto h in
          ended num
          (ap (λ (st : Step). next st (f k)) e
          ∙ ap (λ (o : Place). stop num o y) (sym (along_none c q))
          ∙ ap (λ (o : ℕ). stop num (along c q o) (filled b c q o y)) i)
          (ap (λ (o : ℕ). q.to + o) (sym i) ∙ add-zero q.to ∙ h)

  all_left : stored_upto b runs p upto n x ≡ left (through n (run_read b t runs) p x)
  unfolding left
  all_left = go (stands n (omega arith))
    where
      go : Stands b t runs p x upto n → stored_upto b runs p upto n x ≡ left (through n (run_read b t runs) p x)
      go (goes_on e) = sym (ap left e)
      go (ended num e h) = sym (ap left e)

  -- its places are the walk's
  all_in : Reading b p → (k : ℕ) → k ≤ n → (place_at runs p upto k).from ≤ length b
  unfolding walk
  all_in h k l = go (stands k l) ((reader_keeps b).walks (row k (λ j. run_tree t (get_or runs j 0))) p x h)
    where
      go : Stands b t runs p x upto k → Holds (λ o z. Reading b o × (length z ≡ length x)) (through k (run_read b t runs) p x)
          → (place_at runs p upto k).from ≤ length b
      go (goes_on e) g = (subst (Holds (λ o z. Reading b o × (length z ≡ length x))) e g).0.1
      go (ended num e i) g = (subst (Holds (λ o z. Reading b o × (length z ≡ length x))) e g).0.1

-- past the end of the words nothing is stored
module _ (b runs : List ℕ) (p : Place) (upto : ℕ) where
  to-grows : (k : ℕ) → p.to ≤ (place_at runs p upto k).to
  unfolding place_at
  to-grows zero = omega arith
  to-grows (suc k) = omega (arith, to-grows k)

  all-out : (x : List ℕ) → length x ≤ p.to → (k : ℕ) → stored_upto b runs p upto k x ≡ x
  unfolding stored_upto
  all-out x h zero = refl
  all-out x h (suc k) =
      let c : ℕ = code_in (get_or runs k 0) in
      let q : Place = place_at runs p upto k in
      let m : ℕ = min (many_in (get_or runs k 0)) (upto - q.to) in
      ap (filled b c q m) (all-out x h k) ∙ sym (no-room-left b c q x m (omega (arith, to-grows k)))

  pub none_stored : (x : List ℕ) → length x ≤ p.to → x ≡ stored_upto b runs p upto (length runs) x
  none_stored x h = sym (all-out x h (length runs))

-- so, where the walk over no words came to r
module _ (b t runs : List ℕ) (p : Place) (r : Walked) (upto : ℕ) (walks : r ≡ answer (walk (reader b) (runs_tree t runs) p [])) (is : upto ≡ words_of r) where
  over-words : (x : List ℕ) → upto ≡ words_of (answer (through (length runs) (run_read b t runs) p x))
  over-words x = is ∙ ap words_of (walks ∙ walk_same (reader b) (runs_tree t runs) p [] x ∙ ap answer (runs_are b t runs p x))

  pub upto_from : p.to ≤ upto
  upto_from = omega (arith, no-fewer b (runs_tree t runs) p [], is, ap words_of walks)

  pub upto-in : Reading b p → Within b runs p upto
  upto-in h k l = all_in b t runs p [] (length runs) upto (over-words []) h k l

  module _ (x : List ℕ) where
    pub upto_left : (y : List ℕ) → y ≡ stored_upto b runs p upto (length runs) x → y ≡ left (walk (reader b) (runs_tree t runs) p x)
    upto_left y h = h ∙ all_left b t runs p x (length runs) upto (over-words x) ∙ ap left (sym (runs_are b t runs p x))

pub same_answer : (b t runs : List ℕ) (p : Place) (r : Walked) → r ≡ answer (walk (reader b) (runs_tree t runs) p [])
    → (x : List ℕ) → r ≡ answer (walk (reader b) (runs_tree t runs) p x)
same_answer b t runs p r walks x = walks ∙ walk_same (reader b) (runs_tree t runs) p [] x
