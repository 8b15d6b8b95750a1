-- Runs of a plan judged leaf by leaf: one leaf, and the two loops, over a run's leaves and over runs.
-- Assumes nothing.
use Prim.Native.Nat.{ℕ, ◌+◌, ◌≤◌, ◌<◌}
use mathlib.Core.Path.{◌≡◌, refl, sym, ap, ◌∙◌}
use mathlib.Core.Bool.{Bool, true, false, ◌&&◌}
use mathlib.Core.List.{List, []}
use lib.Dec.{leb}
use lib.ListN.{length, get_or}
use Rattle.table.specs.Leaf.{width, allowed}
use Rattle.leaf.specs.Forms.{word_at}
use Rattle.walk.specs.declared.Place.{Place}
use Rattle.walk.specs.declared.Walked.{Walked}
use Rattle.walk.specs.declared.Walked.TheVariants.{Went, Stopped}
use Rattle.walk.specs.Tree.{leaf}
use Rattle.walk.specs.Runs.{code_in, many_in, taken_by, run_tree, runs_tree}
use Rattle.walk.specs.Walk.{Step, on, answer, left, through, walk, Going}
use Rattle.walk.proofs.Walks.{Holds, through-none}
use Rattle.walk.proofs.Returns.{Did, did_stop, item-short, item-bad, item_on, loop-stop, loop-done, kept-length}
use Rattle.walk.proofs.Turns.{Within, going_next}
use Rattle.unpack_leaves.specs.Leaves.{whole_word}
use Rattle.unpack.specs.Reading.{reader, Reading}
use Rattle.unpack.specs.RunByRun.{leaf_read, run_read}
use Rattle.unpack.proofs.ReadReturns.{reader_keeps}
use Rattle.unpack_leaves.proofs.OneLeaf.{word_there}
use Rattle.unpack.proofs.GoodRuns.{run_is, no_words}

-- one leaf
module _ (t b : List ℕ) (run : ℕ) (p : Place) (code n : ℕ) (code_is : code ≡ code_in run) (is : n ≡ width code) (h : Bool)
    (room : h ≡ leb (p.from + n) (length b)) where
  there-is : leb (p.from + width (code_in run)) (length b) ≡ h
  there-is = rw (← code_is, ← is) (sym room)

  pub judged-short : h ≡ false → Stopped 40 p ≡ answer (leaf_read b t run 0 p [])
  unfolding reader
  judged-short f =
      (did_stop (leaf_read b t run 0 p []) 40 p [] (item-short (reader b) 42 (code_in run) (taken_by t run) p [] (there-is ∙ f))).0

  module _ (f : h ≡ true) (w : ℕ) (read : w ≡ whole_word code b p.from) (u v : Bool) (allows : u ≡ allowed code w) (takes : v ≡ taken_by t run w) where
    word : w ≡ word_at code b p.from
    word = word_there b p.from n code h is room w f read

    test-is : (allowed (code_in run) (word_at (code_in run) b p.from) && taken_by t run (word_at (code_in run) b p.from)) ≡ (u && v)
    test-is = rw (← code_is, ← word, ← allows, ← takes) refl

    pub judged-bad : (u && v) ≡ false → Stopped 42 p ≡ answer (leaf_read b t run 0 p [])
    unfolding reader
    judged-bad g =
        (did_stop (leaf_read b t run 0 p []) 42 p [] (item-bad (reader b) 42 (code_in run) (taken_by t run) p [] (there-is ∙ f) (test-is ∙ g))).0

    pub judged-went : (u && v) ≡ true → Went (record { from = p.from + n; to = p.to + 1 }) ≡ answer (leaf_read b t run 0 p [])
    unfolding reader answer
    judged-went g =
        sym (ap answer (item_on (reader b) 42 (code_in run) (taken_by t run) p [] (there-is ∙ f) (test-is ∙ g)) ∙ rw (← code_is, ← is) refl)

-- a walk over no words leaves none
pub did_none : (b : List ℕ) (st : Step) → Holds (Within (Reading b) []) st → (r : Walked) → r ≡ answer st → Did st r []
did_none b st kept r h = (h, no_words (left st) (kept-length (Reading b) 0 st kept r (left st) (h, refl)))

-- the steps of both loops keep to the payload
leaves_keep : (b t : List ℕ) (run k : ℕ) (q : Place) → Reading b q → Holds (Within (Reading b) []) (leaf_read b t run k q [])
unfolding walk
leaves_keep b t run k q h = (reader_keeps b).walks (leaf (code_in run) (taken_by t run)) q [] h

runs_keep : (b t runs : List ℕ) (k : ℕ) (q : Place) → Reading b q → Holds (Within (Reading b) []) (run_read b t runs k q [])
runs_keep b t runs k q h = (reader_keeps b).walks (run_tree t (get_or runs k 0)) q [] h

-- a turn of them, and how they end
module _ (b : List ℕ) (f : ℕ → Place → List ℕ → Step) (keep : (k : ℕ) (q : Place) → Reading b q → Holds (Within (Reading b) []) (f k q [])) {n first k : ℕ}
    {p at : Place} (g : Going (Reading b) f n first p [] k at []) where
  turn-went : (r : Walked) (q : Place) → k < n → r ≡ answer (f k at []) → r ≡ Went q → Going (Reading b) f n first p [] (k + 1) q []
  turn-went r q less e h = going_next g r [] q (keep k at g.here) less (did_none b (f k at []) (keep k at g.here) r e) h

  module _ (o : Place) (so_far : through first f o [] ≡ on p []) where
    turn-stop : (r : Walked) (m : ℕ) (q : Place) → k < n → r ≡ answer (f k at []) → r ≡ Stopped m q → Stopped m q ≡ answer (through n f o [])
    turn-stop r m q less e h =
        (loop-stop f o [] k at [] (g.goes o [] so_far) r [] m n q (did_none b (f k at []) (keep k at g.here) r e) h less).0

    turn-done : n ≤ k → Went at ≡ answer (through n f o [])
    turn-done l = (loop-done f o [] k at [] (g.goes o [] so_far) n g.most l).0

-- of a run
module _ (b t : List ℕ) (run : ℕ) {k : ℕ} {p at : Place} (many : ℕ) (is : many ≡ many_in run)
    (g : Going (Reading b) (leaf_read b t run) many 0 p [] k at []) where
  all-leaves : through many (leaf_read b t run) p [] ≡ walk (reader b) (run_tree t run) p []
  all-leaves = ap (λ (n : ℕ). through n (leaf_read b t run) p []) is ∙ sym (run_is t b run p [])

  pub leaves-went : (r : Walked) (q : Place) → k < many → r ≡ answer (leaf_read b t run 0 at []) → r ≡ Went q
      → Going (Reading b) (leaf_read b t run) many 0 p [] (k + 1) q []
  leaves-went r q less e h = turn-went b (leaf_read b t run) (leaves_keep b t run) g r q less e h

  pub leaves-stop : (r : Walked) (m : ℕ) (q : Place) → k < many → r ≡ answer (leaf_read b t run 0 at []) → r ≡ Stopped m q
      → Stopped m q ≡ answer (walk (reader b) (run_tree t run) p [])
  leaves-stop r m q less e h =
      turn-stop b (leaf_read b t run) (leaves_keep b t run) g p (through-none (leaf_read b t run) p []) r m q less e h ∙ ap answer all-leaves

  pub leaves-done : many ≤ k → Went at ≡ answer (walk (reader b) (run_tree t run) p [])
  leaves-done l = turn-done b (leaf_read b t run) (leaves_keep b t run) g p (through-none (leaf_read b t run) p []) l ∙ ap answer all-leaves

-- of several
pub runs_are : (b t runs : List ℕ) (p : Place) (x : List ℕ) → walk (reader b) (runs_tree t runs) p x ≡ through (length runs) (run_read b t runs) p x
unfolding walk runs_tree
runs_are b t runs p x = refl

module _ (b t runs : List ℕ) {first k : ℕ} {p at : Place} (g : Going (Reading b) (run_read b t runs) (length runs) first p [] k at []) where
  pub runs-went : (r : Walked) (q : Place) → k < length runs → r ≡ answer (walk (reader b) (run_tree t (get_or runs k 0)) at []) → r ≡ Went q
      → Going (Reading b) (run_read b t runs) (length runs) first p [] (k + 1) q []
  runs-went r q less e h = turn-went b (run_read b t runs) (runs_keep b t runs) g r q less e h

  pub runs-stop : (o : Place) → through first (run_read b t runs) o [] ≡ on p [] → (r : Walked) (m : ℕ) (q : Place) → k < length runs
      → r ≡ answer (walk (reader b) (run_tree t (get_or runs k 0)) at []) → r ≡ Stopped m q → Stopped m q ≡ answer (walk (reader b) (runs_tree t runs) o [])
  runs-stop o so_far r m q less e h = turn-stop b (run_read b t runs) (runs_keep b t runs) g o so_far r m q less e h ∙ ap answer (sym (runs_are b t runs o []))

  pub runs_done : (o : Place) → through first (run_read b t runs) o [] ≡ on p [] → length runs ≤ k → Went at ≡ answer (walk (reader b) (runs_tree t runs) o [])
  runs_done o so_far l = turn-done b (run_read b t runs) (runs_keep b t runs) g o so_far l ∙ ap answer (sym (runs_are b t runs o []))

-- from the first run on
module _ (b t runs : List ℕ) {k : ℕ} {p at : Place} (g : Going (Reading b) (run_read b t runs) (length runs) 0 p [] k at []) where
  pub all-judged : length runs ≤ k → Went at ≡ answer (walk (reader b) (runs_tree t runs) p [])
  all-judged l = runs_done b t runs g p (through-none (run_read b t runs) p []) l

  pub rest-judged : (r : Walked) → ((o : Place) → through k (run_read b t runs) o [] ≡ on at [] → r ≡ answer (walk (reader b) (runs_tree t runs) o []))
      → r ≡ answer (walk (reader b) (runs_tree t runs) p [])
  rest-judged r h = h p (g.goes p [] (through-none (run_read b t runs) p []))
