-- A run of a plan that is good: what its tests say, and that it is walked over.
-- Assumes nothing.
use Prim.Native.Nat.{ℕ, ◌+◌, ◌-◌, ◌*◌, ◌^◌, ◌≤◌, ◌<◌}
use mathlib.Core.Path.{◌≡◌, refl, sym, ap, ◌∙◌}
use mathlib.Core.Bool.{Bool, true, false, ◌&&◌}
use mathlib.Core.List.{List, [], ◌∷◌}
use native.Mathlib.Omega.{arith}
use borrow.Author.Tests.{le-leb, lt-leb, leb-true, leb-false}
use mir.Syntax.{w64}
use mir.Val.{Fits}
use lib.Dec.{leb}
use lib.ListN.{length, get_or}
use Rattle.wire.proofs.Cond.{yes-eq, no_eq, and_left, and_right, and_true}
use Rattle.wire.specs.Bytes.{Octets}
use Rattle.wire.specs.All.{all_below}
use Rattle.wire.proofs.AllBelow.{at-below}
use Rattle.table.specs.Leaf.{base, width, allowed}
use Rattle.leaf.specs.Choice.{among_at}
use Rattle.leaf.specs.declared.codes.Range.{Range}
use Rattle.leaf.specs.Limits.{range_of}
use Rattle.leaf.specs.Forms.{word_at}
use Rattle.walk.specs.declared.Place.{Place}
use Rattle.walk.specs.declared.Walked.TheVariants.{Went}
use Rattle.walk.specs.Runs.{code_in, many_in, values_in, place_in, taken_by, run_tree}
use Rattle.walk.specs.Walk.{on, through, walk, Going}
use Rattle.walk.proofs.Returns.{item_on, did_on}
use Rattle.walk.proofs.Turns.{going_next}
use Rattle.unpack_leaves.specs.Leaves.{is_there, behind, stored}
use Rattle.unpack_leaves.specs.OneCode.{along, is_good, filled, run_there}
use Rattle.unpack.specs.Reading.{reader, Reading}
use Rattle.unpack.specs.RunByRun.{is_taken, run_good, leaf_read, run_read}
use Rattle.unpack_leaves.proofs.OneCode.{all_good, good_there, steps_on, same-many}
use Rattle.unpack.proofs.ReadReturns.{reader_keeps}
use Rattle.unpack_leaves.proofs.WholeRuns.{run_room, run-good}

-- a run's values
module _ (t : List ℕ) (run n : ℕ) (is : n ≡ values_in run) (w : ℕ) where
  pub any-taken : n ≡ 0 → true ≡ taken_by t run w
  unfolding taken_by
  any-taken h = sym (yes-eq true (among_at t (place_in run) (values_in run) w) (values_in run) 0 (sym is ∙ h))

  pub taken-among : (p : ℕ) (r : Bool) → (n ≡ 0 → ⊥) → p ≡ place_in run → r ≡ among_at t p n w → r ≡ taken_by t run w
  unfolding taken_by
  taken-among p r h at e =
      e ∙ rw (at, is) (sym (no_eq true (among_at t (place_in run) (values_in run) w) (values_in run) 0 (λ (z : values_in run ≡ 0). h (is ∙ z))))

-- so many bytes are left
room_left : (l from n : ℕ) → from ≤ l → leb n (l - from) ≡ leb (from + n) l
room_left l from n h = go (leb n (l - from)) refl
  where
    go : (v : Bool) → leb n (l - from) ≡ v → leb n (l - from) ≡ leb (from + n) l
    go true e = e ∙ sym (le-leb (from + n) l (omega (arith, leb-true n (l - from) e)))
    go false e = e ∙ sym (lt-leb (from + n) l (omega (arith, leb-false n (l - from) e)))

and_nothing : (v : Bool) → v ≡ (v && true)
and_nothing true = refl
and_nothing false = refl

-- a run's tests
module _ (t b : List ℕ) (run from : ℕ) where
  -- where its code takes every word it is there if its bytes are
  pub every-there : (bytes : ℕ) → Octets b → (code : ℕ) (g : Range) → g ≡ range_of (base code) → g.every ≡ true → code ≡ code_in run
      → bytes ≡ many_in run * width (code_in run) → from ≤ length b → leb bytes (length b - from) ≡ run_there b (code_in run) from (many_in run)
  unfolding run_there
  every-there bytes o code g is every code_is many_is h =
      let n : ℕ = many_in run in
      let g-is : g ≡ range_of (base (code_in run)) = is ∙ ap (λ (m : ℕ). range_of (base m)) code_is in
      ap (λ (m : ℕ). leb m (length b - from)) many_is
      ∙ room_left (length b) from (n * width (code_in run)) h
      ∙ rw (sym (all_good b (code_in run) from n o g g-is every)) (and_nothing (leb (from + n * width (code_in run)) (length b)))

  module _ (h : Bool) (judged : h ≡ run_there b (code_in run) from (many_in run)) where
    pub bad-run : h ≡ false → false ≡ run_good t b run from
    unfolding run_good
    bad-run f = rw (← judged, f) refl

    pub has-bytes : h ≡ true → from + many_in run * width (code_in run) ≤ length b
    has-bytes g = run_room b (code_in run) from (many_in run) (sym judged ∙ g)

    pub by_values : (r : Bool) → h ≡ true → r ≡ all_below (is_taken t b run from) (many_in run) → r ≡ run_good t b run from
    unfolding run_good
    by_values r g e = rw (← judged, g) e

  -- so it is there, and its words are taken
  module _ (h : run_good t b run from ≡ true) where
    good-bytes : run_there b (code_in run) from (many_in run) ≡ true
    unfolding run_good
    good-bytes = and_left (run_there b (code_in run) from (many_in run)) (all_below (is_taken t b run from) (many_in run)) h

    good-taken : (k : ℕ) → k < many_in run → is_taken t b run from k ≡ true
    unfolding run_good
    good-taken k l =
        at-below (is_taken t b run from) (many_in run) k
        (and_right (run_there b (code_in run) from (many_in run)) (all_below (is_taken t b run from) (many_in run)) h) l

    good-there-at : (k : ℕ) → k < many_in run → is_there b (code_in run) (from + k * width (code_in run)) ≡ true
    good-there-at k l =
        good_there b (code_in run) from (many_in run) k (run_room b (code_in run) from (many_in run) good-bytes) l
        (at-below (is_good b (code_in run) from) (many_in run) k (run-good b (code_in run) from (many_in run) good-bytes) l)

module _ (t b : List ℕ) (run : ℕ) where
  leaf_on : (k : ℕ) (q : Place) (y : List ℕ) → is_there b (code_in run) q.from ≡ true → taken_by t run (word_at (code_in run) b q.from) ≡ true
      → leaf_read b t run k q y ≡ on (behind (code_in run) q) (stored b (code_in run) q y)
  unfolding reader is_there
  leaf_on k q y h g =
      item_on (reader b) 42 (code_in run) (taken_by t run) q y
      (and_left (leb (q.from + width (code_in run)) (length b)) (allowed (code_in run) (word_at (code_in run) b q.from)) h)
      (and_true (allowed (code_in run) (word_at (code_in run) b q.from)) (taken_by t run (word_at (code_in run) b q.from))
      (and_right (leb (q.from + width (code_in run)) (length b)) (allowed (code_in run) (word_at (code_in run) b q.from)) h) g)

  pub run_is : (p : Place) (x : List ℕ) → walk (reader b) (run_tree t run) p x ≡ through (many_in run) (leaf_read b t run) p x
  unfolding walk run_tree
  run_is p x = refl

  pub good-on : (p : Place) (x : List ℕ) → run_good t b run p.from ≡ true → walk (reader b) (run_tree t run) p x
      ≡ on (along (code_in run) p (many_in run)) (filled b (code_in run) p (many_in run) x)
  good-on p x h =
      run_is p x
      ∙ steps_on b (code_in run) p x (leaf_read b t run) (many_in run)
      (λ k l. leaf_on k (along (code_in run) p k) (filled b (code_in run) p k x) (good-there-at t b run p.from h k l) (good-taken t b run p.from h k l))

-- over no words nothing is stored
pub no_words : (y : List ℕ) → length y ≡ 0 → [] ≡ y
no_words [] h = refl
no_words (a ∷ y) h = absurd (omega arith)

-- the next of several runs, which is good
module _ (t b runs : List ℕ) {n first k : ℕ} {p : Place} {from to : ℕ}
    (g : Going (Reading b) (run_read b t runs) n first p [] k (record { from = from; to = to }) [])
    (less : k < n) (h : Bool) (judged : h ≡ run_good t b (get_or runs k 0) from) (good : h ≡ true) (many code w : ℕ) (many_is : many ≡ many_in (get_or runs k 0))
    (code_is : code ≡ code_in (get_or runs k 0)) (width_is : w ≡ width code) where
  pub run-next : Going (Reading b) (run_read b t runs) n first p [] (k + 1) (record { from = from + many * w; to = to + many }) []
  run-next =
      let q : Place = record { from = from; to = to } in
      let o : Place = record { from = from + many * w; to = to + many } in
      let z : List ℕ = filled b (code_in (get_or runs k 0)) q (many_in (get_or runs k 0)) [] in
      going_next g (Went o) [] o ((reader_keeps b).walks (run_tree t (get_or runs k 0)) q [] g.here) less
      (did_on (run_read b t runs k q []) o [] z
      (good-on t b (get_or runs k 0) q [] (sym judged ∙ good) ∙ rw (width_is, code_is, many_is) refl)
      (no_words z (same-many b (code_in (get_or runs k 0)) q [] (many_in (get_or runs k 0)) z refl)))
      refl

  pub run-next-from : length b * 1 < 2 ^ 63 → Fits w64 (from + many * w)
  run-next-from few = record { fits = omega (arith, run-next.here.1) }
