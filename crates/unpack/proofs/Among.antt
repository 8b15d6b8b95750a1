-- Leaves of one enum: what it says of an entry and of a run that their words are among its values.
-- Assumes nothing.
use Prim.Native.Nat.{ℕ, ◌+◌, ◌*◌, ◌≤◌, ◌<◌}
use mathlib.Core.Path.{◌≡◌, refl, sym, ◌∙◌}
use mathlib.Core.Bool.{Bool, true, false}
use mathlib.Core.List.{List}
use native.Mathlib.Omega.{arith}
use lib.ListN.{length, take}
use lib.Seq.{take-length}
use Rattle.wire.specs.All.{all_below}
use Rattle.wire.proofs.AllBelow.{at-below, all-below}
use Rattle.table.specs.declared.Sections.{Sections}
use Rattle.table.specs.declared.Entry.{Entry}
use Rattle.table.specs.Leaf.{width}
use Rattle.types.proofs.Distinctness.{same_below}
use Rattle.leaf.specs.Forms.{word_at}
use Rattle.leaf.proofs.Returns.{by_place, outside, of-enum, of-base}
use Rattle.walk.specs.Runs.{code_in, many_in, values_in, place_in}
use Rattle.unpack_leaves.specs.OneCode.{is_good, is_among, run_there, run_among}
use Rattle.unpack.specs.Reading.{entry_takes}
use Rattle.unpack.specs.RunByRun.{is_taken}
use Rattle.unpack_leaves.proofs.WholeRuns.{run-allowed}
use Rattle.unpack_leaves.proofs.AmongValues.{among_there}
use Rattle.unpack.proofs.GoodRuns.{any-taken, taken-among}

-- an entry's leaves, of which it was judged whether their words are allowed
module _ (b t : List ℕ) (s : Sections) (e : Entry) (from n : ℕ) (g : Bool) (room : from + n * width e.of ≤ length b)
    (there : g ≡ run_there b e.of from n) where
  judged : g ≡ all_below (is_good b e.of from) n
  judged = run-allowed b e.of from n g room there

  allowed_at : g ≡ true → (k : ℕ) → k < n → true ≡ is_good b e.of from k
  allowed_at h k l = sym (at-below (is_good b e.of from) n k (sym judged ∙ h) l)

  pub entries-refused : g ≡ false → false ≡ all_below (entry_takes b t s e from) n
  entries-refused h = go (all_below (entry_takes b t s e from) n) refl
    where
      its_word : ℕ → ℕ
      its_word k = word_at e.of b (from + k * width e.of)

      good : all_below (entry_takes b t s e from) n ≡ true → (k : ℕ) → k < n → is_good b e.of from k ≡ true
      good a k l = one (is_good b e.of from k) refl
        where
          one : (v : Bool) → is_good b e.of from k ≡ v → is_good b e.of from k ≡ true
          one true q = q
          one false q =
              absurd
              (let z : ◌≡◌ {A = ℕ} 0 1 = cc (outside t s e (its_word k) {a = false} (sym q) refl, at-below (entry_takes b t s e from) n k a l) in
              omega arith)

      go : (v : Bool) → all_below (entry_takes b t s e from) n ≡ v → false ≡ all_below (entry_takes b t s e from) n
      go true a = absurd (let z : ◌≡◌ {A = ℕ} 0 1 = cc (all-below (is_good b e.of from) n (good a), judged, h) in omega arith)
      go false a = sym a

  pub entries-base : g ≡ true → (e.kind ≡ 1 → ⊥) → true ≡ all_below (entry_takes b t s e from) n
  entries-base h k =
      sym (all-below (entry_takes b t s e from) n
      (λ j l. sym (of-base t s e (word_at e.of b (from + j * width e.of)) (allowed_at h j l) refl k)))

  pub entries-among : (r : Bool) → g ≡ true → e.kind ≡ 1 → r ≡ run_among t (s.values.at + 8 * e.first) e.count b e.of from n
      → r ≡ all_below (entry_takes b t s e from) n
  entries-among r h k a =
      among_there t (s.values.at + 8 * e.first) e.count b e.of from n r room a
      ∙ same_below (is_among t (s.values.at + 8 * e.first) e.count b e.of from) (entry_takes b t s e from) n
      (λ j l. of-enum t s e (word_at e.of b (from + j * width e.of)) (allowed_at h j l) refl k
      (by_place t s e (word_at e.of b (from + j * width e.of)) refl))

-- a run's leaves: of one that has no values, and of one that has some; the slices of that call are made anew
module _ (t b : List ℕ) (run from n : ℕ) (is : n ≡ values_in run) where
  pub taken-any : n ≡ 0 → true ≡ all_below (is_taken t b run from) (many_in run)
  taken-any e =
      sym (all-below (is_taken t b run from) (many_in run) (λ k l. sym (any-taken t run n is (word_at (code_in run) b (from + k * width (code_in run))) e)))

  pub taken-values : (p code many : ℕ) (r : Bool) → (n ≡ 0 → ⊥) → p ≡ place_in run → code ≡ code_in run → many ≡ many_in run
      → from + many_in run * width (code_in run) ≤ length b → r ≡ run_among (take (length t) t) p n (take (length b) b) code from many
      → r ≡ all_below (is_taken t b run from) (many_in run)
  taken-values p code many r e at c m room h =
      among_there t p n b (code_in run) from (many_in run) r room (h ∙ rw (take-length t, take-length b, c, m) refl)
      ∙ same_below (is_among t p n b (code_in run) from) (is_taken t b run from) (many_in run)
      (λ k l. taken-among t run n is (word_at (code_in run) b (from + k * width (code_in run))) p
      (is_among t p n b (code_in run) from k) e at refl)
