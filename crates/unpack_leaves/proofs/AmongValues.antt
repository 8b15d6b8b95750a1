-- Leaves of one enum: that their words are among its values, judged one by one.
-- Assumes nothing.
use Prim.Native.Nat.{ℕ, ◌+◌, ◌*◌, ◌≤◌, ◌<◌}
use mathlib.Core.Path.{◌≡◌, refl, ap, ◌∙◌}
use mathlib.Core.Bool.{Bool, true, false}
use mathlib.Core.List.{List}
use borrow.Author.Tests.{le-leb}
use lib.Dec.{leb}
use lib.ListN.{length}
use Rattle.wire.specs.All.{all_below}
use Rattle.wire.proofs.AllBelow.{next-below, stop-below}
use Rattle.table.specs.Leaf.{width}
use Rattle.leaf.specs.Choice.{among_at}
use Rattle.leaf.specs.Forms.{word_at}
use Rattle.unpack_leaves.specs.OneCode.{is_among, run_among}

-- a turn of the loop over them
module _ (t : List ℕ) (p n : ℕ) (b : List ℕ) (code from k w word : ℕ) (r : Bool) (is : w ≡ width code) (read : word ≡ word_at code b (from + k * w))
    (among : r ≡ among_at t p n word) where
  its-test : r ≡ is_among t p n b code from k
  its-test = among ∙ ap (among_at t p n) (read ∙ rw is refl)

  pub among_next : all_below (is_among t p n b code from) k ≡ true → r ≡ true → all_below (is_among t p n b code from) (k + 1) ≡ true
  among_next so_far h = next-below (is_among t p n b code from) k r so_far its-test h

  pub among-stop : (m : ℕ) → k < m → r ≡ false → false ≡ all_below (is_among t p n b code from) m
  among-stop m less h = stop-below (is_among t p n b code from) m k r its-test h less

-- by what the test of their bytes said; and of leaves whose bytes are there
module _ (t : List ℕ) (p n : ℕ) (b : List ℕ) (code from m : ℕ) where
  module _ (w : ℕ) (is : w ≡ width code) (h : Bool) (room : h ≡ leb (from + m * w) (length b)) where
    pub among-judged : (r : Bool) → h ≡ true → r ≡ all_below (is_among t p n b code from) m → r ≡ run_among t p n b code from m
    unfolding run_among
    among-judged r f e = rw (← is, ← room, f) e

    pub among-short : h ≡ false → false ≡ run_among t p n b code from m
    unfolding run_among
    among-short f = rw (← is, ← room, f) refl

  pub among_there : (r : Bool) → from + m * width code ≤ length b → r ≡ run_among t p n b code from m → r ≡ all_below (is_among t p n b code from) m
  unfolding run_among
  among_there r h e = e ∙ rw (le-leb (from + m * width code) (length b) h) refl
