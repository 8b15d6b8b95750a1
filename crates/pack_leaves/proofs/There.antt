-- A word that a leaf of a base code takes.
-- Assumes nothing.
use Prim.Native.Nat.{ℕ, ◌≤◌, ◌<◌}
use mathlib.Core.Path.{◌≡◌, refl, sym, ◌∙◌}
use mathlib.Core.Bool.{Bool, true, false}
use mathlib.Core.List.{List}
use borrow.Author.Tests.{lt-ltb, le-ltb, ltb-true}
use lib.Dec.{ltb}
use lib.ListN.{length, get_or}
use Rattle.wire.proofs.Cond.{and_left}
use Rattle.table.specs.Leaf.{allowed}
use Rattle.pack_leaves.specs.Stored.{is_there}

module _ (ws : List ℕ) (from code : ℕ) where
  pub judged : (r : Bool) → from < length ws → r ≡ allowed code (get_or ws from 0) → r ≡ is_there ws code from
  unfolding is_there
  judged r h g = rw (lt-ltb from (length ws) h) g

  pub no_more : length ws ≤ from → false ≡ is_there ws code from
  unfolding is_there
  no_more h = rw (le-ltb from (length ws) h) refl

  pub there-word : (r : Bool) → r ≡ is_there ws code from → r ≡ true → from < length ws
  unfolding is_there
  there-word r h g = ltb-true from (length ws) (and_left (ltb from (length ws)) (allowed code (get_or ws from 0)) (sym h ∙ g))
