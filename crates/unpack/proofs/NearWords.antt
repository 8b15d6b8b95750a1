-- A payload that is walked over a near room: what its reader answers and leaves, of words x that are as they were.
-- Assumes nothing.
use Prim.Native.Nat.{ℕ, ◌+◌, ◌≤◌}
use mathlib.Core.Path.{◌≡◌, refl, ap}
use mathlib.Core.Bool.{Bool, true, false}
use mathlib.Core.List.{List, [], ◌++◌}
use native.Mathlib.Omega.{arith}
use lib.ListN.{length, take, drop}
use lib.Seq.{length-take-le}
use Rattle.wire.specs.Bytes.{over}
use Rattle.table.specs.Leaf.{allowed}
use Rattle.walk.specs.declared.Place.{Place}
use Rattle.walk.specs.declared.Walked.{Walked}
use Rattle.walk.specs.declared.Walked.TheVariants.{Went, Stopped}
use Rattle.walk.specs.Tree.{Tree}
use Rattle.walk.specs.Walk.{answer, left, start, walk}
use Rattle.walk.specs.Whole.{fits}
use Rattle.walk.proofs.Near.{as_first, near-stored}
use Rattle.walk.proofs.Whole.{Gives, refused, not-whole, all_stored}
use Rattle.unpack.specs.Reading.{reader}

-- so many words of a list, copied to the start of another
pub copied : (x l s : List ℕ) (k : ℕ) → k ≤ length l → s ≡ take k l → s ++ drop k x ≡ over x 0 (take k l)
copied x l s k h e =
    let n : k ≡ 0 + length (take k l) = omega (arith, length-take-le k l h) in
    rw e (ap (λ (m : ℕ). take k l ++ drop m x) n)

-- each leaf is one word
moves : (b : List ℕ) (code : ℕ) (p : Place) → (reader b).there code p ≡ true → allowed code ((reader b).word code p) ≡ true
    → ((reader b).after code p).to ≡ p.to + length ((reader b).gives code ((reader b).word code p))
unfolding reader
moves b code p h g = refl

module _ (b : List ℕ) (n : ℕ) (tr : Tree) (x u : List ℕ) (w : Walked) (is : w ≡ answer (walk (reader b) tr start u)) where
  first : w ≡ answer (walk (reader b) tr start [])
  first = as_first (reader b) (moves b) n tr x u w is

  pub near-refused : (k : ℕ) (q : Place) → w ≡ Stopped k q → Gives (reader b) n tr x (Stopped k q) x
  near-refused k q h = refused (reader b) n tr x w first x refl k q h

  module _ (q : Place) (h : w ≡ Went q) (t : Bool) (e : t ≡ fits n (length x) q) where
    pub near-over : t ≡ false → Gives (reader b) n tr x (Went q) x
    near-over g = not-whole (reader b) n tr x w first x refl q h t e g

    pub near_again : (v : Walked) (z : List ℕ) → t ≡ true → v ≡ answer (walk (reader b) tr start x) → z ≡ left (walk (reader b) tr start x)
        → Gives (reader b) n tr x v z
    near_again v z g a l = all_stored (reader b) n tr x w first x refl q h t e v z g a l

    -- so many words are in the near room, and there is room for them
    pub near-copied : (k : ℕ) (l z : List ℕ) → t ≡ true → q.to ≡ k → k ≤ length u → l ≡ left (walk (reader b) tr start u) → z
        ≡ over x 0 (take k l) → Gives (reader b) n tr x (Went q) z
    near-copied k l z g i r m d =
        near-stored (reader b) (moves b) n tr x u w is q h t e g (rw i r) l z m (rw i d)
