-- No service is known twice: with a list in which no ID stands twice, none does where those that a status names are added.
-- Assumes nothing.
use Prim.Native.Nat.{ℕ, zero, suc}
use Prim.{tt}
use mathlib.Core.Path.{◌≡◌, refl, sym, ap₂}
use mathlib.Core.Bool.{Bool, true, false, cond, ◌||◌}
use mathlib.Core.List.{List, [], ◌∷◌, ◌++◌}
use borrow.Author.Tests.{eqb-false, ne_eqb}
use lib.Dec.{eqb}
use lib.ListN.{replicate}
use Rattle.wire.proofs.Cond.{neither}
use Rattle.services.specs.Block.{pair_id}
use Rattle.services.specs.Known.{known, is_in, with, NoneTwice, known_with}

not_behind : (y x : ℕ) (ys : List ℕ) → is_in y ys ≡ false → eqb x y ≡ false → is_in y (ys ++ (x ∷ [])) ≡ false
unfolding is_in
not_behind y x [] h e = rw e refl
not_behind y x (z ∷ zs) h e =
    let parts = neither (eqb z y) (is_in y zs) h in
    ap₂ (λ (a b : Bool). a || b) parts.0 (not_behind y x zs parts.1 e)

once_added : (ks : List ℕ) (x : ℕ) → NoneTwice ks → is_in x ks ≡ false → NoneTwice (ks ++ (x ∷ []))
unfolding NoneTwice is_in
once_added [] x o h = (refl, tt)
once_added (y ∷ ys) x o h =
    let parts = neither (eqb y x) (is_in x ys) h in
    let other : eqb x y ≡ false = ne_eqb x y (λ e. eqb-false y x parts.0 (sym e)) in
    (not_behind y x ys o.0 other, once_added ys x o.1 parts.1)

once_with : (ks : List ℕ) (x : ℕ) → NoneTwice ks → NoneTwice (with ks x)
unfolding with
once_with ks x o = go (is_in x ks) refl
  where
    go : (t : Bool) → is_in x ks ≡ t → NoneTwice (cond t ks (ks ++ (x ∷ [])))
    go true e = o
    go false e = once_added ks x o e

pub once_named : (ks s : List ℕ) (i : ℕ) → NoneTwice ks → NoneTwice (known_with ks s i)
unfolding known_with
once_named ks s zero o = o
once_named ks s (suc i) o = once_with (known_with ks s i) (pair_id s i) (once_named ks s i o)

pub once_fresh : (n : ℕ) → NoneTwice (known (replicate n 0))
unfolding NoneTwice known
once_fresh zero = tt
once_fresh (suc n) = tt
