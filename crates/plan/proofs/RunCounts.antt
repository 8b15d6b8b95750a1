-- How many leaves runs have together, and how many runs: a run more is at most one word more, and its leaves more.
-- Assumes nothing.
use Prim.Native.Nat.{ℕ, ◌+◌, ◌≤◌, ◌<◌}
use mathlib.Core.Path.{◌≡◌, refl, ap}
use mathlib.Core.Bool.{Bool, true, false}
use mathlib.Core.List.{List, [], ◌∷◌, ◌++◌}
use native.Mathlib.Omega.{arith}
use lib.ListN.{length}
use Rattle.walk.specs.Runs.{many_in}
use Rattle.plan.specs.Layout.{alike, merged, add, add_all}
use Rattle.plan.specs.Laying.{many_of}

pub many_merged : (a b : ℕ) → many_in a + many_in b < 65536 → many_in (merged a b) ≡ many_in a + many_in b
unfolding merged
many_merged a b h = omega arith

pub many_append : (xs ys : List ℕ) → many_of (xs ++ ys) ≡ many_of xs + many_of ys
unfolding many_of
many_append [] ys = omega arith
many_append (x ∷ xs) ys = omega (arith, many_append xs ys)

pub many_one : (x : ℕ) → many_of (x ∷ []) ≡ many_in x
unfolding many_of
many_one x = omega arith

-- a run behind others
pub add_alike : (xs : List ℕ) (x y : ℕ) → alike x y ≡ true → add (xs ++ (x ∷ [])) y ≡ xs ++ (merged x y ∷ [])
unfolding add
add_alike [] x y h = rw h refl
add_alike (z ∷ []) x y h = ap (λ (l : List ℕ). z ∷ l) (add_alike [] x y h)
add_alike (z ∷ (w ∷ ws)) x y h = ap (λ (l : List ℕ). z ∷ l) (add_alike (w ∷ ws) x y h)

pub add_unlike : (xs : List ℕ) (x y : ℕ) → alike x y ≡ false → add (xs ++ (x ∷ [])) y ≡ (xs ++ (x ∷ [])) ++ (y ∷ [])
unfolding add
add_unlike [] x y h = rw h refl
add_unlike (z ∷ []) x y h = ap (λ (l : List ℕ). z ∷ l) (add_unlike [] x y h)
add_unlike (z ∷ (w ∷ ws)) x y h = ap (λ (l : List ℕ). z ∷ l) (add_unlike (w ∷ ws) x y h)

-- is at most one word more, and no fewer, and has its leaves more
pub length_add : (xs : List ℕ) (y : ℕ) → length (add xs y) ≤ length xs + 1
unfolding add
length_add [] y = omega arith
length_add (x ∷ []) y = go (alike x y) refl
  where
    go : (b : Bool) → alike x y ≡ b → length (add (x ∷ []) y) ≤ 2
    go true e = rw e (omega arith)
    go false e = rw e (omega arith)
length_add (x ∷ (z ∷ zs)) y = omega (arith, length_add (z ∷ zs) y)

pub add_longer : (xs : List ℕ) (y : ℕ) → length xs ≤ length (add xs y)
unfolding add
add_longer [] y = omega arith
add_longer (x ∷ []) y = go (alike x y) refl
  where
    go : (b : Bool) → alike x y ≡ b → 1 ≤ length (add (x ∷ []) y)
    go true e = rw e (omega arith)
    go false e = rw e (omega arith)
add_longer (x ∷ (z ∷ zs)) y = omega (arith, add_longer (z ∷ zs) y)

pub many_add : (xs : List ℕ) (y : ℕ) → many_of xs + many_in y < 65536 → many_of (add xs y) ≡ many_of xs + many_in y
unfolding add many_of
many_add [] y h = omega arith
many_add (x ∷ []) y h = go (alike x y) refl
  where
    go : (b : Bool) → alike x y ≡ b → many_of (add (x ∷ []) y) ≡ many_of (x ∷ []) + many_in y
    go true e = rw e (omega (arith, many_merged x y (omega arith)))
    go false e = rw e (omega arith)
many_add (x ∷ (z ∷ zs)) y h = omega (arith, many_add (z ∷ zs) y (omega arith))

-- runs behind others
pub add_all_one : (xs ys : List ℕ) (y : ℕ) → add_all xs (ys ++ (y ∷ [])) ≡ add (add_all xs ys) y
unfolding add_all
add_all_one xs [] y = refl
add_all_one xs (z ∷ zs) y = add_all_one (add xs z) zs y

pub length_add_all : (xs ys : List ℕ) → length (add_all xs ys) ≤ length xs + length ys
unfolding add_all
length_add_all xs [] = omega arith
length_add_all xs (y ∷ ys) = omega (arith, length_add_all (add xs y) ys, length_add xs y)

pub add_all_longer : (xs ys : List ℕ) → length xs ≤ length (add_all xs ys)
unfolding add_all
add_all_longer xs [] = omega arith
add_all_longer xs (y ∷ ys) = omega (arith, add_all_longer (add xs y) ys, add_longer xs y)

pub many_add_all : (xs ys : List ℕ) → many_of xs + many_of ys < 65536 → many_of (add_all xs ys) ≡ many_of xs + many_of ys
unfolding add_all many_of
many_add_all xs [] h = omega arith
many_add_all xs (y ∷ ys) h =
    let e : many_of (add xs y) ≡ many_of xs + many_in y = many_add xs y (omega arith) in
    omega (arith, many_add_all (add xs y) ys (omega arith))
