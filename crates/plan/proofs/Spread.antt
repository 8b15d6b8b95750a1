-- Laws of runs as their single leaves: how many there are, that a walk over both is the same, and that runs put behind one another
-- are their leaves behind one another, whether equal ones that meet were made one or not.
-- Assumes nothing.
use Prim.Native.Nat.{ℕ, zero, suc, ◌+◌, ◌*◌, ◌/◌, ◌%◌, ◌≤◌, ◌<◌}
use mathlib.Core.Path.{◌≡◌, refl, sym, ap, ◌∙◌}
use mathlib.Core.Bool.{Bool, true, false, cond}
use mathlib.Core.List.{List, [], ◌∷◌, ◌++◌, append_assoc, append-nil}
use native.Mathlib.Omega.{arith}
use borrow.Author.Tests.{eqb-true}
use lib.Dec.{eqb}
use lib.ListN.{length, get_or, replicate, length-append, length-replicate, replicate-append-replicate}
use Rattle.wire.proofs.Cond.{both}
use Rattle.walk.specs.declared.Place.{Place}
use Rattle.walk.specs.Runs.{code_in, many_in, values_in, place_in, taken_by, run_tree, runs_tree}
use Rattle.walk.specs.Walk.{through, Codec, item, walk}
use Rattle.plan.specs.Leaves.{sum_below}
use Rattle.plan.specs.Layout.{alike, merged, add, add_all, row_runs}
use Rattle.plan.proofs.FlatWalk.{next_both, through_first, item_equal, parts_of, one, in_turn, in-turn-append, in-turn-equal}

-- a single leaf of a run, the leaves of a run, and those of runs one behind another
unfoldable pub single : ℕ → ℕ
single w = w % 256 + 16777216 * (w / 16777216)

abbrev leaves_of : ℕ → List ℕ
leaves_of w = replicate (many_in w) (single w)

unfoldable pub spread : List ℕ → List ℕ
spread [] = []
spread (w ∷ ws) = leaves_of w ++ spread ws

pub single_code : (w : ℕ) → code_in (single w) ≡ code_in w
unfolding single
single_code w = omega arith

pub single_values : (w : ℕ) → values_in (single w) ≡ values_in w
unfolding single
single_values w = let q : (w % 256 + 16777216 * (w / 16777216)) / 16777216 ≡ w / 16777216 = omega arith in ap (λ (n : ℕ). n % 65536) q

pub single_place : (w : ℕ) → place_in (single w) ≡ place_in w
unfolding single
single_place w = omega arith

-- a single leaf of a run takes what the run takes
single_taken : (t : List ℕ) (w v : ℕ) → taken_by t w v ≡ taken_by t (single w) v
unfolding taken_by
single_taken t w v = rw (single_values w, single_place w) refl

module _ (c : Codec) (t : List ℕ) where
  single-item : (w : ℕ) (p : Place) (x : List ℕ) → item c 42 (code_in w) (taken_by t w) p x ≡ one c t (single w) p x
  single-item w p x =
      ap (λ (n : ℕ). item c 42 n (taken_by t w) p x) (sym (single_code w))
      ∙ item_equal c 42 (code_in (single w)) (taken_by t w) (taken_by t (single w)) (single_taken t w) p x

  run-walk : (w : ℕ) (p : Place) (x : List ℕ) → walk c (run_tree t w) p x ≡ in_turn c t (leaves_of w) p x
  unfolding walk run_tree
  run-walk w p x = in-turn-equal c t (many_in w) (single w) (λ q y. item c 42 (code_in w) (taken_by t w) q y) (single-item w) p x

  -- the walk over runs is the walk over their leaves
  pub spread-walk : (ws : List ℕ) (p : Place) (x : List ℕ) → walk c (runs_tree t ws) p x ≡ in_turn c t (spread ws) p x
  unfolding walk runs_tree spread in_turn through
  spread-walk [] p x = refl
  spread-walk (w ∷ ws) p x =
      through_first (length ws) (λ k q y. walk c (run_tree t (get_or (w ∷ ws) k 0)) q y) p x
      ∙ next_both (walk c (run_tree t w) p x) (in_turn c t (leaves_of w) p x)
      (λ q y. walk c (runs_tree t ws) q y) (in_turn c t (spread ws)) (run-walk w p x) (spread-walk ws)
      ∙ sym (in-turn-append c t (leaves_of w) (spread ws) p x)

-- how many leaves
pub length_spread : (w : ℕ) (ws : List ℕ) → length (spread (w ∷ ws)) ≡ many_in w + length (spread ws)
unfolding spread
length_spread w ws =
    length-append (leaves_of w) (spread ws) ∙ ap (λ (n : ℕ). n + length (spread ws)) (length-replicate (many_in w) (single w))

pub length_single : (w : ℕ) → length (spread (w ∷ [])) ≡ many_in w
unfolding spread
length_single w = let q : length (spread (w ∷ [])) ≡ many_in w + 0 = length_spread w [] in omega arith

-- two equal runs that meet
merged_many : (a b : ℕ) → many_in a + many_in b < 65536 → many_in (merged a b) ≡ many_in a + many_in b
unfolding merged
merged_many a b h = omega arith

merged_single : (a b : ℕ) → many_in a + many_in b < 65536 → single (merged a b) ≡ single a
unfolding merged single
merged_single a b h =
    let q : (a + 256 * (1 + b / 256 % 65536)) / 16777216 ≡ a / 16777216 = omega arith in
    let r : (a + 256 * (1 + b / 256 % 65536)) % 256 ≡ a % 256 = omega arith in
    rw (q, r) refl

alike_single : (a b : ℕ) → alike a b ≡ true → single b ≡ single a
unfolding alike single
alike_single a b h =
    let u = both (eqb (code_in a) (code_in b)) (eqb (a / 16777216) (b / 16777216)) h in
    let q : a % 256 ≡ b % 256 = eqb-true (code_in a) (code_in b) u.0 in
    let r : a / 16777216 ≡ b / 16777216 = eqb-true (a / 16777216) (b / 16777216) u.1 in
    rw (q, r) refl

-- a run behind others
one_behind : (x y : ℕ) → spread (x ∷ []) ++ spread (y ∷ []) ≡ leaves_of x ++ (leaves_of y ++ [])
unfolding spread
one_behind x y = append_assoc (leaves_of x) [] (leaves_of y ++ [])

two_leaves : (x y : ℕ) → many_in x + many_in y < 65536 → alike x y ≡ true → leaves_of (merged x y) ≡ leaves_of x ++ leaves_of y
two_leaves x y h e =
    rw (merged_many x y h, merged_single x y h, alike_single x y e) (sym (replicate-append-replicate (many_in x) (many_in y) (single x)))

pub spread_add : (xs : List ℕ) (y : ℕ) → length (spread xs) + many_in y < 65536 → spread (add xs y) ≡ spread xs ++ spread (y ∷ [])
unfolding add spread
spread_add [] y h = refl
spread_add (x ∷ []) y h = go (alike x y) refl ∙ sym (one_behind x y)
  where
    l : many_in x + many_in y < 65536
    l = omega (arith, length_single x)

    go : (b : Bool) → alike x y ≡ b → spread (cond (alike x y) (merged x y ∷ []) (x ∷ y ∷ [])) ≡ leaves_of x ++ (leaves_of y ++ [])
    go true e = rw e (ap (λ (a : List ℕ). a ++ []) (two_leaves x y l e) ∙ append_assoc (leaves_of x) (leaves_of y) [])
    go false e = rw e refl
spread_add (x ∷ (z ∷ zs)) y h =
    ap (λ (a : List ℕ). leaves_of x ++ a) (spread_add (z ∷ zs) y (omega (arith, length_spread x (z ∷ zs))))
    ∙ sym (append_assoc (leaves_of x) (spread (z ∷ zs)) (spread (y ∷ [])))

length_add : (xs : List ℕ) (y : ℕ) → length (spread xs) + many_in y < 65536 → length (spread (add xs y)) ≡ length (spread xs) + many_in y
length_add xs y h =
    ap (λ (a : List ℕ). length a) (spread_add xs y h) ∙ length-append (spread xs) (spread (y ∷ []))
    ∙ ap (λ (n : ℕ). length (spread xs) + n) (length_single y)

-- runs behind others
pub spread_all : (xs ys : List ℕ) → length (spread xs) + length (spread ys) < 65536 → spread (add_all xs ys) ≡ spread xs ++ spread ys
unfolding add_all spread
spread_all xs [] h = sym (append-nil (spread xs))
spread_all xs (y ∷ ys) h =
    let a : length (spread (y ∷ ys)) ≡ many_in y + length (spread ys) = length_spread y ys in
    let l : length (spread xs) + many_in y < 65536 = omega arith in
    let b : length (spread (add xs y)) ≡ length (spread xs) + many_in y = length_add xs y l in
    spread_all (add xs y) ys (omega arith)
    ∙ ap (λ (a : List ℕ). a ++ spread ys) (spread_add xs y l)
    ∙ append_assoc (spread xs) (spread (y ∷ [])) (spread ys)
    ∙ ap (λ (a : List ℕ). spread xs ++ a) (append_assoc (leaves_of y) [] (spread ys))

-- the runs of parts one behind another
pub length_parts : (g : ℕ → List ℕ) (n : ℕ) → length (parts_of g n) ≡ sum_below (λ k. length (g k)) n
unfolding parts_of sum_below
length_parts g zero = refl
length_parts g (suc n) = length-append (parts_of g n) (g n) ∙ ap (λ (m : ℕ). m + length (g n)) (length_parts g n)

pub spread_row : (f : ℕ → List ℕ) (n : ℕ) → sum_below (λ k. length (spread (f k))) n < 65536 → spread (row_runs f n) ≡ parts_of (λ k. spread (f k)) n
unfolding row_runs parts_of sum_below spread
spread_row f zero h = refl
spread_row f (suc n) h =
    let a : sum_below (λ k. length (spread (f k))) n < 65536 = omega arith in
    let b : spread (row_runs f n) ≡ parts_of (λ k. spread (f k)) n = spread_row f n a in
    let d : length (spread (row_runs f n)) ≡ sum_below (λ k. length (spread (f k))) n =
    ap (λ (l : List ℕ). length l) b ∙ length_parts (λ k. spread (f k)) n in
    spread_all (row_runs f n) (f n) (omega arith) ∙ ap (λ (l : List ℕ). l ++ spread (f n)) b

-- each run has a leaf at least
abbrev pub Some : List ℕ → Type 0
Some [] = 0 ≤ 1
Some (w ∷ ws) = (1 ≤ many_in w) × Some ws

pub some_few : (ws : List ℕ) → Some ws → length ws ≤ length (spread ws)
unfolding spread
some_few [] h = omega arith
some_few (w ∷ ws) h = omega (arith, length_spread w ws, some_few ws h.1, h.0)

some_add : (xs : List ℕ) (y : ℕ) → length (spread xs) + many_in y < 65536 → Some xs → 1 ≤ many_in y → Some (add xs y)
unfolding add
some_add [] y h a b = (b, omega arith)
some_add (x ∷ []) y h a b = go (alike x y) refl
  where
    go : (u : Bool) → alike x y ≡ u → Some (cond (alike x y) (merged x y ∷ []) (x ∷ y ∷ []))
    go true e = rw e (omega (arith, merged_many x y (omega (arith, length_single x)), a.0), omega arith)
    go false e = rw e (a.0, (b, omega arith))
some_add (x ∷ (z ∷ zs)) y h a b = (a.0, some_add (z ∷ zs) y (omega (arith, length_spread x (z ∷ zs))) a.1 b)

some_all : (xs ys : List ℕ) → length (spread xs) + length (spread ys) < 65536 → Some xs → Some ys → Some (add_all xs ys)
unfolding add_all
some_all xs [] h a b = a
some_all xs (y ∷ ys) h a b =
    let d : length (spread (y ∷ ys)) ≡ many_in y + length (spread ys) = length_spread y ys in
    let l : length (spread xs) + many_in y < 65536 = omega arith in
    let e : length (spread (add xs y)) ≡ length (spread xs) + many_in y = length_add xs y l in
    some_all (add xs y) ys (omega arith) (some_add xs y l a b.0) b.1

pub some_row : (f : ℕ → List ℕ) (n : ℕ) → sum_below (λ k. length (spread (f k))) n < 65536 → ((k : ℕ) → k < n → Some (f k)) → Some (row_runs f n)
unfolding row_runs sum_below
some_row f zero h a = omega arith
some_row f (suc n) h a =
    let b : sum_below (λ k. length (spread (f k))) n < 65536 = omega arith in
    let d : length (spread (row_runs f n)) ≡ sum_below (λ k. length (spread (f k))) n =
    ap (λ (l : List ℕ). length l) (spread_row f n b) ∙ length_parts (λ k. spread (f k)) n in
    some_all (row_runs f n) (f n) (omega arith) (some_row f n b (λ k l. a k (omega arith))) (a n (omega arith))
