-- Laws of `place_of`, `distinct` and `every`: the first place of a number in a list, a list that has none twice, and a
-- test that every element passes.
-- Assumes nothing.
use Prim.Native.Nat.{ℕ, zero, suc, ◌≤◌, ◌<◌}
use mathlib.Core.Path.{◌≡◌, refl, sym}
use mathlib.Core.Bool.{Bool, true, false, cond}
use mathlib.Core.List.{List, [], ◌∷◌}
use native.Mathlib.Omega.{arith}
use borrow.Author.Tests.{eq-eqb, eqb-true, eqb-false}
use lib.Dec.{eqb}
use lib.ListN.{length, get_or}
use Rattle.wire.proofs.Cond.{and_true, and_left, and_right}
use Rattle.channel.specs.declared.Channel.{Channel}
use Rattle.joiner.specs.Setup.{place_of, distinct, every}

pub not_true_false : (t : Bool) → (t ≡ true → ⊥) → t ≡ false
not_true_false true n = absurd (n refl)
not_true_false false n = refl

pub place_le : (l : List ℕ) (x : ℕ) → place_of l x ≤ length l
place_le [] x = omega arith
place_le (y ∷ ys) x = go (eqb y x) (place_le ys x)
  where
    go : (t : Bool) → place_of ys x ≤ length ys → cond t 0 (suc (place_of ys x)) ≤ suc (length ys)
    go true h = omega arith
    go false h = omega arith

-- x stands at its place, where that is within the list
pub at_place : (l : List ℕ) (x : ℕ) → place_of l x < length l → get_or l (place_of l x) 0 ≡ x
at_place [] x h = absurd (omega arith)
at_place (y ∷ ys) x h = go (eqb y x) refl (at_place ys x) h
  where
    go : (t : Bool) → eqb y x ≡ t → (place_of ys x < length ys → get_or ys (place_of ys x) 0 ≡ x) →
        cond t 0 (suc (place_of ys x)) < suc (length ys) → get_or (y ∷ ys) (cond t 0 (suc (place_of ys x))) 0 ≡ x
    go true e r k = eqb-true y x e
    go false e r k = r (omega arith)

-- the place is not behind any place where x stands
pub place_first : (l : List ℕ) (x a : ℕ) → a < length l → get_or l a 0 ≡ x → place_of l x ≤ a
place_first [] x a h e = absurd (omega arith)
place_first (y ∷ ys) x a h e = go (eqb y x) refl (place_first ys x) a h e
  where
    go : (t : Bool) → eqb y x ≡ t → ((b : ℕ) → b < length ys → get_or ys b 0 ≡ x → place_of ys x ≤ b) →
        (b : ℕ) → b < suc (length ys) → get_or (y ∷ ys) b 0 ≡ x → cond t 0 (suc (place_of ys x)) ≤ b
    go true f r b k g = omega arith
    go false f r zero k g = absurd (eqb-false y x f g)
    go false f r (suc b) k g = omega (arith, r b (omega arith) g)

pub place_found : (l : List ℕ) (x i : ℕ) → ((k : ℕ) → k < i → get_or l k 0 ≡ x → ⊥) → i < length l → get_or l i 0 ≡ x → i ≡ place_of l x
place_found l x i n h e =
    let p : place_of l x ≤ i = place_first l x i h e in
    let q : place_of l x < i → ⊥ = λ lt. n (place_of l x) lt (at_place l x (omega arith)) in
    omega arith

pub place_none : (l : List ℕ) (x i : ℕ) → length l ≡ i → ((k : ℕ) → k < i → get_or l k 0 ≡ x → ⊥) → i ≡ place_of l x
place_none l x i h n =
    let p : place_of l x ≤ length l = place_le l x in
    let q : place_of l x < i → ⊥ = λ lt. n (place_of l x) lt (at_place l x (omega arith)) in
    omega arith

pub distinct_says : (l : List ℕ) → distinct l ≡ true → (a b : ℕ) → a < b → b < length l → get_or l a 0 ≡ get_or l b 0 → ⊥
distinct_says [] e a b h k g = omega arith
distinct_says (x ∷ xs) e a zero h k g = omega arith
distinct_says (x ∷ xs) e zero (suc b) h k g =
    let p : place_of xs x ≡ length xs = eqb-true (place_of xs x) (length xs) (and_left (eqb (place_of xs x) (length xs)) (distinct xs) e) in
    omega (arith, place_first xs x b (omega arith) (sym g))
distinct_says (x ∷ xs) e (suc a) (suc b) h k g = distinct_says xs (and_right (eqb (place_of xs x) (length xs)) (distinct xs) e) a b (omega arith) (omega arith) g

pub is_distinct : (l : List ℕ) → ((a b : ℕ) → a < b → b < length l → get_or l a 0 ≡ get_or l b 0 → ⊥) → distinct l ≡ true
is_distinct [] n = refl
is_distinct (x ∷ xs) n =
    let p : place_of xs x ≤ length xs = place_le xs x in
    let q : place_of xs x < length xs → ⊥ = λ lt. n 0 (suc (place_of xs x)) (omega arith) (omega arith) (sym (at_place xs x lt)) in
    and_true (eqb (place_of xs x) (length xs)) (distinct xs) (eq-eqb (place_of xs x) (length xs) (omega arith))
    (is_distinct xs (λ a b h k g. n (suc a) (suc b) (omega arith) (omega arith) g))

module _ (f : Channel → Bool) (d : Channel) where
  pub every-at : (l : List Channel) (k : ℕ) → every f l ≡ true → k < length l → f (get_or l k d) ≡ true
  every-at [] k e h = absurd (omega arith)
  every-at (x ∷ xs) zero e h = and_left (f x) (every f xs) e
  every-at (x ∷ xs) (suc k) e h = every-at xs k (and_right (f x) (every f xs) e) (omega arith)

  pub every-by : (l : List Channel) → ((k : ℕ) → k < length l → f (get_or l k d) ≡ true) → every f l ≡ true
  every-by [] h = refl
  every-by (x ∷ xs) h = and_true (f x) (every f xs) (h 0 (omega arith)) (every-by xs (λ k l. h (suc k) (omega arith)))
