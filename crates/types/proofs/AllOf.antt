-- What `all` over a range or over a part of a list answers: whether a test passes for each number below a bound.
-- Assumes nothing.
use Rattle.std.proofs.Common.{◌≡◌, ℕ, zero, suc, ◌+◌, ◌<◌, Bool, true, false, ◌&&◌, List, [], ◌∷◌, length, get_or, refl, sym, ap, ◌∙◌, arith}
use Rattle.std.specs.List.{list_all, range_with_len}
use Rattle.wire.specs.All.{all_below}

-- the first one apart from the others
from-front : (f : ℕ → Bool) (n : ℕ) → all_below f (suc n) ≡ (f 0 && all_below (λ (k : ℕ). f (suc k)) n)
unfolding all_below
from-front f zero = go (f 0)
  where
    go : (a : Bool) → (true && a) ≡ (a && true)
    go true = refl
    go false = refl
from-front f (suc n) = ap (λ (b : Bool). b && f (suc n)) (from-front f n) ∙ go (f 0) (all_below (λ (k : ℕ). f (suc k)) n) (f (suc n))
  where
    go : (a b c : Bool) → ((a && b) && c) ≡ (a && (b && c))
    go true b c = refl
    go false b c = refl

-- tests that agree below n
pub same_below : (f g : ℕ → Bool) (n : ℕ) → ((k : ℕ) → k < n → f k ≡ g k) → all_below f n ≡ all_below g n
unfolding all_below
same_below f g zero h = refl
same_below f g (suc n) h = rw (same_below f g n (λ k l. h k (omega arith)), h n (omega arith)) refl

all_from : (f : ℕ → Bool) (a n : ℕ) → list_all f (range_with_len a n) ≡ all_below (λ (k : ℕ). f (a + k)) n
unfolding all_below
all_from f a zero = refl
all_from f a (suc n) =
    let h : a ≡ a + 0 = omega arith in
    rw (all_from f (a + 1) n, from-front (λ (k : ℕ). f (a + k)) n, ← h)
    (ap (λ (b : Bool). f a && b) (same_below (λ (k : ℕ). f (a + 1 + k)) (λ (k : ℕ). f (a + suc k)) n (λ k l. ap f (omega arith))))

pub all_of_range : (f : ℕ → Bool) (n : ℕ) → list_all f (range_with_len 0 n) ≡ all_below f n
all_of_range f n = all_from f 0 n ∙ same_below (λ (k : ℕ). f (0 + k)) f n (λ k l. ap f (omega arith))

pub all_of_list : (f : ℕ → Bool) (xs : List ℕ) → list_all f xs ≡ all_below (λ (k : ℕ). f (get_or xs k 0)) (length xs)
unfolding all_below
all_of_list f [] = refl
all_of_list f (x ∷ xs) = ap (λ (b : Bool). f x && b) (all_of_list f xs) ∙ sym (from-front (λ (k : ℕ). f (get_or (x ∷ xs) k 0)) (length xs))
