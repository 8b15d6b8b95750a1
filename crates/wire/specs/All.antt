-- Every entry below n passes a test; and entries that rise.
use Rattle.std.specs.Prelude.{ℕ, zero, suc, ◌-◌, Bool, true, ◌&&◌, ◌||◌, ltb, eqb}

unfoldable pub all_below : (ℕ → Bool) → ℕ → Bool
all_below f zero = true
all_below f (suc n) = all_below f n && f n

-- the k-th is the first, or above the one before it
unfoldable pub above : (ℕ → ℕ) → ℕ → Bool
above r k = eqb k 0 || ltb (r (k - 1)) (r k)
