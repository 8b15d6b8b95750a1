-- Leaves of one base code that have their bytes, four in a turn: that those of each turn have theirs, and so have those that are left.
-- Assumes nothing.
use Prim.Native.Nat.{ℕ, ◌+◌, ◌-◌, ◌*◌, ◌/◌, ◌^◌, ◌≤◌, ◌<◌}
use mathlib.Core.Path.{◌≡◌}
use native.Mathlib.Nat.{mul-le-mul_right, add-mul}
use native.Mathlib.Omega.{arith}
use mir.Syntax.{w64}
use mir.Val.{Fits}
use Rattle.table.specs.Leaf.{width}

module _ (l from n w code : ℕ) (is : w ≡ width code) (room : from + n * width code ≤ l) where
  -- m leaves, and j behind them
  both-in : (m j : ℕ) → m + j ≤ n → from + m * w + j * width code ≤ l
  both-in m j h = rw is (omega (arith, mul-le-mul_right (width code) h, add-mul m j (width code)))

  module _ (k : ℕ) (less : k < n / 4) where
    pub four-in : from + 4 * k * w + 4 * width code ≤ l
    four-in = both-in (4 * k) 4 (omega arith)

    module _ (h : l * 1 < 2 ^ 63) where
      pub four-times : Fits w64 (4 * k * w)
      four-times = record { fits = omega (arith, four-in) }

      pub four-place : Fits w64 (from + 4 * k * w)
      four-place = record { fits = omega (arith, four-in) }

  pub rest_in : from + 4 * (n / 4) * w + (n - 4 * (n / 4)) * width code ≤ l
  rest_in = both-in (4 * (n / 4)) (n - 4 * (n / 4)) (omega arith)

  module _ (h : l * 1 < 2 ^ 63) where
    pub rest-times : Fits w64 (4 * (n / 4) * w)
    rest-times = record { fits = omega (arith, rest_in) }

    pub rest-place : Fits w64 (from + 4 * (n / 4) * w)
    rest-place = record { fits = omega (arith, rest_in) }
