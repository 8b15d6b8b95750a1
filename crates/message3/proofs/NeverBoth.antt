-- No bytes are read under both issues: byte 2 would be 2, and 16 to 31.
-- Assumes nothing.
use Prim.Native.Nat.{ℕ}
use mathlib.Core.Path.{◌≡◌}
use mathlib.Core.List.{List}
use native.Mathlib.Omega.{arith}
use Rattle.message.specs.Refusal.{read_refusal}
use Rattle.message.proofs.Accepted.{readable as readable6}
use Rattle.message3.specs.Refusal.{read_refusal3}
use Rattle.message3.proofs.Accepted.{readable}

pub never_both : (own reader : ℕ) (s : List ℕ) → read_refusal own s ≡ 0 → read_refusal3 reader s ≡ 0 → ⊥
never_both own reader s e f = omega (arith, (readable6 own s e).version, (readable reader s f).version)
