-- What the first 8 bytes of an entry say, read as one number, and what stands behind them.
-- Assumes nothing.
use Prim.Native.Nat.{ℕ, ◌+◌, ◌-◌, ◌*◌, ◌/◌, ◌%◌, ◌≤◌, ◌<◌}
use mathlib.Core.Path.{◌≡◌, refl, ap, ◌∙◌}
use mathlib.Core.Bool.{Bool, true}
use mathlib.Core.List.{List}
use native.Mathlib.Nat.{add_assoc}
use native.Mathlib.Omega.{arith}
use lib.Dec.{leb}
use lib.ListN.{length, get_or, take, drop}
use mir.Syntax.{w8}
use mir.Val.{Fits}
use Rattle.wire.specs.Bytes.{number, whole}
use Rattle.wire.proofs.Numbers.{number_lt, whole_in, read_in}
use Rattle.wire.proofs.Runs.{held}
use Rattle.operations.specs.declared.Operation.{Operation}
use Rattle.operations.specs.Entries.{width_of, kind_at, op_place, response_at, operation_at}
use Rattle.operations.specs.Search.{half}
use Rattle.operations.proofs.Places.{next-by-kind}

-- a 32-bit and two 16-bit numbers, of which a 64-bit one is made
parts : (a b c w : ℕ) → b < 65536 → c < 65536 → w ≡ a * half + (b * 65536 + c)
    → (w / half ≡ a) × ((w / 65536 % 65536 ≡ b) × (w % 65536 ≡ c))
parts a b c w hb hc e = (omega arith, (omega arith, omega arith))

module _ (t : List ℕ) (p w : ℕ) (known : (k : ℕ) → Fits w8 (get_or t k 0)) (is : w ≡ number 3 t p) where
  below : (q : ℕ) → number 1 t q < 65536
  below q = number_lt 1 t q (λ k. (known k).fits)

  its-parts : (w / half ≡ number 2 t p) × ((w / 65536 % 65536 ≡ number 1 t (p + 4)) × (w % 65536 ≡ number 1 t (p + 6)))
  its-parts =
      parts (number 2 t p) (number 1 t (p + 4)) (number 1 t (p + 6)) w (below (p + 4)) (below (p + 6))
      (omega (arith, ap (number 1 t) (add_assoc p 4 2)))

  pub head-kind : w / 65536 % 65536 ≡ kind_at t p
  unfolding kind_at
  head-kind = its-parts.1.0

-- the entry, by its head
module _ (t : List ℕ) (p w k : ℕ) (kind : w / 65536 % 65536 ≡ kind_at t p) (is : k ≡ w / 65536 % 65536) where
  pub kind-read : k ≡ kind_at t p
  kind-read = is ∙ kind

  pub operation_read : (d s : ℕ) → w / half ≡ number 2 t p → d ≡ w / half → w % 65536 ≡ number 1 t (p + 6) → s ≡ response_at t (p + 8) k
      → ◌≡◌ {A = Operation} (record { id = d; kind = k; carries = w % 65536; responds = s }) (operation_at t p)
  unfolding operation_at
  operation_read d s a g b e = rw (e, g, a, b, kind-read) refl

  pub next-by-head : (first i v : ℕ) → p ≡ op_place t first i → v ≡ width_of k → p + v ≡ op_place t first (i + 1)
  next-by-head first i v here e = next-by-kind t first i p here k v kind-read e

-- a 16-bit number from a part that is named by its ends
two_in : (t : List ℕ) (p q k : ℕ) → q ≡ p + 2 → q ≤ length t → k ≡ whole 1 (take (q - p) (drop p t)) 0 → k ≡ number 1 t p
two_in t p q k e h g = read_in 1 t p k (omega arith) (g ∙ ap (λ (n : ℕ). whole 1 (take (n - p) (drop p t)) 0) e)

pub ends_in : (t : List ℕ) (q k : ℕ) → 2 ≤ q → q ≤ length t → k ≡ whole 1 (take (q - (q - 2)) (drop (q - 2) t)) 0 → k ≡ number 1 t (q - 2)
ends_in t q k l h g = two_in t (q - 2) q k (omega arith) h g
