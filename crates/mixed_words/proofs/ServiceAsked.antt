-- What is known of a partner's service, at the case that the code has met.
-- Assumes nothing.
use Prim.Native.Nat.{ℕ, ◌+◌, ◌-◌, ◌≤◌, ◌<◌, min}
use mathlib.Core.Path.{◌≡◌, refl, sym, ap, ◌∙◌}
use mathlib.Core.Bool.{Bool, true, false}
use mathlib.Core.List.{List}
use native.Mathlib.Omega.{arith}
use borrow.Author.Tests.{leb-true, leb-false}
use lib.Dec.{leb}
use lib.ListN.{length, take, drop, length-drop}
use lib.Seq.{take_all}
use Rattle.services.specs.Block.{services}

-- `block_at`
module _ (ws : List ℕ) (start : ℕ) where
  pub part-of-block : {n : ℕ} → start ≤ length ws → n ≡ min services (length ws - start)
      → take (start + n - start) (drop start ws) ≡ take services (drop start ws)
  part-of-block {n} h en = let d : start + n - start ≡ n = omega arith in ap (λ (a : ℕ). take a (drop start ws)) d ∙ as_many
    where
      go : (b : Bool) → leb services (length ws - start) ≡ b → take n (drop start ws) ≡ take services (drop start ws)
      go true e =
          let k : services ≤ length ws - start = leb-true services (length ws - start) e in
          let d : n ≡ services = omega arith in
          ap (λ (a : ℕ). take a (drop start ws)) d
      go false e =
          let k : length ws - start < services = leb-false services (length ws - start) e in
          take_all n (drop start ws) (omega (arith, length-drop start ws)) ∙ sym (take_all services (drop start ws) (omega (arith, length-drop start ws)))

      as_many : take n (drop start ws) ≡ take services (drop start ws)
      as_many = go (leb services (length ws - start)) refl
