-- What `all` answers, which `services::are_known` asks of the states that a status of services tells.
-- Assumes nothing.
use Prim.Native.Nat.{ℕ, ◌<◌}
use mathlib.Core.Path.{◌≡◌, refl, sym, ap, ◌∙◌}
use mathlib.Core.Bool.{Bool, true, false}
use native.Mathlib.Omega.{arith}
use lib.ListN.{length, get_or}
use Rattle.std.specs.Bool.{MatchBool}
use Rattle.std.specs.List.{range_with_len, AllWithin, HoldsAt}
use Rattle.std.proofs.lemmas.List.FromFn.{length-range_with_len, get_or-range_with_len}
use Rattle.wire.specs.All.{all_below}
use Rattle.wire.proofs.AllBelow.{all-below, stop-below}

module _ (f : ℕ → Bool) (n : ℕ) where
  -- the numbers below n all passed, or one did not
  abbrev Asked : Bool → Type 0
  Asked b =
      MatchBool b
      (AllWithin (λ (i : ℕ). f i ≡ true) (range_with_len 0 n) 0 (length (range_with_len 0 n)))
      ((k : ℕ) × (k < length (range_with_len 0 n)) × HoldsAt (λ (i : ℕ). f i ≡ false) (range_with_len 0 n) k)

  long : length (range_with_len 0 n) ≡ n
  long = length-range_with_len 0 n

  the_number : (i : ℕ) → i < n → get_or (range_with_len 0 n) i 0 ≡ i
  the_number i l = omega (arith, get_or-range_with_len 0 n i 0 l)

  pub all-asked : (b : Bool) → Asked b → b ≡ all_below f n
  all-asked true h =
      sym (all-below f n (λ i l. ap f (sym (the_number i l)) ∙ h i 0 (omega arith) (omega (arith, long))))
  all-asked false h =
      let l : h.0 < n = omega (arith, long, h.1) in
      stop-below f n h.0 (f h.0) refl (ap f (sym (the_number h.0 l)) ∙ h.2 0) l
