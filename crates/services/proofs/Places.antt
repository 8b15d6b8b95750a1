-- The first word of a block that bears an ID or is free.
-- Assumes nothing.
use Prim.Native.Nat.{ℕ, zero, suc, ◌+◌, ◌≤◌, ◌<◌}
use mathlib.Core.Path.{◌≡◌, refl, sym, ap, ◌∙◌}
use mathlib.Core.Bool.{Bool, true, false, cond, true≢false}
use mathlib.Core.List.{List, [], ◌∷◌}
use native.Mathlib.Omega.{arith}
use lib.ListN.{length, get_or}
use Rattle.services.specs.Word.{is_place_for}
use Rattle.services.specs.Block.{service_place}

pub place_le : (b : List ℕ) (x : ℕ) → service_place b x ≤ length b
place_le [] x = omega arith
place_le (w ∷ ws) x = go (is_place_for w x) (place_le ws x)
  where
    go : (t : Bool) → service_place ws x ≤ length ws → cond t 0 (suc (service_place ws x)) ≤ suc (length ws)
    go true h = omega arith
    go false h = omega arith

at_place : (b : List ℕ) (x : ℕ) → service_place b x < length b → is_place_for (get_or b (service_place b x) 0) x ≡ true
at_place [] x h = absurd (omega arith)
at_place (w ∷ ws) x h = go (is_place_for w x) refl (at_place ws x) h
  where
    go : (t : Bool) → is_place_for w x ≡ t → (service_place ws x < length ws → is_place_for (get_or ws (service_place ws x) 0) x ≡ true)
        → cond t 0 (suc (service_place ws x)) < suc (length ws) → is_place_for (get_or (w ∷ ws) (cond t 0 (suc (service_place ws x))) 0) x ≡ true
    go true e r k = e
    go false e r k = r (omega arith)

place_first : (b : List ℕ) (x i : ℕ) → i < length b → is_place_for (get_or b i 0) x ≡ true → service_place b x ≤ i
place_first [] x i h e = absurd (omega arith)
place_first (w ∷ ws) x i h e = go (is_place_for w x) refl (place_first ws x) i h e
  where
    go : (t : Bool) → is_place_for w x ≡ t → ((j : ℕ) → j < length ws → is_place_for (get_or ws j 0) x ≡ true → service_place ws x ≤ j)
        → (j : ℕ) → j < suc (length ws) → is_place_for (get_or (w ∷ ws) j 0) x ≡ true → cond t 0 (suc (service_place ws x)) ≤ j
    go true f r j k g = omega arith
    go false f r zero k g = absurd (true≢false (sym g ∙ f))
    go false f r (suc j) k g = omega (arith, r j (omega arith) g)

-- `place`: none before i is one for x
module _ (b : List ℕ) (x i : ℕ) (n : i ≤ service_place b x) where
  pub found_here : {r : Bool} → i < length b → r ≡ is_place_for (get_or b i 0) x → r ≡ true → i ≡ service_place b x
  found_here h e t =
      let p : service_place b x ≤ i = place_first b x i h (sym e ∙ t) in
      omega arith

  pub not-here : {r : Bool} → i < length b → r ≡ is_place_for (get_or b i 0) x → r ≡ false → i + 1 ≤ service_place b x
  not-here h e t =
      let p : service_place b x ≡ i → ⊥ =
      λ q. true≢false (sym (at_place b x (omega arith)) ∙ ap (λ (k : ℕ). is_place_for (get_or b k 0) x) q ∙ sym e ∙ t) in
      omega arith

  pub found_nowhere : length b ≤ i → length b ≡ service_place b x
  found_nowhere h =
      let p : service_place b x ≤ length b = place_le b x in
      omega arith
