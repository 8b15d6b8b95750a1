-- A request that was just entered, under a number that was free, on any list of 128 words: it is pending, and once it is given up
-- nothing is pending under its number.
-- Assumes nothing.
use Prim.Native.Nat.{ℕ, ◌+◌, ◌*◌, ◌/◌, ◌%◌, ◌^◌, ◌<◌}
use Rattle.std.specs.Prelude.{Option, Some, None}
use mathlib.Core.Path.{◌≡◌, refl, sym, ap, ap₂, ◌∙◌}
use mathlib.Core.Bool.{Bool, true, false}
use mathlib.Core.List.{List}
use borrow.Author.Tests.{eqb-true, eqb-false}
use lib.Dec.{eqb}
use lib.ListN.{length}
use Rattle.pending.specs.Places.{number_at, place_of, free_place, entered, cleared}
use Rattle.pending.specs.Free.{is_pending}
use Rattle.pending.specs.Answers.{asked_at, awaited_of, cleared_at, cancelled}
use Rattle.pending.proofs.Looking.{IsFirst, is-first, its-place, no_place}
use Rattle.pending.proofs.Placing.{placed-length, word-here, target-here, word-elsewhere, number_in, id-in}
use Rattle.pending.proofs.AsMap.{absent, not-standing}

module _ (l : List ℕ) (whole : length l ≡ 128) (k n id target : ℕ) (free : free_place l ≡ Some k) (small : id < 2 ^ 32) (not_zero : n ≡ 0 → ⊥)
    (not_taken : is_pending l n ≡ false) where
  place_is : k < 64
  place_is = (is-first l 0 64 0 k free).below

  abbrev new : List ℕ
  new = entered l k n id target

  new-number : number_at new k ≡ n
  new-number = ap (λ (x : ℕ). x / 2 ^ 32) (word-here l k (n * 2 ^ 32 + id) target place_is whole) ∙ number_in n id small

  -- no other place bears its number
  elsewhere : (j : ℕ) → j < 64 → (j ≡ k → ⊥) → number_at new j ≡ n → ⊥
  elsewhere j h d e =
      no_place l n (not-standing l n not_taken) not_zero j h
      (sym (ap (λ (x : ℕ). x / 2 ^ 32) (word-elsewhere l k (n * 2 ^ 32 + id) target place_is j d h)) ∙ e)

  stands-new : place_of new n ≡ Some k
  stands-new = go (place_of new n) refl
    where
      same : (j : ℕ) → IsFirst new n 64 0 j → (b : Bool) → eqb j k ≡ b → j ≡ k
      same j f true e = eqb-true j k e
      same j f false e = absurd (elsewhere j f.below (eqb-false j k e) f.named)

      go : (s : Option ℕ) → place_of new n ≡ s → place_of new n ≡ Some k
      go (Some j) p = p ∙ ap Some (same j (its-place new n j p) (eqb j k) refl)
      go None p = absurd (no_place new n p not_zero k place_is new-number)

  pub is-awaited : awaited_of (entered l k n id target) n ≡ Some (id, target)
  is-awaited =
      ap (asked_at new) stands-new
      ∙ ap₂ (λ (a b : ℕ). Some (a, b)) (ap (λ (x : ℕ). x % 2 ^ 32) (word-here l k (n * 2 ^ 32 + id) target place_is whole) ∙ id-in n id small)
      (target-here l k (n * 2 ^ 32 + id) target place_is whole)

  pub no_longer : awaited_of (cancelled (entered l k n id target) n) n ≡ None
  no_longer = ap (λ (s : Option ℕ). awaited_of (cleared_at new s) n) stands-new ∙ ap (asked_at (cleared new k)) (absent (cleared new k) n none)
    where
      long : length new ≡ 128
      long = placed-length l k (n * 2 ^ 32 + id) target place_is ∙ whole

      none : (j : ℕ) → j < 64 → number_at (cleared new k) j ≡ n → n ≡ 0
      none j h e = go (eqb j k) refl
        where
          go : (b : Bool) → eqb j k ≡ b → n ≡ 0
          go true q =
              sym e ∙ ap (number_at (cleared new k)) (eqb-true j k q)
              ∙ ap (λ (x : ℕ). x / 2 ^ 32) (word-here new k 0 0 place_is long)
          go false q =
              absurd (elsewhere j h (eqb-false j k q)
              (sym (ap (λ (x : ℕ). x / 2 ^ 32) (word-elsewhere new k 0 0 place_is j (eqb-false j k q) h)) ∙ e))
