-- What a word says of its service, and the word that says it.
-- Assumes nothing.
use Prim.Native.Nat.{ℕ, ◌+◌, ◌*◌, ◌/◌, ◌^◌}
use mathlib.Core.Path.{◌≡◌}
use borrow.Author.Tests.{eq-eqb, ne_eqb}
use Rattle.services.specs.declared.Availability.TheVariants.{Unheard, Unavailable, Available}
use Rattle.services.specs.Word.{says, word_for}

-- `said`
module _ (w : ℕ) where
  pub says-unheard : w / 2 ^ 32 ≡ 0 → Unheard ≡ says w
  unfolding says
  says-unheard e = rw (eq-eqb (w / 2 ^ 32) 0 e)

  pub says-available : w / 2 ^ 32 ≡ 2 → Available ≡ says w
  unfolding says
  says-available e = rw e

  pub says-unavailable : (w / 2 ^ 32 ≡ 0 → ⊥) → (w / 2 ^ 32 ≡ 2 → ⊥) → Unavailable ≡ says w
  unfolding says
  says-unavailable e f = rw (ne_eqb (w / 2 ^ 32) 0 e, ne_eqb (w / 2 ^ 32) 2 f)

-- `word_for`
module _ (id state : ℕ) where
  pub word-available : state ≡ 1 → 2 * 2 ^ 32 + id ≡ word_for id state
  unfolding word_for
  word-available e = rw (eq-eqb state 1 e)

  pub word-unavailable : (state ≡ 1 → ⊥) → 1 * 2 ^ 32 + id ≡ word_for id state
  unfolding word_for
  word-unavailable e = rw (ne_eqb state 1 e)
