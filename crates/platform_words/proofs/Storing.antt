-- A platform in its words: what reading and writing show, and that the words of a platform read back as that platform.
-- Assumes nothing.
use Prim.Native.Nat.{ℕ, ◌^◌, ◌≤◌, ◌<◌}
use mathlib.Core.Path.{◌≡◌, ◌∙◌}
use mathlib.Core.List.{List, ◌++◌}
use native.Mathlib.Nat.{mod-eq_of_lt}
use lib.ListN.{length, get_or}
use Rattle.wire.proofs.Cond.{yes_le}
use Rattle.states.specs.declared.States.{States}
use Rattle.platform.specs.declared.reactions.Standing.{Standing}
use Rattle.platform_words.specs.Words.{standing_length, states_in, next_in, standing_in, pending_in, standing_words, with_standing}

module _ (ws : List ℕ) where
  pub states-in : {a b c d : ℕ} → a ≡ get_or ws 0 0 → b ≡ get_or ws 1 0 → c ≡ get_or ws 2 0 → d ≡ get_or ws 3 0
      → record { w0 = a; w1 = b; w2 = c; w3 = d } ≡ states_in ws
  states-in ea eb ec ed = rw (ea, eb, ec, ed)

  pub standing-in : {s : States} {n : ℕ} → s ≡ states_in ws → n ≡ next_in ws → record { states = s; next = n } ≡ standing_in ws
  standing-in es en = rw (es, en)

-- words that keep a standing from now on
module _ (ws : List ℕ) (p : Standing) where
  pub kept-standing : {x : List ℕ} → standing_length ≤ length ws → x ≡ with_standing ws p → x ≡ standing_words p ++ pending_in ws
  kept-standing h e = e ∙ yes_le (standing_words p ++ pending_in ws) ws standing_length (length ws) h

-- the words of a platform, whatever stands behind them, read back as that platform
pub read_back : (p : Standing) (ws : List ℕ) → p.next < 2 ^ 32 → standing_in (standing_words p ++ ws) ≡ p
read_back p ws h = rw (mod-eq_of_lt h)
