-- The words of a platform whose list alone is another.
-- Assumes nothing.
use Prim.Native.Nat.{ℕ, ◌%◌, ◌^◌, ◌≤◌, ◌<◌}
use mathlib.Core.Path.{◌≡◌, ap, ap₂}
use mathlib.Core.List.{List, ◌++◌}
use native.Mathlib.Omega.{arith}
use lib.ListN.{length, take, get_or}
use Rattle.platform.specs.declared.reactions.Standing.{Standing}
use Rattle.platform_words.specs.Words.{standing_length, standing_in, pending_in, standing_words}
use Rattle.platform_words.proofs.Behind.{word_back, part-back}
use Rattle.platform_words.proofs.Storing.{states-in, standing-in}

-- a platform whose list alone is another
pub kept_behind : (ws l : List ℕ) → standing_length ≤ length ws
    → standing_words (standing_in (take standing_length ws ++ l)) ++ pending_in (take standing_length ws ++ l) ≡ standing_words (standing_in ws) ++ l
kept_behind ws l h = ap₂ (λ (p : Standing) (u : List ℕ). standing_words p ++ u) standing-kept (part-back standing_length ws h l)
  where
    word_kept : (i : ℕ) → i < standing_length → get_or (take standing_length ws ++ l) i 0 ≡ get_or ws i 0
    word_kept = word_back standing_length ws h l

    standing-kept : standing_in (take standing_length ws ++ l) ≡ standing_in ws
    standing-kept =
        standing-in ws
        (states-in ws (word_kept 0 (omega arith)) (word_kept 1 (omega arith)) (word_kept 2 (omega arith)) (word_kept 3 (omega arith)))
        (ap (λ (x : ℕ). x % 2 ^ 32) (word_kept 4 (omega arith)))
