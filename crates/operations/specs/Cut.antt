-- 01, "30 and 31: whichever is met first in reading order"; 02, 1: a section of operations that is cut short, 30, as it is met entry
-- by entry. It is the same as a section that ends past the bytes (`cut_by_its_end` of proofs/Places).
use Rattle.std.specs.Prelude.{ℕ, zero, suc, ◌+◌, Bool, true, false, cond, List, ltb, length}
use Rattle.operations.specs.Entries.{op_width}

-- of n entries from p on one is cut short: its first 8 bytes, which have its kind, or what a wide one goes on with
unfoldable pub cut_from : List ℕ → ℕ → ℕ → Bool
cut_from t p zero = false
cut_from t p (suc n) = cond (ltb (length t) (p + 8)) true (cond (ltb (length t) (p + op_width t p)) true (cut_from t (p + op_width t p) n))
