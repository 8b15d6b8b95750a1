-- Bytes moved to the front of their own buffer.
-- Assumes nothing.
use Rattle.std.proofs.Common.{◌≡◌, ℕ, ◌+◌, ◌-◌, ◌≤◌, Bool, true, false, leb, List, [], ◌++◌, length, take, drop, sym, ap, ◌∙◌, arith, length-drop, length-take-le}
use Rattle.std.specs.List.{copy_within}
use Rattle.wire.specs.Bytes.{over, part}
use Rattle.wire.proofs.Runs.{held, failed, part_in, part_out, over_none}

-- where they all lie in the buffer
module _ {t : Bool} (s : List ℕ) (from count : ℕ) (e : t ≡ leb (from + count) (length s)) (f : t ≡ true) where
  within : from + count ≤ length s
  within = held (from + count) (length s) e f

  moving-length : length (take count (drop from s)) ≡ count
  moving-length = length-take-le count (drop from s) (omega (arith, within, length-drop from s))

  pub keep_all : {u : List ℕ} → u ≡ copy_within s from (from + count) 0 → u ≡ over s 0 (part s from count)
  keep_all g =
      let d : from + count - from ≡ count = omega arith in
      g
      ∙ ap (λ (n : ℕ). take n (drop from s) ++ drop (0 + n) s) d
      ∙ ap (λ (n : ℕ). take count (drop from s) ++ drop (0 + n) s) (sym moving-length)
      ∙ ap (over s 0) (sym (part_in s from count within))

  pub kept-count : count ≡ length (part s from count)
  kept-count = sym (ap length (part_in s from count within) ∙ moving-length)

-- where they do not all lie in the buffer
module _ {t : Bool} (s : List ℕ) (from count : ℕ) (e : t ≡ leb (from + count) (length s)) (f : t ≡ false) where
  none_kept : part s from count ≡ []
  none_kept = part_out s from count (failed (from + count) (length s) e f)

  pub no-count : 0 ≡ length (part s from count)
  no-count = sym (ap length none_kept)

  pub not-moved : s ≡ over s 0 (part s from count)
  not-moved = over_none s 0 [] ∙ ap (over s 0) (sym none_kept)
