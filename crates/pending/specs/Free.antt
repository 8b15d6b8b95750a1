-- 02, request 1: which number a request takes: "the next one free, going round at 0xFFFFFFFF".
use Rattle.std.specs.Prelude.{◌≡◌, ℕ, zero, suc, ◌+◌, ◌%◌, ◌^◌, ◌<◌, Bool, true, false, cond, ◌||◌, List, ◌==◌, ◌≢◌}
use Rattle.std.specs.Prelude.{Option, Some, None}
use Rattle.pending.specs.Places.{places, place_of}

-- the next own number: after 0xFFFFFFFF comes 0 (docs/DECISIONS.md, 25)
abbrev pub drawn : ℕ → ℕ
drawn n = (n + 1) % 2 ^ 32

abbrev pub is_at : Option ℕ → Bool
is_at (Some k) = true
is_at None = false

abbrev pub is_pending : List ℕ → ℕ → Bool
is_pending l n = is_at (place_of l n)

-- a request never takes 0 (000, Table 2), nor a number that is pending
abbrev pub blocked : List ℕ → ℕ → Bool
blocked l n = n == 0 || is_pending l n

-- the first of n, drawn n, drawn (drawn n) and so on that is not blocked, or the one behind m that are
unfoldable pub free_within : List ℕ → ℕ → ℕ → ℕ
free_within l zero n = n
free_within l (suc m) n = cond (blocked l n) (free_within l m (drawn n)) n

-- 64 places and 0 block 65 numbers at the most: the one behind them is free (`next-is-free` of proofs/Drawing)
abbrev pub next_free : List ℕ → ℕ → ℕ
next_free l n = free_within l (places + 1) n

-- "going round at 0xFFFFFFFF": the number d draws behind n
abbrev pub on_from : ℕ → ℕ → ℕ
on_from n d = (n + d) % 2 ^ 32

-- "A request never takes a number still pending: it takes the next one free": where `taken` tells which are pending, x is the first
-- number from n on that is neither 0 nor pending
pub record IsNextFree (taken : ℕ → Bool) (n x : ℕ) : Type 0 where
  pub draws : ℕ
  pub reached : x ≡ on_from n draws
  pub not_zero : x ≡ 0 → ⊥
  pub not_taken : taken x ≡ false
  pub passed : (d : ℕ) → d < draws → (on_from n d ≢ 0) → taken (on_from n d) ≡ true
