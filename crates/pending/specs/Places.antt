-- 02, request 1: the list of the requests that are pending, 64 places in 128 words. Word k is the number and the ID of place k,
-- word 64 + k its target. Any words are a list (docs/DECISIONS.md, 59): a place is free where its number is 0; as `get_or` and `set`
-- have it, a word that is not there reads as 0, and a write outside does nothing.
use Rattle.std.specs.Prelude.{ℕ, zero, suc, ◌+◌, ◌*◌, ◌/◌, ◌%◌, ◌^◌, cond, List, ◌==◌, nat_lt, slice_index, slice_set}
use Rattle.std.specs.Prelude.{Option, Some, None}

-- 02: "at most 64"
abbrev pub places : ℕ
places = 64

abbrev pub number_at : List ℕ → ℕ → ℕ
number_at l k = slice_index l k / 2 ^ 32

abbrev pub pending_id_at : List ℕ → ℕ → ℕ
pending_id_at l k = slice_index l k % 2 ^ 32

abbrev pub target_at : List ℕ → ℕ → ℕ
target_at l k = slice_index l (places + k)

-- the first of the m places from k on that bears the number n
unfoldable pub bearing : List ℕ → ℕ → ℕ → ℕ → Option ℕ
bearing l n zero k = None
bearing l n (suc m) k = cond (number_at l k == n) (Some k) (bearing l n m (k + 1))

abbrev pub first_bearing : List ℕ → ℕ → Option ℕ
first_bearing l n = bearing l n places 0

-- where a request's number stands: the first place that bears it; 0 is not a request's
abbrev pub place_of : List ℕ → ℕ → Option ℕ
place_of l n = cond (n == 0) None (first_bearing l n)

abbrev pub free_place : List ℕ → Option ℕ
free_place l = first_bearing l 0

-- both words of place k; there is none above 63
abbrev pub placed : List ℕ → ℕ → ℕ → ℕ → List ℕ
placed l k word target = cond (nat_lt k places) (slice_set (slice_set l k word) (places + k) target) l

abbrev pub entered : List ℕ → ℕ → ℕ → ℕ → ℕ → List ℕ
entered l k n id target = placed l k (n * 2 ^ 32 + id) target

-- at the place that was found, if any
abbrev pub entered_at : List ℕ → Option ℕ → ℕ → ℕ → ℕ → List ℕ
entered_at l (Some k) n id target = entered l k n id target
entered_at l None n id target = l

abbrev pub cleared : List ℕ → ℕ → List ℕ
cleared l k = placed l k 0 0
