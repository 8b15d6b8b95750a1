-- 02, request 8: which partners speak Issue 3, "Issue 6 if unsaid". A set-up is four words, in which platform k is bit k % 64 of word
-- k / 64. Any words are one: as `get_or` and `set` have it, a word that is not there counts as 0, and a write outside does nothing.
use Rattle.std.specs.Prelude.{ℕ, ◌*◌, ◌/◌, ◌%◌, Bool, true, cond, ◌&&◌, List, [], ◌∷◌, eqb, ltb, get_or, set, replicate}
use Rattle.std.specs.Int.Bits.{bit_or, bit_xor}
use Rattle.message.specs.Refusal.{platforms}
use Rattle.states.specs.States.{word_bits, mask, count_below}
use Rattle.services.specs.Block.{services}

unfoldable pub bit_in : List ℕ → ℕ → ℕ
bit_in w k = get_or w (k / word_bits) 0 / mask k % 2

-- a sender above 255 is in no set-up: 448 is not read as 192
unfoldable pub is_three : List ℕ → ℕ → Bool
is_three w k = ltb k platforms && eqb (bit_in w k) 1

-- platform k's word with its bit set; and without, which is set and turned
unfoldable pub with_three : ℕ → ℕ → Bool → ℕ
with_three x k three = cond three (bit_or x (mask k)) (bit_xor (bit_or x (mask k)) (mask k))

-- one platform set up
unfoldable pub three_set : List ℕ → ℕ → Bool → List ℕ
three_set w k three = cond (ltb k platforms) (set w (k / word_bits) (with_three (get_or w (k / word_bits) 0) k three)) w

abbrev pub no_three : List ℕ
no_three = replicate 4 0

-- 02: a list of the numbers that speak Issue 3
unfoldable pub listed : List ℕ → List ℕ
listed [] = no_three
listed (k ∷ ks) = three_set (listed ks) k true

-- how many below k speak Issue 3
abbrev pub threes_before : List ℕ → ℕ → ℕ
threes_before w k = count_below (is_three w) k

-- 256 words of services for each of them, one block behind another in the order of their numbers
abbrev pub block_start : List ℕ → ℕ → ℕ
block_start w k = services * threes_before w k
