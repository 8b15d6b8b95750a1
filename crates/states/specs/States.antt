-- 01, "Platform states and replies": the states of the 256 platforms as four words of 64 bits. Platform k is bit k % 64 of
-- word k / 64, and a bit that is set says UP.
use Rattle.std.specs.Prelude.{ℕ, zero, suc, ◌+◌, ◌/◌, ◌%◌, ◌^◌, ◌<◌, Bool, cond, ◌&&◌, ◌||◌, eqb, ltb}
use Rattle.std.specs.Int.Bits.{bit_or, bit_xor}
use Rattle.std.specs.Int.Count.{ones}
use Rattle.message.specs.Refusal.{platforms}
use Rattle.states.specs.declared.States.{States}

-- how many platforms a word holds
abbrev pub word_bits : ℕ
word_bits = 64

-- the i-th word, and the words with x for the i-th; 3 and above is the last
unfoldable pub word_of : States → ℕ → ℕ
word_of s zero = s.w0
word_of s (suc zero) = s.w1
word_of s (suc (suc zero)) = s.w2
word_of s (suc (suc (suc i))) = s.w3

unfoldable pub with_word : States → ℕ → ℕ → States
with_word s zero x = record { w0 = x; w1 = s.w1; w2 = s.w2; w3 = s.w3 }
with_word s (suc zero) x = record { w0 = s.w0; w1 = x; w2 = s.w2; w3 = s.w3 }
with_word s (suc (suc zero)) x = record { w0 = s.w0; w1 = s.w1; w2 = x; w3 = s.w3 }
with_word s (suc (suc (suc i))) x = record { w0 = s.w0; w1 = s.w1; w2 = s.w2; w3 = x }

-- platform k's bit in its word
abbrev pub mask : ℕ → ℕ
mask k = 2 ^ (k % word_bits)

unfoldable pub bit_of : States → ℕ → ℕ
bit_of s k = word_of s (k / word_bits) / mask k % 2

-- this platform is UP, whatever its bit says (docs/DECISIONS.md, 26); of another the bit tells, and a number above 255 has none
unfoldable pub stands_up : ℕ → States → ℕ → Bool
stands_up own s k = eqb k own || (ltb k platforms && eqb (bit_of s k) 1)

-- a state noted: platform k's bit the other way round; above 255 there is nothing to note
unfoldable pub turned : States → ℕ → States
turned s k = cond (ltb k platforms) (with_word s (k / word_bits) (bit_xor (word_of s (k / word_bits)) (mask k))) s

-- the own bit counts as set
unfoldable pub with_own : ℕ → States → States
with_own own s = with_word s (own / word_bits) (bit_or (word_of s (own / word_bits)) (mask own))

-- how many of the 256 are UP: the sum of the words' counts of ones
unfoldable pub sum_of_ones : States → ℕ
sum_of_ones s = ones s.w0 + ones s.w1 + ones s.w2 + ones s.w3

unfoldable pub how_many_up : ℕ → States → ℕ
how_many_up own s = sum_of_ones (with_own own s)

-- how many numbers below n pass a test
unfoldable pub count_below : (ℕ → Bool) → ℕ → ℕ
count_below f zero = 0
count_below f (suc n) = count_below f n + cond (f n) 1 0

-- each word is one of 64 bits
pub record Words (s : States) : Type 0 where
  pub first : s.w0 < 2 ^ 64
  pub second : s.w1 < 2 ^ 64
  pub third : s.w2 < 2 ^ 64
  pub fourth : s.w3 < 2 ^ 64

-- 000, 6.3 b: all others are DOWN at first
abbrev pub none_up : States
none_up = record { w0 = 0; w1 = 0; w2 = 0; w3 = 0 }

abbrev pub fresh_states : ℕ → States
fresh_states own = with_own own none_up
