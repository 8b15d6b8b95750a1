-- 01, "Payload and words": what a leaf's bytes are as a word, and a word as bytes. Big endian (000, 6.1), and each code as
-- wide as 000's Table 6 has it.
use Rattle.std.specs.Prelude.{◌≡◌, ℕ, ◌+◌, ◌-◌, ◌*◌, ◌/◌, ◌%◌, ◌^◌, ◌<◌, cond, List, [], ◌∷◌, ◌==◌, bit_xor, nat_lt}
use Rattle.wire.specs.Bytes.{span, number, bytes}
use Rattle.table.specs.Leaf.{Leaf, boolean, signed, unsigned, float, none, base}

-- boolean8: 0 is false and any other byte true; its word is 0 or 1
unfoldable pub truth : ℕ → ℕ
truth x = cond (x == 0) 0 1

-- a number of two's complement, below twice half, with its sign carried up to 64 bits
unfoldable pub extended : ℕ → ℕ → ℕ
extended half x = cond (nat_lt x half) x (x + (2 ^ 64 - 2 * half))

-- the same by turning the sign over, where half is a power of two (`sign_carried` of proofs/Signs); no contract of a public function says it
abbrev pub carried : ℕ → ℕ → ℕ
carried half x = bit_xor (bit_xor x half + (2 ^ 63 - half)) (2 ^ 63)

-- the word of a leaf at p: signed leaves are sign-extended, the others zero-extended; a float is its bits
unfoldable pub word_of : Leaf → List ℕ → ℕ → ℕ
word_of boolean s p = truth (number 0 s p)
word_of (signed k) s p = extended (span k / 2) (number k s p)
word_of (unsigned k n) s p = number k s p
word_of (float k e f) s p = number k s p
word_of none s p = 0

-- the bytes of a leaf's word: as many of its low bytes as the leaf has, the most significant first
unfoldable pub form : Leaf → ℕ → List ℕ
form boolean w = bytes 0 (w % span 0)
form (signed k) w = bytes k (w % span k)
form (unsigned k n) w = bytes k (w % span k)
form (float k e f) w = bytes k (w % span k)
form none w = []

-- the byte forms of a leaf's word: its bytes, but that a true boolean may be any byte but 0
pub record Truth (w : ℕ) (bs : List ℕ) : Type 0 where
  pub byte : ℕ
  pub octet : byte < 256
  pub is : bs ≡ byte ∷ []
  pub says : w ≡ truth byte

unfoldable pub Says : Leaf → ℕ → List ℕ → Type 0
Says boolean w bs = Truth w bs
Says (signed k) w bs = bs ≡ form (signed k) w
Says (unsigned k n) w bs = bs ≡ form (unsigned k n) w
Says (float k e f) w bs = bs ≡ form (float k e f) w
Says none w bs = bs ≡ form none w

-- both by the base code
unfoldable pub word_at : ℕ → List ℕ → ℕ → ℕ
word_at code s p = word_of (base code) s p

unfoldable pub form_of : ℕ → ℕ → List ℕ
form_of code w = form (base code) w
