-- The range of a leaf, by its width. 01, "Payload and words".
use Rattle.std.specs.Prelude.{ℕ, ◌+◌, ◌-◌, ◌*◌, ◌/◌, ◌%◌, ◌^◌, Bool, true, false, nat_le}
use Rattle.wire.specs.Bytes.{span}
use Rattle.table.specs.Leaf.{Leaf, boolean, signed, unsigned, float, none}
use Rattle.leaf.specs.declared.codes.Range.{Range}

abbrev pub range : ℕ → ℕ → Bool → Range
range below last every = record { below = below; last = last; every = every }

-- the words of a leaf, counted from the least as 0: how many are below 0, and the last; and whether every word that its bytes can
-- be is one of them. Of a float the last of its measures
unfoldable pub range_of : Leaf → Range
range_of boolean = range 0 1 true
range_of (signed k) = range (span k / 2) (span k - 1) true
range_of (unsigned k n) = range 0 (n - 1) (nat_le (span k) n)
range_of (float k e f) = range 0 (span k / 2 - 1) false
range_of none = range 0 0 false

unfoldable pub is_signed : Leaf → Bool
is_signed boolean = false
is_signed (signed k) = true
is_signed (unsigned k n) = false
is_signed (float k e f) = false
is_signed none = false

-- a word's number in that count, in 64 bits
abbrev pub moved : Leaf → ℕ → ℕ
moved l w = (w + (range_of l).below) % 2 ^ 64

-- a number that is not above the last just where the word is a value of the leaf. Of a float the sign goes, and an exponent of all
-- ones carries into its place
unfoldable pub measure : Leaf → ℕ → ℕ
measure boolean w = moved boolean w
measure (signed k) w = moved (signed k) w
measure (unsigned k n) w = moved (unsigned k n) w
measure (float k e f) w = w - w / (span k / 2) % 2 * (span k / 2) + 2 ^ f
measure none w = moved none w
