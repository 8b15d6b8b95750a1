-- The datagrams of a recording, each after its 16-bit length. 01, What is built.
use Rattle.std.specs.Prelude.{ℕ, ◌+◌, cond, List, length, nat_le}
use Rattle.wire.specs.Bytes.{number}
use Rattle.recording.specs.declared.Coming.{Coming}
use Rattle.recording.specs.declared.Coming.TheVariants.{Datagram, Unfinished, Nothing}

-- what stands at p: nothing, a datagram that is all there, or a part of a length or of a datagram. Of a length that is cut
-- the missing byte reads as 0, and the datagram would start behind the end all the same
unfoldable pub next_in : List ℕ → ℕ → Coming
next_in s p =
    cond (nat_le (length s) p)
    Nothing
    (cond (nat_le (p + 2 + number 1 s p) (length s)) (Datagram (p + 2) (number 1 s p)) Unfinished)
