-- Cutting: 01, Joining, last paragraph, and numbers 50 to 52.
use Rattle.std.specs.Prelude.{ℕ, zero, suc, ◌+◌, ◌-◌, ◌*◌, ◌/◌, ◌%◌, List, [], ◌++◌, Bool, ◌&&◌, cond, ltb, leb, eqb, length, take, drop}
use Rattle.std.specs.Prelude.{Result, Ok, Err}
use Rattle.refusal.specs.declared.Refusal.{Refusal}
use Rattle.refusal.specs.declared.Refusal.TheVariants.{CannotCut, DatagramRoom, NoPiece}
use Rattle.wire.specs.Bytes.{over}
use Rattle.binding.specs.Header.{senders, counters, largest_piece, header_of, header_bytes}
use Rattle.binding.specs.Made.{left_over_by}
use Rattle.binding.specs.declared.MessagePart.{MessagePart}
use Rattle.binding.specs.declared.MessagePart.TheVariants.{Begin, Middle, End, Whole}
use Rattle.binding.specs.declared.BindingHeader.{BindingHeader}

-- a message of m bytes at piece size s gives m/s pieces, rounded up
abbrev pub piece_count : ℕ → ℕ → ℕ
piece_count m s = (m + (s - 1)) / s

-- the bytes of size s, or what is left, from a place on
abbrev pub bytes_from : List ℕ → ℕ → ℕ → List ℕ
bytes_from msg start s = take s (drop start msg)

-- piece i, numbered from 0: s bytes, but perhaps the last
abbrev pub piece_at : List ℕ → ℕ → ℕ → List ℕ
piece_at msg s i = bytes_from msg (i * s) s

-- 000, A.3.3: which part piece i of n is; the only one is both beginning and end
abbrev pub part_of_piece : ℕ → ℕ → MessagePart
part_of_piece n i = cond (eqb n 1) Whole (cond (eqb i 0) Begin (cond (eqb (i + 1) n) End Middle))

-- counters go up by one, M - 1 being followed by 0
abbrev pub counter_of : ℕ → ℕ → ℕ
counter_of first i = (first + i) % counters

-- piece i's header
abbrev pub header_of_piece : ℕ → ℕ → ℕ → ℕ → ℕ → BindingHeader
header_of_piece m s sender first i = header_of (part_of_piece (piece_count m s) i) sender (counter_of first i)

-- a header, and the bytes behind it
abbrev pub behind : BindingHeader → List ℕ → ℕ → ℕ → List ℕ
behind h msg start s = header_bytes h ++ bytes_from msg start s

-- piece i's datagram
abbrev pub datagram_of : List ℕ → ℕ → ℕ → ℕ → ℕ → List ℕ
datagram_of msg s sender first i = behind (header_of_piece (length msg) s sender first i) msg (i * s) s

-- 01, number 50: a message is 1 to 65,560 bytes, a piece size 1 to 65,503, and a header field in its range
abbrev pub largest_message : ℕ
largest_message = 65560

abbrev pub can_cut : ℕ → ℕ → Bool
can_cut m s = ((leb 1 m && leb m largest_message) && leb 1 s) && leb s largest_piece

abbrev pub can_head : ℕ → ℕ → Bool
can_head sender first = ltb sender senders && ltb first counters

-- the number of pieces, by a call of its own
abbrev pub counted_of : ℕ → ℕ → Result ℕ Refusal
counted_of m s = cond (can_cut m s) (Ok (piece_count m s)) (Err CannotCut)

-- a datagram in an output of so many bytes
abbrev pub made_in : List ℕ → ℕ → Result ℕ Refusal
made_in d room = cond (leb (length d) room) (Ok (length d)) (Err DatagramRoom)

-- cutting piece i out for an output of so many bytes: 50, then 51, then 52
abbrev pub made_of : List ℕ → ℕ → ℕ → ℕ → ℕ → ℕ → Result ℕ Refusal
made_of msg s sender first i room =
    cond (can_cut (length msg) s && can_head sender first)
    (cond (ltb i (piece_count (length msg) s)) (made_in (datagram_of msg s sender first i) room) (Err NoPiece))
    (Err CannotCut)

-- the output afterwards: a refusal leaves it, a datagram goes to its start and leaves the rest
abbrev pub cut_into : List ℕ → ℕ → ℕ → ℕ → ℕ → List ℕ → List ℕ
cut_into msg s sender first i out = left_over_by (made_of msg s sender first i (length out)) out (over out 0 (datagram_of msg s sender first i))

-- the first n pieces, one behind another
abbrev pub together : List ℕ → ℕ → ℕ → List ℕ
together msg s zero = []
together msg s (suc n) = together msg s n ++ piece_at msg s n
