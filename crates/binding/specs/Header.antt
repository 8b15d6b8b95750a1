-- The UDP binding header: 000, annex A.3.1, Table 9, with annex A.4's order of bytes and bits.
use Rattle.std.specs.Prelude.{ℕ, ◌+◌, ◌-◌, ◌*◌, ◌/◌, ◌%◌, ◌^◌, List, ◌++◌, ◌&&◌, cond, leb, eqb, length, drop}
use Rattle.std.specs.Prelude.{Result, Ok, Err}
use Rattle.refusal.specs.declared.Refusal.{Refusal}
use Rattle.refusal.specs.declared.Refusal.TheVariants.{DatagramLength, DatagramVersion}
use Rattle.wire.specs.Bytes.{number, bytes}
use Rattle.binding.specs.declared.MessagePart.{MessagePart}
use Rattle.binding.specs.declared.MessagePart.TheVariants.{Begin, Middle, End, Whole}
use Rattle.binding.specs.declared.BindingHeader.{BindingHeader}
use Rattle.refusal.specs.Refusal.{number_of}

-- 000, Table 8
abbrev pub header_length : ℕ
header_length = 4

-- Table 9, version: 00b for this one, and the others are reserved
abbrev pub the_version : ℕ
the_version = 0

-- Table 9, sender ID: 4 bits of platform and 8 of channel
abbrev pub senders : ℕ
senders = 2 ^ (4 + 8)

-- 01, Wire layouts: M is two to the counter's width, which Table 9 gives
abbrev pub counters : ℕ
counters = 2 ^ 16

-- 000, A.2.1: what an IP and a UDP header leave of a datagram, and what the binding header leaves of that
abbrev pub largest_datagram : ℕ
largest_datagram = 65535 - (20 + 8)

abbrev pub largest_piece : ℕ
largest_piece = largest_datagram - header_length

-- 01, number 21: no piece is empty
abbrev pub smallest_datagram : ℕ
smallest_datagram = header_length + 1

-- Table 9, message part
abbrev pub code_of : MessagePart → ℕ
code_of Begin = 0
code_of Middle = 1
code_of End = 2
code_of Whole = 3

-- the part that has the code
abbrev pub part_of_code : ℕ → MessagePart
part_of_code c = cond (eqb c (code_of Begin)) Begin (cond (eqb c (code_of Middle)) Middle (cond (eqb c (code_of End)) End Whole))

abbrev pub header_of : MessagePart → ℕ → ℕ → BindingHeader
header_of p s c = record { part = p; sender = s; counter = c }

-- A.4, byte 1: VE, MP, PLID from the most significant bit on
abbrev pub version_in : List ℕ → ℕ
version_in d = number 0 d 0 / 64

abbrev pub part_carried : List ℕ → MessagePart
part_carried d = part_of_code (number 0 d 0 / 16 % 4)

abbrev pub platform_in : List ℕ → ℕ
platform_in d = number 0 d 0 % 16

-- A.4, byte 2
abbrev pub channel_in : List ℕ → ℕ
channel_in d = number 0 d 1

-- Table 9, sender ID: platform and channel
abbrev pub sender_in : List ℕ → ℕ
sender_in d = platform_in d * 256 + channel_in d

-- A.4, bytes 3 and 4
abbrev pub counter_in : List ℕ → ℕ
counter_in d = number 1 d 2

abbrev pub header_in : List ℕ → BindingHeader
header_in d = header_of (part_carried d) (sender_in d) (counter_in d)

-- what follows the header
abbrev pub piece_in : List ℕ → List ℕ
piece_in d = drop header_length d

-- what a datagram is read as: every field but the version may have every value
abbrev pub heading_in : List ℕ → Result BindingHeader Refusal
heading_in d =
    cond (leb smallest_datagram (length d) && leb (length d) largest_datagram)
    (cond (eqb (version_in d) the_version) (Ok (header_in d)) (Err DatagramVersion))
    (Err DatagramLength)

-- the header's four bytes, in A.4's order
abbrev pub header_bytes : BindingHeader → List ℕ
header_bytes h =
    bytes 0 (the_version * 64 + code_of h.part * 16 + h.sender / 256) ++ (bytes 0 (h.sender % 256) ++ bytes 1 h.counter)

-- by cases: the number that an answer gives back, 0 where the header was read
abbrev pub number_given : Result BindingHeader Refusal → ℕ
number_given (Err e) = number_of e
number_given (Ok h) = 0
