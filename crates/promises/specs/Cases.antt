-- What a case of 01's "Values at the edges" says, or one that 02 adds, over the definitions that the contracts of `unpack`, `pack`,
-- `cut`, `setup`, `take` and `message` cite.
use Prim.{Unit}
use Rattle.std.specs.Prelude.{Result, Ok}
use Rattle.refusal.specs.declared.Refusal.{Refusal}
use Rattle.std.specs.Prelude.{ℕ, suc, ◌+◌, ◌*◌, ◌≤◌, ◌<◌, ◌≡◌, List, [], ◌∷◌, ◌++◌, length, replicate, take, drop}
use Rattle.binding.specs.declared.MessagePart.{MessagePart}
use Rattle.binding.specs.Header.{header_of, header_bytes, heading_in, piece_in}
use Rattle.binding.specs.Cutting.{counted_of, made_of, cut_into}
use Rattle.channel.specs.declared.Outcome.{Outcome}
use Rattle.payload.specs.declared.Spot.{Spot}
use Rattle.payload.specs.declared.Answer.{Answer}
use Rattle.payload.specs.declared.Answer.TheVariants.{Stopped, Gave}
use Rattle.payload.specs.Calls.{unpacked, words_after, packed, bytes_after}
use Rattle.promises.specs.Traffic.{Datagram, delivered_on, outcomes_on}
use Rattle.promises.specs.Traffic.{fresh}

-- a type table with the types of the cases, and their numbers in it
abbrev pub table : List ℕ
table =
    0 ∷ 7
    -- kind, of, first and count of each: six base types, and an array of type 3 with a maximum of 3
    ∷ 0 ∷ 0 ∷ 0 ∷ 8 ∷ 0 ∷ 0 ∷ 0 ∷ 0
    ∷ 0 ∷ 0 ∷ 0 ∷ 3 ∷ 0 ∷ 0 ∷ 0 ∷ 0
    ∷ 0 ∷ 0 ∷ 0 ∷ 1 ∷ 0 ∷ 0 ∷ 0 ∷ 0
    ∷ 0 ∷ 0 ∷ 0 ∷ 6 ∷ 0 ∷ 0 ∷ 0 ∷ 0
    ∷ 0 ∷ 0 ∷ 0 ∷ 0 ∷ 0 ∷ 0 ∷ 0 ∷ 0
    ∷ 0 ∷ 0 ∷ 0 ∷ 11 ∷ 0 ∷ 0 ∷ 0 ∷ 0
    ∷ 0 ∷ 4 ∷ 0 ∷ 3 ∷ 0 ∷ 0 ∷ 0 ∷ 3
    -- no members, enum values and operations
    ∷ 0 ∷ 0 ∷ 0 ∷ 0 ∷ 0 ∷ 0 ∷ []

abbrev pub uint16 : ℕ
uint16 = 0

abbrev pub int16 : ℕ
int16 = 1

abbrev pub int8 : ℕ
int8 = 2

abbrev pub uint8 : ℕ
uint8 = 3

abbrev pub boolean8 : ℕ
boolean8 = 4

abbrev pub float32 : ℕ
float32 = 5

abbrev pub up_to_three : ℕ
up_to_three = 6

-- a datagram that arrives: its mark, its counter, its piece
pub record Arrival : Type 0 where
  pub mark : MessagePart
  pub counter : ℕ
  pub piece : List ℕ

-- a piece that a message is cut into: its mark, its counter, its length
pub record CutPiece : Type 0 where
  pub mark : MessagePart
  pub counter : ℕ
  pub bytes : ℕ

-- 02, request 3: the byte, packing the word, at which the refused item begins, and the leaves before it
infix 68 ◌behind◌
abbrev pub ◌behind◌ : ℕ → ℕ → Spot
◌behind◌ at leaves = record { at = at; leaves = leaves }

pub data Case : Type 0 where
  -- the payload of the type gives the words, or is refused with the number and at the spot; and the words give the payload, or are
  -- refused
  unpacks : ℕ → List ℕ → List ℕ → Case
  unpack_refused : ℕ → List ℕ → ℕ → Spot → Case
  packs : ℕ → List ℕ → List ℕ → Case
  pack_refused : ℕ → List ℕ → ℕ → Spot → Case
  -- a message of m bytes at piece size s gives these pieces, whose counters start at the third number
  cuts : ℕ → ℕ → ℕ → List CutPiece → Case
  -- in a room of R bytes, from fresh, the datagrams have these outcomes, and these messages are delivered
  joins : ℕ → List Arrival → List (Result Outcome Refusal) → List (List ℕ) → Case

-- piece i, cut into any output that is long enough: the call answers the datagram's length; its header reads back as this mark,
-- sender and counter; and behind it stand the message's bytes from i times s on
pub record CutAs (msg : List ℕ) (s sender first i : ℕ) (c : CutPiece) (out : List ℕ) : Type 0 where
  pub made : made_of msg s sender first i (length out) ≡ Ok (4 + c.bytes)
  pub header : heading_in (take (4 + c.bytes) (cut_into msg s sender first i out))
      ≡ Ok (record { part = c.mark; sender = sender; counter = c.counter })
  pub piece : piece_in (take (4 + c.bytes) (cut_into msg s sender first i out)) ≡ take s (drop (i * s) msg)

-- the pieces from piece i on
abbrev pub AreCut : List ℕ → ℕ → ℕ → ℕ → ℕ → List CutPiece → Type 0
AreCut msg s sender first i [] = Unit {0}
AreCut msg s sender first i (c ∷ cs) =
    ((out : List ℕ) → 4 + c.bytes ≤ length out → CutAs msg s sender first i c out) × AreCut msg s sender first (suc i) cs

-- every message of m bytes of every sender: so many pieces are counted, and these are cut
pub record CutsInto (m s first : ℕ) (ps : List CutPiece) : Type 0 where
  pub counted : counted_of m s ≡ Ok (length ps)
  pub cut : (msg : List ℕ) → length msg ≡ m → (sender : ℕ) → sender < 4096 → AreCut msg s sender first 0 ps

-- the datagrams of one sender, and one channel with its room
abbrev pub sender : ℕ
sender = 0x102

abbrev pub datagrams : List Arrival → List Datagram
datagrams [] = []
datagrams (x ∷ xs) = (header_bytes (header_of x.mark sender x.counter) ++ x.piece) ∷ datagrams xs

abbrev pub ids : List ℕ
ids = sender ∷ []

abbrev pub room : ℕ → List ℕ
room R = replicate R 0

-- what a call answers and leaves, in an output that is full of 9s
pub record Done : Type 0 where
  pub answer : Answer
  pub left : List ℕ

abbrev pub lent : ℕ → List ℕ
lent n = replicate n 9

abbrev pub unpacking : List ℕ → ℕ → List ℕ → ℕ → Done
unpacking t i b n = record { answer = unpacked t i b n; left = words_after t i b (lent n) }

abbrev pub packing : List ℕ → ℕ → List ℕ → ℕ → Done
packing t i ws n = record { answer = packed t i ws n; left = bytes_after t i ws (lent n) }

abbrev pub gives : List ℕ → Done
gives xs = record { answer = Gave (length xs); left = xs }

abbrev pub refused_with : ℕ → Spot → Done
refused_with n o = record { answer = Stopped n o; left = lent 8 }

-- what taking the datagrams comes to
pub record Joined : Type 0 where
  pub outcomes : List (Result Outcome Refusal)
  pub delivered : List (List ℕ)

abbrev pub joining : ℕ → List Arrival → Joined
joining R xs =
    record {
      outcomes = outcomes_on ids 0 (fresh ids R (room R)) (room R) (datagrams xs);
      delivered = delivered_on ids 0 (fresh ids R (room R)) (room R) (datagrams xs);
    }

-- what a case says, its types being those of the table t
abbrev pub Holds : List ℕ → Case → Type 0
Holds t (unpacks i b ws) = unpacking t i b (length ws) ≡ gives ws
Holds t (unpack_refused i b n o) = unpacking t i b 8 ≡ refused_with n o
Holds t (packs i ws b) = packing t i ws (length b) ≡ gives b
Holds t (pack_refused i ws n o) = packing t i ws 8 ≡ refused_with n o
Holds t (cuts m s first ps) = CutsInto m s first ps
Holds t (joins R xs outcomes delivered) = joining R xs ≡ record { outcomes = outcomes; delivered = delivered }

abbrev pub AllHold : List ℕ → List Case → Type 0
AllHold t [] = Unit {0}
AllHold t (c ∷ cs) = Holds t c × AllHold t cs
