-- Demand 3: what a sender sends, what of it arrives, and which of its messages are complete.
use Rattle.std.specs.Prelude.{ℕ, suc, ◌+◌, ◌-◌, ◌%◌, ◌<◌, Bool, true, false, cond, not, ◌&&◌, ◌||◌, List, [], ◌∷◌, ◌++◌, ◌≡◌, leb, ltb, eqb, length, replicate}
use Rattle.binding.specs.declared.MessagePart.{MessagePart}
use Rattle.binding.specs.declared.MessagePart.TheVariants.{Begin, Middle, End, Whole}
use Rattle.binding.specs.Header.{header_of, header_bytes}

-- a piece of a message: its bytes, and how often it arrives. 0: the network loses it; 2 and more: the network repeats it,
-- before the next of its channel arrives
pub record Piece : Type 0 where
  pub bytes : List ℕ
  pub copies : ℕ

-- "cut its messages ... each into one or more pieces of 1 to 65,503 bytes"
abbrev pub Message : Type 0
Message = List Piece

-- a sender: the counter of its first datagram, and its messages in the order in which it sends them
pub record Sender : Type 0 where
  pub first : ℕ
  pub messages : List Message

-- "marked as demand 2 says": by whether a piece is its message's first, and what pieces follow it
abbrev pub mark_of : Bool → List Piece → MessagePart
mark_of true [] = Whole
mark_of true (p ∷ ps) = Begin
mark_of false [] = End
mark_of false (p ∷ ps) = Middle

-- a piece as a datagram: its mark, and what it carries
pub record Sent : Type 0 where
  pub mark : MessagePart
  pub piece : Piece

abbrev pub sent_from : Bool → Message → List Sent
sent_from first [] = []
sent_from first (p ∷ ps) = record { mark = mark_of first ps; piece = p } ∷ sent_from false ps

-- "that it sends in order, with no other message's between them"
abbrev pub sent_by : List Message → List Sent
sent_by [] = []
sent_by (m ∷ ms) = sent_from true m ++ sent_by ms

-- "number its datagrams in turn, round a counter of M steps": M is 65,536
abbrev pub after : ℕ → ℕ
after c = (c + 1) % 65536

-- the datagrams that arrive, each as often as it does, in the order in which they were sent
abbrev pub arriving : ℕ → ℕ → List Sent → List (List ℕ)
arriving id c [] = []
arriving id c (s ∷ ss) = replicate s.piece.copies (header_bytes (header_of s.mark id c) ++ s.piece.bytes) ++ arriving id (after c) ss

abbrev pub arrives : ℕ → Sender → List (List ℕ)
arrives id s = arriving id s.first (sent_by s.messages)

-- "lose datagrams, but never more than M-2 between two that arrive on one channel"
abbrev pub most_lost : ℕ
most_lost = 65536 - 2

abbrev pub arrived : Piece → Bool
arrived p = ltb 0 p.copies

-- g are lost since the last that arrived, if one did
abbrev pub losses_within : Bool → ℕ → List Sent → Bool
losses_within seen g [] = true
losses_within seen g (s ∷ ss) =
    cond (arrived s.piece) ((not seen || leb g most_lost) && losses_within true 0 ss) (losses_within seen (suc g) ss)

-- a message, put together again
abbrev pub together : Message → List ℕ
together [] = []
together (p ∷ ps) = p.bytes ++ together ps

abbrev pub all_arrived : Message → Bool
all_arrived [] = true
all_arrived (p ∷ ps) = arrived p && all_arrived ps

-- "exactly those of its messages whose every piece arrived, in order, once each"
abbrev pub complete_of : List Message → List (List ℕ)
complete_of [] = []
complete_of (m ∷ ms) = cond (all_arrived m) (together m ∷ []) [] ++ complete_of ms

-- what the user grants of a message in a room of R bytes: one or more pieces, each of 1 to 65,503 bytes; "no message cut in
-- two or more is longer than its room"
abbrev pub good_pieces : Message → Bool
good_pieces [] = true
good_pieces (p ∷ ps) = (leb 1 (length p.bytes) && leb (length p.bytes) 65503) && good_pieces ps

abbrev pub good_message : ℕ → Message → Bool
good_message R m = (leb 1 (length m) && good_pieces m) && (eqb (length m) 1 || leb (length (together m)) R)

abbrev pub good_messages : ℕ → List Message → Bool
good_messages R [] = true
good_messages R (m ∷ ms) = good_message R m && good_messages R ms

-- a sender whose traffic is genuine. From a fresh start any number may be lost before the first that arrives
pub record Genuine (R : ℕ) (s : Sender) : Type 0 where
  pub counter : s.first < 65536
  pub messages : good_messages R s.messages ≡ true
  pub losses : losses_within false 0 (sent_by s.messages) ≡ true
