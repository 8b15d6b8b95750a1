-- Demand 3: what the user grants, in 01's own numbers. That it is what `Granted` says (Demand3) is shown in
-- proofs/InNumbers.antt.
use Rattle.std.specs.Prelude.{ℕ, ◌+◌, ◌-◌, ◌*◌, ◌/◌, ◌%◌, ◌≤◌, ◌<◌, ◌≡◌, ◌⊎◌, List, [], ◌∷◌, length, get_or, Ok, IsOk}
use Rattle.binding.specs.declared.MessagePart.{MessagePart}
use Rattle.binding.specs.declared.MessagePart.TheVariants.{Begin, Middle, End, Whole}
use Rattle.binding.specs.Header.{header_of, header_bytes}
use Rattle.joiner.specs.Setup.{setup_of, fresh_of}
use Rattle.promises.specs.Order.{CanSetUp}
use Rattle.promises.specs.Senders.{Piece, Message, Sender, Sent, Genuine, sent_by, after, arrives, together}
use Rattle.promises.specs.Traffic.{Datagram, of_channel, AreBytes}
use Rattle.promises.specs.Demand3.{Granted}

-- a message: one or more pieces, each of 1 to 65,503 bytes; one that is cut in two or more is not longer than its room
abbrev pub no_piece : Piece
no_piece = record { bytes = []; copies = 0 }

pub record Fits (R : ℕ) (m : Message) : Type 0 where
  pub some : 1 ≤ length m
  pub least : (i : ℕ) → i < length m → 1 ≤ length (get_or m i no_piece).bytes
  pub most : (i : ℕ) → i < length m → length (get_or m i no_piece).bytes ≤ 65503
  pub room : (length m ≡ 1) ⊎ (length (together m) ≤ R)

-- how often the datagram at place i of those sent arrives: 0, it is lost
abbrev pub copies_at : List Sent → ℕ → ℕ
copies_at ss i = (get_or ss i (record { mark = Whole; piece = no_piece })).piece.copies

-- "never more than M-2 between two that arrive on one channel": b is the next to arrive after a
abbrev pub FewLost : List Sent → Type 0
FewLost ss =
    (a b : ℕ) → a < b → 1 ≤ copies_at ss a → 1 ≤ copies_at ss b → ((i : ℕ) → a < i → i < b → copies_at ss i ≡ 0) → b - (a + 1) ≤ 65534

pub record GenuineIn (R : ℕ) (s : Sender) : Type 0 where
  -- any first counter
  pub counter : s.first < 65536
  pub messages : (i : ℕ) → i < length s.messages → Fits R (get_or s.messages i [])
  pub losses : FewLost (sent_by s.messages)

-- what the user grants: see Demand3
pub record Given (ids : List ℕ) (R : ℕ) (rooms : List ℕ) (sender : ℕ → Sender) (traffic : List Datagram) : Type 0 where
  pub set_up : CanSetUp ids R (length rooms)
  pub genuine : (k : ℕ) → k < length ids → GenuineIn R (sender k)
  pub mixed : (k : ℕ) → k < length ids → of_channel ids k traffic ≡ arrives (get_or ids k 0) (sender k)
  -- a datagram is a string of bytes
  pub bytes : AreBytes traffic

-- 000, Table 9 and annex A.4: the four bytes before a piece
abbrev pub part_number : MessagePart → ℕ
part_number Begin = 0
part_number Middle = 1
part_number End = 2
part_number Whole = 3

pub record InNumbers : Type 0 where
  pub set_ups : (ids : List ℕ) (R buffer : ℕ) → CanSetUp ids R buffer → setup_of ids R buffer ≡ Ok (fresh_of ids R)
  pub set_ups_back : (ids : List ℕ) (R buffer : ℕ) → IsOk (setup_of ids R buffer) → CanSetUp ids R buffer
  pub genuine : (R : ℕ) (s : Sender) → GenuineIn R s → Genuine R s
  pub genuine_back : (R : ℕ) (s : Sender) → Genuine R s → GenuineIn R s
  pub granted : (ids : List ℕ) (R : ℕ) (rooms : List ℕ) (sender : ℕ → Sender) (traffic : List Datagram)
      → Given ids R rooms sender traffic → Granted ids R rooms sender traffic
  pub granted_back : (ids : List ℕ) (R : ℕ) (rooms : List ℕ) (sender : ℕ → Sender) (traffic : List Datagram)
      → Granted ids R rooms sender traffic → Given ids R rooms sender traffic
  -- "number its datagrams in turn, round a counter of M steps"
  pub next_counter : (c : ℕ) → after c ≡ (c + 1) % 65536
  pub header : (p : MessagePart) (id c : ℕ) → header_bytes (header_of p id c) ≡ (part_number p * 16 + id / 256) ∷ id % 256 ∷ c / 256 ∷ c % 256 ∷ []
