-- What demands 1 and 2 ask holds up to the papers' limits: what they suppose of a platform's number, a sequence number, a message and
-- its pieces is so at the outermost values, so that a demand of fewer has no proof here. The theorem is in proofs/AtLimits.antt; for
-- demand 3 specs/InNumbers says it.
use Rattle.std.specs.Prelude.{ℕ, suc, ◌<◌, ◌≡◌, false, List, ◌++◌, length}
use Rattle.std.specs.Prelude.{Ok, IsOk}
use Rattle.wire.specs.Bytes.{Octets}
use Rattle.table.specs.declared.Sections.{Sections}
use Rattle.types.specs.Table.{checked}
use Rattle.message.specs.declared.Header.{Header}
use Rattle.message.specs.declared.Message.{Message}
use Rattle.message.specs.declared.Message.TheVariants as message
use Rattle.message.specs.declared.Reading.TheVariants.{Read}
use Rattle.message.specs.Reading.{read_of}
use Rattle.binding.specs.declared.MessagePart.{MessagePart}
use Rattle.binding.specs.Header.{header_of, header_bytes, heading_in}
use Rattle.joiner.specs.Setup.{setup_of}
use Rattle.states.specs.declared.States.{States}
use Rattle.states.specs.States.{stands_up, how_many_up, count_below, Words}
use Rattle.platform.specs.declared.reactions.Standing.{Standing}
use Rattle.platform.specs.Receiving.{fresh_standing, received_of}
use Rattle.platform.specs.Noting.{number_given}
use Rattle.promises.specs.Checks.{Gives}
use Rattle.promises.specs.Demand1.{receive_checks, ReceiveInOrder}
use Rattle.promises.specs.Headers.{FromAnother, HeaderThenRead}
use Rattle.promises.specs.CutAndJoined.{Cut}
use Rattle.promises.specs.Payloads.{Known}
use Rattle.promises.specs.Reports.{IsKind2}
use Rattle.promises.specs.Platforms.{StatesAre, Receives, Starts}

pub record AtLimits : Type 1 where
  -- platform 255, and an ID and a sequence number of 32 bits; two platforms, likewise
  pub addressed : FromAnother 255 0 0xFFFFFFFF 0xFFFFFFFF
  pub starts : (p q : Standing) → p.next ≡ 0xFFFFFFFF → q.next ≡ 0xFFFFFFFF → Starts 255 254 p q 0xFFFFFFFF
  pub receives : (t : List ℕ) (s : Sections) (p : Standing) (m : List ℕ) (h : Header) (kind : Message) (start len : ℕ) →
      p.next ≡ 0xFFFFFFFF → Octets m → checked t ≡ Ok s → read_of 255 m ≡ Read h kind start len →
      (kind ≡ message.Operation → ¬ (IsKind2 t s h.id)) → Receives 255 t s p m h kind
  pub receive_in_order : ReceiveInOrder → (t : List ℕ) (p : Standing) (l m : List ℕ) (room : ℕ) → p.next ≡ 0xFFFFFFFF → Octets m →
      Gives (receive_checks 255 t p l m room) (number_given (received_of 255 t p l m room).answer)
  -- its state and the others', those above 255 too
  pub another_is_down : StatesAre → stands_up 254 (fresh_standing 254).states 255 ≡ false
  pub above_is_down : StatesAre → (s : States) → stands_up 255 s 256 ≡ false
  pub counted : StatesAre → (s : States) → Words s → how_many_up 255 s ≡ count_below (stands_up 255 s) 256
  -- sender 4,095, counter 65,535 and a piece of 1 and of 65,503 bytes
  pub header : HeaderThenRead → (part : MessagePart) (piece : List ℕ) → length piece ≡ 65503 →
      heading_in (header_bytes (header_of part 4095 65535) ++ piece) ≡ Ok (header_of part 4095 65535)
  pub shortest_piece : HeaderThenRead → (part : MessagePart) (piece : List ℕ) → length piece ≡ 1 →
      heading_in (header_bytes (header_of part 0 0) ++ piece) ≡ Ok (header_of part 0 0)
  -- a message of 65,560 bytes cut at 65,503; and one of a byte, cut at 1
  pub cut : (ids rooms : List ℕ) (k : ℕ) (msg : List ℕ) → IsOk (setup_of ids 65560 (length rooms)) → k < length ids →
      length msg ≡ 65560 → Octets msg → Cut ids 65560 rooms k msg 65503 65535
  pub cut_small : (ids rooms : List ℕ) (k : ℕ) (msg : List ℕ) → IsOk (setup_of ids 24 (length rooms)) → k < length ids →
      length msg ≡ 1 → Octets msg → Cut ids 24 rooms k msg 1 0
  -- the last type of a table
  pub known : (t : List ℕ) (s : Sections) (i : ℕ) → checked t ≡ Ok s → s.types.count ≡ suc i → Known t s i
