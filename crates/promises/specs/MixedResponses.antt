-- 02, request 8, and request 1's responses: what a domain 1 message with a kind 2 ID comes to among partners of both issues, whichever it came
-- in: it is the response to a request that is pending, or is refused with 61. It is said of any program that receives, so that wrong ones can be
-- shown not to meet it (WrongMixedResponses). The theorem is in proofs/MixedResponses.antt.
use Rattle.std.specs.Prelude.{ℕ, ◌-◌, ◌≡◌, List, length, drop}
use Rattle.std.specs.Prelude.{Ok}
use Rattle.std.specs.Prelude.{Some}
use Rattle.wire.specs.Bytes.{part}
use Rattle.table.specs.declared.Sections.{Sections}
use Rattle.types.specs.Table.{checked}
use Rattle.message.specs.declared.Header.{Header}
use Rattle.message.specs.declared.Message.TheVariants as message
use Rattle.message3.specs.declared.Stamp.{Stamp}
use Rattle.message3.specs.declared.Header3.{Header3}
use Rattle.message3.specs.declared.Message3.TheVariants as message3
use Rattle.pending.specs.Answers.{awaited_of, cancelled}
use Rattle.pending.specs.PlainMap.{Once}
use Rattle.platform.specs.declared.reactions.Standing.{Standing}
use Rattle.platform.specs.declared.reactions.Heard.TheVariants as heard
use Rattle.mixed.specs.declared.AnyReading.{AnyReading}
use Rattle.mixed.specs.declared.AnyReading.TheVariants as reading
use Rattle.mixed.specs.declared.AnyAnswer.{AnyAnswer}
use Rattle.mixed.specs.declared.AnyAnswer.TheVariants.{Refused, Six, SixResponse, Three, ThreeResponse}
use Rattle.mixed.specs.declared.AnyReceived.{AnyReceived}
use Rattle.mixed.specs.declared.reactions.Heard3.TheVariants as heard3
use Rattle.mixed.specs.Reading.{any_of}
use Rattle.mixed.specs.Tables.{answer_if, out_if, pending_if, words_if}
use Rattle.promises.specs.RequestCalls.{HasKind}

-- what the call for one message is handed, beside the states, the own number and the list of the requests that are pending: the timestamp
-- and our composite, who speaks Issue 3, our services, the table, the words of the partners' services, the message and the output
pub record ToReceive : Type 0 where
  pub own : ℕ
  pub stamp : Stamp
  pub composite : ℕ
  pub partners : List ℕ
  pub ours : List ℕ
  pub table : List ℕ
  pub services : List ℕ
  pub bytes : List ℕ
  pub out : List ℕ

-- a program that receives so, ours or any other: what it answers, and what it leaves of the output, the list and the services
pub record AnyReceiving : Type 0 where
  pub outcome : ToReceive → Standing → List ℕ → AnyReceived
  pub output : ToReceive → Standing → List ℕ → List ℕ
  pub list : ToReceive → Standing → List ℕ → List ℕ
  pub kept : ToReceive → Standing → List ℕ → List ℕ

abbrev pub our_any_receiving : AnyReceiving
our_any_receiving =
    record {
      outcome = λ x p l.
          answer_if (checked x.table) x.own x.partners x.ours x.table p l x.services x.bytes (length x.out);
      output = λ x p l.
          out_if (checked x.table) x.own x.stamp x.composite x.partners x.ours x.table p x.services x.bytes x.out;
      list = λ x p l. pending_if (checked x.table) x.own x.partners x.table l x.bytes;
      kept = λ x p l.
          words_if (checked x.table) x.own x.partners x.ours x.table p x.services x.bytes (length x.out);
    }

-- the header of a message of either issue
pub data AnyHeader : Type 0 where
  of_six_header : Header → AnyHeader
  of_three_header : Header3 → AnyHeader

abbrev pub id_of : AnyHeader → ℕ
id_of (of_six_header h) = h.id
id_of (of_three_header h) = h.id

abbrev pub number_of : AnyHeader → ℕ
number_of (of_six_header h) = h.sequence
number_of (of_three_header h) = h.sequence

abbrev pub sender_of : AnyHeader → ℕ
sender_of (of_six_header h) = h.platform
sender_of (of_three_header h) = h.platform

-- 000 and 001, Table 2: 20 and 24 bytes of header
abbrev pub start_of : AnyHeader → ℕ
start_of (of_six_header h) = 20
start_of (of_three_header h) = 24

-- a domain 1 message with this header: read; delivered as the response; heard as the operation of entry i
abbrev pub read_as : AnyHeader → ℕ → AnyReading
read_as (of_six_header h) len = reading.Six h message.Operation 20 len
read_as (of_three_header h) len = reading.Three h message3.Operation 24 len

abbrev pub response_as : AnyHeader → ℕ → ℕ → AnyAnswer
response_as (of_six_header h) i len = SixResponse h i 20 len
response_as (of_three_header h) i len = ThreeResponse h i 24 len

abbrev pub operation_as : AnyHeader → ℕ → ℕ → AnyAnswer
operation_as (of_six_header h) i len = Six h (heard.Operation i 20 len) 0
operation_as (of_three_header h) i len = Three h (heard3.Common (heard.Operation i 24 len)) 0

-- a domain 1 message with this header, read in its sender's issue, and entry i of the table bears its ID and this kind
pub record ComesAs (x : ToReceive) (s : Sections) (h : AnyHeader) (kind i len : ℕ) : Type 0 where
  pub is_table : checked x.table ≡ Ok s
  pub read : any_of x.partners x.own x.bytes ≡ read_as h len
  pub has : HasKind x.table s (id_of h) kind i

-- "A domain 1 message with that ID, number and sender is the response"
abbrev pub IsPending : List ℕ → AnyHeader → Type 0
IsPending l h = awaited_of l (number_of h) ≡ Some (id_of h, sender_of h)

-- "it is delivered": the operation's entry, and the payload part, all of the message behind its header of 20 or 24 bytes; "and its place is
-- free again". Nothing is owed, and no state, own number or service changes
pub record DeliversAny (X : AnyReceiving) (x : ToReceive) (p : Standing) (l : List ℕ) (h : AnyHeader) (i : ℕ) : Type 0 where
  pub outcome : X.outcome x p l ≡ record { standing = p; answer = response_as h i (length x.bytes - start_of h) }
  pub payload : part x.bytes (start_of h) (length x.bytes - start_of h) ≡ drop (start_of h) x.bytes
  pub output : X.output x p l ≡ x.out
  pub kept : X.kept x p l ≡ x.services
  pub list : X.list x p l ≡ cancelled l (number_of h)

-- "any other message with a kind 2 ID is refused with 61": it changes nothing
pub record RefusesAny (X : AnyReceiving) (x : ToReceive) (p : Standing) (l : List ℕ) : Type 0 where
  pub outcome : X.outcome x p l ≡ record { standing = p; answer = Refused 61 }
  pub output : X.output x p l ≡ x.out
  pub kept : X.kept x p l ≡ x.services
  pub list : X.list x p l ≡ l

-- Ruled out: a response matched without its sender, its ID or its issue; one of Issue 3 whose payload is told from byte 20; one that leaves
-- its place taken; one that is delivered twice, or again in the other issue; a place that any other message frees.
pub record RespondsAny (X : AnyReceiving) : Type 0 where
  pub response : (x : ToReceive) (s : Sections) (p : Standing) (l : List ℕ) (h : AnyHeader) (i len : ℕ) → ComesAs x s h 2 i len → IsPending l h
      → DeliversAny X x p l h i
  pub any_other : (x : ToReceive) (s : Sections) (p : Standing) (l : List ℕ) (h : AnyHeader) (i len : ℕ) → ComesAs x s h 2 i len
      → ¬ (IsPending l h) → RefusesAny X x p l
  -- "it is delivered once": where no number stands twice in the list, as over any calls from fresh, what bears its number is refused, in
  -- either issue, under any set-up and table
  pub once : (x y : ToReceive) (s u : Sections) (p q : Standing) (l : List ℕ) (h k : AnyHeader) (i j len size : ℕ) → ComesAs x s h 2 i len
      → ComesAs y u k 2 j size → number_of h ≡ number_of k → length l ≡ 128 → Once l → IsPending l h → RefusesAny X y q (X.list x p l)
  -- "A message with a kind 3 ID goes to its component as in 01"
  pub served : (x : ToReceive) (s : Sections) (p : Standing) (l : List ℕ) (h : AnyHeader) (i len : ℕ) → ComesAs x s h 3 i len
      → (X.outcome x p l).answer ≡ operation_as h i (length x.bytes - start_of h)
  -- every other message leaves the list, and its answer asks for none
  pub stays : (x : ToReceive) (s : Sections) (p : Standing) (l k : List ℕ) → checked x.table ≡ Ok s
      → ((h : AnyHeader) (i len : ℕ) → ¬ (ComesAs x s h 2 i len)) → (X.list x p l ≡ l) × (X.outcome x p l ≡ X.outcome x p k)

abbrev pub MixedResponses : Type 0
MixedResponses = RespondsAny our_any_receiving
