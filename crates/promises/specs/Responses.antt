-- 02, 1: what a domain 1 message with a kind 2 ID comes to at a platform, ours or any other: it is the response to a request that is
-- pending, or is refused with 61. A kind 3 ID is heard as 01 has it. The theorems are in proofs/Responses.antt; platforms that take
-- another message for the response, or the same one twice, or none, are in specs/WrongResponses.
use Rattle.std.specs.Prelude.{ℕ, ◌-◌, ◌≡◌, List, length, drop}
use Rattle.std.specs.Prelude.{Ok}
use Rattle.std.specs.Prelude.{Some}
use Rattle.wire.specs.Bytes.{part}
use Rattle.table.specs.declared.Sections.{Sections}
use Rattle.types.specs.Table.{checked}
use Rattle.message.specs.declared.Header.{Header}
use Rattle.message.specs.declared.Message.TheVariants as message
use Rattle.message.specs.declared.Reading.TheVariants.{Read}
use Rattle.message.specs.Reading.{read_of}
use Rattle.pending.specs.Answers.{awaited_of, cancelled}
use Rattle.pending.specs.PlainMap.{Once}
use Rattle.platform.specs.declared.reactions.Standing.{Standing}
use Rattle.platform.specs.declared.reactions.Heard.TheVariants as heard
use Rattle.platform.specs.declared.Noting.TheVariants.{Refused, Noted, Response}
use Rattle.promises.specs.Reports.{HasID, IsSent, IsServed}
use Rattle.promises.specs.Platforms.{Receiving, our_receiving}

-- a domain 1 message with this header, which the platform `own` reads, and entry i of its table bears the message's ID
pub record ComesUnder (own : ℕ) (t : List ℕ) (s : Sections) (m : List ℕ) (h : Header) (i : ℕ) : Type 0 where
  pub table : checked t ≡ Ok s
  pub start : ℕ
  pub len : ℕ
  pub read : read_of own m ≡ Read h message.Operation start len
  pub has : HasID t s h.id i

-- "A domain 1 message with that ID, number and sender is the response": what is pending under its number is its ID, asked of its sender
abbrev pub IsAwaited : List ℕ → Header → Type 0
IsAwaited l h = awaited_of l h.sequence ≡ Some (h.id, h.platform)

-- "it is delivered": the operation's entry, and the payload part, all of the message behind its 20 bytes of header; "and its place is
-- free again". Nothing is owed, and no state or own number changes
pub record DeliversBy (X : Receiving) (own : ℕ) (t : List ℕ) (p : Standing) (l m out : List ℕ) (h : Header) (i : ℕ) : Type 0 where
  pub answer : (X.outcome own t p l m (length out)).answer ≡ Response h i 20 (length m - 20)
  pub payload : part m 20 (length m - 20) ≡ drop 20 m
  pub standing : (X.outcome own t p l m (length out)).standing ≡ p
  pub output : X.left own t p l m out ≡ out
  pub list : X.list own t p l m (length out) ≡ cancelled l h.sequence

-- "any other message with a kind 2 ID is refused with 61": it changes nothing
pub record RefusesBy (X : Receiving) (own : ℕ) (t : List ℕ) (p : Standing) (l m out : List ℕ) : Type 0 where
  pub answer : (X.outcome own t p l m (length out)).answer ≡ Refused 61
  pub standing : (X.outcome own t p l m (length out)).standing ≡ p
  pub output : X.left own t p l m out ≡ out
  pub list : X.list own t p l m (length out) ≡ l

pub record RespondsBy (X : Receiving) : Type 0 where
  pub response : (own : ℕ) (t : List ℕ) (s : Sections) (p : Standing) (l m out : List ℕ) (h : Header) (i : ℕ) →
      ComesUnder own t s m h i → IsSent t s i → IsAwaited l h → DeliversBy X own t p l m out h i
  pub any_other : (own : ℕ) (t : List ℕ) (s : Sections) (p : Standing) (l m out : List ℕ) (h : Header) (i : ℕ) →
      ComesUnder own t s m h i → IsSent t s i → ¬ (IsAwaited l h) → RefusesBy X own t p l m out
  -- "it is delivered once": where no number stands twice in the list, as over any calls from fresh, a second copy is refused
  pub once : (own : ℕ) (t : List ℕ) (s : Sections) (p : Standing) (l m out : List ℕ) (h : Header) (i : ℕ) →
      ComesUnder own t s m h i → IsSent t s i → length l ≡ 128 → Once l → IsAwaited l h →
      RefusesBy X own t p (X.list own t p l m (length out)) m out
  -- "A message with a kind 3 ID goes to its component as in 01"
  pub served : (own : ℕ) (t : List ℕ) (s : Sections) (p : Standing) (l m out : List ℕ) (h : Header) (i : ℕ) →
      ComesUnder own t s m h i → IsServed t s i →
      (X.outcome own t p l m (length out)).answer ≡ Noted h (heard.Operation i 20 (length m - 20)) 0

abbrev pub Responses : Type 0
Responses = RespondsBy our_receiving
