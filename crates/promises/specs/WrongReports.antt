-- 01, "All refused, or one constant answer", for replies: platforms that keep and write what ours does and report something else, or
-- refuse every message. None of them meets `Replies`. The theorems are in proofs/WrongReports.antt.
use Rattle.std.specs.Prelude.{ℕ}
use Rattle.platform.specs.declared.reactions.Heard.{Heard}
use Rattle.platform.specs.declared.reactions.Heard.TheVariants as heard
use Rattle.platform.specs.declared.Noting.{Noting}
use Rattle.platform.specs.declared.Noting.TheVariants.{Refused, Noted, Response}
use Rattle.platform.specs.Receiving.{received_of}
use Rattle.promises.specs.Platforms.{Receiving, our_receiving, Replies, RepliesBy}

-- ours with another answer, and with another report in it
abbrev pub answering : (Noting → Noting) → Receiving
answering f =
    record {
      outcome = λ own t p l m room. record { standing = (received_of own t p l m room).standing; answer = f (received_of own t p l m room).answer };
      left = our_receiving.left;
      list = our_receiving.list;
    }

abbrev pub reported : (Heard → Heard) → Noting → Noting
reported g (Refused n) = Refused n
reported g (Noted h x n) = Noted h (g x) n
reported g (Response h i start len) = Response h i start len

-- every message is a request
abbrev pub always_request : Heard → Heard
always_request x = heard.Request

-- an operation with a change to its entry and its payload's start
abbrev pub operation_by : (ℕ → ℕ) → (ℕ → ℕ) → Heard → Heard
operation_by f g (heard.Status x) = heard.Status x
operation_by f g heard.Request = heard.Request
operation_by f g (heard.UnknownOperation id) = heard.UnknownOperation id
operation_by f g heard.PullOfAll = heard.PullOfAll
operation_by f g (heard.PullOfOne id i) = heard.PullOfOne id i
operation_by f g (heard.NotVersionedData id) = heard.NotVersionedData id
operation_by f g (heard.Operation i start len) = heard.Operation (f i) (g start) len
operation_by f g (heard.NotInTable id) = heard.NotInTable id

-- its payload starts with the message's first byte; it is the table's first
abbrev pub payload_from_start : Heard → Heard
payload_from_start = operation_by (λ i. i) (λ start. 0)

abbrev pub always_first : Heard → Heard
always_first = operation_by (λ i. 0) (λ start. start)

pub record NoWrongReport : Type 0 where
  pub ours : Replies
  pub always-request : RepliesBy (answering (reported always_request)) → ⊥
  pub payload-from-start : RepliesBy (answering (reported payload_from_start)) → ⊥
  pub always-first : RepliesBy (answering (reported always_first)) → ⊥
  pub all-refused : RepliesBy (answering (λ a. Refused 10)) → ⊥
