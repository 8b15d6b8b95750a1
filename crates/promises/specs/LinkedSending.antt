-- 02, request 8: a request that is written in its target's issue, of the calls as programs in C have them (include/nyrkovash.h), over their
-- very contracts, in the papers' numbers. A refusal keeps what was lent by specs/ExportsKeep, and answers are unique by specs/UniqueCalls.
-- The theorem is in proofs/LinkedSending.antt.
use Rattle.std.specs.Prelude.{ℕ, ◌+◌, ◌%◌, ◌^◌, ◌≤◌, ◌<◌, ◌≡◌, true, false, List, [], ◌∷◌, ◌++◌, length, get_or, take, drop}
use Rattle.std.specs.Prelude.{Ok}
use Rattle.table.specs.declared.Sections.{Sections}
use Rattle.table.specs.Words.{sections_in}
use Rattle.types.specs.Table.{checked}
use Rattle.partners.specs.Threes.{is_three}
use Rattle.pending.specs.Places.{number_at, free_place, entered_at}
use Rattle.pending.specs.Free.{next_free}
use Rattle.platform_words.specs.SendCalls.{kind_of}
use Rattle.nyrkovash.proofs.nyr_send.Reads.{Post as nyr-send}
use Rattle.nyrkovash.proofs.nyr_send_mixed.Reads.{Post as nyr-send-mixed}
use Rattle.promises.specs.Checks.{Check, ◌when◌, Gives}
use Rattle.promises.specs.Linked.{Allows}
use Rattle.promises.specs.LinkedReplies.{CheckLeft}
use Rattle.promises.specs.LinkedIssue3.{Told, SpeaksThree, SpeaksSix}
use Rattle.promises.specs.PayloadOrder.{LieIn}
use Rattle.promises.specs.RequestCalls.{HasKind}
use Rattle.promises.specs.MixedSending.{send_checks3}

-- `nyr_send`, and `nyr_send_mixed` with the three numbers of the stamp and a set-up; and what they leave
pub record SendLent : Type 0 where
  pub own : ℕ
  pub platform : List ℕ
  pub table : List ℕ
  pub sections : List ℕ
  pub id : ℕ
  pub target : ℕ
  pub payload : List ℕ
  pub out : List ℕ
  pub sent : List ℕ

pub record SendMixedLent : Type 0 where
  pub stamp : List ℕ
  pub partners : List ℕ
  pub lent : SendLent

pub record SendLeft : Type 0 where
  pub platform : List ℕ
  pub out : List ℕ
  pub sent : List ℕ

abbrev pub Sends : SendLent → ℕ → SendLeft → Type 0
Sends =
    Allows nyr-send
    (λ k a. record {
      own = a.0;
      platform = a.1.0.now;
      table = a.1.1.0.now;
      sections = a.1.1.1.0.now;
      id = a.1.1.1.1.0;
      target = a.1.1.1.1.1.0;
      payload = a.1.1.1.1.1.1.0.now;
      out = a.1.1.1.1.1.1.1.0.now;
      sent = a.1.1.1.1.1.1.1.1.0.now;
    })
    (λ k e. record {
      platform = e.1.0.now;
      out = e.1.1.1.1.1.1.1.0.now;
      sent = e.1.1.1.1.1.1.1.1.0.now;
    })

abbrev pub SendsMixed : SendMixedLent → ℕ → SendLeft → Type 0
SendsMixed =
    Allows nyr-send-mixed
    (λ k a. record {
      stamp = a.1.0.now;
      partners = a.1.1.0.now;
      lent = record {
        own = a.0;
        platform = a.1.1.1.0.now;
        table = a.1.1.1.1.0.now;
        sections = a.1.1.1.1.1.0.now;
        id = a.1.1.1.1.1.1.0;
        target = a.1.1.1.1.1.1.1.0;
        payload = a.1.1.1.1.1.1.1.1.0.now;
        out = a.1.1.1.1.1.1.1.1.1.0.now;
        sent = a.1.1.1.1.1.1.1.1.1.1.0.now;
      };
    })
    (λ k e. record {
      platform = e.1.1.1.0.now;
      out = e.1.1.1.1.1.1.1.1.1.0.now;
      sent = e.1.1.1.1.1.1.1.1.1.1.0.now;
    })

-- the target, and what the set-up says of it
abbrev pub TargetIsSix : SendMixedLent → Type 0
TargetIsSix l = is_three l.partners l.lent.target ≡ false

abbrev pub TargetIsThree : SendMixedLent → Type 0
TargetIsThree l = is_three l.partners l.lent.target ≡ true

-- what `nyr_send` gives back and leaves
abbrev pub AsSent : SendMixedLent → ℕ → SendLeft → Type 0
AsSent l n r = (n6 : ℕ) (r6 : SendLeft) → Sends l.lent n6 r6 → (n ≡ n6) × (r ≡ r6)

-- the platform's words: five, of which the last is the next own number, and the list of the requests that are pending
abbrev pub pending_of : SendLent → List ℕ
pending_of x = drop 5 x.platform

-- "A request never takes a number still pending: it takes the next one free"
abbrev pub its_number : SendLent → ℕ
its_number x = next_free (pending_of x) (get_or x.platform 4 0 % 2 ^ 32)

-- 30 for sections that do not lie in the table, then request 1's order
abbrev pub any_sections_checks : SendLent → List Check
any_sections_checks x =
    30 when (¬ (LieIn x.table (sections_in x.sections)))
    ∷ send_checks3 (pending_of x) (kind_of x.table x.sections x.id) x.payload (length x.out)

-- with the words that the check left for a table: "under an ID that isn't kind 2"
abbrev pub checked_table_checks : Sections → SendLent → List Check
checked_table_checks s x =
    62 when ((i : ℕ) → ¬ (HasKind x.table s x.id 2 i))
    ∷ 60 when ((k : ℕ) → k < 64 → ¬ (number_at (pending_of x) k ≡ 0))
    ∷ 5 when (2 ^ 32 ≤ length x.payload)
    ∷ 10 when (length x.out < 24 + length x.payload)
    ∷ []

-- the bytes that were written
abbrev pub request_in : SendLent → SendLeft → List ℕ
request_in x r = take (24 + length x.payload) r.out

-- the ten words of `nyr_read_mixed`: kind 5, an operation; its ID, sender and number, where its payload stands, its issue and timestamp
abbrev pub tells_request : SendMixedLent → List ℕ
tells_request l =
    let x = l.lent in
    5 ∷ x.id ∷ x.own ∷ its_number x ∷ 24 ∷ length x.payload ∷ 3 ∷ get_or l.stamp 0 0 ∷ get_or l.stamp 1 0 ∷ 0 ∷ []

-- the platform's words: the states, the next own number, which is the one behind, and the list with the request
abbrev pub platform_sent : SendLent → List ℕ
platform_sent x =
    take 4 x.platform
    ++ ((its_number x + 1) % 2 ^ 32 ∷ entered_at (pending_of x) (free_place (pending_of x)) (its_number x) x.id x.target)

-- the numbers are as wide as C's types for them
pub record SendFits (l : SendMixedLent) : Type 0 where
  pub id_fits : l.lent.id < 2 ^ 32
  pub seconds_fit : get_or l.stamp 0 0 < 2 ^ 32
  pub nanoseconds_fit : get_or l.stamp 1 0 < 2 ^ 32

-- a request was sent in Issue 3: what is told of it, what is kept of it, and what every other platform reads, where we are set up so there
pub record Asked3 (l : SendMixedLent) (r : SendLeft) : Type 0 where
  pub answer : r.sent ≡ (24 + length l.lent.payload) ∷ its_number l.lent ∷ []
  pub platform : r.platform ≡ platform_sent l.lent
  pub behind : drop 24 (request_in l.lent r) ≡ l.lent.payload
  pub rest : drop (24 + length l.lent.payload) r.out ≡ drop (24 + length l.lent.payload) l.lent.out
  pub told : Told l.lent.own (request_in l.lent r) (SpeaksThree l.lent.own) 0 (λ y. tells_request l)
  pub elsewhere : Told l.lent.own (request_in l.lent r) (SpeaksSix l.lent.own) 3 (λ y. y.answer)

-- Ruled out: what specs/MixedSending rules out; the composite for the nanoseconds; words of the platform that move at a refusal.
pub record LinkedSending : Type 1 where
  -- "Issue 6 if unsaid": as `nyr_send`, refusals too, whatever the others speak
  pub as_before : (l : SendMixedLent) (n : ℕ) (r : SendLeft) → SendsMixed l n r → TargetIsSix l → AsSent l n r
  pub nobody : (l : SendMixedLent) (n : ℕ) (r : SendLeft) → SendsMixed l n r → ((k : ℕ) → is_three l.partners k ≡ false) → AsSent l n r
  pub above : (l : SendMixedLent) (n : ℕ) (r : SendLeft) → SendsMixed l n r → 256 ≤ l.lent.target → AsSent l n r
  -- "a fixed order of checks"
  pub order : (l : SendMixedLent) (n : ℕ) (r : SendLeft) → SendsMixed l n r → TargetIsThree l → Gives (any_sections_checks l.lent) n
  pub table_order : (s : Sections) (words : List ℕ) (l : SendMixedLent) (n : ℕ) (r : SendLeft) → SendsMixed l n r → TargetIsThree l
      → checked l.lent.table ≡ Ok s → CheckLeft l.lent.table s words l.lent.sections → Gives (checked_table_checks s l.lent) n
  -- what is sent
  pub sends : (l : SendMixedLent) (n : ℕ) (r : SendLeft) → SendsMixed l n r → TargetIsThree l → SendFits l → n ≡ 0
      → Asked3 l r
