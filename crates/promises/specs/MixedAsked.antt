-- 02, requests 1 and 8: a request that one platform asks in the issue that the other speaks, which the other hears and answers. The theorem is
-- in proofs/MixedAsked.antt.
use Prim.{Unit}
use Rattle.std.specs.Prelude.{Ok}
use Rattle.std.specs.Prelude.{ℕ, ◌+◌, ◌^◌, ◌≤◌, ◌<◌, ◌≡◌, Bool, true, false, List, length, take}
use Rattle.wire.specs.Bytes.{part}
use Rattle.table.specs.declared.Sections.{Sections}
use Rattle.types.specs.Table.{checked}
use Rattle.message.specs.Writing.{header_for, output_after}
use Rattle.message3.specs.Writing.{output_after3}
use Rattle.partners.specs.Threes.{is_three}
use Rattle.pending.specs.Places.{number_at}
use Rattle.pending.specs.Free.{next_free}
use Rattle.requests.specs.declared.Issue.{Issue}
use Rattle.requests.specs.declared.Issue.TheVariants.{Six, Three}
use Rattle.requests.specs.declared.Sent.TheVariants.{Under}
use Rattle.platform.specs.declared.reactions.Standing.{Standing}
use Rattle.promises.specs.RequestCalls.{HasKind}
use Rattle.promises.specs.MixedSending.{ToSend, our_asking, issue_in, Narrow}
use Rattle.promises.specs.MixedResponses.{ToReceive, our_any_receiving, AnyHeader, of_six_header, of_three_header, operation_as, DeliversAny, RefusesAny}

-- 000 and 001, Table 2: how long the header is; whether it is Issue 3; its timestamp is as wide as its fields
abbrev pub head_of : Issue → ℕ
head_of Six = 20
head_of (Three t) = 24

abbrev pub in_three : Issue → Bool
in_three Six = false
in_three (Three t) = true

abbrev pub StampFits : Issue → Type 0
StampFits Six = Unit {0}
StampFits (Three t) = (t.seconds < 2 ^ 32) × (t.nanoseconds < 2 ^ 32)

-- the header of a message of domain 1
abbrev pub header_in : Issue → ℕ → ℕ → ℕ → List ℕ → AnyHeader
header_in Six own id n payload = of_six_header (header_for own 1 id n payload)
header_in (Three t) own id n payload =
    of_three_header
    (record {
      domain = 1;
      platform = own;
      id = id;
      seconds = t.seconds;
      nanoseconds = t.nanoseconds;
      payload_size = length payload;
      sequence = n;
    })

-- what a platform writes in answer, in an issue: any payload
abbrev pub reply_in : Issue → ℕ → ℕ → ℕ → List ℕ → List ℕ → List ℕ
reply_in Six own id n response out = take (20 + length response) (output_after own 1 id n response out)
reply_in (Three t) own id n response out = take (24 + length response) (output_after3 own t 1 id n response out)

-- a platform can ask another: the ID is of kind 2 in its table, a place of its list is free, whatever else stands there, and the message has room
pub record CanAskAny (x : ToSend) : Type 0 where
  pub one : x.own < 256
  pub other : x.target < 256
  pub two : ¬ (x.own ≡ x.target)
  pub narrow : Narrow x
  pub sent : x.kind ≡ 2
  pub whole : length x.list ≡ 128
  pub place : ℕ
  pub places : place < 64
  pub free : number_at x.list place ≡ 0
  pub size : length x.payload < 2 ^ 32
  pub room : head_of (issue_in x) + length x.payload ≤ length x.out

abbrev pub its_number : ToSend → ℕ
its_number x = next_free x.list x.next

-- the bytes that it sends, and the requests that it then waits for
abbrev pub asked_bytes : ToSend → List ℕ
asked_bytes x = take (head_of (issue_in x) + length x.payload) (our_asking.outputs x)

abbrev pub waiting_for : ToSend → List ℕ
waiting_for x = our_asking.lists x

-- Ruled out: a request or a response that is read only where both speak Issue 6; a number, an ID or a payload that changes on the way, or a
-- payload told from byte 20 in Issue 3; a number drawn for each issue; a response that is taken for an operation, or is delivered twice.
pub record AskedInIssue (x : ToSend) : Type 0 where
  pub sends : (our_asking.answers x).answer ≡ Under (its_number x) (head_of (issue_in x) + length x.payload)
  -- the other has it in the issue that it was asked in: it hears the operation of kind 3, and its list stays
  pub hears : (y : ToReceive) (r : Sections) (j : ℕ) (q : Standing) (l : List ℕ) → y.own ≡ x.target → y.bytes ≡ asked_bytes x
      → is_three y.partners x.own ≡ is_three x.partners x.target → checked y.table ≡ Ok r → HasKind y.table r x.id 3 j
      → our_any_receiving.outcome y q l
      ≡ record { standing = q; answer = operation_as (header_in (issue_in x) x.own x.id (its_number x) x.payload) j (length x.payload) }
  pub unlisted : (y : ToReceive) (r : Sections) (j : ℕ) (q : Standing) (l : List ℕ) → y.own ≡ x.target → y.bytes ≡ asked_bytes x
      → is_three y.partners x.own ≡ is_three x.partners x.target → checked y.table ≡ Ok r → HasKind y.table r x.id 3 j
      → our_any_receiving.list y q l ≡ l
  pub handed : part (asked_bytes x) (head_of (issue_in x)) (length x.payload) ≡ x.payload
  -- the answer comes in an issue that the asker has the other in: it is the response, and a second copy is 61; the asker may have another
  -- table, and another set-up, by then
  pub answers : (issue : Issue) (y : ToReceive) (r : Sections) (j : ℕ) (p : Standing) (response outB : List ℕ) → y.own ≡ x.own
      → y.bytes ≡ reply_in issue x.target x.id (its_number x) response outB → is_three y.partners x.target ≡ in_three issue
      → StampFits issue → checked y.table ≡ Ok r → HasKind y.table r x.id 2 j → length response < 2 ^ 32
      → head_of issue + length response ≤ length outB
      → DeliversAny our_any_receiving y p (waiting_for x) (header_in issue x.target x.id (its_number x) response) j
  pub again : (issue : Issue) (y : ToReceive) (r : Sections) (j : ℕ) (p q : Standing) (response outB : List ℕ) → y.own ≡ x.own
      → y.bytes ≡ reply_in issue x.target x.id (its_number x) response outB → is_three y.partners x.target ≡ in_three issue
      → StampFits issue → checked y.table ≡ Ok r → HasKind y.table r x.id 2 j → length response < 2 ^ 32
      → head_of issue + length response ≤ length outB
      → RefusesAny our_any_receiving y q (our_any_receiving.list y p (waiting_for x))
  pub returned : (issue : Issue) (response outB : List ℕ) → length response < 2 ^ 32 → head_of issue + length response ≤ length outB
      → part (reply_in issue x.target x.id (its_number x) response outB) (head_of issue) (length response) ≡ response

abbrev pub MixedAsked : Type 0
MixedAsked = (x : ToSend) → CanAskAny x → AskedInIssue x
