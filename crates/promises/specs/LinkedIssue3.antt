-- 02, request 8: "its messages are read, judged and written by that issue's tables alone", "No message may be read under the other issue's
-- meaning", and 01's rule that a written message reads back the same, of the calls as programs in C have them (include/nyrkovash.h), over
-- their very contracts, in the papers' numbers. Refusals keep what was lent by specs/ExportsKeep, and answers are unique by
-- specs/UniqueCalls. The theorem is in proofs/LinkedIssue3.antt.
use Rattle.std.specs.Prelude.{ℕ, ◌+◌, ◌-◌, ◌/◌, ◌%◌, ◌^◌, ◌≤◌, ◌<◌, ◌≡◌, true, false, cond, ◌&&◌, ◌⊎◌, List, [], ◌∷◌, ◌++◌, eqb, length, get_or, take, drop}
use Rattle.wire.specs.Bytes.{Octets, number, bytes, over}
use Rattle.message3.specs.Platform.{services_bytes}
use Rattle.partners.specs.Threes.{is_three}
use Rattle.nyrkovash.proofs.nyr_read.Reads.{Post as nyr-read}
use Rattle.nyrkovash.proofs.nyr_write.Reads.{Post as nyr-write}
use Rattle.nyrkovash.proofs.nyr_partners_set.Reads.{Post as nyr-partners-set}
use Rattle.nyrkovash.proofs.nyr_read_mixed.Reads.{Post as nyr-read-mixed}
use Rattle.nyrkovash.proofs.nyr_write_3.Reads.{Post as nyr-write-3}
use Rattle.promises.specs.Checks.{Gives}
use Rattle.promises.specs.Linked.{Allows}
use Rattle.promises.specs.LinkedMessages.{kind_sent, value_sent}
use Rattle.promises.specs.Issue3Messages.{told_as, AreServices}
use Rattle.promises.specs.Issue3Order.{write_checks3}
use Rattle.promises.specs.AnyOrder.{ThreeForm, any_checks}

-- `nyr_partners_set`: a set-up, a platform and an issue; and the set-up that it leaves
pub record SetLent : Type 0 where
  pub partners : List ℕ
  pub platform : ℕ
  pub issue : ℕ

abbrev pub Sets : SetLent → ℕ → List ℕ → Type 0
Sets = Allows nyr-partners-set (λ k a. record { partners = a.0.now; platform = a.1.0; issue = a.1.1.0 }) (λ k e. e.0.now)

-- `nyr_read`, and `nyr_read_mixed` with a set-up; and the words of an answer that they leave
pub record ReadLent : Type 0 where
  pub own : ℕ
  pub message : List ℕ
  pub answer : List ℕ

pub record MixedLent : Type 0 where
  pub own : ℕ
  pub partners : List ℕ
  pub message : List ℕ
  pub answer : List ℕ

abbrev pub Reads : ReadLent → ℕ → List ℕ → Type 0
Reads = Allows nyr-read (λ k a. record { own = a.0; message = a.1.0.now; answer = a.1.1.0.now }) (λ k e. e.1.1.0.now)

abbrev pub ReadsMixed : MixedLent → ℕ → List ℕ → Type 0
ReadsMixed =
    Allows nyr-read-mixed (λ k a. record { own = a.0; partners = a.1.0.now; message = a.1.1.0.now; answer = a.1.1.1.0.now })
    (λ k e. e.1.1.1.0.now)

-- `nyr_write`, and `nyr_write_3` with a timestamp; and what they leave
pub record WriteLent : Type 0 where
  pub own : ℕ
  pub domain : ℕ
  pub id : ℕ
  pub sequence : ℕ
  pub payload : List ℕ
  pub out : List ℕ
  pub written : ℕ

pub record Write3Lent : Type 0 where
  pub seconds : ℕ
  pub nanoseconds : ℕ
  pub lent : WriteLent

pub record WriteLeft : Type 0 where
  pub out : List ℕ
  pub written : ℕ

abbrev pub Writes : WriteLent → ℕ → WriteLeft → Type 0
Writes =
    Allows nyr-write
    (λ k a. record {
      own = a.0;
      domain = a.1.0;
      id = a.1.1.0;
      sequence = a.1.1.1.0;
      payload = a.1.1.1.1.0.now;
      out = a.1.1.1.1.1.0.now;
      written = a.1.1.1.1.1.1.0.now;
    })
    (λ k e. record { out = e.1.1.1.1.1.0.now; written = e.1.1.1.1.1.1.0.now })

abbrev pub Writes3 : Write3Lent → ℕ → WriteLeft → Type 0
Writes3 =
    Allows nyr-write-3
    (λ k a. record {
      seconds = a.1.0;
      nanoseconds = a.1.1.0;
      lent = record {
        own = a.0;
        domain = a.1.1.1.0;
        id = a.1.1.1.1.0;
        sequence = a.1.1.1.1.1.0;
        payload = a.1.1.1.1.1.1.0.now;
        out = a.1.1.1.1.1.1.1.0.now;
        written = a.1.1.1.1.1.1.1.1.0.now;
      };
    })
    (λ k e. record { out = e.1.1.1.1.1.1.1.0.now; written = e.1.1.1.1.1.1.1.1.0.now })

-- "Issue 6 if unsaid": one platform is set up, in four words, and every other stays; above 255 nothing changes. Wrong programs that this
-- rules out: 448 set up as 192; an issue that is turned, and not set; a set-up that clears its neighbours
pub record IsSetUp (l : SetLent) (n : ℕ) (left : List ℕ) : Type 0 where
  pub number : n ≡ 0
  pub there : l.platform < 256 → length l.partners ≡ 4 → is_three left l.platform ≡ eqb l.issue 3
  pub others : (k : ℕ) → ¬ (k ≡ l.platform) → is_three left k ≡ is_three l.partners k
  pub above : 255 < l.platform → left ≡ l.partners

-- the ten words of a message of Issue 3, by its fields: what it is told as, its value, and of a status the composite ID
abbrev pub kind_sent3 : ℕ → ℕ → ℕ
kind_sent3 domain id = cond (eqb domain 0) (get_or told_as (id - 1) 0) 5

abbrev pub composite_sent : ℕ → ℕ → List ℕ → ℕ
composite_sent domain id payload = cond (eqb domain 0 && eqb id 1) (number 2 payload 4) 0

abbrev pub tells_three : Write3Lent → List ℕ
tells_three l =
    let x = l.lent in
    kind_sent3 x.domain x.id ∷ value_sent x.domain x.id x.payload ∷ x.own ∷ x.sequence ∷ 24 ∷ length x.payload
    ∷ 3 ∷ l.seconds ∷ l.nanoseconds ∷ composite_sent x.domain x.id x.payload ∷ []

abbrev pub tells_six : WriteLent → List ℕ
tells_six x =
    kind_sent x.domain x.id ∷ value_sent x.domain x.id x.payload ∷ x.own ∷ x.sequence ∷ 20 ∷ length x.payload
    ∷ 6 ∷ 0 ∷ 0 ∷ 0 ∷ []

-- the message that a call wrote, at the output's start
abbrev pub message_in : WriteLeft → List ℕ
message_in r = take r.written r.out

-- what every call that reads this message at a platform other than its sender gives back and leaves, where the set-up says so of the sender
abbrev pub Told : ℕ → List ℕ → (MixedLent → Type 0) → ℕ → (MixedLent → List ℕ) → Type 0
Told sender m so number words =
    (l : MixedLent) (n : ℕ) (left : List ℕ) → ReadsMixed l n left → l.message ≡ m → ¬ (sender ≡ l.own) → so l → (n ≡ number) × (left ≡ words l)

abbrev pub SpeaksThree : ℕ → MixedLent → Type 0
SpeaksThree k l = is_three l.partners k ≡ true

abbrev pub SpeaksSix : ℕ → MixedLent → Type 0
SpeaksSix k l = is_three l.partners k ≡ false

-- the numbers are as wide as C's types for them
pub record Fits (l : WriteLent) : Type 0 where
  pub own_fits : l.own < 256
  pub id_fits : l.id < 2 ^ 32
  pub sequence_fits : l.sequence < 2 ^ 32

-- a message was written: how many bytes, the payload behind the header, the rest as it was; it is read as just this where its sender is
-- set up so, and is 3 elsewhere. Wrong programs that this rules out: seconds for nanoseconds; a composite ID that is not told; a message
-- that is read by its version whatever the set-up says; a reader that refuses all
pub record Wrote3 (l : Write3Lent) (r : WriteLeft) : Type 0 where
  pub count : r.written ≡ 24 + length l.lent.payload
  pub room : r.written ≤ length l.lent.out
  pub behind : drop 24 (message_in r) ≡ l.lent.payload
  pub rest : drop r.written r.out ≡ drop r.written l.lent.out
  pub told : Told l.lent.own (message_in r) (SpeaksThree l.lent.own) 0 (λ x. tells_three l)
  pub elsewhere : Told l.lent.own (message_in r) (SpeaksSix l.lent.own) 3 (λ x. x.answer)

-- and one of Issue 6, of which specs/LinkedMessages says the rest
pub record WroteSix (l : WriteLent) (r : WriteLeft) : Type 0 where
  pub behind : drop 20 (message_in r) ≡ l.payload
  pub told : Told l.own (message_in r) (SpeaksSix l.own) 0 (λ x. tells_six l)
  pub elsewhere : Told l.own (message_in r) (SpeaksThree l.own) 3 (λ x. x.answer)

-- a message of this domain, ID and payload is written, wherever there is room
abbrev pub IsWritten3 : ℕ → ℕ → List ℕ → Type 0
IsWritten3 domain id payload =
    (l : Write3Lent) (n : ℕ) (r : WriteLeft) → Writes3 l n r → l.lent.domain ≡ domain → l.lent.id ≡ id → l.lent.payload ≡ payload
    → 24 + length payload ≤ length l.lent.out → n ≡ 0

-- 001, Tables 3 and 4: each of the nine messages, and any operation. Wrong programs that this rules out: one that never writes an ID
pub record EachIsWritten3 : Type 0 where
  pub status : (x composite : ℕ) → x < 2 → composite < 2 ^ 32 → IsWritten3 0 1 (bytes 2 x ++ bytes 2 composite)
  pub request : IsWritten3 0 2 []
  pub services : (ps : List (ℕ × ℕ)) → AreServices ps → length ps < 2 ^ 29 → IsWritten3 0 3 (services_bytes ps)
  pub services_request : (id : ℕ) → id < 2 ^ 32 → IsWritten3 0 4 (bytes 2 id)
  pub unknown : (id : ℕ) → id < 2 ^ 32 → IsWritten3 0 5 (bytes 2 id)
  pub not_available : (id : ℕ) → id < 2 ^ 32 → IsWritten3 0 6 (bytes 2 id)
  pub pull : (id : ℕ) → id < 2 ^ 32 → IsWritten3 0 7 (bytes 2 id)
  pub composite : (id : ℕ) → id < 2 ^ 32 → IsWritten3 0 8 (bytes 2 id)
  pub composite_ack : (x : ℕ) → x < 2 → IsWritten3 0 9 (bytes 2 x)
  pub operation : (id : ℕ) (payload : List ℕ) → length payload < 2 ^ 32 → IsWritten3 1 id payload

-- the ten words of bytes that are a message of Issue 3, and of Issue 6, each by the bytes where its field stands (001 and 000, Table 2)
abbrev pub three_words : List ℕ → List ℕ
three_words m =
    kind_sent3 (number 0 m 2 % 16) (number 2 m 4) ∷ value_sent (number 0 m 2 % 16) (number 2 m 4) (drop 24 m)
    ∷ number 0 m 3 ∷ number 2 m 20 ∷ 24 ∷ (length m - 24)
    ∷ 3 ∷ number 2 m 8 ∷ number 2 m 12 ∷ composite_sent (number 0 m 2 % 16) (number 2 m 4) (drop 24 m) ∷ []

abbrev pub six_words : List ℕ → List ℕ
six_words m =
    kind_sent (number 0 m 3) (number 2 m 8) ∷ value_sent (number 0 m 3) (number 2 m 8) (drop 20 m)
    ∷ number 2 m 4 ∷ number 2 m 16 ∷ 20 ∷ (length m - 20) ∷ 6 ∷ 0 ∷ 0 ∷ 0 ∷ []

-- bytes that were read as one issue's: their sender is set up so, they have that issue's version, and the words are theirs
pub record AsThree (l : MixedLent) (left : List ℕ) : Type 0 where
  pub sender : is_three l.partners (number 0 l.message 3) ≡ true
  pub version : number 0 l.message 2 / 16 ≡ 1
  pub words : left ≡ three_words l.message

pub record AsSix (l : MixedLent) (left : List ℕ) : Type 0 where
  pub sender : is_three l.partners (number 2 l.message 4) ≡ false
  pub version : number 0 l.message 2 ≡ 2
  pub words : left ≡ six_words l.message

-- a call that is to write again what the words of a message of Issue 3 tell of it: kind 5 is domain 1, with the value for its ID, and any
-- other is domain 0, with its ID in Table 3
abbrev pub id_told : ℕ → ℕ → ℕ
id_told kind value = cond (eqb kind 5) value (get_or (0 ∷ 1 ∷ 2 ∷ 5 ∷ 7 ∷ 0 ∷ 3 ∷ 4 ∷ 6 ∷ 8 ∷ 9 ∷ []) kind 0)

pub record SaysAgain (words m : List ℕ) (l : Write3Lent) : Type 0 where
  pub sender : l.lent.own ≡ get_or words 2 0
  pub seconds_told : l.seconds ≡ get_or words 7 0
  pub nanoseconds_told : l.nanoseconds ≡ get_or words 8 0
  pub domain-told : l.lent.domain ≡ cond (eqb (get_or words 0 0) 5) 1 0
  pub id-told : l.lent.id ≡ id_told (get_or words 0 0) (get_or words 1 0)
  pub sequence_told : l.lent.sequence ≡ get_or words 3 0
  pub payload_told : l.lent.payload ≡ drop 24 m
  pub room : length m ≤ length l.lent.out

-- the same bytes, at the output's start
pub record SameBytes (m out : List ℕ) (n : ℕ) (r : WriteLeft) : Type 0 where
  pub number-given : n ≡ 0
  pub count : r.written ≡ length m
  pub bytes_left : r.out ≡ over out 0 m

-- what `nyr_read` gives of the same bytes at the same platform: the same number, and the same six words where it is 0
abbrev pub AsRead : MixedLent → ℕ → List ℕ → Type 0
AsRead l n left =
    (was : List ℕ) (n6 : ℕ) (left6 : List ℕ) → Reads (record { own = l.own; message = l.message; answer = was }) n6 left6
    → (n ≡ n6) × (n ≡ 0 → left ≡ left6 ++ (6 ∷ 0 ∷ 0 ∷ 0 ∷ []))

-- what `nyr_read_mixed` gives of bytes of which `nyr_read` told these six words, by the sender that they name
pub record BySender (l : MixedLent) (n : ℕ) (left left6 : List ℕ) : Type 0 where
  pub six_given : is_three l.partners (get_or left6 2 0) ≡ false → n ≡ 0
  pub six-words : is_three l.partners (get_or left6 2 0) ≡ false → left ≡ left6 ++ (6 ∷ 0 ∷ 0 ∷ 0 ∷ [])
  pub three_given : is_three l.partners (get_or left6 2 0) ≡ true → n ≡ 3

pub record LinkedIssue3 : Type 1 where
  -- the set-up: words of 0 are Issue 6 for all, and each call sets one platform up
  pub nobody : (k : ℕ) → is_three (0 ∷ 0 ∷ 0 ∷ 0 ∷ []) k ≡ false
  pub sets_up : (l : SetLent) (n : ℕ) (left : List ℕ) → Sets l n left → IsSetUp l n left
  -- what is written is read by its sender's issue, and by it alone; all that there is can be written
  pub write_3 : (l : Write3Lent) (n : ℕ) (r : WriteLeft) → Writes3 l n r → Fits l.lent → l.seconds < 2 ^ 32 → l.nanoseconds < 2 ^ 32
      → n ≡ 0 → Wrote3 l r
  pub write_six : (l : WriteLent) (n : ℕ) (r : WriteLeft) → Writes l n r → Fits l → n ≡ 0 → WroteSix l r
  pub each_is_written : EachIsWritten3
  -- and what was read as Issue 3's, written again, is the same bytes, timestamp and composite ID too
  pub read_then_write : (l : MixedLent) (n : ℕ) (left : List ℕ) → ReadsMixed l n left → Octets l.message → n ≡ 0 → get_or left 6 0 ≡ 3
      → (w : Write3Lent) (k : ℕ) (r : WriteLeft) → Writes3 w k r → SaysAgain left l.message w → SameBytes l.message w.lent.out k r
  -- no cross reading, of any bytes
  pub by_issue : (l : MixedLent) (n : ℕ) (left : List ℕ) → ReadsMixed l n left → n ≡ 0 → AsThree l left ⊎ AsSix l left
  -- every message that `nyr_read` reads is read as Issue 6's where its sender does not speak Issue 3, and is 3 where it does
  pub all_of_six : (l : MixedLent) (n : ℕ) (left : List ℕ) → ReadsMixed l n left
      → (was left6 : List ℕ) → Reads (record { own = l.own; message = l.message; answer = was }) 0 left6 → BySender l n left left6
  -- as before, refusals too: a message of Issue 6's form from a sender that does not speak Issue 3, whatever the others speak; and every
  -- message where nobody does
  pub six_as_before : (l : MixedLent) (n : ℕ) (left : List ℕ) → ReadsMixed l n left
      → ¬ (ThreeForm l.partners l.message) → is_three l.partners (number 2 l.message 4) ≡ false → AsRead l n left
  pub all_as_before : (l : MixedLent) (n : ℕ) (left : List ℕ) → ReadsMixed l n left → ((k : ℕ) → is_three l.partners k ≡ false) → AsRead l n left
  -- "a fixed order of checks"
  pub read_order : (l : MixedLent) (n : ℕ) (left : List ℕ) → ReadsMixed l n left → Gives (any_checks l.partners l.own l.message) n
  pub write_order : (l : Write3Lent) (n : ℕ) (r : WriteLeft) → Writes3 l n r
      → Gives (write_checks3 l.lent.domain l.lent.id l.lent.payload (length l.lent.out)) n
