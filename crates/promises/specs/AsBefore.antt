-- 02, request 8, "Issue 6 if unsaid": the platform call among partners of both issues is, for a message that is not Issue 3's and whose sender
-- does not speak Issue 3, the call of before: answer, states and own number, output and list of pending requests, refusals too; and no word
-- of services changes. Wrong programs that it rules out: a partner of Issue 6 that comes UP is answered with three messages, or takes three
-- own numbers; its DOWN marks a block of services. The theorem is in proofs/AsBefore.antt.
use Rattle.std.specs.Prelude.{ℕ, ◌≡◌, false, List}
use Rattle.wire.specs.Bytes.{number}
use Rattle.table.specs.declared.Sections.{Sections}
use Rattle.types.specs.Table.{checked}
use Rattle.message3.specs.declared.Stamp.{Stamp}
use Rattle.partners.specs.Threes.{is_three}
use Rattle.platform.specs.declared.reactions.Standing.{Standing}
use Rattle.platform.specs.Receiving.{received_of, left_of, list_after, sections_outcome, sections_output, sections_list}
use Rattle.mixed.specs.Receiving.{from_received}
use Rattle.mixed.specs.Tables.{sections_answer, sections_out, sections_pending, sections_words, answer_if, out_if, pending_if, words_if}

-- a message in Issue 6's form, byte 2 being 2 or platform byte 3 not speaking Issue 3, from a sender that does not speak it
pub record OfIssue6 (i m : List ℕ) : Type 0 where
  pub form : ¬ (number 0 m 2 ≡ 2) → is_three i (number 0 m 3) ≡ false
  pub sender : is_three i (number 2 m 4) ≡ false

-- the call on table bytes: own number, who speaks Issue 3, our services, table, what is kept, message; then what is lent
pub record OnBytesAsBefore (own : ℕ) (i ours t : List ℕ) (p : Standing) (ws m : List ℕ) : Type 0 where
  pub answer : (l : List ℕ) (room : ℕ) → answer_if (checked t) own i ours t p l ws m room ≡ from_received (received_of own t p l m room)
  pub output : (st : Stamp) (composite : ℕ) (out : List ℕ) → out_if (checked t) own st composite i ours t p ws m out ≡ left_of own t p m out
  pub list : (l : List ℕ) → pending_if (checked t) own i t l m ≡ list_after own t l m
  pub services : (room : ℕ) → words_if (checked t) own i ours t p ws m room ≡ ws

-- the call on sections, with an index
pub record OnSectionsAsBefore (own : ℕ) (i ours t : List ℕ) (s : Sections) (index : List ℕ) (p : Standing) (ws m : List ℕ) : Type 0 where
  pub answer : (l : List ℕ) (room : ℕ) → sections_answer own i ours t s index p l ws m room ≡ from_received (sections_outcome own t s index p l m room)
  pub output : (st : Stamp) (composite : ℕ) (out : List ℕ) →
      sections_out own st composite i ours t s index p ws m out ≡ sections_output own t s index p m out
  pub list : (l : List ℕ) → sections_pending own i t s index l m ≡ sections_list own t s index l m
  pub services : (room : ℕ) → sections_words own i ours t s index p ws m room ≡ ws

pub record AsBefore : Type 0 where
  pub on_bytes : (own : ℕ) (i ours t : List ℕ) (p : Standing) (ws m : List ℕ) → OfIssue6 i m → OnBytesAsBefore own i ours t p ws m
  pub on_sections : (own : ℕ) (i ours t : List ℕ) (s : Sections) (index : List ℕ) (p : Standing) (ws m : List ℕ) → OfIssue6 i m →
      OnSectionsAsBefore own i ours t s index p ws m
  -- where nobody speaks Issue 3 every message is one
  pub nobody : (i m : List ℕ) → ((k : ℕ) → is_three i k ≡ false) → OfIssue6 i m
