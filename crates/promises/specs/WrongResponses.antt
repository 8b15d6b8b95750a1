-- 02, 1, "All refused, or one constant answer" for responses: platforms that do what ours does but for domain 1 messages with a kind 2
-- ID. None of them meets `Responses`. The theorems are in proofs/WrongResponses.antt.
use Rattle.std.specs.Prelude.{ℕ, ◌≡◌, Bool, false, cond, List, eqb}
use Rattle.std.specs.Prelude.{Result, Ok, Err}
use Rattle.refusal.specs.declared.Refusal.{Refusal}
use Rattle.table.specs.declared.Sections.{Sections}
use Rattle.std.specs.Prelude.{Option, Some, None}
use Rattle.pending.specs.Free.{is_pending}
use Rattle.pending.specs.Answers.{awaited_of, cancelled, is_response}
use Rattle.types.specs.Table.{checked}
use Rattle.message.specs.declared.Header.{Header}
use Rattle.message.specs.declared.Reading.{Reading}
use Rattle.message.specs.declared.Reading.TheVariants as reading
use Rattle.message.specs.Reading.{read_of}
use Rattle.platform.specs.declared.reactions.Standing.{Standing}
use Rattle.platform.specs.declared.Received.{Received}
use Rattle.platform.specs.Reaction.{operation_in}
use Rattle.platform.specs.Receiving.{refused, is_answer, delivered, index_of, received_of}
use Rattle.promises.specs.Platforms.{Receiving, our_receiving}
use Rattle.promises.specs.Responses.{Responses, RespondsBy}

-- what a platform takes for the response, and the list after it
pub record Matching : Type 0 where
  pub is_it : List ℕ → Header → Bool
  pub freed : List ℕ → ℕ → List ℕ

-- such a message, with the operation that is found for it, and with what ours makes of any other
abbrev pub outcome_by : Matching → List ℕ → Option (ℕ × ℕ) → Standing → List ℕ → Reading → Received → Received
outcome_by M t f p l (reading.Refused n) ours = ours
outcome_by M t f p l (reading.Read h m start len) ours =
    cond (is_answer t f m) (cond (M.is_it l h) (delivered f p h start len) (refused p 61)) ours

abbrev pub list_by : Matching → List ℕ → Option (ℕ × ℕ) → List ℕ → Reading → List ℕ
list_by M t f l (reading.Refused n) = l
list_by M t f l (reading.Read h m start len) = cond (is_answer t f m) (cond (M.is_it l h) (M.freed l h.sequence) l) l

abbrev pub outcome_for : Matching → Result Sections Refusal → List ℕ → Standing → List ℕ → Reading → Received → Received
outcome_for M (Err n) t p l x ours = ours
outcome_for M (Ok s) t p l x ours = outcome_by M t (operation_in t s (index_of t s) x) p l x ours

abbrev pub list_for : Matching → Result Sections Refusal → List ℕ → List ℕ → Reading → List ℕ
list_for M (Err n) t l x = l
list_for M (Ok s) t l x = list_by M t (operation_in t s (index_of t s) x) l x

abbrev pub matching : Matching → Receiving
matching M =
    record {
      outcome = λ own t p l m room. outcome_for M (checked t) t p l (read_of own m) (received_of own t p l m room);
      left = our_receiving.left;
      list = λ own t p l m room. list_for M (checked t) t l (read_of own m);
    }

-- ours, in this form
abbrev pub rightly : Matching
rightly = record { is_it = λ l h. is_response l h.sequence h.id h.platform; freed = cancelled }

-- the number alone is looked at; the number and the ID, so that any sender will do; the response is taken, and its place stays; none is
-- a response
abbrev pub matched_by_number : Matching
matched_by_number = record { is_it = λ l h. is_pending l h.sequence; freed = cancelled }

abbrev pub asks_id : Option (ℕ × ℕ) → ℕ → Bool
asks_id (Some (i, target)) id = eqb i id
asks_id None id = false

abbrev pub any_sender : Matching
any_sender = record { is_it = λ l h. asks_id (awaited_of l h.sequence) h.id; freed = cancelled }

abbrev pub left_in_place : Matching
left_in_place = record { is_it = rightly.is_it; freed = λ l n. l }

abbrev pub none_taken : Matching
none_taken = record { is_it = λ l h. false; freed = cancelled }

pub record NoWrongResponse : Type 0 where
  pub ours : Responses
  pub ours_answers : (own : ℕ) (t : List ℕ) (p : Standing) (l m : List ℕ) (room : ℕ) →
      (matching rightly).outcome own t p l m room ≡ our_receiving.outcome own t p l m room
  pub ours_list : (own : ℕ) (t : List ℕ) (p : Standing) (l m : List ℕ) (room : ℕ) →
      (matching rightly).list own t p l m room ≡ our_receiving.list own t p l m room
  pub by_number : RespondsBy (matching matched_by_number) → ⊥
  pub any-sender : RespondsBy (matching any_sender) → ⊥
  pub left-in-place : RespondsBy (matching left_in_place) → ⊥
  pub none-taken : RespondsBy (matching none_taken) → ⊥
