-- 02, 1, of the calls as programs in C have them (include/nyrkovash.h), over their very contracts: what a domain 1 message with a kind 2
-- ID comes to at a platform in words, and what is pending under a number. The list of the requests that are pending is all of the
-- platform's words behind the first five, the states and the next own number. The theorems are in proofs/LinkedResponses.antt.
use Rattle.std.specs.Prelude.{ℕ, ◌-◌, ◌%◌, ◌^◌, ◌<◌, ◌≡◌, List, [], ◌∷◌, length, get_or, drop}
use Rattle.std.specs.Prelude.{Option, Some, None}
use Rattle.table.specs.declared.Sections.{Sections}
use Rattle.message.specs.declared.Header.{Header}
use Rattle.pending.specs.Answers.{awaited_of, cancelled}
use Rattle.states.specs.States.{stands_up}
use Rattle.platform_words.specs.Words.{standing_in}
use Rattle.nyrkovash.proofs.nyr_receive.Reads.{Post as nyr-receive}
use Rattle.nyrkovash.proofs.nyr_receive_in.Reads.{Post as nyr-receive-in}
use Rattle.nyrkovash.proofs.nyr_pending.Reads.{Post as nyr-pending}
use Rattle.promises.specs.Reports.{IsSent}
use Rattle.promises.specs.Responses.{ComesUnder, IsAwaited}
use Rattle.promises.specs.LinkedPayloads.{Whenever}
use Rattle.promises.specs.LinkedReplies.{UpIs, heard_is, CheckLeft}

-- a response is told as kind 9: its ID, sender and sequence number, its operation's entry, and its payload, all of the message behind
-- its 20 bytes of header; nothing is owed. Its place is free again, and states, next own number and output stay
pub record TellsResponse (own : ℕ) (ws m out : List ℕ) (h : Header) (i n : ℕ) (after left heard : List ℕ) : Type 0 where
  pub number : n ≡ 0
  pub heard-is : heard ≡ heard_is h 0 9 h.id i 20 (length m - 20)
  pub output : left ≡ out
  pub states : UpIs own after (stands_up own (standing_in ws).states)
  pub next : get_or after 4 0 ≡ get_or ws 4 0 % 2 ^ 32
  pub list : drop 5 after ≡ cancelled (drop 5 ws) h.sequence

-- any other gets 61, and all that was lent stays
pub record TellsNothing (ws out was : List ℕ) (n : ℕ) (after left heard : List ℕ) : Type 0 where
  pub number : n ≡ 61
  pub platform : after ≡ ws
  pub output : left ≡ out
  pub heard_stays : heard ≡ was

pub record TellsOf (own : ℕ) (ws m out was : List ℕ) (h : Header) (i n : ℕ) (after left heard : List ℕ) : Type 0 where
  pub response : IsAwaited (drop 5 ws) h → TellsResponse own ws m out h i n after left heard
  pub any_other : ¬ (IsAwaited (drop 5 ws) h) → TellsNothing ws out was n after left heard

-- what is pending under a number: 1, the ID and the target, or three zeros
abbrev pub asked_is : Option (ℕ × ℕ) → List ℕ
asked_is (Some (id, target)) = 1 ∷ id ∷ target ∷ []
asked_is None = 0 ∷ 0 ∷ 0 ∷ []

pub record LinkedResponses : Type 0 where
  pub receive : (s : Sections) (h : Header) (i : ℕ) → Whenever nyr-receive (λ k a n e. a.0 < 256 →
      ComesUnder a.0 a.1.1.0.now s a.1.1.1.0.now h i → IsSent a.1.1.0.now s i →
      TellsOf a.0 a.1.0.now a.1.1.1.0.now a.1.1.1.1.0.now a.1.1.1.1.1.0.now h i n
      e.1.0.now e.1.1.1.1.0.now e.1.1.1.1.1.0.now)
  -- with the words that the check left for the table
  pub receive-in : (s : Sections) (h : Header) (i : ℕ) (words : List ℕ) → Whenever nyr-receive-in (λ k a n e. a.0 < 256 →
      ComesUnder a.0 a.1.1.0.now s a.1.1.1.1.0.now h i → IsSent a.1.1.0.now s i →
      CheckLeft a.1.1.0.now s words a.1.1.1.0.now →
      TellsOf a.0 a.1.0.now a.1.1.1.1.0.now a.1.1.1.1.1.0.now a.1.1.1.1.1.1.0.now h i n
      e.1.0.now e.1.1.1.1.1.0.now e.1.1.1.1.1.1.0.now)
  -- and what `nyr_pending` tells of a number is what is pending under it
  pub pending : Whenever nyr-pending (λ k a n e. (n ≡ 0) × (e.1.1.0.now ≡ asked_is (awaited_of (drop 5 a.0.now) a.1.0)))
