-- Platforms among partners of both issues that do not fall silent: ours, but for what they make of some messages of Issue 3. Of three of them no
-- number bounds the exchanges that one status starts, and a fourth passes 9; a fifth goes on where two are at odds. The theorem is in
-- proofs/WrongMixedExchange.antt.
use Rattle.std.specs.Prelude.{ℕ, Bool, true, cond, not, ◌&&◌, List, [], ◌∷◌, eqb, ltb, length}
use Rattle.std.specs.Prelude.{Result, Ok, Err}
use Rattle.refusal.specs.declared.Refusal.{Refusal}
use Rattle.table.specs.declared.Sections.{Sections}
use Rattle.wire.specs.Bytes.{number}
use Rattle.types.specs.Table.{checked as checkedIs}
use Rattle.pending.specs.Free.{drawn}
use Rattle.states.specs.States.{stands_up}
use Rattle.message3.specs.declared.Header3.{Header3}
use Rattle.message3.specs.declared.Message3.{Message3}
use Rattle.message3.specs.Platform.{kind_in3, value_in3}
use Rattle.platform.specs.declared.reactions.Standing.{Standing}
use Rattle.platform.specs.Reaction.{some_data}
use Rattle.platform.specs.Receiving.{fresh_standing}
use Rattle.mixed.specs.declared.AnyReading.{AnyReading}
use Rattle.mixed.specs.declared.AnyReading.TheVariants as reading
use Rattle.mixed.specs.Reading.{any_of}
use Rattle.mixed.specs.Replies.{field_message, status_message}
use Rattle.promises.specs.MixedCalls.{TableGiven, bytes, sections}
use Rattle.promises.specs.MixedExchange.{Lent, Answering, our_answering, both, speak_three, speak_six, starts_from_a}
use Rattle.promises.specs.MixedExchange.{first_status, SilentAfter, FallSilentBy}

-- in the place of what ours keeps and sends for some messages of Issue 3, by own number, what is lent and kept, header and kind: what another
-- keeps and sends, by what ours would
pub record Change : Type 0 where
  pub applies : ℕ → Lent → Standing → Header3 → Message3 → Bool
  pub kept : ℕ → Lent → Standing → Header3 → Standing → Standing
  pub sent : ℕ → Lent → Standing → Header3 → List (List ℕ) → List (List ℕ)

abbrev pub kept_by : Change → ℕ → Lent → Standing → AnyReading → Standing → Standing
kept_by x own c p (reading.Refused n) was = was
kept_by x own c p (reading.Six h k start len) was = was
kept_by x own c p (reading.Three h k start len) was = cond (x.applies own c p h k) (x.kept own c p h was) was

abbrev pub sent_by : Change → ℕ → Lent → Standing → AnyReading → List (List ℕ) → List (List ℕ)
sent_by x own c p (reading.Refused n) was = was
sent_by x own c p (reading.Six h k start len) was = was
sent_by x own c p (reading.Three h k start len) was = cond (x.applies own c p h k) (x.sent own c p h was) was

abbrev pub changed : Change → Answering
changed x =
    record {
      kept = λ own i c p m. kept_by x own c p (any_of i own m) (our_answering.kept own i c p m);
      sent = λ own i c p m. sent_by x own c p (any_of i own m) (our_answering.sent own i c p m);
    }

-- which message it is (message3/specs/Platform)
abbrev pub status_up : Message3 → Bool
status_up k = eqb (kind_in3 k) 1 && eqb (value_in3 0 k) 1

abbrev pub status_of_services : Message3 → Bool
status_of_services k = eqb (kind_in3 k) 6

abbrev pub pull_of_all : Message3 → Bool
pull_of_all k = eqb (kind_in3 k) 4 && eqb (value_in3 0 k) 0xFFFFFFFF

-- messages of n bytes in all, where the output has room for them; one of them by its ID, its number and its one field, which stands for all
abbrev pub if_room : Lent → ℕ → List (List ℕ) → List (List ℕ)
if_room c n ms = cond (ltb (length c.output) n) [] ms

abbrev pub of_all : ℕ → Lent → ℕ → ℕ → List ℕ
of_all own c id n = field_message own c.stamp id n 0xFFFFFFFF

-- "UP while already UP answered again": status, request for all services and pull of all, with the next three own numbers
abbrev pub up_answered_again : Change
up_answered_again =
    record {
      applies = λ own c p h k. status_up k && stands_up own p.states h.platform;
      kept = λ own c p h was. record { states = p.states; next = drawn (drawn (drawn p.next)) };
      sent = λ own c p h was.
          if_room c 88
          (status_message own c.stamp c.composite p.next ∷ of_all own c 4 (drawn p.next) ∷ of_all own c 7 (drawn (drawn p.next)) ∷ []);
    }

-- UP answered, and not noted
abbrev pub up_not_noted : Change
up_not_noted =
    record {
      applies = λ own c p h k. status_up k;
      kept = λ own c p h was. record { states = p.states; next = was.next };
      sent = λ own c p h was. was;
    }

-- a status of services answered with a request for all of them, which repeats its number
abbrev pub services_asked_back : Change
services_asked_back =
    record {
      applies = λ own c p h k. status_of_services k;
      kept = λ own c p h was. was;
      sent = λ own c p h was. if_room c 28 (of_all own c 4 h.sequence ∷ []);
    }

-- a pull of all answered with UNKNOWN_OPERATION of all where there is no versioned data, as Issue 6 has it
abbrev pub data_in : List ℕ → Result Sections Refusal → Bool
data_in t (Err n) = true
data_in t (Ok s) = some_data t s

abbrev pub provides_data : TableGiven → Bool
provides_data (bytes t) = data_in t (checkedIs t)
provides_data (sections t s index) = some_data t s

abbrev pub pull_of_all_answered : Change
pull_of_all_answered =
    record {
      applies = λ own c p h k. pull_of_all k && not (provides_data c.table);
      kept = λ own c p h was. was;
      sent = λ own c p h was. if_room c 28 (of_all own c 5 h.sequence ∷ []);
    }

-- a message read by its version alone, whatever its sender is set up as
abbrev pub everybody : List ℕ
everybody = 0xFFFFFFFFFFFFFFFF ∷ 0xFFFFFFFFFFFFFFFF ∷ 0xFFFFFFFFFFFFFFFF ∷ 0xFFFFFFFFFFFFFFFF ∷ []

abbrev pub by_version : List ℕ → List ℕ
by_version m = cond (eqb (number 0 m 2) 2) speak_six everybody

abbrev pub read_by_version : Answering
read_by_version =
    record {
      kept = λ own i c p m. our_answering.kept own (by_version m) c p m;
      sent = λ own i c p m. our_answering.sent own (by_version m) c p m;
    }

-- two that start, 1 and 2, which have each other for Issue 3: no number bounds the messages that the status of one starts
abbrev pub WithoutEnd : Answering → Type 0
WithoutEnd X =
    (most : ℕ) → SilentAfter X (both speak_three speak_three) (starts_from_a (both speak_three speak_three) (fresh_standing 1) (fresh_standing 2) true first_status) most
    → ⊥

pub record NoWrongExchange : Type 0 where
  pub ours_silent : FallSilentBy our_answering
  pub up-answered-again : WithoutEnd (changed up_answered_again)
  pub up-not-noted : WithoutEnd (changed up_not_noted)
  pub services-asked-back : WithoutEnd (changed services_asked_back)
  pub pull-of-all-answered : FallSilentBy (changed pull_of_all_answered) → ⊥
  -- of two at odds more than one message
  pub read-by-version : FallSilentBy read_by_version → ⊥
  -- and so none of them falls silent
  pub none_silent : (X : Answering) → WithoutEnd X → FallSilentBy X → ⊥
