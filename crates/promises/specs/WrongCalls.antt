-- Wrong turns of the linked calls alone: what they answer and leave in words is wrong in one place, and demand 3 is not met. The
-- theorem is in proofs/WrongCalls.antt.
use Rattle.std.specs.Prelude.{ℕ, ◌-◌, ◌≡◌, Bool, cond, List, [], ◌∷◌, eqb, length, get_or}
use Rattle.binding.specs.Header.{sender_in}
use Rattle.joiner.specs.Calls.{setup_number, setup_words, take_number, take_words, take_rooms, take_answer}
use Rattle.promises.specs.Traffic.{Datagram, Joining}
use Rattle.promises.specs.Demand3.{Demand3For}
use Rattle.promises.specs.Linked.{Contracts, nyr, DeliversFor, outcome_from, linked}

-- a set-up and a take in words, ours or any other
pub record InWords : Type 0 where
  pub setup : List ℕ → ℕ → ℕ → List ℕ → List ℕ
  pub number : List ℕ → List ℕ → Datagram → ℕ
  pub state : List ℕ → List ℕ → Datagram → List ℕ
  pub rooms : List ℕ → List ℕ → Datagram → List ℕ
  pub answer : List ℕ → List ℕ → Datagram → List ℕ → List ℕ

abbrev pub linked_by : InWords → List ℕ → List ℕ → Joining
linked_by C was out =
    record {
      State = List ℕ;
      start = λ ids R rooms. C.setup ids R (length rooms) was;
      take = λ ws rooms d.
          record { outcome = outcome_from (C.number ws rooms d) (C.answer ws rooms d out); state = C.state ws rooms d; rooms = C.rooms ws rooms d };
    }

abbrev pub Meets : InWords → Type 0
Meets C = (was out : List ℕ) → Demand3For (linked_by C was out)

abbrev pub our_calls : InWords
our_calls = record { setup = setup_words; number = take_number; state = take_words; rooms = take_rooms; answer = take_answer }

-- with another answer: its words are outcome, missed, bytes, slice, start
abbrev pub answering : (List ℕ → List ℕ) → InWords
answering f =
    record { setup = setup_words; number = take_number; state = take_words; rooms = take_rooms; answer = λ ws rooms d out. f (take_answer ws rooms d out) }

-- datagram and rooms the other way round
abbrev pub other_slice : List ℕ → List ℕ
other_slice w = get_or w 0 0 ∷ get_or w 1 0 ∷ get_or w 2 0 ∷ (3 - get_or w 3 0) ∷ get_or w 4 0 ∷ []

-- start and bytes the other way round
abbrev pub start_for_bytes : List ℕ → List ℕ
start_for_bytes w = get_or w 0 0 ∷ get_or w 1 0 ∷ get_or w 4 0 ∷ get_or w 3 0 ∷ get_or w 2 0 ∷ []

-- every message from the first byte of its slice on: a whole one with its binding header
abbrev pub from_the_start : List ℕ → List ℕ
from_the_start w = get_or w 0 0 ∷ get_or w 1 0 ∷ get_or w 2 0 ∷ get_or w 3 0 ∷ 0 ∷ []

-- held for delivered
abbrev pub never_two : List ℕ → List ℕ
never_two w = 3 ∷ get_or w 1 0 ∷ get_or w 2 0 ∷ get_or w 3 0 ∷ get_or w 4 0 ∷ []

-- the record is not written back; the piece is not put into its room; nothing is set up
abbrev pub state_left : InWords
state_left = record { setup = setup_words; number = take_number; state = λ ws rooms d. ws; rooms = take_rooms; answer = take_answer }

abbrev pub rooms_left : InWords
rooms_left = record { setup = setup_words; number = take_number; state = take_words; rooms = λ ws rooms d. rooms; answer = take_answer }

abbrev pub not_set_up : InWords
not_set_up = record { setup = λ ids R b was. was; number = take_number; state = take_words; rooms = take_rooms; answer = take_answer }

-- contracts that refuse every set-up (20) or every datagram (23), or that say nothing of what `take` does
abbrev pub refuses_setups : Contracts
refuses_setups = record { SetsUp = λ x n l. (n ≡ 20) × (l ≡ x.state); Takes = nyr.Takes }

abbrev pub refuses_datagrams : Contracts
refuses_datagrams =
    record {
      SetsUp = nyr.SetsUp;
      Takes = λ x n l. (n ≡ 23) × (l ≡ record { state = x.state; rooms = x.rooms; answer = x.answer });
    }

abbrev pub saying_nothing : Contracts
saying_nothing = record { SetsUp = nyr.SetsUp; Takes = λ x n l. n ≡ n }

-- contracts that say just what these calls do, and calls that refuse all but the first channel's datagrams (23)
abbrev pub contracts_of : InWords → Contracts
contracts_of C =
    record {
      SetsUp = λ x n l. (n ≡ setup_number x.ids x.room x.rooms) × (l ≡ C.setup x.ids x.room x.rooms x.state);
      Takes = λ x n l. (n ≡ C.number x.state x.rooms x.datagram)
          × (l ≡ record {
            state = C.state x.state x.rooms x.datagram;
            rooms = C.rooms x.state x.rooms x.datagram;
            answer = C.answer x.state x.rooms x.datagram x.answer;
          });
    }

abbrev pub is_first : List ℕ → Datagram → Bool
is_first ws d = eqb (get_or ws 2 0) (sender_in d)

abbrev pub first_only : InWords
first_only =
    record {
      setup = setup_words;
      number = λ ws rooms d. cond (is_first ws d) (take_number ws rooms d) 23;
      state = λ ws rooms d. cond (is_first ws d) (take_words ws rooms d) ws;
      rooms = λ ws rooms d. cond (is_first ws d) (take_rooms ws rooms d) rooms;
      answer = λ ws rooms d out. cond (is_first ws d) (take_answer ws rooms d out) out;
    }

pub record NoWrongCall : Type 1 where
  pub with_ours : (was out : List ℕ) → linked_by our_calls was out ≡ linked was out
  pub ours_meet : Meets our_calls
  pub other-slice : Meets (answering other_slice) → ⊥
  pub start-for-bytes : Meets (answering start_for_bytes) → ⊥
  pub from-the-start : Meets (answering from_the_start) → ⊥
  pub never-two : Meets (answering never_two) → ⊥
  pub state-left : Meets state_left → ⊥
  pub rooms-left : Meets rooms_left → ⊥
  pub not-set-up : Meets not_set_up → ⊥
  pub refuses-setups : DeliversFor refuses_setups → ⊥
  pub refuses-datagrams : DeliversFor refuses_datagrams → ⊥
  pub says_nothing : DeliversFor saying_nothing → ⊥
  pub first-only : DeliversFor (contracts_of first_only) → ⊥
