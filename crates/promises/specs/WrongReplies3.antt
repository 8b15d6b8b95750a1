-- 02, request 8: platforms that do what ours does but for what they write for one kind of message of Issue 3, or for the own number after it.
-- None of them meets `RepliesBy3`. The theorems are in proofs/WrongReplies3.antt.
use Rattle.std.specs.Prelude.{ℕ, Bool, true, false, cond, not, ◌&&◌, List, [], ◌∷◌, ◌++◌, eqb, length, take}
use Rattle.wire.specs.Bytes.{written}
use Rattle.message3.specs.declared.Header3.{Header3}
use Rattle.message3.specs.declared.Message3.{Message3}
use Rattle.message3.specs.Platform.{kind_in3, value_in3}
use Rattle.platform.specs.declared.reactions.Reply.TheVariants.{StatusUp}
use Rattle.platform.specs.Replies.{reply_bytes}
use Rattle.mixed.specs.declared.AnyReading.{AnyReading}
use Rattle.mixed.specs.declared.AnyReading.TheVariants as reading
use Rattle.mixed.specs.declared.AnyAnswer.{AnyAnswer}
use Rattle.mixed.specs.declared.AnyAnswer.TheVariants.{Refused, Six, SixResponse, Three, ThreeResponse}
use Rattle.mixed.specs.declared.AnyReceived.{AnyReceived}
use Rattle.mixed.specs.Reading.{any_of}
use Rattle.mixed.specs.Replies.{field_message, status_message, start_up_bytes, services_message}
use Rattle.promises.specs.Platforms.{number_after}
use Rattle.promises.specs.Owed3.{MixedCall, id_of, state_of, up_before}
use Rattle.promises.specs.Replies3.{Receiving3, our_outcome, our_output, our_list, our_words, Replies3, RepliesBy3}

-- what ours writes, and the own number after it
abbrev pub bytes_in3 : AnyAnswer → ℕ
bytes_in3 (Refused n) = 0
bytes_in3 (Six h x n) = n
bytes_in3 (SixResponse h i start len) = 0
bytes_in3 (Three h x n) = n
bytes_in3 (ThreeResponse h i start len) = 0

abbrev pub our_bytes : MixedCall → List ℕ
our_bytes c = take (bytes_in3 (our_outcome c).answer) (our_output c)

abbrev pub our_next : MixedCall → ℕ
our_next c = (our_outcome c).standing.next

-- another way to write for a message of Issue 3, and to count own numbers
abbrev pub Writing3 : Type 0
Writing3 = MixedCall → Header3 → Message3 → List ℕ

abbrev pub Counting3 : Type 0
Counting3 = MixedCall → Header3 → Message3 → ℕ

-- an answer with another count of bytes
abbrev pub of_bytes : ℕ → AnyAnswer → AnyAnswer
of_bytes k (Refused n) = Refused n
of_bytes k (Six h x n) = Six h x n
of_bytes k (SixResponse h i start len) = SixResponse h i start len
of_bytes k (Three h x n) = Three h x k
of_bytes k (ThreeResponse h i start len) = ThreeResponse h i start len

abbrev pub outcome_by : Writing3 → Counting3 → MixedCall → AnyReading → AnyReceived
outcome_by w n c (reading.Refused k) = our_outcome c
outcome_by w n c (reading.Six h kind start len) = our_outcome c
outcome_by w n c (reading.Three h kind start len) =
    record {
      standing = record { states = (our_outcome c).standing.states; next = n c h kind };
      answer = of_bytes (length (w c h kind)) (our_outcome c).answer;
    }

abbrev pub left_over_by : Writing3 → MixedCall → AnyReading → List ℕ
left_over_by w c (reading.Refused k) = our_output c
left_over_by w c (reading.Six h kind start len) = our_output c
left_over_by w c (reading.Three h kind start len) = written c.output 0 (w c h kind)

abbrev pub writing : Writing3 → Counting3 → Receiving3
writing w n =
    record {
      outcome = λ c. outcome_by w n c (any_of c.partners c.own c.message);
      left = λ c. left_over_by w c (any_of c.partners c.own c.message);
      list = our_list;
      words = our_words;
    }

abbrev pub as_ours : Counting3
as_ours c h kind = our_next c

-- by the kind of the message: 1 a status, 2 a request for it, 4 a pull, 7 an availability request, 9 a composite change
abbrev pub on_kind : ℕ → Writing3 → Writing3
on_kind k w c h kind = cond (eqb (kind_in3 kind) k) (w c h kind) (our_bytes c)

abbrev pub count_on_kind : ℕ → Counting3 → Counting3
count_on_kind k n c h kind = cond (eqb (kind_in3 kind) k) (n c h kind) (our_next c)

-- UP, of a platform that was UP or not
abbrev pub is_up_of : Bool → MixedCall → Header3 → Message3 → Bool
is_up_of was c h kind = eqb (kind_in3 kind) 1 && eqb (value_in3 1 kind) 1 && cond was (up_before c h) (not (up_before c h))

abbrev pub on_up : Bool → Writing3 → Writing3
on_up was w c h kind = cond (is_up_of was c h kind) (w c h kind) (our_bytes c)

abbrev pub count_on_up : Bool → Counting3 → Counting3
count_on_up was n c h kind = cond (is_up_of was c h kind) (n c h kind) (our_next c)

-- the three messages of start-up, from these numbers on
abbrev pub status : MixedCall → ℕ → List ℕ
status c n = status_message c.own c.stamp c.composite n

abbrev pub request : MixedCall → ℕ → List ℕ
request c n = field_message c.own c.stamp 4 n 0xFFFFFFFF

abbrev pub pull : MixedCall → ℕ → List ℕ
pull c n = field_message c.own c.stamp 7 n 0xFFFFFFFF

-- the pull before the availability request
abbrev pub pull_first : Receiving3
pull_first =
    writing (on_up false (λ c h kind. status c c.standing.next ++ (pull c (number_after c.standing.next)
    ++ request c (number_after (number_after c.standing.next))))) as_ours

-- two own numbers, of which the second stands in both
abbrev pub two_numbers : Receiving3
two_numbers =
    writing (on_up false (λ c h kind. status c c.standing.next ++ (request c (number_after c.standing.next)
    ++ pull c (number_after c.standing.next))))
    (count_on_up false (λ c h kind. number_after (number_after c.standing.next)))

-- UP to UP answered
abbrev pub up_again : Receiving3
up_again =
    writing (on_up true (λ c h kind. start_up_bytes c.own c.stamp c.composite c.standing.next))
    (count_on_up true (λ c h kind. number_after (number_after (number_after c.standing.next))))

-- a request answered with an own number; with Issue 6's header; without the composite's ID
abbrev pub own_number : Receiving3
own_number = writing (on_kind 2 (λ c h kind. status c c.standing.next)) (count_on_kind 2 (λ c h kind. number_after c.standing.next))

abbrev pub six_header : Receiving3
six_header = writing (on_kind 2 (λ c h kind. reply_bytes c.own (StatusUp h.sequence))) as_ours

abbrev pub no_composite : Receiving3
no_composite = writing (on_kind 2 (λ c h kind. status_message c.own c.stamp 0 h.sequence)) as_ours

-- a service that is not ours unanswered; of two words with one ID the first counts; of all our services the AVAILABLE ones alone
abbrev pub is_ours : List ℕ → ℕ → Bool
is_ours [] id = false
is_ours (w ∷ ws) id = cond (eqb (id_of w) id) true (is_ours ws id)

abbrev pub first_of : List ℕ → ℕ → ℕ
first_of [] id = 0
first_of (w ∷ ws) id = cond (eqb (id_of w) id) (state_of w) (first_of ws id)

abbrev pub available_ones : List ℕ → List (ℕ × ℕ)
available_ones [] = []
available_ones (w ∷ ws) = cond (eqb (state_of w) 1) ((id_of w, 1) ∷ available_ones ws) (available_ones ws)

abbrev pub ours_alone : Receiving3
ours_alone =
    writing (on_kind 7 (λ c h kind. cond (eqb (value_in3 4 kind) 0xFFFFFFFF) (our_bytes c)
    (cond (is_ours c.ours (value_in3 4 kind)) (our_bytes c) []))) as_ours

abbrev pub first_counts : Receiving3
first_counts =
    writing (on_kind 7 (λ c h kind. cond (eqb (value_in3 4 kind) 0xFFFFFFFF) (our_bytes c)
    (services_message c.own c.stamp h.sequence ((value_in3 4 kind, first_of c.ours (value_in3 4 kind)) ∷ [])))) as_ours

abbrev pub available_alone : Receiving3
available_alone =
    writing (on_kind 7 (λ c h kind. cond (eqb (value_in3 4 kind) 0xFFFFFFFF)
    (services_message c.own c.stamp h.sequence (available_ones c.ours)) (our_bytes c))) as_ours

-- a composite change acknowledged; a pull of all answered with UNKNOWN_OPERATION, as Issue 6 has it where there is no versioned data
abbrev pub acknowledging : Receiving3
acknowledging = writing (on_kind 9 (λ c h kind. field_message c.own c.stamp 9 h.sequence 1)) as_ours

abbrev pub all_unknown : Receiving3
all_unknown =
    writing (on_kind 4 (λ c h kind. cond (eqb (value_in3 7 kind) 0xFFFFFFFF) (field_message c.own c.stamp 5 h.sequence 0xFFFFFFFF) (our_bytes c)))
    as_ours

-- every message refused
abbrev pub refusing : Receiving3
refusing =
    record {
      outcome = λ c. record { standing = c.standing; answer = Refused 10 };
      left = λ c. c.output;
      list = λ c. c.pending;
      words = λ c. c.services;
    }

pub record NoWrongReply3 : Type 0 where
  pub ours : Replies3
  pub all-refused : RepliesBy3 refusing → ⊥
  pub pull-first : RepliesBy3 pull_first → ⊥
  pub two-numbers : RepliesBy3 two_numbers → ⊥
  pub up-again : RepliesBy3 up_again → ⊥
  pub own-number : RepliesBy3 own_number → ⊥
  pub six-header : RepliesBy3 six_header → ⊥
  pub no-composite : RepliesBy3 no_composite → ⊥
  pub ours-alone : RepliesBy3 ours_alone → ⊥
  pub first-counts : RepliesBy3 first_counts → ⊥
  pub available-alone : RepliesBy3 available_alone → ⊥
  pub acknowledges : RepliesBy3 acknowledging → ⊥
  pub all-unknown : RepliesBy3 all_unknown → ⊥
