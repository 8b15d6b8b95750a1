-- Platforms that write something else for a message of Issue 3: one message each, computed.
-- Assumes nothing.
use Prim.Native.Nat.{ℕ, ◌+◌, ◌*◌, ◌^◌, ◌≤◌, ◌<◌}
use mathlib.Core.Path.{◌≡◌, refl, ap}
use mathlib.Core.Bool.{true}
use mathlib.Core.List.{List, [], ◌∷◌}
use native.Mathlib.Omega.{arith}
use lib.ListN.{length, get_or}
use Rattle.wire.specs.All.{all_below}
use Rattle.message.specs.declared.Status.TheVariants.{Up}
use Rattle.message3.specs.declared.Header3.{Header3}
use Rattle.message3.specs.declared.Message3.{Message3}
use Rattle.message3.specs.declared.Message3.TheVariants.{PlatformStatus, PlatformStatusRequest, AvailabilityStatusRequest, VersionedDataPull}
use Rattle.message3.specs.declared.Message3.TheVariants.{CompositeChangeRequest}
use Rattle.message3.specs.Platform.{kind_in3, value_in3, composite_in}
use Rattle.states.specs.States.{word_of, with_word, bit_of, stands_up, turned, with_own}
use Rattle.partners.specs.Threes.{bit_in, is_three, with_three, three_set, listed}
use Rattle.platform.specs.declared.reactions.Standing.{Standing}
use Rattle.platform.specs.Replies.{reply_bytes}
use Rattle.platform.specs.Reaction.{noted}
use Rattle.platform.specs.Receiving.{fresh_standing}
use Rattle.mixed.specs.declared.AnyReading.{AnyReading}
use Rattle.mixed.specs.declared.AnyReading.TheVariants as reading
use Rattle.mixed.specs.declared.AnyAnswer.{AnyAnswer}
use Rattle.mixed.specs.declared.AnyAnswer.TheVariants as answer
use Rattle.mixed.specs.Form.{three_form}
use Rattle.mixed.specs.Reading.{any_of, issue_in}
use Rattle.mixed.specs.Replies.{field_message, status_message, services_message}
use Rattle.promises.specs.Owed3.{owed_for3, bytes_owed}
use Rattle.promises.specs.Replies3.{Receiving3, BlockTakes, NotesBy3, RepliesBy3}
use Rattle.promises.specs.WorkedReplies3.{at_one, up_of2, asks_for_all_of1, asks_for5, ours2122}
use Rattle.promises.specs.WrongReplies3.{pull_first, two_numbers, up_again, own_number, six_header, no_composite, ours_alone, first_counts}
use Rattle.promises.specs.WrongReplies3.{available_alone, acknowledging, all_unknown, refusing, NoWrongReply3}
use Rattle.promises.proofs.SmallTraffic.{octets, octets_are}
use Rattle.promises.proofs.Replies3.{replies3}
use Rattle.promises.proofs.WorkedReplies3.{bare_sections, bare_is_table}

-- a header of 2, at 5 s 6 ns; its request, number 9, its composite's change to 7, and its pull of all
abbrev of2 : ℕ → ℕ → ℕ → Header3
of2 id size n = record { domain = 0; platform = 2; id = id; seconds = 5; nanoseconds = 6; payload_size = size; sequence = n }

abbrev request_of2 : List ℕ
request_of2 = 0xEC ∷ 0x0A ∷ 0x10 ∷ 2 ∷ 0 ∷ 0 ∷ 0 ∷ 2 ∷ 0 ∷ 0 ∷ 0 ∷ 5 ∷ 0 ∷ 0 ∷ 0 ∷ 6 ∷ 0 ∷ 0 ∷ 0 ∷ 0 ∷ 0 ∷ 0 ∷ 0 ∷ 9 ∷ []

abbrev change_of2 : List ℕ
change_of2 =
    0xEC ∷ 0x0A ∷ 0x10 ∷ 2 ∷ 0 ∷ 0 ∷ 0 ∷ 8 ∷ 0 ∷ 0 ∷ 0 ∷ 5 ∷ 0 ∷ 0 ∷ 0 ∷ 6 ∷ 0 ∷ 0 ∷ 0 ∷ 4 ∷ 0 ∷ 0 ∷ 0 ∷ 9 ∷ 0 ∷ 0 ∷ 0 ∷ 7 ∷ []

abbrev pull_of2 : List ℕ
pull_of2 =
    0xEC ∷ 0x0A ∷ 0x10 ∷ 2 ∷ 0 ∷ 0 ∷ 0 ∷ 7 ∷ 0 ∷ 0 ∷ 0 ∷ 5 ∷ 0 ∷ 0 ∷ 0 ∷ 6 ∷ 0 ∷ 0 ∷ 0 ∷ 4 ∷ 0 ∷ 0 ∷ 0 ∷ 9
    ∷ 0xFF ∷ 0xFF ∷ 0xFF ∷ 0xFF ∷ []

-- service 5 twice: UNAVAILABLE, and then AVAILABLE
abbrev twice5 : List ℕ
twice5 = (1 * 2 ^ 32 + 5) ∷ (2 * 2 ^ 32 + 5) ∷ []

-- 2 is UP
abbrev with2 : Standing
with2 = noted (fresh_standing 1) 2 0

-- such a call at platform 1 notes what `RepliesBy3` says
module _ (X : Receiving3) (r : RepliesBy3 X) (ours : List ℕ) (p : Standing) (m : List ℕ) (h : Header3) (kind : Message3) (len : ℕ) where
  notes : p.next < 2 ^ 32 → length ours < 2 ^ 29 → octets m ≡ true → any_of (listed (2 ∷ [])) 1 m ≡ reading.Three h kind 24 len → ¬ (kind_in3 kind ≡ 5)
      → BlockTakes (at_one ours p m 88) h kind → bytes_owed (owed_for3 (at_one ours p m 88) bare_sections h kind) ≤ 88
      → NotesBy3 X (at_one ours p m 88) bare_sections h kind (bytes_owed (owed_for3 (at_one ours p m 88) bare_sections h kind))
  notes n few o e k b room =
      r.fit (at_one ours p m 88) bare_sections h kind
      (record {
        widths = record { platform = omega arith; next = n; seconds = omega arith; nanoseconds = omega arith; composite = omega arith };
        bytes = octets_are m o;
        table = bare_is_table;
        start = 24;
        len = len;
        read = e;
        no_response = λ q. absurd (k (ap kind_in3 q));
      })
      (λ q. few) b room

-- what is seen of a message that was read: its kind, its number, its composite's ID, of how many services it tells
abbrev kind_seen : AnyReading → ℕ
kind_seen (reading.Refused n) = 0
kind_seen (reading.Six h m start len) = 0
kind_seen (reading.Three h m start len) = kind_in3 m

abbrev number_seen : AnyReading → ℕ
number_seen (reading.Refused n) = 0
number_seen (reading.Six h m start len) = 0
number_seen (reading.Three h m start len) = h.sequence

abbrev composite_seen : AnyReading → ℕ
composite_seen (reading.Refused n) = 0
composite_seen (reading.Six h m start len) = 0
composite_seen (reading.Three h m start len) = composite_in m

abbrev count_seen : AnyReading → ℕ
count_seen (reading.Refused n) = 0
count_seen (reading.Six h m start len) = 0
count_seen (reading.Three h m start len) = value_in3 0 m

abbrev is_noted : AnyAnswer → ℕ
is_noted (answer.Refused n) = 0
is_noted (answer.Six h x n) = 0
is_noted (answer.SixResponse h i start len) = 0
is_noted (answer.Three h x n) = 1
is_noted (answer.ThreeResponse h i start len) = 0

no_refusing : RepliesBy3 refusing → ⊥
unfolding any_of three_form bit_in is_three with_three three_set listed word_of with_word bit_of stands_up with_own
no_refusing r =
    let x = notes refusing r [] (fresh_standing 1) up_of2 (of2 1 8 9) (PlatformStatus Up 0x11223344) 8 (omega arith) (omega arith) refl refl
    (λ e. omega (arith, e)) tt (omega arith) in
    let z : ◌≡◌ {A = ℕ} 0 1 = ap is_noted x.answer in
    omega arith

-- 2 comes UP: the second message is a pull
no_pull_first : RepliesBy3 pull_first → ⊥
unfolding any_of three_form bit_in is_three with_three three_set listed word_of with_word bit_of stands_up with_own status_message field_message
no_pull_first r =
    let x = notes pull_first r [] (fresh_standing 1) up_of2 (of2 1 8 9) (PlatformStatus Up 0x11223344) 8 (omega arith) (omega arith) refl refl
    (λ e. omega (arith, e)) tt (omega arith) in
    let z : ◌≡◌ {A = ℕ} 4 7 = ap kind_seen (x.written.1.0.reads (listed (1 ∷ [])) refl) in
    omega arith

-- 2 comes UP: the next own number is 2
no_two_numbers : RepliesBy3 two_numbers → ⊥
unfolding any_of three_form bit_in is_three with_three three_set listed word_of with_word bit_of stands_up with_own
no_two_numbers r =
    let x = notes two_numbers r [] (fresh_standing 1) up_of2 (of2 1 8 9) (PlatformStatus Up 0x11223344) 8 (omega arith) (omega arith) refl refl
    (λ e. omega (arith, e)) tt (omega arith) in
    let z : ◌≡◌ {A = ℕ} 2 3 = x.next in
    omega arith

-- 2 is UP, and says so: the next own number is 3
no_up_again : RepliesBy3 up_again → ⊥
unfolding any_of three_form bit_in is_three with_three three_set listed word_of with_word bit_of stands_up turned with_own
no_up_again r =
    let x = notes up_again r [] with2 up_of2 (of2 1 8 9) (PlatformStatus Up 0x11223344) 8 (omega arith) (omega arith) refl refl
    (λ e. omega (arith, e)) tt (omega arith) in
    let z : ◌≡◌ {A = ℕ} 3 0 = x.next in
    omega arith

-- a request, number 9: the status has number 0; is refused; has no composite
no_own_number : RepliesBy3 own_number → ⊥
unfolding any_of three_form bit_in is_three with_three three_set listed word_of with_word bit_of stands_up with_own status_message
no_own_number r =
    let x = notes own_number r [] (fresh_standing 1) request_of2 (of2 2 0 9) PlatformStatusRequest 0 (omega arith) (omega arith) refl refl
    (λ e. omega (arith, e)) tt (omega arith) in
    let z : ◌≡◌ {A = ℕ} 0 9 = ap number_seen (x.written.0.reads (listed (1 ∷ [])) refl) in
    omega arith

no_six_header : RepliesBy3 six_header → ⊥
unfolding any_of three_form bit_in is_three with_three three_set listed word_of with_word bit_of stands_up with_own reply_bytes
no_six_header r =
    let x = notes six_header r [] (fresh_standing 1) request_of2 (of2 2 0 9) PlatformStatusRequest 0 (omega arith) (omega arith) refl refl
    (λ e. omega (arith, e)) tt (omega arith) in
    let z : ◌≡◌ {A = ℕ} 0 3 = ap issue_in (x.written.0.reads (listed (1 ∷ [])) refl) in
    omega arith

no-composite : RepliesBy3 no_composite → ⊥
unfolding any_of three_form bit_in is_three with_three three_set listed word_of with_word bit_of stands_up with_own status_message
no-composite r =
    let x = notes no_composite r [] (fresh_standing 1) request_of2 (of2 2 0 9) PlatformStatusRequest 0 (omega arith) (omega arith) refl refl
    (λ e. omega (arith, e)) tt (omega arith) in
    let z : ◌≡◌ {A = ℕ} 0 99 = ap composite_seen (x.written.0.reads (listed (1 ∷ [])) refl) in
    omega arith

-- asked for 5, which is none of ours: nothing is written; and which is ours twice: the first word's state
no_ours_alone : RepliesBy3 ours_alone → ⊥
unfolding any_of three_form bit_in is_three with_three three_set listed word_of with_word bit_of stands_up with_own
no_ours_alone r =
    let x = notes ours_alone r ours2122 (fresh_standing 1) asks_for5 (of2 4 4 70) (AvailabilityStatusRequest 5) 4 (omega arith) (omega arith) refl refl
    (λ e. omega (arith, e)) tt (omega arith) in
    let z : ◌≡◌ {A = ℕ} 0 3 = ap issue_in (x.written.0.reads (listed (1 ∷ [])) refl) in
    omega arith

no_first_counts : RepliesBy3 first_counts → ⊥
unfolding any_of three_form bit_in is_three with_three three_set listed word_of with_word bit_of stands_up with_own services_message
no_first_counts r =
    let x = notes first_counts r twice5 (fresh_standing 1) asks_for5 (of2 4 4 70) (AvailabilityStatusRequest 5) 4 (omega arith) (omega arith) refl refl
    (λ e. omega (arith, e)) tt (omega arith) in
    let z : ◌≡◌ {A = ℕ} 0 1 = (x.written.0.told 0 (omega arith)).1 in
    omega arith

-- asked for all: one of two is told, in 36 bytes, and 44 are no message
no_available_alone : RepliesBy3 available_alone → ⊥
unfolding all_below any_of three_form bit_in is_three with_three three_set listed word_of with_word bit_of stands_up with_own services_message
no_available_alone r =
    let x = notes available_alone r ours2122 (fresh_standing 1) asks_for_all_of1 (of2 4 4 1) (AvailabilityStatusRequest 0xFFFFFFFF) 4 (omega arith)
    (omega arith) refl refl (λ e. omega (arith, e)) tt (omega arith) in
    let z : ◌≡◌ {A = ℕ} 0 2 = ap count_seen (x.written.0.reads (listed (1 ∷ [])) refl) in
    omega arith

-- a composite change, and a pull of all: the output's first byte is no longer 0
abbrev first_byte : List ℕ → ℕ
first_byte s = get_or s 0 0

no_acknowledging : RepliesBy3 acknowledging → ⊥
unfolding any_of three_form bit_in is_three with_three three_set listed word_of with_word bit_of stands_up with_own field_message
no_acknowledging r =
    let x = notes acknowledging r [] (fresh_standing 1) change_of2 (of2 8 4 9) (CompositeChangeRequest 7) 4 (omega arith) (omega arith) refl refl
    (λ e. omega (arith, e)) tt (omega arith) in
    let z : ◌≡◌ {A = ℕ} 0xEC 0 = ap first_byte x.rest in
    omega arith

no_all_unknown : RepliesBy3 all_unknown → ⊥
unfolding any_of three_form bit_in is_three with_three three_set listed word_of with_word bit_of stands_up with_own field_message
no_all_unknown r =
    let x = notes all_unknown r [] (fresh_standing 1) pull_of2 (of2 7 4 9) (VersionedDataPull 0xFFFFFFFF) 4 (omega arith) (omega arith) refl refl
    (λ e. omega (arith, e)) tt (omega arith) in
    let z : ◌≡◌ {A = ℕ} 0xEC 0 = ap first_byte x.rest in
    omega arith

pub no_wrong_reply3 : NoWrongReply3
no_wrong_reply3 =
    record {
      ours = replies3;
      all-refused = no_refusing;
      pull-first = no_pull_first;
      two-numbers = no_two_numbers;
      up-again = no_up_again;
      own-number = no_own_number;
      six-header = no_six_header;
      no-composite = no-composite;
      ours-alone = no_ours_alone;
      first-counts = no_first_counts;
      available-alone = no_available_alone;
      acknowledges = no_acknowledging;
      all-unknown = no_all_unknown;
    }
