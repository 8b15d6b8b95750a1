-- Platforms among partners of both issues that do not fall silent: three that go round for ever, and one whose exchange of eleven messages is
-- computed.
-- Assumes nothing.
use Prim.Native.Nat.{ℕ, zero, suc, ◌≤◌}
use mathlib.Core.Path.{◌≡◌, refl}
use mathlib.Core.Bool.{true}
use mathlib.Core.List.{List, [], ◌∷◌}
use native.Mathlib.Omega.{arith}
use Rattle.wire.specs.All.{all_below}
use Rattle.table.specs.Layout.{lies_in, within}
use Rattle.operations.specs.Rules.{has_data}
use Rattle.pending.specs.Free.{drawn}
use Rattle.services.specs.Block.{all_have_places, status_fits, note_refusal}
use Rattle.partners.specs.Threes.{bit_in, is_three}
use Rattle.states.specs.States.{word_of, with_word, bit_of, stands_up, turned, with_own, count_below}
use Rattle.platform.specs.declared.reactions.Standing.{Standing}
use Rattle.platform.specs.Reaction.{noted}
use Rattle.platform.specs.Receiving.{fresh_standing}
use Rattle.mixed.specs.Form.{three_form}
use Rattle.mixed.specs.Reading.{any_of}
use Rattle.mixed.specs.Reaction.{commonly, on_pull3, coming_up3, on_status3, on_services_request, reaction3}
use Rattle.mixed.specs.Replies.{field_message, status_message, start_up_bytes, pairs_of, services_message, deed_bytes, room_for}
use Rattle.mixed.specs.Keeping.{note_number, kept_number}
use Rattle.mixed.specs.Receiving.{is_answer3, settled3, laid3, any_outcome_of, any_output_of}
use Rattle.mixed.specs.Tables.{sections_answer, sections_out}
use Rattle.promises.specs.MixedExchange.{Answering, Two, Pair, both, speak_three, speak_six}
use Rattle.promises.specs.MixedExchange.{first_status, status_in, starts_from_a, Apart, SilentAfter, FallSilentBy, Reached}
use Rattle.promises.specs.WrongMixedExchange.{changed, up_answered_again, up_not_noted, services_asked_back, pull_of_all_answered, read_by_version}
use Rattle.promises.specs.WrongMixedExchange.{NoWrongExchange}
use Rattle.promises.proofs.MixedRuns.{Move, a_hears, b_hears, a_misses, b_misses, run, Longer, nothing_yet, behind, round, no_bound}
use Rattle.promises.proofs.MixedExchange.{bare, silent}

abbrev two : Two
two = both speak_three speak_three

abbrev start : Pair
start = starts_from_a two (fresh_standing 1) (fresh_standing 2) true first_status

-- 1 and 2 with their next own numbers m and n, and 1's status of number k under way
abbrev on_the_way : Standing → Standing → ℕ → Pair
on_the_way p q k =
    record { a = p; b = q; to_a = []; to_b = status_in true 1 (record { stamp = first_status.stamp; composite = 0; number = k }) ∷ [] }

abbrev third : ℕ → ℕ
third n = drawn (drawn (drawn n))

-- the status is answered with a status, and the rest is lost; and so is that one
abbrev bounce : List Move
bounce = b_hears ∷ a_misses ∷ a_misses ∷ a_hears ∷ b_misses ∷ b_misses ∷ []

abbrev both_up : ℕ → ℕ → ℕ → Pair
both_up m n k = on_the_way (noted (fresh_standing 1) 2 m) (noted (fresh_standing 2) 1 n) k

abbrev both_down : ℕ → ℕ → ℕ → Pair
both_down m n k =
    on_the_way (record { states = (fresh_standing 1).states; next = m }) (record { states = (fresh_standing 2).states; next = n }) k

up_rounds : (r m n k : ℕ) → Longer (changed up_answered_again) two (both_up m n k) r
unfolding all_below word_of with_word bit_of stands_up turned with_own bit_in is_three three_form any_of status_message field_message
up_rounds zero m n k = nothing_yet (both_up m n k)
up_rounds (suc r) m n k = round (run (changed up_answered_again) two bare bounce (both_up m n k) refl) (up_rounds r (third m) (third n) m)

up_started : (r : ℕ) → Longer (changed up_answered_again) two start r
unfolding all_below word_of with_word bit_of stands_up turned with_own lies_in within bit_in is_three three_form any_of status_message field_message start_up_bytes
    deed_bytes room_for kept_number coming_up3 on_status3 reaction3 is_answer3 settled3 laid3 any_outcome_of any_output_of sections_answer sections_out
up_started r = behind (run (changed up_answered_again) two bare bounce start refl) (up_rounds r 3 3 0)

down_rounds : (r m n k : ℕ) → Longer (changed up_not_noted) two (both_down m n k) r
unfolding all_below word_of with_word bit_of stands_up turned with_own lies_in within bit_in is_three three_form any_of status_message field_message start_up_bytes
    deed_bytes room_for kept_number coming_up3 on_status3 reaction3 is_answer3 settled3 laid3 any_outcome_of any_output_of sections_answer sections_out
down_rounds zero m n k = nothing_yet (both_down m n k)
down_rounds (suc r) m n k = round (run (changed up_not_noted) two bare bounce (both_down m n k) refl) (down_rounds r (third m) (third n) m)

-- a status of 1's services under way, which is asked for again
abbrev asked : Pair
asked =
    record {
      a = noted (fresh_standing 1) 2 3;
      b = noted (fresh_standing 2) 1 3;
      to_a = [];
      to_b = services_message 1 first_status.stamp 1 [] ∷ [];
    }

services_rounds : (r : ℕ) → Longer (changed services_asked_back) two asked r
unfolding all_below word_of with_word bit_of stands_up turned with_own count_below lies_in within bit_in is_three three_form any_of field_message services_message
    pairs_of deed_bytes room_for all_have_places status_fits note_refusal note_number kept_number on_services_request reaction3 is_answer3 settled3 laid3
    any_outcome_of any_output_of sections_answer sections_out
services_rounds zero = nothing_yet asked
services_rounds (suc r) = round (run (changed services_asked_back) two bare (b_hears ∷ a_hears ∷ []) asked refl) (services_rounds r)

services_started : (r : ℕ) → Longer (changed services_asked_back) two start r
unfolding all_below word_of with_word bit_of stands_up turned with_own count_below lies_in within bit_in is_three three_form any_of status_message field_message
    services_message start_up_bytes pairs_of deed_bytes room_for all_have_places status_fits note_refusal note_number kept_number commonly on_pull3 coming_up3
    on_status3 on_services_request reaction3 is_answer3 settled3 laid3 any_outcome_of any_output_of sections_answer sections_out
services_started r =
    behind
    (run (changed services_asked_back) two bare (b_hears ∷ a_hears ∷ a_hears ∷ a_hears ∷ b_misses ∷ b_misses ∷ b_hears ∷ []) start refl)
    (services_rounds r)

eleven : Reached (changed pull_of_all_answered) speak_three speak_three true 11
unfolding all_below word_of with_word bit_of stands_up turned with_own count_below lies_in within has_data bit_in is_three three_form any_of status_message field_message
    services_message start_up_bytes pairs_of deed_bytes room_for all_have_places status_fits note_refusal note_number kept_number commonly on_pull3 coming_up3
    on_status3 on_services_request reaction3 is_answer3 settled3 laid3 any_outcome_of any_output_of sections_answer sections_out
eleven = (
  _,
  run (changed pull_of_all_answered) two bare
      (b_hears ∷ a_hears ∷ a_hears ∷ a_hears ∷ b_hears ∷ b_hears ∷ b_hears ∷ b_hears ∷ b_hears ∷ a_hears ∷ a_hears ∷ []) start refl,
)

apart : (i j : List ℕ) → Apart (both i j)
apart i j = record { one = omega arith; other = omega arith; two = λ (e : ◌≡◌ {A = ℕ} 1 2). absurd (omega (arith, e)) }

at_most_nine : (X : Answering) → FallSilentBy X → SilentAfter X two start 9
at_most_nine X f = (f.always two (apart speak_three speak_three) true true (fresh_standing 1) (fresh_standing 2) first_status).0

pull-of-all-answered : FallSilentBy (changed pull_of_all_answered) → ⊥
pull-of-all-answered f =
    let h : 11 ≤ 9 = (at_most_nine (changed pull_of_all_answered) f).at_most 11 eleven.0 eleven.1 in
    absurd (omega (arith, h))

-- 1 has 2 for Issue 3, and 2 has 1 for Issue 6
abbrev odd : Two
odd = both speak_three speak_six

two_at_odds : Reached read_by_version speak_three speak_six true 2
unfolding all_below word_of with_word bit_of stands_up turned with_own lies_in within bit_in is_three three_form any_of status_message field_message start_up_bytes
    deed_bytes room_for kept_number coming_up3 on_status3 reaction3 is_answer3 settled3 laid3 any_outcome_of any_output_of sections_answer sections_out
two_at_odds = (
  _,
  run read_by_version odd bare (b_hears ∷ a_hears ∷ []) (starts_from_a odd (fresh_standing 1) (fresh_standing 2) true first_status) refl,
)

read-by-version : FallSilentBy read_by_version → ⊥
unfolding is_three bit_in
read-by-version f =
    let h : 2 ≤ 1 =
    (f.at_odds odd (apart speak_three speak_six) refl
    (fresh_standing 1) (fresh_standing 2) first_status).0.at_most 2 two_at_odds.0 two_at_odds.1 in
    absurd (omega (arith, h))

pub no_wrong_exchange : NoWrongExchange
no_wrong_exchange =
    record {
      ours_silent = silent;
      up-answered-again = no_bound _ up_started;
      up-not-noted = no_bound _ (λ (r : ℕ). down_rounds r 0 0 0);
      services-asked-back = no_bound _ services_started;
      pull-of-all-answered = pull-of-all-answered;
      read-by-version = read-by-version;
      none_silent = λ X e f. e 9 (at_most_nine X f);
    }
