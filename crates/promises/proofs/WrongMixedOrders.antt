-- Wrong orders of checks among partners of both issues: one message for each, computed, gets another number than `MixedOrder` allows.
-- Assumes nothing.
use Prim.Native.Nat.{ℕ, ◌^◌, ◌≤◌}
use mathlib.Core.Path.{◌≡◌, refl, sym, ◌∙◌}
use mathlib.Core.List.{List, []}
use native.Mathlib.Omega.{arith}
use borrow.Author.Tests.{le-leb}
use lib.ListN.{length, replicate, length-replicate}
use Rattle.wire.specs.All.{all_below}
use Rattle.table.specs.Layout.{section_at, after, ended, after_values, after_members, after_types, sections_of, lies_in, within}
use Rattle.operations.specs.Entries.{width_of, kind_at, op_width, op_place}
use Rattle.operations.specs.Search.{index_word, indexed, borne, halved, sought_in}
use Rattle.pending.specs.Places.{bearing}
use Rattle.partners.specs.Threes.{bit_in, is_three}
use Rattle.platform.specs.Reaction.{reaction_to}
use Rattle.platform.specs.Receiving.{answered, is_sent, is_answer, outcome_of}
use Rattle.mixed.specs.Form.{three_form}
use Rattle.mixed.specs.Reading.{any_of}
use Rattle.mixed.specs.Reaction.{operation_for3, reaction3, on_services_request}
use Rattle.mixed.specs.Replies.{room_for}
use Rattle.mixed.specs.Keeping.{kept_number}
use Rattle.mixed.specs.Receiving.{is_answer3, settled3, any_outcome_of}
use Rattle.mixed.specs.Tables.{sections_answer}
use Rattle.promises.specs.MixedCalls.{TableGiven}
use Rattle.promises.specs.WorkedMixed.{seven, all_down, empty}
use Rattle.promises.specs.WrongMixedOrders.{Numbering, our_number, InMixedOrder, twenty_four, room_first, any_domain, asking_table, all_asked, acknowledged}
use Rattle.promises.specs.WrongMixedOrders.{status_asked, number_at, NoWrongMixedOrder}
use Rattle.promises.proofs.Demand1.{demand_1}
use Rattle.promises.proofs.MixedOrder.{mixed_order}

-- the order leaves one number
one_number : (X : Numbering) (g : TableGiven) (s m : List ℕ) → InMixedOrder X → number_at X g s m ≡ number_at our_number g s m
one_number X g s m h =
    demand_1.one_answer (λ n. n) 0 _ (number_at X g s m) (number_at our_number g s m) (h g 1 seven s all_down [] [] m 0)
    (mixed_order.any_words g 1 seven s all_down [] [] m 0)

twenty_for_six : (number_at our_number empty [] status_asked ≡ 10) × (number_at twenty_four empty [] status_asked ≡ 1)
unfolding lies_in within any_of three_form is_three bit_in any_outcome_of sections_answer reaction_to answered is_answer outcome_of
twenty_for_six = (refl, refl)

no_twenty_four : ¬ (InMixedOrder twenty_four)
no_twenty_four h =
    let z : ◌≡◌ {A = ℕ} 1 10 = sym twenty_for_six.1 ∙ one_number twenty_four empty [] status_asked h ∙ twenty_for_six.0 in
    omega (arith, z)

-- 2^29 services are not computed: they are known by their length alone
module _ (s : List ℕ) (e : length s ≡ 2 ^ 29) where
  five_for_all : number_at our_number empty s all_asked ≡ 5
  unfolding lies_in within any_of three_form is_three bit_in operation_for3 reaction3 on_services_request room_for kept_number is_answer3 settled3 any_outcome_of
      sections_answer
  five_for_all = let l : 2 ^ 29 ≤ length s = omega (arith, e) in rw (le-leb (2 ^ 29) (length s) l)

  ten-for-all : number_at room_first empty s all_asked ≡ 10
  unfolding any_of three_form is_three bit_in
  ten-for-all = rw (five_for_all, e) refl

no_room_first : (n : ℕ) → n ≡ 2 ^ 29 → ¬ (InMixedOrder room_first)
no_room_first n e h =
    let s : List ℕ = replicate n 0 in
    let long : length s ≡ 2 ^ 29 = length-replicate n 0 ∙ e in
    let z : ◌≡◌ {A = ℕ} 10 5 = sym (ten-for-all s long) ∙ one_number room_first empty s all_asked h ∙ five_for_all s long in
    omega (arith, z)

none_for_domain_0 : (number_at our_number asking_table [] acknowledged ≡ 0) × (number_at any_domain asking_table [] acknowledged ≡ 61)
unfolding all_below section_at after ended after_values after_members after_types sections_of lies_in within width_of kind_at op_width op_place index_word indexed borne
    halved sought_in bearing any_of three_form is_three bit_in operation_for3 reaction3 room_for kept_number is_answer3 settled3 any_outcome_of sections_answer is_sent
none_for_domain_0 = (refl, refl)

no_any_domain : ¬ (InMixedOrder any_domain)
no_any_domain h =
    let z : ◌≡◌ {A = ℕ} 61 0 = sym none_for_domain_0.1 ∙ one_number any_domain asking_table [] acknowledged h ∙ none_for_domain_0.0 in
    omega (arith, z)

pub no_wrong_mixed_order : NoWrongMixedOrder
unfolding lies_in within any_of three_form is_three bit_in operation_for3 reaction3 on_services_request room_for kept_number is_answer3 settled3 any_outcome_of
    sections_answer sought_in halved is_sent
no_wrong_mixed_order =
    record {
      ours = mixed_order.any_words;
      twenty_for_six = twenty_for_six.0;
      twenty-four = no_twenty_four;
      four_as_ours = refl;
      five_for_all = five_for_all;
      room-first = no_room_first (2 ^ 29) refl;
      room_as_ours = refl;
      none_for_domain_0 = none_for_domain_0.0;
      any-domain = no_any_domain;
      domain_as_ours = refl;
    }
