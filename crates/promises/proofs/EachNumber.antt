-- Each number of 01 is given, and each line of a list of checks is needed.
-- Assumes nothing.
use Prim.Native.Nat.{◌+◌, ◌*◌, ◌^◌, ◌≤◌}
use mathlib.Core.Path.{◌≡◌, refl}
use mathlib.Core.List.{[], ◌∷◌}
use native.Mathlib.Omega.{arith}
use borrow.Author.Tests.{le-leb}
use lib.ListN.{length}
use Rattle.channel.specs.Channel.{missed_of, keeping, noted_of, begun_of, followed_of, placed_of, stepped_of}
use Rattle.joiner.specs.Setup.{good_sizes, good, fresh_of, setup_of}
use Rattle.joiner.specs.Take.{sent_to, heading_by, judged_of, taken_by, taken_of, put_by, rooms_by, rooms_after, message_of}
use Rattle.wire.specs.All.{all_below, above}
use Rattle.table.specs.Layout.{section_at, after, ended, after_values, after_members, after_types, sections_of, lies_in, within}
use Rattle.table.specs.Entries.{type_at, member_at, value_at}
use Rattle.table.specs.Leaf.{base, bytes_of, in_signed, finite, is_value, width, allowed}
use Rattle.table.specs.Fields.{fields_ok}
use Rattle.types.specs.Rules.{member_ok, members_ok, pointed_ok, type_ok}
use Rattle.operations.specs.Entries.{width_of, kind_at, op_width, op_place, response_at, operation_at, id_at}
use Rattle.operations.specs.Rules.{fields_ok as operationFields, operation_ok, operations_ok}
use Rattle.operations.specs.Search.{index_word, indexed, borne, halved, sought_in}
use Rattle.pending.specs.Places.{bearing}
use Rattle.types.specs.Sizes.{sum_of, sum_from, size_of, sizes, largest, fits_in_size}
use Rattle.types.specs.Table.{entries_ok, sizes_ok, judged, judging, checked}
use Rattle.leaf.specs.Forms.{truth, extended, word_of, form, word_at, form_of}
use Rattle.leaf.specs.Choice.{choice}
use Rattle.walk.specs.Tree.{by_kind, look, elements_of, tree_of, trees, tree}
use Rattle.walk.specs.Walk.{answer, left, next, through, item, counted, walk, type_walk}
use Rattle.unpack.specs.Reading.{reader}
use Rattle.pack.specs.Writing.{writer}
use Rattle.payload.specs.Calls.{stopped_at, went_to, answered, answered_type, answered_in, left_over_by, left_over_in, answered_if, left_if}
use Rattle.states.specs.States.{bit_of, stands_up, turned, with_word, with_own}
use Rattle.states.specs.States as states
use Rattle.platform.specs.Reaction.{operation_for, operation_in, coming_up, on_state, on_status, reaction_to}
use Rattle.platform.specs.Receiving.{fresh_standing, is_sent, is_answer, response_to, outcome_of, received_by, received_of, sections_outcome}
use Rattle.platform.specs.Noting.{number_given}
use Rattle.platform.specs.Receiving as platform
use Rattle.promises.specs.TableOrder.{sections_in}
use Rattle.promises.specs.Numbers.{whole_table, status}
use Rattle.promises.specs.EachNumber.{asking, an_answer, EachNumber}

infixr 5 ◌and◌
abbrev ◌and◌ : {A B : Type 0} → A → B → A × B
◌and◌ a b = (a, b)

one_call : (number_given (received_of 1 whole_table (fresh_standing 1) [] status 47).answer ≡ 10)
    × (number_given (sections_outcome 1 [] (sections_in whole_table) [] (fresh_standing 1) [] status 48).answer ≡ 30)
    × (number_given (sections_outcome 1 whole_table (sections_in whole_table) [] (fresh_standing 1) [] status 47).answer ≡ 10)
    × (number_given (received_of 1 asking (fresh_standing 1) [] an_answer 0).answer ≡ 61)
    × (number_given (sections_outcome 1 asking (sections_in asking) ((9 * 2 ^ 32 + 16) ∷ []) (fresh_standing 1) [] an_answer 0).answer ≡ 61)
unfolding all_below above section_at after ended after_values after_members after_types sections_of lies_in within type_at member_at
    value_at width_of kind_at op_width op_place response_at operation_at id_at base bytes_of in_signed finite is_value width allowed fields_ok member_ok members_ok
    pointed_ok type_ok operationFields operation_ok operations_ok size_of sizes largest fits_in_size entries_ok sizes_ok judged judging checked operation_for
    operation_in coming_up on_state on_status reaction_to is_sent is_answer response_to outcome_of received_by received_of sections_outcome index_word indexed borne
    halved sought_in bearing bit_of stands_up turned states.word_of with_word platform.answered sum_of sum_from with_own
one_call = (refl, refl, refl, refl, refl)

pub each_number : EachNumber
unfolding missed_of keeping noted_of begun_of followed_of placed_of stepped_of good_sizes good fresh_of setup_of sent_to heading_by judged_of
    taken_by taken_of put_by rooms_by rooms_after message_of all_below above section_at after ended after_values after_members after_types
    sections_of lies_in within type_at member_at value_at width_of kind_at op_width op_place response_at operation_at id_at base bytes_of in_signed finite is_value
    width allowed fields_ok member_ok members_ok pointed_ok type_ok operationFields operation_ok operations_ok size_of sizes largest fits_in_size entries_ok
    sizes_ok judged judging checked truth
    extended word_of form word_at form_of choice by_kind look elements_of tree_of trees tree answer left next through item counted walk
    type_walk reader writer stopped_at went_to answered answered_type answered_in left_over_by left_over_in answered_if left_if bearing
each_number = record {
  read = refl and refl and refl and refl and refl and refl and refl and refl and refl and tt;
  write_4 = refl;
  write_5 = λ payload e. let l : 2 ^ 32 ≤ length payload = omega arith in rw (le-leb (2 ^ 32) (length payload) l);
  write_7 = refl;
  write_8 = refl;
  write_9 = refl;
  write_10 = refl;
  header = refl and refl and tt;
  header_long = λ d e. rw e;
  setup = refl and refl and refl and refl and refl and refl and refl and tt;
  take = refl and refl and refl and refl and refl and refl and refl and refl and refl and refl and refl and tt;
  take_wide = λ rooms e. refl;
  pieces = refl and refl and refl and refl and tt;
  cut = refl and refl and refl and refl and tt;
  table_checks = refl and refl and refl and refl and refl and refl and refl and refl and refl and refl and refl and refl and refl and refl and refl
      and refl and refl and refl and refl and refl and refl and refl and refl and refl and refl and refl and refl and refl and refl and tt;
  unpack = refl and refl and refl and refl and refl and refl and refl and refl and tt;
  pack = refl and refl and refl and refl and refl and refl and refl and refl and tt;
  on_sections = refl and refl and tt;
  packing_on_sections = refl and refl and tt;
  receive_10 = one_call.0;
  receive_61 = one_call.3;
  receive_on_sections = one_call.1 and one_call.2 and tt;
  receive_on_sections_61 = one_call.4;
  send = refl and refl and refl and tt;
  send_5 = λ payload e. let l : 2 ^ 32 ≤ length payload = omega arith in rw (le-leb (2 ^ 32) (length payload) l);
}
