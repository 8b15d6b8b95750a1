-- Replies to Issue 3, worked out in bytes: computed.
-- Assumes nothing.
use Prim.Native.Nat.{ℕ}
use Rattle.std.specs.Prelude.{Ok}
use mathlib.Core.Path.{◌≡◌, refl, sym, ap}
use native.Mathlib.Omega.{arith}
use lib.ListN.{take, replicate}
use Rattle.wire.specs.All.{all_below, above}
use Rattle.table.specs.declared.Sections.{Sections}
use Rattle.table.specs.Layout.{section_at, after, ended, after_values, after_members, after_types, sections_of}
use Rattle.table.specs.Entries.{type_at}
use Rattle.table.specs.Leaf.{base, bytes_of, width}
use Rattle.table.specs.Fields.{fields_ok}
use Rattle.operations.specs.Entries.{op_place}
use Rattle.operations.specs.Rules as rules
use Rattle.types.specs.Rules.{pointed_ok, type_ok}
use Rattle.types.specs.Sizes.{sum_of, size_of, sizes, largest, fits_in_size}
use Rattle.types.specs.Table.{entries_ok, sizes_ok, judged, judging, checked}
use Rattle.message3.specs.Platform.{kind_in3}
use Rattle.states.specs.States.{word_of, with_word, bit_of, stands_up, turned, with_own, count_below}
use Rattle.services.specs.Word.{says, word_for}
use Rattle.services.specs.Block.{pair_has_place, pair_told, pairs_told, has_place, all_have_places, status_fits, note_refusal, status_noted}
use Rattle.partners.specs.Threes.{bit_in, is_three, with_three, three_set, listed}
use Rattle.mixed.specs.Form.{three_form}
use Rattle.mixed.specs.Reading.{any_of}
use Rattle.mixed.specs.Ours.{said_by}
use Rattle.mixed.specs.Reaction.{operation_for3, coming_up3, on_status3, on_services_request, reaction3}
use Rattle.mixed.specs.Replies.{field_message, status_message, start_up_bytes, pairs_of, services_message, deed_bytes, room_for}
use Rattle.mixed.specs.Keeping.{note_number, with_noted, kept_number, kept_words}
use Rattle.mixed.specs.Receiving.{is_answer3, settled3, laid3, kept3, any_outcome_of, any_output_of, any_words_of}
use Rattle.mixed.specs.Tables.{answer_if, out_if, words_if}
use Rattle.platform.specs.Receiving.{fresh_standing}
use Rattle.promises.specs.Services.{start}
use Rattle.promises.specs.Replies3.{our_receiving3, our_output}
use Rattle.promises.specs.ServicesAcross.{Hears}
use Rattle.promises.specs.WorkedReplies3.{bare_table, at_one, asks_for_all_of1, ours2122, tells2122, at_two, asks_header, WorkedReplies3}
use Rattle.promises.proofs.SmallTraffic.{octets_are}
use Rattle.promises.proofs.Services.{services}

abbrev pub bare_sections : Sections
bare_sections =
    record {
      types = record { at = 2; count = 1 };
      members = record { at = 12; count = 0 };
      values = record { at = 14; count = 0 };
      operations = record { at = 16; count = 0 };
    }

pub bare_is_table : checked bare_table ≡ Ok bare_sections
unfolding all_below above section_at after ended after_values after_members after_types sections_of type_at base bytes_of width fields_ok pointed_ok type_ok
    op_place rules.operations_ok sum_of size_of sizes largest fits_in_size entries_ok sizes_ok judged judging checked
bare_is_table = refl

-- the answer as it is heard
told : our_output (at_one ours2122 (fresh_standing 1) asks_for_all_of1 44) ≡ tells2122
unfolding all_below above section_at after ended after_values after_members after_types sections_of type_at base bytes_of width fields_ok pointed_ok type_ok
    op_place rules.operations_ok sum_of size_of sizes largest fits_in_size entries_ok sizes_ok judged judging checked word_of with_word bit_of stands_up turned count_below
    says word_for pair_has_place pair_told pairs_told has_place all_have_places status_fits note_refusal status_noted bit_in is_three with_three three_set listed
    three_form any_of said_by operation_for3 coming_up3 on_status3 on_services_request reaction3 field_message status_message start_up_bytes pairs_of
    services_message deed_bytes room_for note_number with_noted kept_number kept_words is_answer3 settled3 laid3 kept3 any_outcome_of any_output_of
    any_words_of answer_if out_if words_if with_own
told = refl

hears : (s : Sections) → checked bare_table ≡ Ok s → Hears our_receiving3 (at_one ours2122 (fresh_standing 1) asks_for_all_of1 44) at_two s asks_header
unfolding all_below word_of with_word bit_of stands_up with_own count_below word_for pair_has_place pair_told pairs_told has_place all_have_places status_fits note_refusal
    bit_in is_three with_three three_set listed three_form any_of
hears s e =
    record {
      asked =
          record {
            widths = record { platform = omega arith; next = omega arith; seconds = omega arith; nanoseconds = omega arith; composite = omega arith };
            bytes = octets_are asks_for_all_of1 refl;
            table = e;
            start = 24;
            len = 4;
            read = refl;
            no_response = λ q. let z : ◌≡◌ {A = ℕ} 7 5 = ap kind_in3 q in absurd (omega arith);
          };
      few = omega arith;
      room = omega arith;
      widths = record { platform = omega arith; next = omega arith; seconds = omega arith; nanoseconds = omega arith; composite = omega arith };
      bytes = octets_are tells2122 refl;
      who = refl;
      its_sections = s;
      its_table = e;
      set_up = refl;
      there = omega arith;
      kempt = services.kept.block (replicate 256 0) start;
      carried = sym (ap (take 44) told);
      takes = refl;
    }

pub worked_replies3 : WorkedReplies3
unfolding all_below above section_at after ended after_values after_members after_types sections_of type_at base bytes_of width fields_ok pointed_ok type_ok
    op_place rules.operations_ok sum_of size_of sizes largest fits_in_size entries_ok sizes_ok judged judging checked word_of with_word bit_of stands_up turned count_below
    says word_for pair_has_place pair_told pairs_told has_place all_have_places status_fits note_refusal status_noted bit_in is_three with_three three_set listed
    three_form any_of said_by operation_for3 coming_up3 on_status3 on_services_request reaction3 field_message status_message start_up_bytes pairs_of
    services_message deed_bytes room_for note_number with_noted kept_number kept_words is_answer3 settled3 laid3 kept3 any_outcome_of any_output_of
    any_words_of answer_if out_if words_if with_own
worked_replies3 =
    record {
      start_up = refl;
      next_is_3 = refl;
      now_up = refl;
      one_less = refl;
      next_is_0 = refl;
      still_down = refl;
      all_told = told;
      one_told = refl;
      hears = hears;
      service_21 = refl;
      service_22 = refl;
      service_23 = refl;
    }
