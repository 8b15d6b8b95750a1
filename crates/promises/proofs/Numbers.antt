-- Whole messages and tables of the papers, computed.
-- Assumes nothing.
use mathlib.Core.Path.{refl, sym}
use borrow.Author.Tests.{ne_eqb, le-ltb}
use lib.ListN.{length}
use Rattle.wire.specs.All.{all_below, above}
use Rattle.table.specs.Layout.{section_at, after, ended, after_values, after_members, after_types, sections_of, lies_in, within}
use Rattle.table.specs.Entries.{type_at, member_at, value_at}
use Rattle.table.specs.Leaf.{base, bytes_of, in_signed, finite, is_value, width, allowed}
use Rattle.table.specs.Fields.{fields_ok}
use Rattle.types.specs.Rules.{member_ok, members_ok, pointed_ok, type_ok}
use Rattle.operations.specs.Entries.{width_of, kind_at, op_width, op_place, response_at, operation_at, id_at}
use Rattle.operations.specs.Rules.{operation_ok, operations_ok}
use Rattle.operations.specs.Rules as operations
use Rattle.operations.specs.Search.{index_word, indexed, borne, halved, sought_in}
use Rattle.types.specs.Sizes.{sum_of, size_of, sizes, largest, fits_in_size}
use Rattle.types.specs.Table.{entries_ok, sizes_ok, judged, judging, checked}
use Rattle.leaf.specs.Forms.{truth, extended, word_of, form, word_at, form_of}
use Rattle.leaf.specs.Choice.{choice}
use Rattle.walk.specs.Tree.{by_kind, look, elements_of, tree_of, trees, tree}
use Rattle.walk.specs.Walk.{answer, left, next, through, item, counted, walk, type_walk}
use Rattle.unpack.specs.Reading.{reader}
use Rattle.pack.specs.Writing.{writer}
use Rattle.payload.specs.Calls.{stopped_at, went_to, answered, answered_type, answered_in, left_over_by, left_over_in, answered_if, left_if}
use Rattle.promises.specs.Numbers.{TableIs, FourKindsAre, MessagesAre, Numbers}

table_is : TableIs
unfolding all_below above section_at after ended after_values after_members after_types sections_of lies_in within type_at member_at value_at
    op_place base bytes_of in_signed finite is_value width allowed fields_ok member_ok members_ok pointed_ok type_ok operations_ok
    sum_of size_of sizes largest fits_in_size entries_ok sizes_ok judged judging checked truth extended word_of form word_at form_of choice
    by_kind look elements_of tree_of trees tree answer left next through item counted walk type_walk reader writer stopped_at went_to
    answered answered_type answered_in left_over_by left_over_in answered_if left_if
table_is =
    record { long = refl; accepted = refl; unpacks = refl; words = refl; packs = refl; bytes = refl }

four_kinds_are : FourKindsAre
unfolding all_below above section_at after ended after_values after_members after_types sections_of type_at width_of kind_at op_width op_place response_at
    operation_at id_at base bytes_of in_signed finite is_value width allowed fields_ok pointed_ok type_ok operations.fields_ok operation_ok operations_ok
    size_of sizes largest fits_in_size entries_ok sizes_ok judged judging checked index_word indexed borne halved sought_in
four_kinds_are =
    record {
      long = refl;
      accepted = refl;
      byte_less = refl;
      byte_more = refl;
      event = refl;
      sent = refl;
      data_kept = refl;
      served = refl;
      index = refl;
      event_found = refl;
      sent_found = refl;
      data_found = refl;
      served_found = refl;
      none_found = refl;
    }

messages_are : MessagesAre
messages_are =
    record {
      status_long = refl;
      status_read = λ own n. rw (ne_eqb 3 own (λ e. n (sym e)));
      status_answer = λ room l. rw (le-ltb room 24 l);
      status_written = λ out l. rw (le-ltb (length out) 24 l);
      operation_long = refl;
      operation_read = λ own n. rw (ne_eqb 3 own (λ e. n (sym e)));
      operation_answer = λ room l. rw (le-ltb room 22 l);
      operation_written = λ out l. rw (le-ltb (length out) 22 l);
    }

pub numbers : Numbers
numbers = (table_is, messages_are, four_kinds_are)
