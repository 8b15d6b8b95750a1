-- The places worked out on one type, computed.
-- Assumes nothing.
use mathlib.Core.Path.{refl}
use Rattle.wire.specs.All.{all_below, above}
use Rattle.table.specs.Layout.{section_at, after, ended, after_values, after_members, after_types, sections_of, lies_in, within}
use Rattle.table.specs.Entries.{type_at, member_at, value_at}
use Rattle.table.specs.Leaf.{base, bytes_of, in_signed, finite, is_value, width, allowed}
use Rattle.table.specs.Fields.{fields_ok}
use Rattle.types.specs.Rules.{member_ok, members_ok, pointed_ok, type_ok}
use Rattle.operations.specs.Entries.{op_place}
use Rattle.operations.specs.Rules.{operations_ok}
use Rattle.types.specs.Sizes.{sum_of, size_of, sizes, largest, fits_in_size}
use Rattle.types.specs.Table.{entries_ok, sizes_ok, judged, judging, checked}
use Rattle.leaf.specs.Forms.{truth, extended, word_of, form, word_at, form_of}
use Rattle.leaf.specs.Choice.{choice}
use Rattle.walk.specs.Tree.{by_kind, look, elements_of, tree_of, trees, tree}
use Rattle.walk.specs.Walk.{answer, left, next, through, item, counted, walk, type_walk}
use Rattle.unpack.specs.Reading.{reader}
use Rattle.pack.specs.Writing.{writer}
use Rattle.payload.specs.Calls.{stopped_at, went_to, answered, answered_type, answered_in, left_over_by, left_over_in, answered_if, left_if}
use Rattle.promises.specs.WorkedPlaces.{WorkedPlaces}

pub worked_places : WorkedPlaces
unfolding all_below above section_at after ended after_values after_members after_types sections_of lies_in within type_at member_at
    value_at op_place base bytes_of in_signed finite is_value width allowed fields_ok member_ok members_ok pointed_ok type_ok
    operations_ok sum_of size_of sizes largest fits_in_size entries_ok sizes_ok judged judging checked truth extended word_of form word_at
    form_of choice by_kind look elements_of tree_of trees tree answer left next through item counted walk type_walk reader writer
    stopped_at went_to answered answered_type answered_in left_over_by left_over_in answered_if left_if
worked_places =
    record {
      read = (refl, refl);
      count_over_most = λ room. refl;
      count_cut = λ room. refl;
      char_not_ascii = λ room. refl;
      float_not_finite = λ room. refl;
      float_cut = λ room. refl;
      two_left = λ room. refl;
      word_over_most = λ room. refl;
      char_word_not_ascii = λ room. refl;
      five_words = λ room. refl;
    }
