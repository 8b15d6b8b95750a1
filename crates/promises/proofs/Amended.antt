-- The cases of char8, and its words, computed.
-- Assumes nothing.
use mathlib.Core.Path.{refl}
use Rattle.wire.specs.All.{all_below, above}
use Rattle.table.specs.Layout.{section_at, after, ended, after_values, after_members, after_types, sections_of, lies_in, within}
use Rattle.table.specs.Entries.{type_at}
use Rattle.table.specs.Leaf.{base, bytes_of, is_value, width, allowed}
use Rattle.table.specs.Fields.{fields_ok}
use Rattle.types.specs.Rules.{pointed_ok, type_ok}
use Rattle.operations.specs.Entries.{op_place}
use Rattle.operations.specs.Rules.{operations_ok}
use Rattle.types.specs.Sizes.{size_of, sizes, largest, fits_in_size}
use Rattle.types.specs.Table.{entries_ok, sizes_ok, judged, judging, checked}
use Rattle.leaf.specs.Forms.{word_of, form, word_at, form_of}
use Rattle.leaf.specs.Choice.{choice}
use Rattle.walk.specs.Tree.{by_kind, look, elements_of, tree_of, trees, tree}
use Rattle.walk.specs.Walk.{answer, left, next, through, item, counted, walk, type_walk}
use Rattle.unpack.specs.Reading.{reader}
use Rattle.pack.specs.Writing.{writer}
use Rattle.payload.specs.Calls.{stopped_at, went_to, answered, answered_type, answered_in, left_over_by, left_over_in, answered_if, left_if}
use Rattle.promises.specs.Amended.{Amended}

pub amended : Amended
unfolding all_below above section_at after ended after_values after_members after_types sections_of lies_in within type_at op_place
    base bytes_of is_value width allowed fields_ok pointed_ok type_ok operations_ok size_of sizes largest fits_in_size entries_ok sizes_ok
    judged judging checked word_of form word_at form_of choice by_kind look elements_of tree_of trees tree answer left next through
    item counted walk type_walk reader writer stopped_at went_to answered answered_type answered_in left_over_by left_over_in answered_if left_if
amended = record {
  cases = (refl, (refl, (refl, (refl, (refl, (refl, (refl, (refl, (refl, (refl, tt))))))))));
  char8_words = λ w. refl;
  uint8_words = λ w. refl;
  byte_words = λ w. refl;
}
