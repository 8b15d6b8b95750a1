-- The plans of two small tables and payloads by them, computed.
-- Assumes nothing.
use mathlib.Core.Path.{refl}
use Rattle.wire.specs.All.{all_below, above}
use Rattle.table.specs.Layout.{section_at, after, ended, after_values, after_members, after_types, sections_of, lies_in, within}
use Rattle.table.specs.Entries.{type_at, member_at, value_at}
use Rattle.table.specs.Leaf.{base, bytes_of, in_signed, finite, is_value, width, allowed}
use Rattle.table.specs.Fields.{fields_ok}
use Rattle.types.specs.Values.{unlike, unlike_before, distinct, value_ok, values_ok}
use Rattle.types.specs.Rules.{member_ok, members_ok, pointed_ok, type_ok}
use Rattle.operations.specs.Entries.{op_place}
use Rattle.operations.specs.Rules.{operations_ok}
use Rattle.types.specs.Sizes.{sum_of, size_of, sizes, largest, fits_in_size}
use Rattle.types.specs.Table.{entries_ok, sizes_ok, judged, judging, checked}
use Rattle.leaf.specs.Forms.{truth, extended, word_of, form, word_at, form_of}
use Rattle.leaf.specs.Choice.{other, other_at, among_at, among, choice}
use Rattle.walk.specs.Tree.{by_kind, look, elements_of, tree_of, trees, tree}
use Rattle.walk.specs.Runs.{taken_by, run_tree, runs_tree}
use Rattle.walk.specs.Planned.{indexed, lying, plan_of, is_planned, runs_of, plan_tree}
use Rattle.walk.specs.Walk.{answer, left, next, through, item, counted, walk, type_walk}
use Rattle.plan.specs.Leaves.{sum_below, capped, row_leaves, leaves_met, leaf_counts, leaves}
use Rattle.plan.specs.Layout.{run_word, leaf_run, alike, merged, add, add_all, row_runs, runs_met, runs_where, run_lists, runs, all_runs}
use Rattle.plan.specs.Layout.{index_word, index, plans, plans_length, length_in, laid_number, laid_out}
use Rattle.unpack.specs.Reading.{reader}
use Rattle.pack.specs.Writing.{writer}
use Rattle.payload.specs.Calls.{stopped_at, went_to, answered, answered_type, answered_in, left_over_by, left_over_in}
use Rattle.payload.specs.ByPlans.{answered_by, tree_for, left_for}
use Rattle.promises.specs.WorkedPlans.{PlansAre, ByPlans, AtTheLimit, Forged, WorkedPlans}

plans_are : PlansAre
unfolding all_below above section_at after ended after_values after_members after_types sections_of lies_in within type_at member_at value_at op_place
    base bytes_of in_signed finite is_value width allowed fields_ok member_ok members_ok pointed_ok type_ok operations_ok sum_of size_of sizes largest
    fits_in_size unlike unlike_before distinct value_ok values_ok entries_ok sizes_ok judged judging checked by_kind look indexed lying plan_of
    is_planned sum_below capped row_leaves leaves_met leaf_counts leaves run_word leaf_run alike merged add add_all row_runs runs_met runs_where
    run_lists runs all_runs index_word index plans plans_length length_in laid_number laid_out
plans_are =
    record {
      accepted = refl;
      long = refl;
      enough = refl;
      too_short = refl;
      laid = refl;
      left = refl;
      base_planned = refl;
      record_planned = refl;
      array_not = refl;
      array_within_not = refl;
      none_not = refl;
    }

by_plans : ByPlans
unfolding all_below type_at member_at lies_in within fields_ok base bytes_of in_signed finite is_value width allowed truth extended word_of form word_at
    form_of other other_at among_at among choice by_kind look taken_by run_tree runs_tree indexed lying plan_of is_planned runs_of plan_tree
    answer left next through item counted walk reader writer stopped_at went_to answered left_over_by answered_by tree_for left_for
by_plans =
    record {
      unpacked = refl;
      words = refl;
      packed = refl;
      bytes = refl;
      enum_bad = refl;
      enum_bad_left = refl;
      enum_bad_packed = refl;
      bad_then_cut = refl;
      cut = refl;
    }

at_the_limit : AtTheLimit
unfolding all_below above section_at after ended after_values after_members after_types sections_of lies_in within type_at member_at value_at op_place
    base bytes_of in_signed finite is_value width allowed fields_ok member_ok members_ok pointed_ok type_ok operations_ok sum_of size_of sizes largest
    fits_in_size entries_ok sizes_ok judged judging checked by_kind look sum_below capped row_leaves leaves_met leaf_counts leaves run_word leaf_run
    alike merged add add_all row_runs runs_met runs_where run_lists runs all_runs index_word index plans plans_length length_in laid_number laid_out
at_the_limit = record { accepted = refl; long = refl; laid = refl }

forged_plan : Forged
unfolding all_below type_at member_at value_at lies_in within fields_ok base bytes_of in_signed finite is_value width allowed truth extended word_of form
    word_at form_of other other_at among_at among choice by_kind look elements_of tree_of trees tree taken_by run_tree runs_tree indexed lying
    plan_of is_planned runs_of plan_tree answer left next through item counted walk type_walk reader writer stopped_at went_to answered
    answered_type answered_in left_over_by left_over_in answered_by tree_for left_for
forged_plan = record { walk_words = refl; forged_words = refl; walk_packs = refl; forged_refuses = refl }

pub worked_plans : WorkedPlans
worked_plans =
    record { plans_are = plans_are; by_plans = by_plans; at_the_limit = at_the_limit; forged_plan = forged_plan }
