-- Statuses of services at the platform call, computed.
-- Assumes nothing.
use mathlib.Core.Path.{refl}
use Rattle.wire.specs.All.{all_below}
use Rattle.table.specs.Layout.{lies_in, within}
use Rattle.services.specs.Word.{says, word_for}
use Rattle.services.specs.Block.{pair_has_place, pair_told, pairs_told, has_place, all_have_places, status_fits, note_refusal, status_noted}
use Rattle.partners.specs.Threes.{bit_in, is_three}
use Rattle.states.specs.States.{count_below}
use Rattle.mixed.specs.Form.{three_form}
use Rattle.mixed.specs.Reading.{any_of}
use Rattle.mixed.specs.Reaction.{operation_for3, reaction3}
use Rattle.mixed.specs.Replies.{room_for}
use Rattle.mixed.specs.Keeping.{note_number, with_noted, kept_number, kept_words}
use Rattle.mixed.specs.Receiving.{is_answer3, settled3, kept3, any_outcome_of, any_words_of}
use Rattle.mixed.specs.Tables.{sections_answer, sections_words}
use Rattle.promises.specs.WorkedMixed.{WorkedMixed}

pub worked_mixed : WorkedMixed
unfolding all_below lies_in within says word_for pair_has_place pair_told pairs_told has_place all_have_places status_fits note_refusal status_noted bit_in is_three count_below
    three_form any_of operation_for3 reaction3 room_for note_number with_noted kept_number kept_words is_answer3 settled3 kept3 any_outcome_of any_words_of sections_answer
    sections_words
worked_mixed =
    record {
      six_new = refl;
      noted = refl;
      not_named = refl;
      seven_new = refl;
      none_noted = refl;
      one_known = refl;
      told_anew = refl;
      too_many = refl;
      one_missing = refl;
      none_told = refl;
      as_it_was = refl;
      reserved = refl;
      nine_before_63 = refl;
      nine_before_10 = refl;
      no_words = refl;
    }
