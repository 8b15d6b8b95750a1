-- The 257th service, computed.
-- Assumes nothing.
use mathlib.Core.Path.{refl}
use Rattle.wire.specs.All.{all_below}
use Rattle.services.specs.Word.{says, word_for}
use Rattle.services.specs.Block.{pair_has_place, pair_told, pairs_told, has_place, all_have_places, status_fits, note_refusal, status_noted}
use Rattle.promises.specs.WorkedServices.{WorkedServices}

pub worked_services : WorkedServices
unfolding all_below says word_for pair_has_place pair_told pairs_told has_place all_have_places status_fits note_refusal status_noted
worked_services =
    record {
      six_new = refl;
      noted = refl;
      not_named = refl;
      seven_new = refl;
      none_noted = refl;
      one_known = refl;
      told_anew = refl;
    }
