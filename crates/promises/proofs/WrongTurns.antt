-- All wrong turns together.
-- Assumes nothing.
use Rattle.promises.specs.WrongTurns.{WrongTurns}
use Rattle.promises.proofs.WrongJoiners.{no_wrong_joiner}
use Rattle.promises.proofs.WrongCalls.{no_wrong_call}
use Rattle.promises.proofs.WrongCodecs.{no_wrong_codec}
use Rattle.promises.proofs.WrongPlaces.{no_wrong_place}
use Rattle.promises.proofs.WrongPlatforms.{no_wrong_platform}
use Rattle.promises.proofs.WrongReports.{no_wrong_report}
use Rattle.promises.proofs.WrongResponses.{no_wrong_response}
use Rattle.promises.proofs.WrongChecks.{no_wrong_check}
use Rattle.promises.proofs.NotRuledOut.{not_ruled_out}

pub wrong_turns : WrongTurns
wrong_turns =
    record {
      joiners = no_wrong_joiner;
      calls = no_wrong_call;
      codecs = no_wrong_codec;
      places = no_wrong_place;
      platforms = no_wrong_platform;
      reports = no_wrong_report;
      responses = no_wrong_response;
      checks = no_wrong_check;
      left_to_others = not_ruled_out;
    }
