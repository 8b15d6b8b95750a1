-- 01, "What the promises have to say" and "Easy wrong turns", in one place: which wrong programs each demand rules out, and which
-- wrong joiners demand 3 alone leaves to the contract of `take` and to demand 1.
use Rattle.promises.specs.WrongJoiners.{NoWrongJoiner}
use Rattle.promises.specs.WrongCalls.{NoWrongCall}
use Rattle.promises.specs.WrongCodecs.{NoWrongCodec}
use Rattle.promises.specs.WrongPlaces.{NoWrongPlace}
use Rattle.promises.specs.WrongPlatforms.{NoWrongPlatform}
use Rattle.promises.specs.WrongReports.{NoWrongReport}
use Rattle.promises.specs.WrongResponses.{NoWrongResponse}
use Rattle.promises.specs.WrongChecks.{NoWrongCheck}
use Rattle.promises.specs.NotRuledOut.{NotRuledOut}

pub record WrongTurns : Type 1 where
  -- demand 3
  pub joiners : NoWrongJoiner
  pub calls : NoWrongCall
  -- demand 2, and of demand 1 that a refusal changes no word and no byte
  pub codecs : NoWrongCodec
  -- where a payload or words were refused
  pub places : NoWrongPlace
  -- the replies of start-up: two platforms fall silent
  pub platforms : NoWrongPlatform
  -- what was heard of a message
  pub reports : NoWrongReport
  -- which message is the response to a request
  pub responses : NoWrongResponse
  -- 30 to 33, with 01's rules for the entries of a type table
  pub checks : NoWrongCheck
  -- met by demand 3, and ruled out by the steps' own equations (`missed_of`, `stepped_of`) and the order of refusals
  pub left_to_others : NotRuledOut
