-- The words of a line behind its name, in the order in which they are put.
use Rattle.std.specs.Prelude.{ℕ, List, [], ◌∷◌}
use Rattle.std.specs.Prelude.{Result, Ok, Err}
use Rattle.refusal.specs.Refusal.{number_of}
use Rattle.refusal.specs.declared.Refusal.{Refusal}
use Rattle.channel.specs.Outcomes.{missed_in, bytes_in}
use Rattle.channel.specs.declared.Outcome.{Outcome}
use Rattle.channel.specs.declared.Outcome.TheVariants.{Repeated, Delivered, Held, Stray, TooLong}
use Rattle.recording.specs.Decimal.{decimal}
use Rattle.recording.specs.Places.{spaced}
use Rattle.recording.specs.Line.{line_feed}

abbrev pub refusal_words : ℕ → List (List ℕ)
refusal_words k = spaced (decimal k) ∷ line_feed ∷ []

abbrev pub count_words : ℕ → ℕ → List (List ℕ)
count_words m b = spaced (decimal m) ∷ spaced (decimal b) ∷ line_feed ∷ []

abbrev pub value_words : Result Outcome Refusal → List (List ℕ)
value_words (Err e) = refusal_words (number_of e)
value_words (Ok Repeated) = count_words (missed_in (Ok Repeated)) (bytes_in (Ok Repeated))
value_words (Ok (Delivered m p)) = count_words (missed_in (Ok (Delivered m p))) (bytes_in (Ok (Delivered m p)))
value_words (Ok (Held m n)) = count_words (missed_in (Ok (Held m n))) (bytes_in (Ok (Held m n)))
value_words (Ok (Stray m)) = count_words (missed_in (Ok (Stray m))) (bytes_in (Ok (Stray m)))
value_words (Ok (TooLong m)) = count_words (missed_in (Ok (TooLong m))) (bytes_in (Ok (TooLong m)))
