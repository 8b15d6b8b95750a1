-- `nyrkovash::issues::read_three` meets its contract: by what `message3` answers.
-- Assumes nothing.
use Rattle.wire.proofs.MetCases.{met, met_left}
use Rattle.message3.specs.declared.Reading3.{Reading3}
use Rattle.mixed.specs.Reading.{from_three, number_given}
use Prim.Native.Nat.{ℕ}
use mathlib.Core.List.{List}
use Rattle.nyrkovash.specs.IssueCalls.{any_left}
use Rattle.nyrkovash.proofs.issues.read_three.Goals as goal

pub returns-in-Refused-clause-value : goal.returns-in-Refused-clause-value
returns-in-Refused-clause-value c =
    search (met (λ (x : Reading3). number_given (from_three x)))

pub returns-in-Refused-clause-answer_after : goal.returns-in-Refused-clause-answer_after
returns-in-Refused-clause-answer_after c =
    search (met_left (λ (was : List ℕ) (x : Reading3). any_left was (from_three x)))

pub returns-in-Read-clause-value : goal.returns-in-Read-clause-value
returns-in-Read-clause-value c =
    search (met (λ (x : Reading3). number_given (from_three x)))

pub returns-in-Read-clause-answer_after : goal.returns-in-Read-clause-answer_after
returns-in-Read-clause-answer_after c =
    search (met_left (λ (was : List ℕ) (x : Reading3). any_left was (from_three x)))
