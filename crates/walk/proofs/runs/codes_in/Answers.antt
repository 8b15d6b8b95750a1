use Rattle.walk.proofs.Codes.{none-lead, one-leads, all_of, they-all-lead, none_stored, one-stored, so-many}
use Rattle.walk.proofs.Parts.{base-part, other-stops, own-stops}
use Rattle.walk.proofs.runs.codes_in.Goals as goal

pub loop-k-init : goal.loop-k-init
loop-k-init c =
    (search none-lead, search none_stored)

pub returns-then-i-child-clause-value : goal.returns-then-i-child-clause-value
returns-then-i-child-clause-value c =
    search own-stops

pub returns-then-i-child-clause-codes_after : goal.returns-then-i-child-clause-codes_after
returns-then-i-child-clause-codes_after c =
    search (so-many, own-stops)

pub returns-then-code-clause-value : goal.returns-then-code-clause-value
returns-then-code-clause-value c =
    search other-stops

pub returns-then-code-clause-codes_after : goal.returns-then-code-clause-codes_after
returns-then-code-clause-codes_after c =
    search (so-many, other-stops)

pub loop-k-preserved : goal.loop-k-preserved
loop-k-preserved c =
    (search (one-leads, base-part), search (one-stored, base-part))

pub returns-clause-value : goal.returns-clause-value
returns-clause-value c =
    search they-all-lead

pub returns-clause-codes_after : goal.returns-clause-codes_after
returns-clause-codes_after c =
    search (so-many, all_of)
