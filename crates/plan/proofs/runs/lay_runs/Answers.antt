use borrow.Author.Rules.{rules}
use Rattle.plan.proofs.AllTypes.{none-held, none_end, no_start, its-count, more-laid, more-end, more-held, more-starts, all-started}
use Rattle.plan.proofs.runs.lay_runs.Goals as goal

pub loop-i-init : goal.loop-i-init
loop-i-init c =
    (search none-held, search none_end, search no_start)

pub lay_type-end-requires-clause-i_lt_most_types : goal.lay_type-end-requires-clause-i_lt_most_types
lay_type-end-requires-clause-i_lt_most_types c =
    (search rules, search its-count)

pub lay_type-end-requires-clause-laid : goal.lay_type-end-requires-clause-laid
lay_type-end-requires-clause-laid c =
    search more-laid

pub loop-i-preserved : goal.loop-i-preserved
loop-i-preserved c =
    (search more-held, search more-end, search more-starts)

pub returns-clause-starts_after : goal.returns-clause-starts_after
returns-clause-starts_after c =
    search all-started
