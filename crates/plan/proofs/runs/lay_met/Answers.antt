-- `plan::runs::lay_met` meets its contract: the arms are what was met.
-- Assumes nothing.
use Rattle.plan.proofs.Types.{laid-before}
use Rattle.plan.proofs.MetRuns.{leaf-end, leaf-held, members-parts, members-end, members-held}
use Rattle.plan.proofs.MetRuns.{elements-parts, elements-end, elements-held, broken-end, broken-held}
use Rattle.plan.proofs.runs.lay_met.Goals as goal

pub add_row-requires-clause-before : goal.add_row-requires-clause-before
add_row-requires-clause-before c =
    search laid-before

pub add_row-requires-clause-parts : goal.add_row-requires-clause-parts
add_row-requires-clause-parts c =
    search members-parts

pub add_row-requires-in-Elements-clause-before : goal.add_row-requires-in-Elements-clause-before
add_row-requires-in-Elements-clause-before c =
    search laid-before

pub add_row-requires-in-Elements-clause-parts : goal.add_row-requires-in-Elements-clause-parts
add_row-requires-in-Elements-clause-parts c =
    search elements-parts

pub returns-in-Leaf-clause-value : goal.returns-in-Leaf-clause-value
returns-in-Leaf-clause-value c =
    search leaf-end

pub returns-in-Leaf-clause-words_after : goal.returns-in-Leaf-clause-words_after
returns-in-Leaf-clause-words_after c =
    search leaf-held

pub returns-in-Members-clause-value : goal.returns-in-Members-clause-value
returns-in-Members-clause-value c =
    search members-end

pub returns-in-Members-clause-words_after : goal.returns-in-Members-clause-words_after
returns-in-Members-clause-words_after c =
    search members-held

pub returns-in-Elements-clause-value : goal.returns-in-Elements-clause-value
returns-in-Elements-clause-value c =
    search elements-end

pub returns-in-Elements-clause-words_after : goal.returns-in-Elements-clause-words_after
returns-in-Elements-clause-words_after c =
    search elements-held

pub returns-in-Broken-clause-value : goal.returns-in-Broken-clause-value
returns-in-Broken-clause-value c =
    search broken-end

pub returns-in-Broken-clause-words_after : goal.returns-in-Broken-clause-words_after
returns-in-Broken-clause-words_after c =
    search broken-held
