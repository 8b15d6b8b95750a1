use Rattle.joiner.proofs.Looks.{stands-twice, stands-once}
use Rattle.joiner.proofs.records.are_distinct.Goals as goal

pub returns-then-find-i : goal.returns-then-find-i
returns-then-find-i c =
    search stands-twice

pub returns : goal.returns
returns c =
    search stands-once
