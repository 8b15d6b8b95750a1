use Rattle.types.proofs.Distinctness.{from-behind, alike-here, not-here, none_left}
use Rattle.types.proofs.alike.last_alike.Goals as goal

pub loop-j-init : goal.loop-j-init
loop-j-init c =
    search from-behind

pub returns-then-value_at-word : goal.returns-then-value_at-word
returns-then-value_at-word c =
    search alike-here

pub loop-j-preserved : goal.loop-j-preserved
loop-j-preserved c =
    search not-here

pub returns : goal.returns
returns c =
    search none_left
