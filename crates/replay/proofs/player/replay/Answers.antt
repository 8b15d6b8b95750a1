-- `replay::replay` meets its contract: every part that it lends lies in its buffer.
-- Assumes nothing.
use Rattle.std.proofs.Common.{◌≡◌, ap, ◌∙◌, rules}
use Rattle.std.specs.Prelude.{Some, Ok}
use Rattle.replay.proofs.player.replay.Goals as goal

pub play_in-requires : goal.play_in-requires
play_in-requires g c =
    let e : c.in-Ok-Some.field-0 ≡ Some c.in-Ok-Some.opened = search rules in
    (search rules, search rules, c.begin-begun.ensures.1 c.in-Ok-Some.opened (c.in-Ok-Some.is ∙ ap Ok e))
