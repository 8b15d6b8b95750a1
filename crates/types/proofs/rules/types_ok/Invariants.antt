-- `types::rules::types_ok` meets its contract: the first i types have passed, but that values of enums may be alike where some do not rise.
-- Assumes nothing.
use Rattle.std.proofs.Common.{◌≡◌, true}
use Rattle.wire.specs.All.{all_below}
use Rattle.types.specs.Rules.{type_ok}
use Rattle.types.specs.Passes.{loose_ok}
use Rattle.types.proofs.rules.types_ok.Given as goal

abbrev pub invariant-loop-i : goal.invariant-loop-i
invariant-loop-i l = (all_below (loose_ok l.table l.s) l.i ≡ true) × (l.rise ≡ true → all_below (type_ok l.table l.s) l.i ≡ true)
