use Rattle.std.proofs.Common.{arith, length-take-le}
use Rattle.wire.proofs.AllBelow.{none_below}
use Rattle.types.proofs.SizeLaws.{fill_none, fill_more, fits_more, fits-no-more}
use Rattle.types.proofs.TypePasses.{kept_record}
use Rattle.types.proofs.sizes.fill.Goals as goal

pub loop-i-init : goal.loop-i-init
loop-i-init g c =
    (search none_below, search fill_none)

pub size_of-size-requires : goal.size_of-size-requires
size_of-size-requires g c h =
    kept_record _ _ _ _ _ _ (c.requires.lawful h) c.loop-i-test.true c.type_of-e.ensures (length-take-le _ _ (omega arith))

pub returns-then-size-gt65536-clause-value : goal.returns-then-size-gt65536-clause-value
returns-then-size-gt65536-clause-value g c =
    search fits-no-more

pub loop-i-preserved : goal.loop-i-preserved
loop-i-preserved g c =
    (search fits_more, search fill_more)
