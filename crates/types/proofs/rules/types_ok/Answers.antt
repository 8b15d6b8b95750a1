use Rattle.std.proofs.Common.{rules}
use Rattle.wire.proofs.AllBelow.{none_below}
use Rattle.types.proofs.TypePasses.{quick-loose, quick-next, loose-next, not_risen, types-end, types_compared}
use Rattle.types.proofs.rules.types_ok.Goals as goal

pub loop-i-init : goal.loop-i-init
loop-i-init c =
    (search none_below, λ h. search none_below)

pub loop-i-preserved-then-quick_ok : goal.loop-i-preserved-then-quick_ok
loop-i-preserved-then-quick_ok c =
    let octets = c.type_inv.table in
    (search (quick-loose, octets), λ h. search (quick-next, octets))

pub loop-i-preserved : goal.loop-i-preserved
loop-i-preserved c =
    (loose-next _ _ _ _ c.enum_ok.ensures c.if-not-enum_ok.false c.loop-i.invariant.0, λ h. search not_risen)

pub returns-then-not-enum_ok : goal.returns-then-not-enum_ok
returns-then-not-enum_ok c =
    search types-end

pub returns-else-rise : goal.returns-else-rise
returns-else-rise c =
    search types_compared
