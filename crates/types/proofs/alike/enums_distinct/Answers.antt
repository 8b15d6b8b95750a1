-- `types::alike::enums_distinct` meets its contract: each type passes.
-- Assumes nothing.
use Rattle.std.proofs.Common.{◌∙◌, arith, rules, tests, refl}
use Rattle.std.proofs.lemmas.Iterator.{YieldsList-from_range}
use Rattle.std.proofs.lemmas.Iterator.Search.{all_from_yields_List}
use Rattle.types.specs.Alike.{enum_apart}
use Rattle.types.proofs.AllOf.{all_of_range}
use Rattle.types.proofs.alike.enums_distinct.Goals as goal

pub returns : goal.returns
returns c =
    let n = c.args.s.types.count in
    let f = enum_apart c.args.table.now c.args.s in
    all_from_yields_List f _ _ c.all.result c.all.ensures.ran (YieldsList-from_range 0 n n refl (omega arith)) (λ x b q k. search (rules, tests))
    ∙ all_of_range f n
