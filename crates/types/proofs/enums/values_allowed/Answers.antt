-- `types::values_allowed` meets its contract: each value passes.
-- Assumes nothing.
use Rattle.std.proofs.Common.{◌∙◌, arith, rules, tests, refl}
use Rattle.std.proofs.lemmas.Iterator.{YieldsList-from_range}
use Rattle.std.proofs.lemmas.Iterator.Search.{all_from_yields_List}
use Rattle.types.specs.Values.{value_ok}
use Rattle.types.proofs.AllOf.{all_of_range}
use Rattle.types.proofs.enums.values_allowed.Goals as goal

pub returns : goal.returns
returns c =
    let n = c.args.e.count in
    let f = value_ok c.args.table.now c.args.s c.args.e in
    all_from_yields_List f _ _ c.all.result c.all.ensures.ran (YieldsList-from_range 0 n n refl (omega arith)) (λ x b q k. search (rules, tests))
    ∙ all_of_range f n
