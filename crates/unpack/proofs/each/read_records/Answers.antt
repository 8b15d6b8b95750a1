-- `unpack::each::read_records` meets its contract: leaves of the codes are the members.
-- Assumes nothing.
use mathlib.Core.Path.{sym}
use lib.ListN.{replicate}
use lib.Seq.{length-take-le}
use Rattle.unpack.proofs.ReadCodes.{codes-in}
use Rattle.unpack.proofs.ByCodes.{coded_going}
use Rattle.unpack.proofs.each.read_records.Goals as goal

pub slice_bounds-codes-end : goal.slice_bounds-codes-end
slice_bounds-codes-end c =
    codes-in _ _ _ _ _ _ (replicate 64 0) _ c.base_codes-n.ensures.value c.base_codes-n.ensures.codes_after

pub slice_bounds-read_coded-end : goal.slice_bounds-read_coded-end
slice_bounds-read_coded-end c =
    sym (length-take-le _ _ (codes-in _ _ _ _ _ _ (replicate 64 0) _ c.base_codes-n.ensures.value c.base_codes-n.ensures.codes_after))

pub returns-then-n-e : goal.returns-then-n-e
returns-then-n-e c = λ ps.
    coded_going _ _ _ _ _ (replicate 64 0) _ c.base_codes-n.ensures.value c.base_codes-n.ensures.codes_after c.if-n-e.true _ ps
    c.read_coded.ensures
