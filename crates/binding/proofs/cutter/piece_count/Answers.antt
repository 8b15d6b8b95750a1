-- `binding::piece_count` meets its contract: what may be cut has a piece size above 0 and bounds that no sum exceeds.
-- Assumes nothing.
use native.Mathlib.Omega.{arith}
use Rattle.binding.proofs.Cutting.{cuttable}
use Rattle.binding.proofs.cutter.piece_count.Goals as goal

pub overflow_sub-result : goal.overflow_sub-result
overflow_sub-result c =
    omega (arith, cuttable c.args.total c.args.size c.requires)

pub overflow_add-result : goal.overflow_add-result
overflow_add-result c =
    omega (arith, cuttable c.args.total c.args.size c.requires)

pub nonzero_div-result : goal.nonzero_div-result
nonzero_div-result c =
    omega (arith, cuttable c.args.total c.args.size c.requires)
