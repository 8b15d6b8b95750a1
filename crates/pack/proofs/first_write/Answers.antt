-- `pack::first_write` meets its contract: there is no room to store in.
-- Assumes nothing.
use mathlib.Core.Path.{sym}
use native.Mathlib.Omega.{arith}
use lib.Seq.{length-take-le}
use Rattle.walk.proofs.Whole.{nothing_left}
use Rattle.pack.proofs.first_write.Goals as goal

pub slice_bounds-write_once-end-2 : goal.slice_bounds-write_once-end-2
slice_bounds-write_once-end-2 c =
    sym (length-take-le _ c.args.out.now (omega arith))

pub write_once-requires : goal.write_once-requires
write_once-requires c h =
    absurd (omega arith)

pub returns : goal.returns
returns c =
    record {
      out_unchanged = nothing_left c.write_once.new.out c.args.out.now c.write_once.auto.out;
      value = c.write_once.ensures.value;
    }
