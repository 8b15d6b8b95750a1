use Rattle.std.proofs.Common.{◌<◌, arith}
use Rattle.pending.proofs.Returns.{bears-it, bears-another, none-bears}
use Rattle.pending.proofs.first_bearing.Goals as goal

pub returns-then-number_in-number : goal.returns-then-number_in-number
returns-then-number_in-number c =
    let h : c.loop-k.k < 64 = omega arith in
    search bears-it

pub loop-k-preserved : goal.loop-k-preserved
loop-k-preserved c =
    let h : c.loop-k.k < 64 = omega arith in
    search bears-another

pub returns : goal.returns
returns c =
    search none-bears
