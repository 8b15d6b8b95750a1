use Rattle.std.proofs.Common.{arith, rules}
use Rattle.replay.proofs.Bounds.{filled-part, next-filled, next-ending}
use Rattle.replay.proofs.player.play_all.Goals as goal
use Rattle.replay.proofs.player.play_all.Goals.{in-Write+then-flush, in-Filled}

pub slice_bounds-play-end-in-loop : goal.slice_bounds-play-end-in-loop
slice_bounds-play-end-in-loop g c =
    search filled-part

pub loop-preserved : goal.loop-preserved
loop-preserved g c = (
  search rules,
  elim c.match-read_on.branch
      [ in-Write+then-flush w ↦ omega arith | in-Filled w ↦ omega (arith, next-filled c.read_on.ensures.next_within _ w.in-Filled.is) ],
)

pub finish-requires : goal.finish-requires
finish-requires g c =
    search next-ending
