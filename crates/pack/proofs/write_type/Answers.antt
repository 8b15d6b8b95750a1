-- `pack::write_type` meets its contract: the second walk ends as the first.
-- Assumes nothing.
use Rattle.walk.proofs.Whole.{refused, not-whole, all_stored}
use Rattle.pack.proofs.Sure.{second_sure}
use Rattle.pack.proofs.write_type.Goals as goal

pub write_once-requires : goal.write_once-requires
write_once-requires c h =
    second_sure _ _ _ _ _ c.first_write.ensures.value c.in-Went.is

pub returns-in-Stopped : goal.returns-in-Stopped
returns-in-Stopped c =
    let t = refused _ _ _ _ _ c.first_write.ensures.value _ c.first_write.ensures.out_unchanged _ _ c.in-Stopped.is in record { value = t.0; out_after = t.1 }

pub returns-then-fits : goal.returns-then-fits
returns-then-fits c =
    let t = all_stored _ _ _ _ _ c.first_write.ensures.value _ c.first_write.ensures.out_unchanged _ c.in-Went.is
    _ c.fits.ensures _ _ c.if-fits.true c.write_once.ensures.value c.write_once.ensures.out_after in record { value = t.0; out_after = t.1 }

pub returns-else-fits : goal.returns-else-fits
returns-else-fits c =
    let t = not-whole _ _ _ _ _ c.first_write.ensures.value _ c.first_write.ensures.out_unchanged _ c.in-Went.is
    _ c.fits.ensures c.if-fits.false in record { value = t.0; out_after = t.1 }
