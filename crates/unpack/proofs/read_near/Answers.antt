-- `unpack::read_near` meets its contract: what was written in the near room is what the second walk would write.
-- Assumes nothing.
use borrow.Author.Rules.{rules}
use mathlib.Core.Path.{refl}
use Rattle.unpack.proofs.NearWords.{copied, near-refused, near-over, near_again, near-copied}
use Rattle.unpack.proofs.read_near.Goals as goal

pub returns-in-Stopped : goal.returns-in-Stopped
returns-in-Stopped c =
    let t = near-refused _ _ _ _ _ _ c.read_once.ensures.value _ _ c.in-Stopped.is in record { value = t.0; words_after = t.1 }

pub returns-then-count-near : goal.returns-then-count-near
returns-then-count-near c =
    let t = near-copied _ _ _ _ _ _ c.read_once.ensures.value _ c.in-Went.is _ c.fits.ensures _ _ _ c.if-fits.true refl
    (search rules) c.read_once.ensures.words_after (copied _ _ _ _ (search rules) c.copy_from_slice.ensures.after) in record { value = t.0; words_after = t.1 }

pub returns-else-count-near : goal.returns-else-count-near
returns-else-count-near c =
    let t = near_again _ _ _ _ _ _ c.read_once.ensures.value _ c.in-Went.is _ c.fits.ensures _ _ c.if-fits.true
    c.read_once-else-count-near.ensures.value c.read_once-else-count-near.ensures.words_after in record { value = t.0; words_after = t.1 }

pub returns-else-fits : goal.returns-else-fits
returns-else-fits c =
    let t = near-over _ _ _ _ _ _ c.read_once.ensures.value _ c.in-Went.is _ c.fits.ensures c.if-fits.false in record { value = t.0; words_after = t.1 }
