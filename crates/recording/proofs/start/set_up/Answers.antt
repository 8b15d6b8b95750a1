-- `recording::set_up` hands on the IDs that were read.
-- Assumes nothing.
use Rattle.recording.proofs.Starting.{ids_count}
use Rattle.recording.proofs.start.set_up.Goals as goal

pub slice_bounds-setup-end : goal.slice_bounds-setup-end
slice_bounds-setup-end c =
    search ids_count
