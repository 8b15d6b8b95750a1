-- `joiner::take` meets its contract: what was judged; the record of the channel that moved, its piece and the answer.
-- Assumes nothing.
use mathlib.Core.Path.{refl}
use Rattle.joiner.proofs.Calling.{refused_all, moved_all}
use Rattle.joiner.proofs.words.take.Goals as goal

pub returns-in-Err : goal.returns-in-Err
returns-in-Err c =
    let t = let ws = c.args.state.now in
    let rooms = c.args.rooms.now in
    let d = c.args.datagram.now in
    let out = c.args.answer.now in
    refused_all ws rooms d refl c.read-heading.ensures c.sender_of.ensures c.look-found.ensures c.judge.ensures
    _ c.in-Err.is out c.number.ensures.value in record { value = t.0; state_after = t.1.0; rooms_after = t.1.1.0; answer_after = t.1.1.1 }

pub returns-in-Ok : goal.returns-in-Ok
returns-in-Ok c =
    let t = let ws = c.args.state.now in
    let rooms = c.args.rooms.now in
    let d = c.args.datagram.now in
    let out = c.args.answer.now in
    moved_all ws rooms d refl c.read-heading.ensures c.sender_of.ensures c.look-found.ensures c.judge.ensures
    _ _ c.in-Ok.is out c.put_record.ensures c.write_piece.ensures c.put_outcome.ensures in
    record { value = t.0; state_after = t.1.0; rooms_after = t.1.1.0; answer_after = t.1.1.1 }
