-- `binding::cut` meets its contract: 50, then 51, then the datagram or 52.
-- Assumes nothing.
use Rattle.binding.proofs.Cuts.{cut_in, here, header-in, sender_fits, size_in, cut-starts, cut-start-fits, counter_fits}
use Rattle.binding.proofs.Cuts.{answer-50, output-50, answer-51, output-51, answer-made, output-made}
use Rattle.binding.proofs.cutter.cut.Goals as goal

pub has_piece-requires : goal.has_piece-requires
has_piece-requires c =
    search cut_in

pub part_of_piece-part-requires : goal.part_of_piece-part-requires
part_of_piece-part-requires c =
    (search cut_in, here _ _ c.has_piece.ensures c.if-has_piece.true)

pub overflow_add-counter : goal.overflow_add-counter
overflow_add-counter c =
    search counter_fits

pub overflow_cast-sender : goal.overflow_cast-sender
overflow_cast-sender c =
    search sender_fits

pub overflow_mul-piece : goal.overflow_mul-piece
overflow_mul-piece c =
    search cut-start-fits

pub put_datagram-requires-clause-sender_lt_senders : goal.put_datagram-requires-clause-sender_lt_senders
put_datagram-requires-clause-sender_lt_senders c =
    search header-in

pub put_datagram-requires-clause-start_in_bounds : goal.put_datagram-requires-clause-start_in_bounds
put_datagram-requires-clause-start_in_bounds c =
    cut-starts _ _ c.args.sender c.args.first c.can_cut.ensures c.can_head.ensures
    c.if-can_cut-can_head.true _ c.has_piece.ensures c.if-has_piece.true

pub put_datagram-requires-clause-size_le_largest_piece : goal.put_datagram-requires-clause-size_le_largest_piece
put_datagram-requires-clause-size_le_largest_piece c =
    search size_in

pub returns-then-has_piece-clause-answer : goal.returns-then-has_piece-clause-answer
returns-then-has_piece-clause-answer c =
    search answer-made

pub returns-then-has_piece-clause-output : goal.returns-then-has_piece-clause-output
returns-then-has_piece-clause-output c =
    search output-made

pub returns-else-has_piece-clause-answer : goal.returns-else-has_piece-clause-answer
returns-else-has_piece-clause-answer c =
    search answer-51

pub returns-else-has_piece-clause-output : goal.returns-else-has_piece-clause-output
returns-else-has_piece-clause-output c =
    search output-51

pub returns-else-can_cut-can_head-clause-answer : goal.returns-else-can_cut-can_head-clause-answer
returns-else-can_cut-can_head-clause-answer c =
    search answer-50

pub returns-else-can_cut-can_head-clause-output : goal.returns-else-can_cut-can_head-clause-output
returns-else-can_cut-can_head-clause-output c =
    search output-50
