-- `message::put_header` meets its contract: its seven fields, one behind the other, or nothing.
-- Assumes nothing.
use Rattle.message.proofs.Written.{header_laid, header_too_long}
use Rattle.message.proofs.writer.put_header.Goals as goal

pub returns-then-out-ge-LENGTH : goal.returns-then-out-ge-LENGTH
returns-then-out-ge-LENGTH c =
    header_laid c.args.out.now c.args.header c.if-out-ge-LENGTH.true
    c.put_number.ensures c.put_number-then-out-ge-LENGTH.ensures c.put_number-then-out-ge-LENGTH-2.ensures c.put_number-then-out-ge-LENGTH-3.ensures
    c.put_number-then-out-ge-LENGTH-4.ensures c.put_number-then-out-ge-LENGTH-5.ensures c.put_number-then-out-ge-LENGTH-6.ensures

pub returns-else-out-ge-LENGTH : goal.returns-else-out-ge-LENGTH
returns-else-out-ge-LENGTH c =
    search header_too_long
