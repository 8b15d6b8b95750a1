-- Demand 2.
-- Assumes nothing.
use Rattle.promises.specs.Demand2.{Demand2}
use Rattle.promises.proofs.Headers.{written_then_read, read_then_written, each_message, header_then_read, header_read_then_written}
use Rattle.promises.proofs.CutAndJoined.{cut_and_joined}
use Rattle.promises.proofs.Payloads.{payloads}
use Rattle.promises.proofs.Platforms.{replies}

pub demand_2 : Demand2
demand_2 =
    record {
      written_then_read = written_then_read;
      read_then_written = read_then_written;
      each_message = each_message;
      header_then_read = header_then_read;
      header_read_then_written = header_read_then_written;
      cut_and_joined = cut_and_joined;
      payloads = payloads;
      replies = replies;
    }
