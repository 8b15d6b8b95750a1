-- The message that is worked out in bytes, written and read. Halves of byte 2 or parts of the timestamp that are swapped in reading
-- and writing alike keep every round trip, and are seen here.
-- Assumes nothing.
use Prim.Native.Nat.{ℕ}
use mathlib.Core.Path.{◌≡◌, refl, ap}
use mathlib.Core.List.{◌++◌}
use native.Mathlib.Omega.{arith}
use Rattle.wire.specs.Bytes.{bytes}
use Rattle.message.specs.declared.Status.TheVariants.{Up}
use Rattle.message3.specs.declared.Header3.{Header3}
use Rattle.message3.specs.declared.Stamp.{Stamp}
use Rattle.message3.specs.declared.Message3.TheVariants.{PlatformStatus}
use Rattle.message3.specs.declared.Reading3.TheVariants.{Read}
use Rattle.message3.specs.Reading.{answered3, read_out3, read_of3}
use Rattle.message3.specs.Writing.{message_bytes3}
use Rattle.message3.specs.Worked.{worked_status}
use Rattle.message3.proofs.Accepted.{accepts}

abbrev pub its_stamp : Stamp
its_stamp = record { seconds = 5; nanoseconds = 6 }

abbrev pub its_header : Header3
its_header = record { domain = 0; platform = 7; id = 1; seconds = 5; nanoseconds = 6; payload_size = 8; sequence = 9 }

pub worked_bytes : message_bytes3 7 its_stamp 0 1 9 (bytes 2 1 ++ bytes 2 0x11223344) ≡ worked_status
worked_bytes = refl

pub worked_read : (own : ℕ) → (7 ≡ own → ⊥) → read_of3 own worked_status ≡ Read its_header (PlatformStatus Up 0x11223344) 24 8
worked_read own h =
    ap (λ (n : ℕ). answered3 n (read_out3 worked_status))
    (accepts own worked_status (record {
      long = omega arith;
      mark = refl;
      version = refl;
      domain = omega arith;
      size = refl;
      other = h;
      contents = refl;
    }))
