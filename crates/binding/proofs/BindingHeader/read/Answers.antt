-- `binding::BindingHeader::read` meets its contract: 21, then 22, then the header.
-- Assumes nothing.
use native.Mathlib.Omega.{arith}
use Rattle.wire.specs.Bytes.{Octets}
use Rattle.binding.proofs.Reading.{a-header, no-version, not-so-long}
use Rattle.binding.proofs.BindingHeader.read.Goals as goal

pub returns-then-word : goal.returns-then-word
returns-then-word c =
    let o : Octets c.args.datagram.now = λ i. omega
    (arith, c.type_inv.datagram i) in search a-header

pub returns-else-word : goal.returns-else-word
returns-else-word c =
    let o : Octets c.args.datagram.now = λ i. omega
    (arith, c.type_inv.datagram i) in search no-version

pub returns-else-length : goal.returns-else-length
returns-else-length c =
    search not-so-long
