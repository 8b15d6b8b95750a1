-- `leaf::other_whole` meets its contract: the value's bytes as they lie, beside the word's that are turned.
-- Assumes nothing.
use Rattle.wire.specs.Bytes.{Octets}
use Rattle.leaf.proofs.Returns.{compared-lying}
use Rattle.leaf.proofs.words.other_whole.Goals as goal

pub returns : goal.returns
returns c =
    let a = c.args in
    let o : Octets a.table.now = λ i. (c.type_inv.table i).fits in
    search compared-lying
