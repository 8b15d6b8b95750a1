-- `unpack::begin` meets its contract: nothing before a fixed array, and the three ends of a count.
-- Assumes nothing.
use Rattle.walk.proofs.Returns.{fixed-begun}
use Rattle.unpack.proofs.ReadReturns.{count-short, count-over, count-went}
use Rattle.unpack.proofs.walking.begin.Goals as goal

pub returns-then-e-eq-FIXED : goal.returns-then-e-eq-FIXED
returns-then-e-eq-FIXED c =
    let t = fixed-begun _ _ _ _ c.if-e-eq-FIXED.true in record { value = t.0; words_after = t.1 }

pub returns-then-count-e : goal.returns-then-count-e
returns-then-count-e c =
    let t = count-went c.args.e _ c.args.p _ c.if-e-eq-FIXED.false _ c.has_room.ensures c.if-has_room.true _
    c.number_at-count.ensures _ c.if-count-e.true c.number_at-count.type_inv c.put_word.ensures in record { value = t.0; words_after = t.1 }

pub returns-else-count-e : goal.returns-else-count-e
returns-else-count-e c =
    let t = count-over c.args.e _ c.args.p _ c.if-e-eq-FIXED.false _ c.has_room.ensures c.if-has_room.true _
    c.number_at-count.ensures c.if-count-e.false in record { value = t.0; words_after = t.1 }

pub returns-else-has_room : goal.returns-else-has_room
returns-else-has_room c =
    let t = count-short c.args.e _ c.args.p _ c.if-e-eq-FIXED.false _ c.has_room.ensures c.if-has_room.false in record { value = t.0; words_after = t.1 }
