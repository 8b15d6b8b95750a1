-- `unpack::read_leaf` meets its contract: the three ends of an item.
-- Assumes nothing.
use Rattle.unpack.proofs.ReadReturns.{leaf-short, leaf-bad, leaf-went}
use Rattle.unpack.proofs.walking.read_leaf.Goals as goal

pub returns-then-takes : goal.returns-then-takes
returns-then-takes c =
    let t = leaf-went _ _ _ _ _ _ _ _ c.width-width.ensures c.has_room.ensures c.if-has_room.true _
    c.word_at-word.ensures _ c.takes.ensures _ c.if-takes.true c.put_word.ensures in record { value = t.0; words_after = t.1 }

pub returns-else-takes : goal.returns-else-takes
returns-else-takes c =
    let t = leaf-bad _ _ _ _ _ _ _ _ c.width-width.ensures c.has_room.ensures c.if-has_room.true _
    c.word_at-word.ensures _ c.takes.ensures c.if-takes.false in record { value = t.0; words_after = t.1 }

pub returns-else-has_room : goal.returns-else-has_room
returns-else-has_room c =
    let t = leaf-short _ _ _ _ _ _ _ _ c.width-width.ensures c.has_room.ensures c.if-has_room.false in record { value = t.0; words_after = t.1 }
