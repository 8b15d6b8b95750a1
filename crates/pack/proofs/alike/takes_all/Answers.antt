-- `pack::alike::takes_all` meets its contract.
-- Assumes nothing.
use mathlib.Core.Path.{refl, sym}
use mathlib.Core.Bool.{true≢false}
use Rattle.pack.proofs.AlikeLeaves.{base-chosen, enum-chosen}
use Rattle.pack.proofs.alike.takes_all.Goals as goal

pub returns-then-room-gt0 : goal.returns-then-room-gt0
returns-then-room-gt0 c t = c.requires.1 c.if-room-gt0.true

pub returns-then-e-eq-ENUM : goal.returns-then-e-eq-ENUM
returns-then-e-eq-ENUM c t =
    let start = c.args in
    enum-chosen start.words.now start.table.now start.s start.e start.from start.many (c.judged.ensures c.if-judged.true)
    _ c.if-e-eq-ENUM.true refl (c.are_among.ensures t)

pub returns-else-e-eq-ENUM : goal.returns-else-e-eq-ENUM
returns-else-e-eq-ENUM c t =
    let start = c.args in
    base-chosen start.words.now start.table.now start.s start.e start.from start.many (c.judged.ensures c.if-judged.true) c.if-e-eq-ENUM.false

pub returns-else-judged : goal.returns-else-judged
returns-else-judged c t = absurd (true≢false (sym t))
