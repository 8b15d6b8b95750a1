-- `pack::begin` meets its contract: nothing before a fixed array, and the three ends of a count.
-- Assumes nothing.
use native.Mathlib.Omega.{arith}
use Rattle.walk.proofs.Returns.{fixed-begun}
use Rattle.pack.proofs.WriteReturns.{count-short, count-over, count-went, next_from, next_to}
use Rattle.pack.proofs.walking.begin.Goals as goal

pub returns-then-e-eq-FIXED : goal.returns-then-e-eq-FIXED
returns-then-e-eq-FIXED c =
    let t = fixed-begun _ _ _ _ c.if-e-eq-FIXED.true in record { value = t.0; out_after = t.1 }

pub overflow_add-result : goal.overflow_add-result
overflow_add-result c =
    next_from _ _ c.if-p-words.true c.well_formed.0.1

pub overflow_add-result-then-count-e : goal.overflow_add-result-then-count-e
overflow_add-result-then-count-e c =
    next_to _ _ 4 c.requires (omega arith) c.if-p-words.true c.well_formed.0.1

pub returns-then-count-e : goal.returns-then-count-e
returns-then-count-e c =
    let t = count-went c.args.e _ c.args.p _ c.if-e-eq-FIXED.false c.if-p-words.true _ c.word_at-count.ensures _
    c.if-count-e.true (omega arith) c.put.ensures in record { value = t.0; out_after = t.1 }

pub returns-else-count-e : goal.returns-else-count-e
returns-else-count-e c =
    let t = count-over c.args.e _ c.args.p _ c.if-e-eq-FIXED.false c.if-p-words.true _ c.word_at-count.ensures c.if-count-e.false in record { value = t.0; out_after = t.1 }

pub returns-else-p-words : goal.returns-else-p-words
returns-else-p-words c =
    let t = count-short c.args.e _ c.args.p _ c.if-e-eq-FIXED.false c.if-p-words.false in record { value = t.0; out_after = t.1 }
