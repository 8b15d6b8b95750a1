-- `pack::write_leaf` meets its contract: the three ends of an item.
-- Assumes nothing.
use borrow.Author.Rules.{rules}
use Rattle.walk.proofs.Walks.{width_few}
use Rattle.pack.proofs.WriteReturns.{leaf-short, leaf-bad, leaf-went, next_from, next_to}
use Rattle.pack.proofs.Sure.{leaf-sure}
use Rattle.pack.proofs.walking.write_leaf.Goals as goal

pub is_taken-requires : goal.is_taken-requires
is_taken-requires c h = leaf-sure _ _ _ _ _ _ (c.requires.1 h) _ c.word_at-word.ensures

pub overflow_add-result : goal.overflow_add-result
overflow_add-result c = next_from _ _ c.if-p-words.true (search rules)

pub overflow_add-result-then-is_taken : goal.overflow_add-result-then-is_taken
overflow_add-result-then-is_taken c =
    next_to _ _ _ c.requires.0 (width_few _ _ c.width-width.ensures) c.if-p-words.true (search rules)

pub returns-then-is_taken : goal.returns-then-is_taken
returns-then-is_taken c =
    let t = leaf-went _ _ _ _ _ _ c.if-p-words.true _ c.word_at-word.ensures _ c.is_taken.ensures _ _ c.if-is_taken.true
    c.width-width.ensures c.put.ensures in
    record { value = t.0; out_after = t.1 }

pub returns-else-is_taken : goal.returns-else-is_taken
returns-else-is_taken c =
    let start = c.args in
    let t = leaf-bad _ _ _ _ start.p start.out.now c.if-p-words.true _ c.word_at-word.ensures _ c.is_taken.ensures c.if-is_taken.false in
    record { value = t.0; out_after = t.1 }

pub returns-else-p-words : goal.returns-else-p-words
returns-else-p-words c =
    let start = c.args in
    let t = leaf-short start.table.now start.s start.e start.words.now start.p start.out.now c.if-p-words.false in
    record { value = t.0; out_after = t.1 }
