-- Two outcomes that the promise of a function on leaves allows are equal: each contract is an equation with a definition.
-- Assumes nothing.
use Prim.Native.Nat.{ℕ}
use mathlib.Core.Path.{◌≡◌, sym, ap₂, ◌∙◌}
use Rattle.unpack_leaves.specs.declared.by_codes.Passed.{Passed}
use Rattle.pack_leaves.specs.declared.by_codes.Passed.{Passed as PassedWords}
use Rattle.promises.specs.UniqueLeaves.{UnpackLeavesUnique, PackLeavesUnique, UniqueLeaves}

-- how many leaves, and where they end; how many words, and how many bytes they are
same_passed : (z z' : Passed) → z.count ≡ z'.count → z.from ≡ z'.from → z ≡ z'
same_passed z z' h g = ap₂ (λ (n m : ℕ). record { count = n; from = m }) h g

same_words : (z z' : PassedWords) → z.count ≡ z'.count → z.bytes ≡ z'.bytes → z ≡ z'
same_words z z' h g = ap₂ (λ (n m : ℕ). record { count = n; bytes = m }) h g

unpack : UnpackLeavesUnique
unpack =
    record {
      word_at = λ k a z z' e e' p q. p ∙ sym q;
      judge-run = λ k a z z' e e' p q. p ∙ sym q;
      store_run_words = λ k a z z' e e' p q. p ∙ sym q;
      are-among = λ k a z z' e e' p q. p ∙ sym q;
      judge-codes = λ k a z z' e e' p q. same_passed z z' (p.0 ∙ sym q.0) (p.1 ∙ sym q.1);
      store_codes_words = λ k a z z' e e' p q. p ∙ sym q;
    }

pack : PackLeavesUnique
pack =
    record {
      store_run_out = λ k a z z' e e' p q. p ∙ sym q;
      store_leaves_out = λ k a z z' e e' p q. p ∙ sym q;
      judge-codes = λ k a z z' e e' p q. same_words z z' (p.0 ∙ sym q.0) (p.1 ∙ sym q.1);
    }

pub unique_leaves : UniqueLeaves
unique_leaves = record { unpack = unpack; pack = pack }
