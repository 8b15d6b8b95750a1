-- Two outcomes that the promise of a function of `operations` allows are equal.
-- Assumes nothing.
use mathlib.Core.Path.{sym, ◌∙◌}
use Rattle.promises.specs.UniqueOperations.{UniqueOperations}

pub unique_operations : UniqueOperations
unique_operations =
    record {
      width-at = λ k a z z' e e' p q. p ∙ sym q;
      end = λ k a z z' e e' p q. p ∙ sym q;
      kind_at = λ k a z z' e e' p q. p ∙ sym q;
      operation-at = λ k a z z' e e' p q. p ∙ sym q;
      are-good = λ k a z z' e e' p q. p ∙ sym q;
      has-data = λ k a z z' e e' p q. p ∙ sym q;
      lay_index_words = λ k a z z' e e' p q. p ∙ sym q;
      find = λ k a z z' e e' p q. p ∙ sym q;
    }
