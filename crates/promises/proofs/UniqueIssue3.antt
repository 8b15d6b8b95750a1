-- Two outcomes that the promise of a function of Issue 3's messages allows are equal: each contract is an equation with a definition.
-- Assumes nothing.
use mathlib.Core.Path.{sym, ◌∙◌}
use Rattle.promises.specs.UniqueIssue3.{UniqueIssue3}

pub unique_issue3 : UniqueIssue3
unique_issue3 =
    record {
      status-of = λ k a z z' e e' p q. p ∙ sym q;
      new = λ k a z z' e e' p q. p ∙ sym q;
      read = λ k a z z' e e' p q. p ∙ sym q;
      payload = λ k a z z' e e' p q. p ∙ sym q;
      write = λ k a z z' e e' p q. p.0 ∙ sym q.0;
      write_out = λ k a z z' e e' p q. p.1 ∙ sym q.1;
    }
