-- Two outcomes that the promise of a function of services or set-up allows are equal: each contract is an equation with a definition.
-- Assumes nothing.
use mathlib.Core.Path.{sym, ◌∙◌}
use Rattle.promises.specs.UniqueServices.{ServicesUnique, PartnersUnique, UniqueServices}

services : ServicesUnique
services =
    record {
      note = λ k a z z' e e' p q. p.0 ∙ sym q.0;
      note_block = λ k a z z' e e' p q. p.1 ∙ sym q.1;
      state = λ k a z z' e e' p q. p ∙ sym q;
      mark_block = λ k a z z' e e' p q. p ∙ sym q;
    }

partners : PartnersUnique
partners =
    record {
      is-three = λ k a z z' e e' p q. p ∙ sym q;
      set_words = λ k a z z' e e' p q. p ∙ sym q;
      before = λ k a z z' e e' p q. p ∙ sym q;
      block_start = λ k a z z' e e' p q. p ∙ sym q;
    }

pub unique_services : UniqueServices
unique_services = record { services = services; partners = partners }
