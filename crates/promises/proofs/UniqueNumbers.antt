-- Two outcomes that the promise of a function on a number of any width allows are equal: each contract is an equation with a definition,
-- and what stands for one number is one value.
-- Assumes nothing.
use mathlib.Core.Path.{sym, ◌∙◌}
use mir.Syntax.{Dict, w8, w16, w32, w64}
use denote.Plain.{UInt}
use denote.RattleType.{RattleType}
use denote.Param.Laws.{Laws, IsCopy}
use Rattle.std.specs.declared.clone.Clone.{Ghosts as Clones}
use Rattle.wire.specs.declared.Number.{Ghosts as Numbers}
use Rattle.promises.specs.UniqueNumbers.{Apart, UniqueNumbers, UniqueReading, UniqueUnsigned, itself}

pub unique_numbers : (T : RattleType) (L : Laws T) (C : IsCopy T) (N : Numbers T.Denot) (d : Dict) (K : Clones T.Denot) (c : Dict)
    → UniqueNumbers T L C N d K c
unique_numbers T L C N d K c =
    record {
      number_at = λ k a z z' e e' p q. p ∙ sym q;
      whole_at = λ k a z z' e e' p q. p ∙ sym q;
      put_number_s = λ k a z z' e e' p q. p ∙ sym q;
      width = λ k a z z' e e' p q. p ∙ sym q;
      of_bytes = λ k a z z' e e' p q. p ∙ sym q;
      to_bytes = λ k a z z' e e' p q. p ∙ sym q;
      by_halves = λ k a z z' e e' p q. p ∙ sym q;
    }

pub unique_reading : (T : RattleType) (L : Laws T) (C : IsCopy T) (N : Numbers T.Denot) (d : Dict) (K : Clones T.Denot) (c : Dict)
    → Apart T L C N d K c → UniqueReading T L C N d K c
unique_reading T L C N d K c apart =
    record {
      number_at = λ k a z z' e e' p q. apart z z' (p ∙ sym q);
      whole_at = λ k a z z' e e' p q. apart z z' (p ∙ sym q);
      of_bytes = λ k a z z' e e' p q. apart z z' (p ∙ sym q);
      by_halves = λ k a z z' e e' p q. apart z z' (p ∙ sym q);
    }

pub unique_unsigned : UniqueUnsigned
unique_unsigned =
    record {
      u8 = λ L C d K c. unique_reading (UInt w8) L C (itself 0) d K c (λ x y e. e);
      u16 = λ L C d K c. unique_reading (UInt w16) L C (itself 1) d K c (λ x y e. e);
      u32 = λ L C d K c. unique_reading (UInt w32) L C (itself 2) d K c (λ x y e. e);
      u64 = λ L C d K c. unique_reading (UInt w64) L C (itself 3) d K c (λ x y e. e);
    }
