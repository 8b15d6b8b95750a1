-- Two outcomes that the promise of `joiner::message` allows are equal: its contract is an equation with a definition.
-- Assumes nothing.
use mathlib.Core.Path.{sym, ◌∙◌}
use mir.Syntax.{Dict}
use denote.RattleType.{RattleType}
use denote.Param.Laws.{Laws, IsCopy}
use Rattle.std.specs.declared.clone.Clone.{Ghosts as Clones}
use Rattle.promises.specs.UniqueMessages.{UniqueMessages}

pub unique_messages : (E : RattleType) (L : Laws E) (C : IsCopy E) (K : Clones E.Denot) (d : Dict) → UniqueMessages E L C K d
unique_messages E L C K d = record { message = λ k a z z' e e' p q. p ∙ sym q }
