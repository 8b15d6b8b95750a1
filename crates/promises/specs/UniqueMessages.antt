-- 01, "What the promises have to say": two outcomes that one promise allows are equal, for `joiner::message`, over its very contract: for every
-- type of what may refuse. The theorem is in proofs/UniqueMessages.antt.
use mir.Syntax.{Dict}
use denote.RattleType.{RattleType}
use denote.Param.Laws.{Laws, IsCopy}
use Rattle.std.specs.declared.clone.Clone.{Ghosts as Clones}
use Rattle.joiner.proofs.message.Reads.{Post as joiner-message}
use Rattle.promises.specs.Unique.{Same}

module _ (E : RattleType) (L : Laws E) (C : IsCopy E) (K : Clones E.Denot) (d : Dict) where
  pub record UniqueMessages : Type 0 where
    pub message : Same (joiner-message E L C K d) (λ k z e. z.now)
