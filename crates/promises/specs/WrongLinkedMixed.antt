-- 02, request 8: calls that keep services wrongly (specs/WrongMixed), in words, and asked for by `nyr_service` afterwards: none of them meets
-- what specs/LinkedMixed says of every call. The theorems are in proofs/WrongLinkedMixed.antt.
use Rattle.std.specs.Prelude.{length}
use Rattle.platform_words.specs.Words.{standing_in, pending_in}
use Rattle.promises.specs.MixedServices.{KeepingCall}
use Rattle.promises.specs.WrongMixed.{call_by, dropping, noting_some, first_wins, one_block, marking_all, forgetting}
use Rattle.promises.specs.LinkedMixed.{MixedLent, ServicesAfter}

-- whatever such a call is handed, what `nyr_service` tells after it is as it should be
abbrev pub TellsRightly : KeepingCall → Type 0
TellsRightly X =
    (c : MixedLent) → ServicesAfter c
    (X.number c.table c.own c.partners c.ours (standing_in c.platform) (pending_in c.platform) c.services c.message
    (length c.output))
    (X.after c.table c.own c.partners c.ours (standing_in c.platform) c.services c.message (length c.output))

pub record NoWrongLinkedMixed : Type 0 where
  -- the 257th dropped and the rest noted: 0 is told of a service of a status that was not refused
  pub drops : ¬ (TellsRightly (call_by dropping))
  -- 63 with some pairs noted: 2 is told of a service of a status that was refused
  pub notes_some : ¬ (TellsRightly (call_by noting_some))
  pub first-wins : ¬ (TellsRightly (call_by first_wins))
  -- another platform's services touched: by a status, and by DOWN
  pub one-block : ¬ (TellsRightly (call_by one_block))
  pub marks_all : ¬ (TellsRightly (call_by marking_all))
  -- services forgotten at DOWN: 0 is told of a service that was known
  pub forgets : ¬ (TellsRightly (call_by forgetting))
