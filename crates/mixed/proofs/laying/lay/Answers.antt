-- `mixed::laying::lay` meets its contract: each deed has its bytes.
-- Assumes nothing.
use Rattle.mixed.proofs.Rooms.{need-one, need-start-up, need-few, need-room, need-one-told, lay-one, lay-start-up, lay-all, lay-one-told, lay-none}
use Rattle.mixed.proofs.laying.lay.Goals as goal

pub put_reply-requires : goal.put_reply-requires
put_reply-requires c =
    search need-one

pub put_start_up-requires : goal.put_start_up-requires
put_start_up-requires c =
    search need-start-up

pub tell_all-requires-clause-ours_len_bound : goal.tell_all-requires-clause-ours_len_bound
tell_all-requires-clause-ours_len_bound c =
    search need-few

pub tell_all-requires-clause-ours_in_bounds : goal.tell_all-requires-clause-ours_in_bounds
tell_all-requires-clause-ours_in_bounds c =
    search need-room

pub tell_one-requires : goal.tell_one-requires
tell_one-requires c =
    search need-one-told

pub returns-in-One : goal.returns-in-One
returns-in-One c =
    search lay-one

pub returns-in-StartUp : goal.returns-in-StartUp
returns-in-StartUp c =
    search lay-start-up

pub returns-in-TellAll : goal.returns-in-TellAll
returns-in-TellAll c =
    search lay-all

pub returns-in-TellOne : goal.returns-in-TellOne
returns-in-TellOne c =
    search lay-one-told

pub returns-in_default : goal.returns-in_default
returns-in_default c =
    search lay-none
