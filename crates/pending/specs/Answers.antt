-- 02, request 1: what is pending under a number; a request given up; a message that is the response, or is not.
use Rattle.std.specs.Prelude.{ℕ, Bool, false, cond, ◌&&◌, List, ◌==◌}
use Rattle.std.specs.Prelude.{Option, Some, None}
use Rattle.pending.specs.Places.{pending_id_at, target_at, place_of, cleared}

abbrev pub asked_at : List ℕ → Option ℕ → Option (ℕ × ℕ)
asked_at l (Some k) = Some (pending_id_at l k, target_at l k)
asked_at l None = None

abbrev pub awaited_of : List ℕ → ℕ → Option (ℕ × ℕ)
awaited_of l n = asked_at l (place_of l n)

-- "A cancel by number frees a lost one's place": a number that is not pending changes nothing
abbrev pub cleared_at : List ℕ → Option ℕ → List ℕ
cleared_at l (Some k) = cleared l k
cleared_at l None = l

abbrev pub cancelled : List ℕ → ℕ → List ℕ
cancelled l n = cleared_at l (place_of l n)

-- "A domain 1 message with that ID, number and sender is the response": place k asked the operation id of the platform target
abbrev pub bears : List ℕ → ℕ → ℕ → ℕ → Bool
bears l k id target = pending_id_at l k == id && target_at l k == target

abbrev pub bears_at : List ℕ → Option ℕ → ℕ → ℕ → Bool
bears_at l (Some k) id target = bears l k id target
bears_at l None id target = false

abbrev pub is_response : List ℕ → ℕ → ℕ → ℕ → Bool
is_response l n id sender = bears_at l (place_of l n) id sender

-- the response frees its request's place, and any other message none
abbrev pub responded : List ℕ → ℕ → ℕ → ℕ → List ℕ
responded l n id sender = cond (is_response l n id sender) (cancelled l n) l
