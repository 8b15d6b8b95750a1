-- 02, requests 1 and 8: what a mixed call does with the list of pending requests is a turn of request 1's, or nothing. "Over any calls the list
-- answers as a plain map does" is said of any such turns (`Requests.as_map`, `.map_runs`, `.kempt`), and of any calls in specs/MixedRequestRuns. The
-- theorem is in proofs/MixedTurns.antt.
use Rattle.std.specs.Prelude.{ℕ, ◌≡◌, true, false, List}
use Rattle.std.specs.Prelude.{Ok}
use Rattle.table.specs.declared.Sections.{Sections}
use Rattle.types.specs.Table.{checked}
use Rattle.pending.specs.Turns.{Told, whether, request, arrival, list_after, list_tells}
use Rattle.requests.specs.Sending.{left_over_by}
use Rattle.platform.specs.declared.reactions.Standing.{Standing}
use Rattle.mixed.specs.declared.AnyReceived.{AnyReceived}
use Rattle.mixed.specs.Receiving.{refused_any}
use Rattle.promises.specs.MixedSending.{ToSend, our_asking}
use Rattle.promises.specs.MixedResponses.{ToReceive, our_any_receiving, AnyHeader, id_of, number_of, sender_of, response_as}

-- what a message under an ID of kind 2 is answered, by what the list tells of its turn
pub data AnsweredBy (p : Standing) (h : AnyHeader) (i len : ℕ) : Told → AnyReceived → Type 0 where
  delivered : AnsweredBy p h i len (whether true) (record { standing = p; answer = response_as h i len })
  not-awaited : AnsweredBy p h i len (whether false) (refused_any p 61)

-- a mixed receive: an arrival, in either issue, or nothing, and then its answer asks for no list
pub data ReceiveTurn (x : ToReceive) (p : Standing) (l : List ℕ) : Type 0 where
  arrives : (h : AnyHeader) (i len : ℕ) → our_any_receiving.list x p l ≡ list_after l (arrival (number_of h) (id_of h) (sender_of h))
      → AnsweredBy p h i len (list_tells l (arrival (number_of h) (id_of h) (sender_of h))) (our_any_receiving.outcome x p l) → ReceiveTurn x p l
  passes : our_any_receiving.list x p l ≡ l → ((k : List ℕ) → our_any_receiving.outcome x p l ≡ our_any_receiving.outcome x p k) → ReceiveTurn x p l

-- Ruled out: a response of Issue 3 that is matched otherwise than one of Issue 6, or leaves its place taken; a list for each issue.
pub record MixedTurns : Type 0 where
  -- a mixed send: the request's turn where it is sent, nothing where it is refused
  pub sends : (x : ToSend) → our_asking.lists x ≡ left_over_by (our_asking.answers x).answer x.list (list_after x.list (request x.next x.id x.target))
  pub receives : (x : ToReceive) (s : Sections) (p : Standing) (l : List ℕ) → checked x.table ≡ Ok s → ReceiveTurn x p l
