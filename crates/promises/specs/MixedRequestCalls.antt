-- 02, requests 1 and 8: request 1's calls (specs/RequestCalls), and among them those for partners of both issues, over the very definitions that
-- the contracts cite. Each call has a table of its own, any that `check` accepts, and each mixed one a set-up, timestamp, composite, services
-- of ours and words of services of its own. What is promised of any run of them is in specs/MixedRequestRuns.
use Prim.{Unit}
use Rattle.std.specs.Prelude.{Ok}
use Rattle.std.specs.Prelude.{ℕ, ◌^◌, ◌≤◌, ◌<◌, ◌≡◌, List, [], ◌∷◌, length}
use Rattle.table.specs.declared.Sections.{Sections}
use Rattle.types.specs.Table.{checked}
use Rattle.message3.specs.declared.Stamp.{Stamp}
use Rattle.platform.specs.declared.reactions.Standing.{Standing}
use Rattle.mixed.specs.declared.AnyAnswer.{AnyAnswer}
use Rattle.promises.specs.RequestCalls.{kind_in, RequestCall, Fair, Said, of_send, Shown, our_shows, our_leaves}
use Rattle.promises.specs.MixedSending.{ToSend, Asking, our_asking}
use Rattle.promises.specs.MixedResponses.{ToReceive, AnyReceiving, our_any_receiving}

-- a call of request 1's; a request in its target's issue: the timestamp, who speaks Issue 3, and the rest as in request 1; any bytes as a message
-- in its sender's issue
pub data AnyCall : Type 0 where
  plain : RequestCall → AnyCall
  send_any : (stamp : Stamp) (partners t : List ℕ) (s : Sections) (words : List ℕ) (id target : ℕ) (payload out : List ℕ) → AnyCall
  receive_any : (stamp : Stamp) (composite : ℕ) (partners ours t : List ℕ) (s : Sections) (services message out : List ℕ) → AnyCall

abbrev pub FairAny : AnyCall → Type 0
FairAny (plain c) = Fair c
FairAny (send_any stamp partners t s words id target payload out) =
    (checked t ≡ Ok s) × ((s.operations.count ≤ length words) × ((id < 2 ^ 32) × (target < 2 ^ 32)))
FairAny (receive_any stamp composite partners ours t s services message out) = checked t ≡ Ok s

abbrev pub AllFairAny : List AnyCall → Type 0
AllFairAny [] = Unit {0}
AllFairAny (c ∷ cs) = FairAny c × AllFairAny cs

-- what is seen of a call: its answer, what it leaves in the output and in the words of services, none where it is lent none, and the states
-- and the next own number after it
pub data SaidAny : Type 0 where
  as_before : Said → SaidAny
  of_any : AnyAnswer → SaidAny

pub record ShownAny : Type 0 where
  pub said : SaidAny
  pub output : List ℕ
  pub services : List ℕ
  pub standing : Standing

abbrev pub shown_any : SaidAny → List ℕ → List ℕ → Standing → ShownAny
shown_any a out services p = record { said = a; output = out; services = services; standing = p }

abbrev pub from_shown : Shown → ShownAny
from_shown x = shown_any (as_before x.said) x.output [] x.standing

-- what the calls are handed
abbrev pub asking : ℕ → Standing → List ℕ → Stamp → List ℕ → ℕ → ℕ → ℕ → List ℕ → List ℕ → ToSend
asking own p l stamp partners kind id target payload out =
    record {
      own = own;
      stamp = stamp;
      partners = partners;
      next = p.next;
      list = l;
      kind = kind;
      id = id;
      target = target;
      payload = payload;
      out = out;
    }

abbrev pub arriving : ℕ → Stamp → ℕ → List ℕ → List ℕ → List ℕ → List ℕ → List ℕ → List ℕ → ToReceive
arriving own stamp composite partners ours t services message out =
    record {
      own = own;
      stamp = stamp;
      composite = composite;
      partners = partners;
      ours = ours;
      table = t;
      services = services;
      bytes = message;
      out = out;
    }

-- what is seen of sending and receiving so, by a program, ours or any other
abbrev pub shown_sent : Asking → Standing → ToSend → ShownAny
shown_sent P p x =
    shown_any (as_before (of_send (P.answers x).answer)) (P.outputs x) [] (record { states = p.states; next = (P.answers x).next })

abbrev pub shown_received : AnyReceiving → Standing → List ℕ → ToReceive → ShownAny
shown_received R p l x = shown_any (of_any (R.outcome x p l).answer) (R.output x p l) (R.kept x p l) (R.outcome x p l).standing

-- a program that keeps requests in a list: what is seen of a call, and the list after it
pub record AnyListing : Type 0 where
  pub shows : ℕ → Standing → List ℕ → AnyCall → ShownAny
  pub leaves : ℕ → Standing → List ℕ → AnyCall → List ℕ

abbrev pub shows_of : Asking → AnyReceiving → ℕ → Standing → List ℕ → AnyCall → ShownAny
shows_of P R own p l (plain c) = from_shown (our_shows own p l c)
shows_of P R own p l (send_any stamp partners t s words id target payload out) =
    shown_sent P p (asking own p l stamp partners (kind_in t s words id) id target payload out)
shows_of P R own p l (receive_any stamp composite partners ours t s services message out) =
    shown_received R p l (arriving own stamp composite partners ours t services message out)

abbrev pub leaves_of : Asking → AnyReceiving → ℕ → Standing → List ℕ → AnyCall → List ℕ
leaves_of P R own p l (plain c) = our_leaves own p l c
leaves_of P R own p l (send_any stamp partners t s words id target payload out) =
    P.lists (asking own p l stamp partners (kind_in t s words id) id target payload out)
leaves_of P R own p l (receive_any stamp composite partners ours t s services message out) =
    R.list (arriving own stamp composite partners ours t services message out) p l

abbrev pub listing_of : Asking → AnyReceiving → AnyListing
listing_of P R = record { shows = shows_of P R; leaves = leaves_of P R }

abbrev pub our_any_shows : ℕ → Standing → List ℕ → AnyCall → ShownAny
our_any_shows = shows_of our_asking our_any_receiving

abbrev pub our_any_leaves : ℕ → Standing → List ℕ → AnyCall → List ℕ
our_any_leaves = leaves_of our_asking our_any_receiving

abbrev pub our_any_listing : AnyListing
our_any_listing = listing_of our_asking our_any_receiving

-- over any calls
abbrev pub shows_all_any : AnyListing → ℕ → Standing → List ℕ → List AnyCall → List ShownAny
shows_all_any X own p l [] = []
shows_all_any X own p l (c ∷ cs) = X.shows own p l c ∷ shows_all_any X own (X.shows own p l c).standing (X.leaves own p l c) cs

abbrev pub leaves_all_any : AnyListing → ℕ → Standing → List ℕ → List AnyCall → List ℕ
leaves_all_any X own p l [] = l
leaves_all_any X own p l (c ∷ cs) = leaves_all_any X own (X.shows own p l c).standing (X.leaves own p l c) cs
