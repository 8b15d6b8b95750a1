-- Over any calls the list shows what the plain map shows, and stays like it.
-- Assumes nothing.
use Prim.Native.Nat.{ℕ, zero, suc, ◌^◌, ◌<◌}
use mathlib.Core.Path.{◌≡◌, refl, ap, ◌∙◌}
use mathlib.Core.List.{List, [], ◌∷◌, ◌++◌}
use native.Mathlib.Omega.{arith}
use lib.ListN.{length}
use Rattle.pending.specs.Places.{free_place, entered_at}
use Rattle.pending.specs.Free.{next_free}
use Rattle.pending.specs.PlainMap.{Map, empty_map, fresh_list, LikeMap}
use Rattle.pending.specs.Turns.{Turn, request, give_up, arrival, Narrow, AllNarrow, list_after as turnAfter, list_after_all, Kempt}
use Rattle.pending.proofs.AsMap.{fresh_like}
use Rattle.pending.proofs.Turning.{kempt}
use Rattle.pending.proofs.OneMap.{SameMap}
use Rattle.requests.specs.declared.Issue.{Issue}
use Rattle.requests.specs.declared.Issue.TheVariants.{Six}
use Rattle.requests.specs.Sending.{length_for, send_refusal_for, answered_by, left_over_by, list_sent_for}
use Rattle.platform.specs.declared.reactions.Standing.{Standing}
use Rattle.platform.specs.Receiving.{fresh_standing, list_after}
use Rattle.promises.specs.RequestCalls.{kind_in, RequestCall, send, receive, cancel, ask, Fair, AllFair, Shown, our_shows, our_leaves}
use Rattle.promises.specs.RequestCalls.{our_listing, shows_all, leaves_all}
use Rattle.promises.specs.RequestRuns.{MapCalls, ended, then, MapFromFresh, RequestRuns}
use Rattle.promises.proofs.RequestReceipts.{Receipt, response, other, receipt, list-by, list-stays}
use Rattle.promises.proofs.RequestsAlong.{AlongCall, along-call, call_fits}
use Rattle.promises.proofs.OneRequestRun.{one_run}

-- the map that goes along with a run
record RunsAlong (own : ℕ) (p : Standing) (l : List ℕ) (m : Map) (cs : List RequestCall) : Type 1 where
  last : Map
  goes : MapCalls own p m cs (shows_all our_listing own p l cs) last
  like : LikeMap (leaves_all our_listing own p l cs) last

runs_along : (own : ℕ) (p : Standing) (l : List ℕ) (m : Map) (cs : List RequestCall) → LikeMap l m → p.next < 2 ^ 32 → AllFair cs
    → RunsAlong own p l m cs
runs_along own p l m [] same fits h = record { last = m; goes = ended; like = same }
runs_along own p l m (c ∷ cs) same fits h =
    let a : AlongCall own p l m c = along-call own p l m same fits c h.0 in
    let r : RunsAlong own (our_shows own p l c).standing (our_leaves own p l c) a.after cs =
    runs_along own (our_shows own p l c).standing (our_leaves own p l c) a.after cs a.like (call_fits own p l c fits h.0) h.1 in
    record { last = r.last; goes = then a.goes r.goes; like = r.like }

from_fresh : (own : ℕ) (cs : List RequestCall) → AllFair cs → RunsAlong own (fresh_standing own) fresh_list empty_map cs
from_fresh own cs h = runs_along own (fresh_standing own) fresh_list empty_map cs fresh_like (omega arith) h

pub like_same : (l : List ℕ) (m w : Map) → SameMap m w → LikeMap l m → LikeMap l w
like_same l m w same like =
    record { whole = like.whole; once = like.once; looked = λ n. like.looked n ∙ same.everywhere n; counted = like.counted ∙ same.counts }

same_runs : (own : ℕ) (cs : List RequestCall) (xs : List Shown) (m : Map) (h : AllFair cs) → MapFromFresh own cs xs m
    → (shows_all our_listing own (fresh_standing own) fresh_list cs ≡ xs) × SameMap (from_fresh own cs h).last m
same_runs own cs xs m h r =
    one_run own (fresh_standing own) (fresh_standing own) empty_map empty_map cs refl (record { everywhere = λ n. refl; counts = refl }) h
    (from_fresh own cs h).goes r

-- each call does one turn with the list, or none
pub record TurnsOf (l after : List ℕ) : Type 0 where
  pub turns : List Turn
  pub narrow : AllNarrow turns
  pub makes : after ≡ list_after_all l turns

pub more_narrow : (ts us : List Turn) → AllNarrow ts → AllNarrow us → AllNarrow (ts ++ us)
more_narrow [] us a b = b
more_narrow (t ∷ ts) us a b = (a.0, more_narrow ts us a.1 b)

pub after_more : (l : List ℕ) (ts us : List Turn) → list_after_all (list_after_all l ts) us ≡ list_after_all l (ts ++ us)
after_more l [] us = refl
after_more l (t ∷ ts) us = after_more (turnAfter l t) ts us

pub turn_sent : (issue : Issue) (next : ℕ) (l : List ℕ) (kind id target : ℕ) (payload : List ℕ) (space : ℕ) → Narrow (request next id target)
    → TurnsOf l (list_sent_for issue next l kind id target payload space)
turn_sent issue next l kind id target payload space h = go (send_refusal_for issue l kind id payload space)
  where
    go : (r : ℕ) → TurnsOf l (left_over_by (answered_by r next (next_free l next) (length_for issue payload)).answer l
        (entered_at l (free_place l) (next_free l next) id target))
    go zero = record { turns = request next id target ∷ []; narrow = (h, tt); makes = refl }
    go (suc r) = record { turns = []; narrow = tt; makes = refl }

pub turn_of : (own : ℕ) (p : Standing) (l : List ℕ) (c : RequestCall) → p.next < 2 ^ 32 → Fair c → TurnsOf l (our_leaves own p l c)
turn_of own p l (send t s words id target payload out) fits h =
    turn_sent Six p.next l (kind_in t s words id) id target payload (length out) (fits, (h.1.1.0, h.1.1.1))
turn_of own p l (receive t s bytes out) fits h = go (receipt own t s h bytes)
  where
    go : Receipt own t s h bytes → TurnsOf l (list_after own t l bytes)
    go (response x i len r) =
        record {
          turns = arrival x.sequence x.id x.platform ∷ [];
          narrow = (tt, tt);
          makes = list-by own t s h bytes x 2 i len r.read r.request refl l;
        }
    go (other absent quiet) = record { turns = []; narrow = tt; makes = list-stays own t s h bytes quiet l }
turn_of own p l (cancel n) fits h = record { turns = give_up n ∷ []; narrow = (tt, tt); makes = refl }
turn_of own p l (ask n) fits h = record { turns = []; narrow = tt; makes = refl }

turns_of : (own : ℕ) (p : Standing) (l : List ℕ) (cs : List RequestCall) → p.next < 2 ^ 32 → AllFair cs → TurnsOf l (leaves_all our_listing own p l cs)
turns_of own p l [] fits h = record { turns = []; narrow = tt; makes = refl }
turns_of own p l (c ∷ cs) fits h =
    let a : TurnsOf l (our_leaves own p l c) = turn_of own p l c fits h.0 in
    let r : TurnsOf (our_leaves own p l c) (leaves_all our_listing own (our_shows own p l c).standing (our_leaves own p l c) cs) =
    turns_of own (our_shows own p l c).standing (our_leaves own p l c) cs (call_fits own p l c fits h.0) h.1 in
    record {
      turns = a.turns ++ r.turns;
      narrow = more_narrow a.turns r.turns a.narrow r.narrow;
      makes = r.makes ∙ ap (λ (x : List ℕ). list_after_all x r.turns) a.makes ∙ after_more l a.turns r.turns;
    }

stays_kempt : (own : ℕ) (cs : List RequestCall) → AllFair cs → Kempt (leaves_all our_listing own (fresh_standing own) fresh_list cs)
stays_kempt own cs h =
    let a : TurnsOf fresh_list (leaves_all our_listing own (fresh_standing own) fresh_list cs) = turns_of own (fresh_standing own) fresh_list cs (omega arith) h in
    rw a.makes (kempt a.turns a.narrow)

pub request_runs : RequestRuns
request_runs =
    record {
      as_map = λ own cs xs m h r. (same_runs own cs xs m h r).0;
      map_goes = λ own cs h. ((from_fresh own cs h).last, (from_fresh own cs h).goes);
      like_map = λ own cs xs m h r. like_same _ (from_fresh own cs h).last m (same_runs own cs xs m h r).1 (from_fresh own cs h).like;
      kempt = stays_kempt;
    }
