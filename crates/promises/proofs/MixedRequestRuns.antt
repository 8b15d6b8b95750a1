-- Over any calls, mixed ones among them, the list shows what the plain map shows, and stays like it.
-- Assumes nothing.
use Prim.Native.Nat.{ℕ, ◌^◌, ◌<◌}
use mathlib.Core.Path.{◌≡◌, refl, ap, ◌∙◌}
use mathlib.Core.List.{List, [], ◌∷◌, ◌++◌}
use native.Mathlib.Omega.{arith}
use lib.ListN.{length}
use Rattle.pending.specs.PlainMap.{Map, empty_map, fresh_list, LikeMap}
use Rattle.pending.specs.Turns.{arrival, list_after_all, Kempt}
use Rattle.pending.proofs.AsMap.{fresh_like}
use Rattle.pending.proofs.Turning.{kempt}
use Rattle.pending.proofs.OneMap.{SameMap}
use Rattle.platform.specs.declared.reactions.Standing.{Standing}
use Rattle.platform.specs.Receiving.{fresh_standing}
use Rattle.mixed_words.specs.SendCalls.{issue_for}
use Rattle.promises.specs.RequestCalls.{kind_in}
use Rattle.promises.specs.MixedResponses.{ToReceive, our_any_receiving, id_of, number_of, sender_of}
use Rattle.promises.specs.MixedRequestCalls.{AnyCall, plain, send_any, receive_any, FairAny, AllFairAny, ShownAny, arriving, our_any_shows}
use Rattle.promises.specs.MixedRequestCalls.{our_any_leaves, our_any_listing, shows_all_any, leaves_all_any}
use Rattle.promises.specs.MixedRequestRuns.{MixedMapCalls, ended, then, MixedFromFresh, MixedRequestRuns}
use Rattle.promises.proofs.RequestRuns.{like_same, TurnsOf, more_narrow, after_more, turn_sent, turn_of}
use Rattle.promises.proofs.MixedReceipts.{listed_by}
use Rattle.promises.proofs.AnyReceipts.{AnyReceipt, response, other, receipt-of}
use Rattle.promises.proofs.MixedRequestsAlong.{AlongAny, along-any, any_fits}
use Rattle.promises.proofs.OneMixedRun.{one_mixed_run}

-- the map that goes along with a run
record RunsAlong (own : ℕ) (p : Standing) (l : List ℕ) (m : Map) (cs : List AnyCall) : Type 1 where
  last : Map
  goes : MixedMapCalls own p m cs (shows_all_any our_any_listing own p l cs) last
  like : LikeMap (leaves_all_any our_any_listing own p l cs) last

runs_along : (own : ℕ) (p : Standing) (l : List ℕ) (m : Map) (cs : List AnyCall) → LikeMap l m → p.next < 2 ^ 32 → AllFairAny cs
    → RunsAlong own p l m cs
runs_along own p l m [] same fits h = record { last = m; goes = ended; like = same }
runs_along own p l m (c ∷ cs) same fits h =
    let a : AlongAny own p l m c = along-any own p l m same fits c h.0 in
    let r : RunsAlong own (our_any_shows own p l c).standing (our_any_leaves own p l c) a.after cs =
    runs_along own (our_any_shows own p l c).standing (our_any_leaves own p l c) a.after cs a.like (any_fits own p l c fits h.0) h.1 in
    record { last = r.last; goes = then a.goes r.goes; like = r.like }

from_fresh : (own : ℕ) (cs : List AnyCall) → AllFairAny cs → RunsAlong own (fresh_standing own) fresh_list empty_map cs
from_fresh own cs h = runs_along own (fresh_standing own) fresh_list empty_map cs fresh_like (omega arith) h

same_runs : (own : ℕ) (cs : List AnyCall) (xs : List ShownAny) (m : Map) (h : AllFairAny cs) → MixedFromFresh own cs xs m
    → (shows_all_any our_any_listing own (fresh_standing own) fresh_list cs ≡ xs) × SameMap (from_fresh own cs h).last m
same_runs own cs xs m h r =
    one_mixed_run own (fresh_standing own) (fresh_standing own) empty_map empty_map cs refl (record { everywhere = λ n. refl; counts = refl }) h
    (from_fresh own cs h).goes r

-- each call does one turn with the list, or none
any_turn : (own : ℕ) (p : Standing) (l : List ℕ) (c : AnyCall) → p.next < 2 ^ 32 → FairAny c → TurnsOf l (our_any_leaves own p l c)
any_turn own p l (plain c) fits h = turn_of own p l c fits h
any_turn own p l (send_any stamp partners t s words id target payload out) fits h =
    turn_sent (issue_for partners stamp target) p.next l (kind_in t s words id) id target payload (length out) (fits, (h.1.1.0, h.1.1.1))
any_turn own p l (receive_any stamp composite partners ours t s services bytes out) fits h =
    go (arriving own stamp composite partners ours t services bytes out)
    (receipt-of (arriving own stamp composite partners ours t services bytes out) s h)
  where
    go : (x : ToReceive) → AnyReceipt x s → TurnsOf l (our_any_receiving.list x p l)
    go x (response y i len r) =
        record {
          turns = arrival (number_of y) (id_of y) (sender_of y) ∷ [];
          narrow = (tt, tt);
          makes = listed_by x s i len y r p l;
        }
    go x (other absent quiet stays) = record { turns = []; narrow = tt; makes = stays p l }

any_turns : (own : ℕ) (p : Standing) (l : List ℕ) (cs : List AnyCall) → p.next < 2 ^ 32 → AllFairAny cs
    → TurnsOf l (leaves_all_any our_any_listing own p l cs)
any_turns own p l [] fits h = record { turns = []; narrow = tt; makes = refl }
any_turns own p l (c ∷ cs) fits h =
    let a : TurnsOf l (our_any_leaves own p l c) = any_turn own p l c fits h.0 in
    let r : TurnsOf (our_any_leaves own p l c) (leaves_all_any our_any_listing own (our_any_shows own p l c).standing (our_any_leaves own p l c) cs) =
    any_turns own (our_any_shows own p l c).standing (our_any_leaves own p l c) cs (any_fits own p l c fits h.0) h.1 in
    record {
      turns = a.turns ++ r.turns;
      narrow = more_narrow a.turns r.turns a.narrow r.narrow;
      makes = r.makes ∙ ap (λ (x : List ℕ). list_after_all x r.turns) a.makes ∙ after_more l a.turns r.turns;
    }

stays_kempt : (own : ℕ) (cs : List AnyCall) → AllFairAny cs → Kempt (leaves_all_any our_any_listing own (fresh_standing own) fresh_list cs)
stays_kempt own cs h =
    let a : TurnsOf fresh_list (leaves_all_any our_any_listing own (fresh_standing own) fresh_list cs) =
    any_turns own (fresh_standing own) fresh_list cs (omega arith) h in
    rw a.makes (kempt a.turns a.narrow)

pub mixed_request_runs : MixedRequestRuns
mixed_request_runs =
    record {
      as_map = λ own cs xs m h r. (same_runs own cs xs m h r).0;
      map_goes = λ own cs h. ((from_fresh own cs h).last, (from_fresh own cs h).goes);
      like_map = λ own cs xs m h r. like_same _ (from_fresh own cs h).last m (same_runs own cs xs m h r).1 (from_fresh own cs h).like;
      kempt = stays_kempt;
    }
