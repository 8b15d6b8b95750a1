-- The plain map shows one thing only of each call, mixed ones among them, and so over any calls.
-- Assumes nothing.
use Prim.Native.Nat.{ℕ}
use Rattle.std.specs.Prelude.{Some}
use mathlib.Core.Path.{◌≡◌, refl, sym, ap, ap₂, subst, ◌∙◌}
use mathlib.Core.List.{List, [], ◌∷◌}
use native.Mathlib.Omega.{arith}
use Rattle.table.specs.declared.Sections.{Sections}
use Rattle.pending.specs.PlainMap.{Map, taken, inserted, deleted}
use Rattle.pending.proofs.Drawing.{one_is_next}
use Rattle.pending.proofs.Turning.{next_by}
use Rattle.pending.proofs.OneMap.{SameMap}
use Rattle.platform.specs.declared.reactions.Standing.{Standing}
use Rattle.mixed.specs.Reading.{issue_in}
use Rattle.mixed_words.specs.SendCalls.{issue_for}
use Rattle.promises.specs.MixedResponses.{ToReceive, AnyHeader, of_six_header, of_three_header, id_of, number_of, sender_of, read_as, response_as, ComesAs}
use Rattle.promises.specs.MixedRequestCalls.{AnyCall, plain, send_any, receive_any, FairAny, AllFairAny, of_any, ShownAny, shown_any, from_shown}
use Rattle.promises.specs.MixedRequestCalls.{arriving}
use Rattle.promises.specs.MixedRequestRuns.{OnMapAny, sent_on_any, MixedMapCall, as_one, sends, delivers, refuses, passes}
use Rattle.promises.specs.MixedRequestRuns.{MixedMapCalls, ended, then}
use Rattle.promises.proofs.RequestTables.{one_entry}
use Rattle.promises.proofs.OneRequestRun.{also, itself, one_answer, SameOn, same_taken, same-inserted, same-deleted, one_seen}

abbrev SameOnAny : OnMapAny → OnMapAny → Type 0
SameOnAny x y = (x.seen ≡ y.seen) × SameMap x.after y.after

-- a message is read in one way, of either issue
pub one_reading : (h k : AnyHeader) (len size : ℕ) → read_as h len ≡ read_as k size → (h ≡ k) × (len ≡ size)
one_reading (of_six_header h) (of_six_header k) len size e =
    let a : h ≡ k = cc in
    let b : len ≡ size = cc in
    (ap of_six_header a, b)
one_reading (of_six_header h) (of_three_header k) len size e = let z : ◌≡◌ {A = ℕ} 6 3 = ap issue_in e in absurd (omega arith)
one_reading (of_three_header h) (of_six_header k) len size e = let z : ◌≡◌ {A = ℕ} 3 6 = ap issue_in e in absurd (omega arith)
one_reading (of_three_header h) (of_three_header k) len size e =
    let a : h ≡ k = cc in
    let b : len ≡ size = cc in
    (ap of_three_header a, b)

module _ (own : ℕ) (p : Standing) (m w : Map) (same : SameMap m w) where
  -- a message under an ID of kind 2 is read in one way, and its ID has one entry
  module _ (x : ToReceive) (s : Sections) (h k : AnyHeader) (i j len size : ℕ) (r : ComesAs x s h 2 i len) (q : ComesAs x s k 2 j size) where
    both : (h ≡ k) × (len ≡ size)
    both = one_reading h k len size (sym r.read ∙ q.read)

    same-entry : i ≡ j
    same-entry =
        one_entry x.table s r.is_table i j r.has.there q.has.there (r.has.named ∙ ap id_of both.0 ∙ sym q.has.named)

    same-response : response_as h i len ≡ response_as k j size
    same-response =
        ap₂ (λ (y : AnyHeader) (z : ℕ). response_as y z len) both.0 same-entry ∙ ap (λ (z : ℕ). response_as k j z) both.1

    same-under : m.under (number_of h) ≡ Some (id_of h, sender_of h) → w.under (number_of k) ≡ Some (id_of k, sender_of k)
    same-under u =
        subst (λ (y : AnyHeader). w.under (number_of y) ≡ Some (id_of y, sender_of y)) both.0 (sym (same.everywhere (number_of h)) ∙ u)

    under_same : w.under (number_of k) ≡ Some (id_of k, sender_of k) → m.under (number_of h) ≡ Some (id_of h, sender_of h)
    under_same u =
        subst (λ (y : AnyHeader). m.under (number_of y) ≡ Some (id_of y, sender_of y)) (sym both.0) (same.everywhere (number_of k) ∙ u)

  one-any : (c : AnyCall) {x y : OnMapAny} → FairAny c → MixedMapCall own p m c x → MixedMapCall own p w c y → SameOnAny x y
  one-any (plain c) fair (as_one {x = x} a) (as_one {x = y} b) =
      let o : SameOn x y = one_seen own p m w same c fair a b in
      (ap from_shown o.0, o.1)
  one-any (send_any stamp partners t s words id target payload out) fair (sends {n = n} a u) (sends {n = k} b v) =
      let q : n ≡ k = one_is_next (taken w) p.next n k (next_by (taken m) (taken w) p.next n (same_taken own p m w same) a) b in
      one_answer SameOnAny (λ r. (refl, same)) (
        ap (λ (z : ℕ). (sent_on_any (issue_for partners stamp target) own p m id target payload out z).seen) q,
        subst (λ (z : ℕ). SameMap (inserted m n id target) (inserted w z id target)) q (same-inserted own p m w same n id target),
      )
      (also refl (λ h. h) (λ h. h) (also refl (λ h. sym same.counts ∙ h) (λ h. same.counts ∙ h) (itself _))) u v
  one-any (receive_any stamp composite partners ours t s services bytes out) fair (delivers {h = h} {i = i} {len = len} r u)
      (delivers {h = k} {i = j} {len = size} q v) =
      let x : ToReceive = arriving own stamp composite partners ours t services bytes out in (
        ap (λ (z : _). shown_any (of_any z) out services p) (same-response x s h k i j len size r q),
        subst (λ (z : AnyHeader). SameMap (deleted m (number_of h)) (deleted w (number_of z))) (both x s h k i j len size r q).0
            (same-deleted own p m w same (number_of h)),
      )
  one-any (receive_any stamp composite partners ours t s services bytes out) fair (delivers {h = h} {i = i} {len = len} r u)
      (refuses {h = k} {i = j} {len = size} q v) =
      absurd (v (same-under (arriving own stamp composite partners ours t services bytes out) s h k i j len size r q u))
  one-any (receive_any stamp composite partners ours t s services bytes out) fair (delivers {h = h} {i = i} {len = len} r u) (passes v) =
      absurd (v h i len r)
  one-any (receive_any stamp composite partners ours t s services bytes out) fair (refuses {h = h} {i = i} {len = len} r u)
      (delivers {h = k} {i = j} {len = size} q v) =
      absurd (u (under_same (arriving own stamp composite partners ours t services bytes out) s h k i j len size r q v))
  one-any (receive_any stamp composite partners ours t s services bytes out) fair (refuses r u) (refuses q v) = (refl, same)
  one-any (receive_any stamp composite partners ours t s services bytes out) fair (refuses {h = h} {i = i} {len = len} r u) (passes v) =
      absurd (v h i len r)
  one-any (receive_any stamp composite partners ours t s services bytes out) fair (passes u) (delivers {h = k} {i = j} {len = size} q v) =
      absurd (u k j size q)
  one-any (receive_any stamp composite partners ours t s services bytes out) fair (passes u) (refuses {h = k} {i = j} {len = size} q v) =
      absurd (u k j size q)
  one-any (receive_any stamp composite partners ours t s services bytes out) fair (passes u) (passes v) = (refl, same)

-- over any calls
pub one_mixed_run : (own : ℕ) (p q : Standing) (m w : Map) (cs : List AnyCall) {xs ys : List ShownAny} {v z : Map} → p ≡ q → SameMap m w
    → AllFairAny cs → MixedMapCalls own p m cs xs v → MixedMapCalls own q w cs ys z → (xs ≡ ys) × SameMap v z
one_mixed_run own p q m w [] e same fair ended ended = (refl, same)
one_mixed_run own p q m w (c ∷ cs) e same fair (then {x = x} a r) (then {x = y} b s) =
    let o : SameOnAny x y = one-any own p m w same c fair.0 a (subst (λ (k : Standing). MixedMapCall own k w c y) (sym e) b) in
    let rest =
    one_mixed_run own x.seen.standing y.seen.standing x.after y.after cs (ap (λ (k : ShownAny). k.standing) o.0) o.1 fair.1 r s in
    (ap₂ ◌∷◌ o.0 rest.0, rest.1)
