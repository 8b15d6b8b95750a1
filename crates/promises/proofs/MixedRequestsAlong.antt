-- One call, mixed ones among them, on a list that is like a map: the map can show what the list shows, and the list stays like it.
-- Assumes nothing.
use Prim.Native.Nat.{ℕ, zero, suc, ◌+◌, ◌%◌, ◌^◌, ◌≤◌, ◌<◌}
use Rattle.std.specs.Prelude.{Ok}
use mathlib.Core.Path.{◌≡◌, refl, sym, ap, ap₂, subst, ◌∙◌}
use mathlib.Core.Bool.{Bool, true, false, true≢false}
use mathlib.Core.List.{List, [], ◌++◌}
use native.Mathlib.Omega.{arith}
use lib.ListN.{length, drop}
use Rattle.wire.proofs.Cond.{yes-if, no-if}
use Rattle.wire.specs.Bytes.{over}
use Rattle.table.specs.declared.Sections.{Sections}
use Rattle.types.specs.Table.{checked}
use Rattle.message3.specs.declared.Stamp.{Stamp}
use Rattle.pending.specs.Places.{free_place, entered_at}
use Rattle.pending.specs.Free.{next_free}
use Rattle.pending.specs.Answers.{cancelled, is_response}
use Rattle.pending.specs.PlainMap.{Map, inserted, deleted, fresh_list, LikeMap}
use Rattle.pending.proofs.AsMap.{cancelled-like}
use Rattle.requests.specs.declared.Issue.{Issue}
use Rattle.requests.specs.declared.Issue.TheVariants.{Six, Three}
use Rattle.requests.specs.declared.Sent.TheVariants as sent
use Rattle.requests.specs.Sending.{length_for, bytes_for, send_refusal_for, answered_by, left_over_by}
use Rattle.platform.specs.declared.reactions.Standing.{Standing}
use Rattle.mixed.specs.declared.AnyAnswer.TheVariants.{Refused}
use Rattle.mixed.specs.declared.AnyReceived.{AnyReceived}
use Rattle.mixed.specs.Receiving.{refused_any}
use Rattle.mixed_words.specs.SendCalls.{issue_for}
use Rattle.promises.specs.Checks.{Answers}
use Rattle.promises.specs.RequestCalls.{kind_in, of_send}
use Rattle.promises.specs.MixedResponses.{ToReceive, our_any_receiving, AnyHeader, id_of, number_of, sender_of, response_as, ComesAs}
use Rattle.promises.specs.MixedAsked.{head_of}
use Rattle.promises.specs.MixedRequestCalls.{AnyCall, plain, send_any, receive_any, FairAny, as_before, of_any, ShownAny, shown_any}
use Rattle.promises.specs.MixedRequestCalls.{arriving, shown_received, our_any_shows, our_any_leaves}
use Rattle.promises.specs.RequestRuns.{map_checks}
use Rattle.promises.specs.MixedRequestRuns.{OnMapAny, refused_on_any, bytes_in, sent_on_any}
use Rattle.promises.specs.MixedRequestRuns.{MixedMapCall, as_one, sends, delivers, refuses, passes}
use Rattle.promises.proofs.Requests.{requests}
use Rattle.promises.proofs.RequestsAlong.{AlongCall, along-call, asks_it, asked-same, sent_fits, call_fits}
use Rattle.promises.proofs.SendsAlong.{matched_by_number, free_on, order-for, like-sent}
use Rattle.promises.proofs.MixedReceipts.{judged, out_stays, listed_by, words_stay}
use Rattle.promises.proofs.AnyReceipts.{AnyReceipt, response, other, receipt-of}
use Rattle.promises.proofs.MixedNextFits.{mixed-next-fits}

-- the map that goes along with a list
pub record AlongAny (own : ℕ) (p : Standing) (l : List ℕ) (m : Map) (c : AnyCall) : Type 1 where
  pub after : Map
  pub goes : MixedMapCall own p m c (record { seen = our_any_shows own p l c; after = after })
  pub like : LikeMap (our_any_leaves own p l c) after

by_map : {own : ℕ} {p : Standing} {l : List ℕ} {m : Map} {c : AnyCall} (x : OnMapAny) → MixedMapCall own p m c x → x.seen ≡ our_any_shows own p l c
    → LikeMap (our_any_leaves own p l c) x.after → AlongAny own p l m c
by_map {own} {p} {l} {m} {c} x g e k =
    record { after = x.after; goes = subst (λ (y : ShownAny). MixedMapCall own p m c (record { seen = y; after = x.after })) e g; like = k }

-- the message of an issue, laid at the output's start
laid_so : (issue : Issue) (own id n : ℕ) (payload out : List ℕ)
    → bytes_in issue own id n payload ++ drop (head_of issue + length payload) out ≡ over out 0 (bytes_for issue own id n payload)
laid_so Six own id n payload out =
    let long : 20 + length payload ≡ 0 + length (bytes_for Six own id n payload) = omega arith in
    ap (λ (k : ℕ). bytes_for Six own id n payload ++ drop k out) long
laid_so (Three t) own id n payload out =
    let long : 24 + length payload ≡ 0 + length (bytes_for (Three t) own id n payload) = omega arith in
    ap (λ (k : ℕ). bytes_for (Three t) own id n payload ++ drop k out) long

long_so : (issue : Issue) (payload : List ℕ) → head_of issue + length payload ≡ length_for issue payload
long_so Six payload = refl
long_so (Three t) payload = refl

module _ (own : ℕ) (p : Standing) (l : List ℕ) (m : Map) (same : LikeMap l m) where
  -- a request is sent in an issue, or refused
  module _ (fits : p.next < 2 ^ 32) (t : List ℕ) (s : Sections) (words : List ℕ) (id target : ℕ) (payload out : List ℕ) (e : checked t ≡ Ok s)
      (room : s.operations.count ≤ length words) (small : id < 2 ^ 32) (issue : Issue) where
    abbrev n : ℕ
    n = next_free l p.next

    -- what is shown and left by the number that refuses
    abbrev showsBy : ℕ → ShownAny
    showsBy r =
        shown_any (as_before (of_send (answered_by r p.next n (length_for issue payload)).answer))
        (left_over_by (answered_by r p.next n (length_for issue payload)).answer out (over out 0 (bytes_for issue own id n payload))) []
        (record { states = p.states; next = (answered_by r p.next n (length_for issue payload)).next })

    abbrev leavesBy : ℕ → List ℕ
    leavesBy r = left_over_by (answered_by r p.next n (length_for issue payload)).answer l (entered_at l (free_place l) n id target)

    abbrev refusal : ℕ
    refusal = send_refusal_for issue l (kind_in t s words id) id payload (length out)

    abbrev good : OnMapAny
    good = sent_on_any issue own p m id target payload out n

    record Sending : Type 1 where
      on : OnMapAny
      says : Answers (refused_on_any p m out) good (map_checks (head_of issue) t s id m payload (length out)) on
      seen : on.seen ≡ showsBy refusal
      like : LikeMap (leavesBy refusal) on.after

    sending : Sending
    sending = go refusal refl (order-for l m same p.next t s e words room id payload (length out) issue (refused_on_any p m out) good)
      where
        go : (r : ℕ) → refusal ≡ r
            → Answers (refused_on_any p m out) good (map_checks (head_of issue) t s id m payload (length out)) (matched_by_number (refused_on_any p m out) good r)
            → Sending
        go (suc k) q a =
            record {
              on = refused_on_any p m out (suc k);
              says = a;
              seen = ap showsBy (sym q);
              like = subst (λ (r : ℕ). LikeMap (leavesBy r) m) (sym q) same;
            }
        go zero q a =
            record {
              on = good;
              says = a;
              seen =
                  ap₂
                  (λ (k : ℕ) (o : List ℕ).
                  shown_any (as_before (of_send (sent.Under n k))) o [] (record { states = p.states; next = (n + 1) % 2 ^ 32 }))
                  (long_so issue payload) (laid_so issue own id n payload out)
                  ∙ ap showsBy (sym q);
              like =
                  subst (λ (r : ℕ). LikeMap (leavesBy r) (inserted m n id target)) (sym q)
                  (like-sent l m same p.next t s e words room id payload (length out) issue target fits small q);
            }

  -- a message arrives
  module _ (stamp : Stamp) (composite : ℕ) (partners ours t : List ℕ) (s : Sections) (services bytes out : List ℕ) (e : checked t ≡ Ok s) where
    abbrev x : ToReceive
    x = arriving own stamp composite partners ours t services bytes out

    abbrev call : AnyCall
    call = receive_any stamp composite partners ours t s services bytes out

    responds-along : (h : AnyHeader) (i len : ℕ) → ComesAs x s h 2 i len → AlongAny own p l m call
    responds-along h i len r = go (is_response l (number_of h) (id_of h) (sender_of h)) refl
      where
        seen : (y : AnyReceived) → our_any_receiving.outcome x p l ≡ y
            → shown_any (of_any y.answer) out services y.standing ≡ shown_received our_any_receiving p l x
        seen y q =
            ap (λ (z : AnyReceived). shown_any (of_any z.answer) out services z.standing) (sym q)
            ∙ ap₂
            (λ (o w : List ℕ). shown_any (of_any (our_any_receiving.outcome x p l).answer) o w (our_any_receiving.outcome x p l).standing)
            (sym (out_stays x s i len h r p l)) (sym (words_stay x s i len h r p l))

        go : (b : Bool) → is_response l (number_of h) (id_of h) (sender_of h) ≡ b → AlongAny own p l m call
        go true q =
            by_map (record { seen = shown_any (of_any (response_as h i len)) out services p; after = deleted m (number_of h) })
            (delivers r (asks_it (m.under (number_of h)) (id_of h) (sender_of h) (sym (asked-same own p l m same (number_of h) (id_of h) (sender_of h)) ∙ q)))
            (seen (record { standing = p; answer = response_as h i len }) (judged x s i len h r p l ∙ yes-if {A = AnyReceived} _ (refused_any p 61) q))
            (subst (λ (y : List ℕ). LikeMap y (deleted m (number_of h))) (sym (listed_by x s i len h r p l ∙ yes-if (cancelled l (number_of h)) l q))
            (cancelled-like l m same (number_of h)))
        go false q =
            by_map (record { seen = shown_any (of_any (Refused 61)) out services p; after = m })
            (refuses r
            (λ u. true≢false (sym (requests.is-response l (number_of h) (id_of h) (sender_of h) (same.looked (number_of h) ∙ u)) ∙ q)))
            (seen (refused_any p 61) (judged x s i len h r p l ∙ no-if {A = AnyReceived} _ (refused_any p 61) q))
            (subst (λ (y : List ℕ). LikeMap y m) (sym (listed_by x s i len h r p l ∙ no-if (cancelled l (number_of h)) l q)) same)

    receives-along : AlongAny own p l m call
    receives-along = go (receipt-of x s e)
      where
        go : AnyReceipt x s → AlongAny own p l m call
        go (response h i len r) = responds-along h i len r
        go (other absent quiet stays) =
            by_map (record { seen = shown_received our_any_receiving p fresh_list x; after = m }) (passes absent)
            (ap
            (λ (y : AnyReceived). shown_any (of_any y.answer) (our_any_receiving.output x p l) (our_any_receiving.kept x p l) y.standing)
            (quiet p fresh_list l))
            (subst (λ (y : List ℕ). LikeMap y m) (sym (stays p l)) same)

  -- any call
  pub along-any : p.next < 2 ^ 32 → (c : AnyCall) → FairAny c → AlongAny own p l m c
  along-any fits (plain c) h =
      let a : AlongCall own p l m c = along-call own p l m same fits c h in
      record { after = a.after; goes = as_one a.goes; like = a.like }
  along-any fits (send_any stamp partners t s words id target payload out) h =
      let a = sending fits t s words id target payload out h.0 h.1.0 h.1.1.0 (issue_for partners stamp target) in
      by_map a.on (sends (free_on l m same p.next fits) a.says) a.seen a.like
  along-any fits (receive_any stamp composite partners ours t s services bytes out) h =
      receives-along stamp composite partners ours t s services bytes out h

-- the next own number stays one of 32 bits
pub any_fits : (own : ℕ) (p : Standing) (l : List ℕ) (c : AnyCall) → p.next < 2 ^ 32 → FairAny c → (our_any_shows own p l c).standing.next < 2 ^ 32
any_fits own p l (plain c) fits h = call_fits own p l c fits h
any_fits own p l (send_any stamp partners t s words id target payload out) fits h =
    sent_fits (issue_for partners stamp target) p.next l (kind_in t s words id) id payload (length out) fits
any_fits own p l (receive_any stamp composite partners ours t s services bytes out) fits h =
    mixed-next-fits (arriving own stamp composite partners ours t services bytes out) s h p l fits
