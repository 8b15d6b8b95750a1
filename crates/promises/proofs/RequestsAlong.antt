-- One call on a list that is like a map: the map can show what the list shows, and the list stays like it.
-- Assumes nothing.
use Prim.Native.Nat.{ℕ, zero, suc, ◌+◌, ◌%◌, ◌^◌, ◌≤◌, ◌<◌}
use Rattle.std.specs.Prelude.{Ok}
use Rattle.std.specs.Prelude.{Option, Some, None}
use mathlib.Core.Path.{◌≡◌, refl, sym, ap, ap₂, subst, ◌∙◌}
use mathlib.Core.Bool.{Bool, true, false, true≢false}
use mathlib.Core.List.{List, [], ◌++◌}
use native.Mathlib.Omega.{arith}
use borrow.Author.Tests.{eqb-true}
use lib.Dec.{eqb}
use lib.ListN.{length, drop}
use Rattle.wire.proofs.Cond.{both, yes-if, no-if}
use Rattle.wire.specs.Bytes.{over}
use Rattle.table.specs.declared.Sections.{Sections}
use Rattle.types.specs.Table.{checked}
use Rattle.operations.specs.Entries.{op_place}
use Rattle.message.specs.declared.Header.{Header}
use Rattle.message.specs.Writing.{message_bytes}
use Rattle.pending.specs.Places.{free_place, entered_at}
use Rattle.pending.specs.Free.{next_free}
use Rattle.pending.specs.Answers.{cancelled, is_response}
use Rattle.pending.specs.PlainMap.{Map, taken, asks, inserted, deleted, fresh_list, LikeMap}
use Rattle.pending.proofs.AsMap.{response-by, same_taken, cancelled-like}
use Rattle.requests.specs.declared.Issue.{Issue}
use Rattle.requests.specs.declared.Issue.TheVariants.{Six}
use Rattle.requests.specs.declared.Sent.TheVariants as sent
use Rattle.requests.specs.Sending.{length_for, send_refusal_for, send_refusal, answered_by, sent_for, left_over_by}
use Rattle.platform.specs.declared.reactions.Standing.{Standing}
use Rattle.platform.specs.declared.Noting.TheVariants as noting
use Rattle.platform.specs.declared.Received.{Received}
use Rattle.platform.specs.Receiving.{refused, response_to, list_answered, received_of, left_of, list_after}
use Rattle.promises.specs.Checks.{Answers}
use Rattle.promises.specs.RequestCalls.{kind_in, RequestCall, send, receive, cancel, ask, Fair}
use Rattle.promises.specs.RequestCalls.{of_send, of_receive, whether, what, Shown, shown, our_shows, our_leaves}
use Rattle.promises.specs.RequestRuns.{OnMap, map_checks, refused_on, sent_on, Responds, MapCall, sends, delivers, refuses, passes, forgets, looks}
use Rattle.promises.proofs.Requests.{requests}
use Rattle.promises.proofs.SendsAlong.{matched_by_number, free_on, order-for, like-sent}
use Rattle.promises.proofs.RequestReceipts.{Receipt, response, other, receipt, by-list, output-stays, list-by, as-if-empty, list-stays, next_fits}

-- the map that goes along with a list
pub record AlongCall (own : ℕ) (p : Standing) (l : List ℕ) (m : Map) (c : RequestCall) : Type 1 where
  pub after : Map
  pub goes : MapCall own p m c (record { seen = our_shows own p l c; after = after })
  pub like : LikeMap (our_leaves own p l c) after

by_map : {own : ℕ} {p : Standing} {l : List ℕ} {m : Map} {c : RequestCall} (x : OnMap) → MapCall own p m c x → x.seen ≡ our_shows own p l c
    → LikeMap (our_leaves own p l c) x.after → AlongCall own p l m c
by_map {own} {p} {l} {m} {c} x g e k =
    record { after = x.after; goes = subst (λ (y : Shown). MapCall own p m c (record { seen = y; after = x.after })) e g; like = k }

-- what a map says is asked under a number
pub asks_it : (a : Option (ℕ × ℕ)) (id sender : ℕ) → asks a id sender ≡ true → a ≡ Some (id, sender)
asks_it (Some (i, t)) id sender e =
    let h : (eqb i id ≡ true) × (eqb t sender ≡ true) = both (eqb i id) (eqb t sender) e in
    ap₂ (λ (a b : ℕ). Some (a, b)) (eqb-true i id h.0) (eqb-true t sender h.1)
asks_it None id sender e = absurd (true≢false (sym e))

module _ (own : ℕ) (p : Standing) (l : List ℕ) (m : Map) (same : LikeMap l m) where
  pub asked-same : (x id sender : ℕ) → is_response l x id sender ≡ asks (m.under x) id sender
  asked-same x id sender = response-by l x id sender ∙ ap (λ (a : Option (ℕ × ℕ)). asks a id sender) (same.looked x)

  -- a request is sent, or refused
  module _ (fits : p.next < 2 ^ 32) (t : List ℕ) (s : Sections) (words : List ℕ) (id target : ℕ) (payload out : List ℕ) (e : checked t ≡ Ok s)
      (room : s.operations.count ≤ length words) (small : id < 2 ^ 32) where
    abbrev kind : ℕ
    kind = kind_in t s words id

    abbrev n : ℕ
    n = next_free l p.next

    abbrev Along : Type 1
    Along = AlongCall own p l m (send t s words id target payload out)

    abbrev Says : OnMap → Type 1
    Says x = Answers (refused_on p m out) (sent_on own p m id target payload out n) (map_checks 20 t s id m payload (length out)) x

    -- what is shown and left by the number that refuses
    abbrev showsBy : ℕ → Shown
    showsBy r =
        shown (of_send (answered_by r p.next n (20 + length payload)).answer)
        (left_over_by (answered_by r p.next n (20 + length payload)).answer out (over out 0 (message_bytes own 1 id n payload)))
        (record { states = p.states; next = (answered_by r p.next n (20 + length payload)).next })

    abbrev leavesBy : ℕ → List ℕ
    leavesBy r = left_over_by (answered_by r p.next n (20 + length payload)).answer l (entered_at l (free_place l) n id target)

    refused-along : (k : ℕ) → send_refusal l kind id payload (length out) ≡ suc k → Says (refused_on p m out (suc k)) → Along
    refused-along k q a =
        by_map (refused_on p m out (suc k)) (sends (free_on l m same p.next fits) a) (ap showsBy (sym q))
        (subst (λ (r : ℕ). LikeMap (leavesBy r) m) (sym q) same)

    sent-along : send_refusal l kind id payload (length out) ≡ 0 → Says (sent_on own p m id target payload out n) → Along
    sent-along q a =
        let long : 20 + length payload ≡ 0 + length (message_bytes own 1 id n payload) = omega arith in
        by_map (sent_on own p m id target payload out n) (sends (free_on l m same p.next fits) a)
        (ap
        (λ (k : ℕ).
        shown (of_send (sent.Under n (20 + length payload))) (message_bytes own 1 id n payload ++ drop k out)
        (record { states = p.states; next = (n + 1) % 2 ^ 32 }))
        long
        ∙ ap showsBy (sym q))
        (subst (λ (r : ℕ). LikeMap (leavesBy r) (inserted m n id target)) (sym q)
        (like-sent l m same p.next t s e words room id payload (length out) Six target fits small q))

    sends-along : Along
    sends-along =
        go (send_refusal l kind id payload (length out)) refl
        (order-for l m same p.next t s e words room id payload (length out) Six (refused_on p m out) (sent_on own p m id target payload out n))
      where
        go : (r : ℕ) → send_refusal l kind id payload (length out) ≡ r
            → Says (matched_by_number (refused_on p m out) (sent_on own p m id target payload out n) r) → Along
        go (suc k) q a = refused-along k q a
        go zero q a = sent-along q a

  -- a message arrives
  module _ (t : List ℕ) (s : Sections) (bytes out : List ℕ) (e : checked t ≡ Ok s) where
    responds-along : (h : Header) (i len : ℕ) → Responds own t s bytes h i len → AlongCall own p l m (receive t s bytes out)
    unfolding response_to
    responds-along h i len r = go (is_response l h.sequence h.id h.platform) refl
      where
        judged : received_of own t p l bytes (length out) ≡ response_to l (Some (i, op_place t s.operations.at i)) p h 20 len
        judged = by-list own t s e bytes h 2 i len r.read r.request refl p l (length out)

        stays : left_of own t p bytes out ≡ out
        stays = output-stays own t s e bytes h 2 i len r.read r.request refl p out

        left : list_after own t l bytes ≡ list_answered l h
        left = list-by own t s e bytes h 2 i len r.read r.request refl l

        seen : (x : Received) → received_of own t p l bytes (length out) ≡ x
            → shown (of_receive x.answer) out x.standing ≡ our_shows own p l (receive t s bytes out)
        seen x q =
            ap₂ (λ (y : Received) (o : List ℕ). shown (of_receive y.answer) o y.standing) (sym q) (sym stays)

        go : (b : Bool) → is_response l h.sequence h.id h.platform ≡ b → AlongCall own p l m (receive t s bytes out)
        go true q =
            by_map (record { seen = shown (of_receive (noting.Response h i 20 len)) out p; after = deleted m h.sequence })
            (delivers r (asks_it (m.under h.sequence) h.id h.platform (sym (asked-same h.sequence h.id h.platform) ∙ q)))
            (seen (record { standing = p; answer = noting.Response h i 20 len }) (judged ∙ yes-if {A = Received} _ (refused p 61) q))
            (subst (λ (x : List ℕ). LikeMap x (deleted m h.sequence)) (sym (left ∙ yes-if (cancelled l h.sequence) l q))
            (cancelled-like l m same h.sequence))
        go false q =
            by_map (record { seen = shown (of_receive (noting.Refused 61)) out p; after = m })
            (refuses r (λ u. true≢false (sym (requests.is-response l h.sequence h.id h.platform (same.looked h.sequence ∙ u)) ∙ q)))
            (seen (refused p 61) (judged ∙ no-if {A = Received} _ (refused p 61) q))
            (subst (λ (x : List ℕ). LikeMap x m) (sym (left ∙ no-if (cancelled l h.sequence) l q)) same)

    receives-along : AlongCall own p l m (receive t s bytes out)
    receives-along = go (receipt own t s e bytes)
      where
        go : Receipt own t s e bytes → AlongCall own p l m (receive t s bytes out)
        go (response h i len r) = responds-along h i len r
        go (other absent quiet) =
            by_map
            (record {
              seen =
                  shown (of_receive (received_of own t p fresh_list bytes (length out)).answer) (left_of own t p bytes out)
                  (received_of own t p fresh_list bytes (length out)).standing;
              after = m;
            })
            (passes absent)
            (ap (λ (x : Received). shown (of_receive x.answer) (left_of own t p bytes out) x.standing)
            (as-if-empty own t s e bytes quiet p fresh_list l (length out)))
            (subst (λ (x : List ℕ). LikeMap x m) (sym (list-stays own t s e bytes quiet l)) same)

  -- any call
  pub along-call : p.next < 2 ^ 32 → (c : RequestCall) → Fair c → AlongCall own p l m c
  along-call fits (send t s words id target payload out) h =
      sends-along fits t s words id target payload out h.0 h.1.0 h.1.1.0
  along-call fits (receive t s bytes out) h = receives-along t s bytes out h
  along-call fits (cancel n) h =
      by_map (record { seen = shown (whether (taken m n)) [] p; after = deleted m n }) forgets
      (ap (λ (b : Bool). shown (whether b) [] p) (sym (same_taken l m same n))) (cancelled-like l m same n)
  along-call fits (ask n) h =
      by_map (record { seen = shown (what (m.under n)) [] p; after = m }) looks (ap (λ (x : Option (ℕ × ℕ)). shown (what x) [] p) (sym (same.looked n))) same

-- the next own number stays one of 32 bits
pub sent_fits : (issue : Issue) (next : ℕ) (l : List ℕ) (kind id : ℕ) (payload : List ℕ) (space : ℕ) → next < 2 ^ 32
    → (sent_for issue next l kind id payload space).next < 2 ^ 32
sent_fits issue next l kind id payload space fits = go (send_refusal_for issue l kind id payload space)
  where
    go : (r : ℕ) → (answered_by r next (next_free l next) (length_for issue payload)).next < 2 ^ 32
    go zero = omega arith
    go (suc r) = fits

pub call_fits : (own : ℕ) (p : Standing) (l : List ℕ) (c : RequestCall) → p.next < 2 ^ 32 → Fair c → (our_shows own p l c).standing.next < 2 ^ 32
call_fits own p l (send t s words id target payload out) fits h = sent_fits Six p.next l (kind_in t s words id) id payload (length out) fits
call_fits own p l (receive t s bytes out) fits h = next_fits own t s h bytes p l (length out) fits
call_fits own p l (cancel n) fits h = fits
call_fits own p l (ask n) fits h = fits
