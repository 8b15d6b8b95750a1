-- A request asked in the issue that the other speaks, heard there, and answered.
-- Assumes nothing.
use Prim.Native.Nat.{ℕ, ◌+◌, ◌^◌, ◌≤◌, ◌<◌}
use Rattle.std.specs.Prelude.{Ok}
use Rattle.std.specs.Prelude.{Option, Some, None}
use Rattle.std.proofs.lemmas.Option.{none-some}
use mathlib.Core.Path.{◌≡◌, refl, sym, ap, subst, ◌∙◌}
use mathlib.Core.Bool.{Bool, true, false, cond}
use mathlib.Core.List.{List}
use native.Mathlib.Omega.{arith}
use lib.ListN.{length, take, drop}
use lib.Seq.{take_at, take-length}
use Rattle.wire.specs.Bytes.{over, part}
use Rattle.wire.proofs.Cond.{no-ne}
use Rattle.wire.proofs.Runs.{part_in}
use Rattle.table.specs.declared.Sections.{Sections}
use Rattle.types.specs.Table.{checked}
use Rattle.operations.specs.Entries.{op_place, kind_at}
use Rattle.message.specs.declared.Message.TheVariants as message
use Rattle.message.specs.Writing.{header_for, message_bytes, left_over_by, answered}
use Rattle.message3.specs.declared.Stamp.{Stamp}
use Rattle.message3.specs.declared.Message3.TheVariants as message3
use Rattle.message3.specs.Refusal.{write_refusal3}
use Rattle.message3.specs.Writing.{header_for3, message_bytes3}
use Rattle.message3.proofs.Accepted as issue3
use Rattle.message3.proofs.RoundTrip.{reads-back, front}
use Rattle.partners.specs.Threes.{is_three}
use Rattle.mixed.specs.Reading.{any_of}
use Rattle.mixed.proofs.NoCrossing.{all_of_six, all_of_three}
use Rattle.pending.specs.Places.{free_place, entered, entered_at}
use Rattle.pending.specs.Free.{is_pending, next_free, IsNextFree}
use Rattle.pending.specs.Answers.{awaited_of, cancelled}
use Rattle.pending.proofs.Looking.{none-bears-it}
use Rattle.pending.proofs.Drawing.{next-is-free}
use Rattle.requests.specs.declared.Issue.{Issue}
use Rattle.requests.specs.declared.Issue.TheVariants.{Six, Three}
use Rattle.requests.specs.declared.Sending.{Sending}
use Rattle.requests.specs.declared.Sent.TheVariants.{Under}
use Rattle.requests.specs.Sending.{write_refusal_for, length_for, bytes_for, unless_full, send_refusal_for}
use Rattle.requests.proofs.Sends.{given_is, sent-so, entered_so}
use Rattle.platform.specs.declared.reactions.Standing.{Standing}
use Rattle.promises.specs.RequestCalls.{HasKind}
use Rattle.promises.specs.MixedSending.{ToSend, our_asking, issue_in}
use Rattle.promises.specs.MixedResponses.{ToReceive, our_any_receiving, AnyHeader, id_of, number_of, read_as, ComesAs, DeliversAny, RefusesAny, IsPending}
use Rattle.promises.specs.MixedAsked.{head_of, in_three, StampFits, header_in, reply_in, CanAskAny, asked_bytes, waiting_for, AskedInIssue}
use Rattle.promises.specs.MixedAsked.{MixedAsked}
use Rattle.promises.proofs.SentFor.{number_small, in_front}
use Rattle.promises.proofs.AskedAndAnswered.{crosses, writes}
use Rattle.promises.proofs.NewRequest.{is-awaited, no_longer}
use Rattle.promises.proofs.MixedReceipts.{heard-as}
use Rattle.promises.proofs.MixedResponses.{mixed_responses}
use Rattle.promises.proofs.RequestTables.{one_entry}
use Rattle.promises.proofs.OneMixedRun.{one_reading}

-- writing, by the issue
writes_3 : (id : ℕ) (payload : List ℕ) (room : ℕ) → length payload < 2 ^ 32 → 24 + length payload ≤ room → write_refusal3 1 id payload room ≡ 0
writes_3 id payload room h r = issue3.admits 1 id payload room (record { domain = omega arith; size = h; contents = refl; fits = r })

writes_in : (issue : Issue) (id : ℕ) (payload : List ℕ) (room : ℕ) → length payload < 2 ^ 32 → head_of issue + length payload ≤ room
    → write_refusal_for issue id payload room ≡ 0
writes_in Six id payload room h r = writes id payload room h r
writes_in (Three t) id payload room h r = writes_3 id payload room h r

length_is : (issue : Issue) (payload : List ℕ) → length_for issue payload ≡ head_of issue + length payload
length_is Six payload = refl
length_is (Three t) payload = refl

reply_is : (issue : Issue) (own id n : ℕ) (response out : List ℕ) → length response < 2 ^ 32 → head_of issue + length response ≤ length out
    → reply_in issue own id n response out ≡ bytes_for issue own id n response
reply_is Six own id n response out size room =
    let b : List ℕ = message_bytes own 1 id n response in
    ap (λ (z : ℕ). take (20 + length response) (left_over_by (answered z (20 + length response)) out (over out 0 b))) (writes id response (length out) size room)
    ∙ take_at b (drop (0 + length b) out) (20 + length response) (omega arith)
reply_is (Three t) own id n response out size room = front own t 1 id n response out (writes_3 id response (length out) size room)

part_is : (issue : Issue) (own id n : ℕ) (payload : List ℕ) → part (bytes_for issue own id n payload) (head_of issue) (length payload) ≡ payload
part_is Six own id n payload = part_in (message_bytes own 1 id n payload) 20 (length payload) (omega arith) ∙ take-length payload
part_is (Three t) own id n payload = part_in (message_bytes3 own t 1 id n payload) 24 (length payload) (omega arith) ∙ take-length payload

-- a message is read at another platform as it was written, where that one has its sender in its issue
pub crosses_in : (issue : Issue) (x y id n : ℕ) (payload i : List ℕ) → x < 256 → ¬ (x ≡ y) → id < 2 ^ 32 → n < 2 ^ 32 → length payload < 2 ^ 32
    → StampFits issue → is_three i x ≡ in_three issue → any_of i y (bytes_for issue x id n payload) ≡ read_as (header_in issue x id n payload) (length payload)
crosses_in Six x y id n payload i o d small q size fits f =
    all_of_six i y (message_bytes x 1 id n payload) (header_for x 1 id n payload) message.Operation 20 (length payload)
    (crosses x y id n payload o d small q size).0 f
crosses_in (Three t) x y id n payload i o d small q size fits f =
    all_of_three i y (message_bytes3 x t 1 id n payload) (header_for3 x t 1 id n payload) message3.Operation 24 (length payload)
    (reads-back x t 1 id n payload (24 + length payload) y
    (record { other = d; id_fits = small; sequence_fits = q; seconds_fit = fits.0; nanoseconds_fit = fits.1 })
    (writes_3 id payload (24 + length payload) size (omega arith)))
    f

id_is : (issue : Issue) (own id n : ℕ) (payload : List ℕ) → id_of (header_in issue own id n payload) ≡ id
id_is Six own id n payload = refl
id_is (Three t) own id n payload = refl

number_is : (issue : Issue) (own id n : ℕ) (payload : List ℕ) → number_of (header_in issue own id n payload) ≡ n
number_is Six own id n payload = refl
number_is (Three t) own id n payload = refl

pending_is : (issue : Issue) (own id n : ℕ) (payload l : List ℕ) → awaited_of l n ≡ Some (id, own) → IsPending l (header_in issue own id n payload)
pending_is Six own id n payload l e = e
pending_is (Three t) own id n payload l e = e

is-pending : (issue : Issue) (own id n : ℕ) (payload l : List ℕ) → IsPending l (header_in issue own id n payload) → awaited_of l n ≡ Some (id, own)
is-pending Six own id n payload l e = e
is-pending (Three t) own id n payload l e = e

-- what is served is no response
no_response : (y : ToReceive) (r : Sections) (g : AnyHeader) (j len : ℕ) → ComesAs y r g 3 j len
    → (h : AnyHeader) (i size : ℕ) → ¬ (ComesAs y r h 2 i size)
no_response y r g j len c h i size d =
    let same : g ≡ h = (one_reading g h len size (sym c.read ∙ d.read)).0 in
    let entry : j ≡ i =
    one_entry y.table r c.is_table j i c.has.there d.has.there (c.has.named ∙ ap id_of same ∙ sym d.has.named) in
    let z : ◌≡◌ {A = ℕ} 3 2 =
    sym c.has.kinded ∙ ap (λ (k : ℕ). kind_at y.table (op_place y.table r.operations.at k)) entry ∙ d.has.kinded in
    omega arith

-- the issue that the target speaks
issue_by : (b : Bool) (t : Stamp) → in_three (cond b (Three t) Six) ≡ b
issue_by true t = refl
issue_by false t = refl

stamp_by : (b : Bool) (t : Stamp) → t.seconds < 2 ^ 32 → t.nanoseconds < 2 ^ 32 → StampFits (cond b (Three t) Six)
stamp_by true t h k = (h, k)
stamp_by false t h k = tt

module _ (x : ToSend) (c : CanAskAny x) where
  abbrev n : ℕ
  n = next_free x.list x.next

  free-number : IsNextFree (is_pending x.list) x.next n
  free-number = next-is-free x.list x.next c.narrow.next_fits

  number_fits : n < 2 ^ 32
  number_fits = number_small x.list x.next c.narrow.next_fits

  there : (k : ℕ) × (free_place x.list ≡ Some k)
  there = go (free_place x.list) refl
    where
      go : (y : Option ℕ) → free_place x.list ≡ y → (k : ℕ) × (free_place x.list ≡ Some k)
      go (Some k) p = (k, p)
      go None p = absurd (none-bears-it x.list 0 64 0 c.place p (omega arith) c.places c.free)

  not_refused : send_refusal_for (issue_in x) x.list x.kind x.id x.payload (length x.out) ≡ 0
  not_refused =
      no-ne 62 _ x.kind 2 c.sent
      ∙ ap (λ (y : Option ℕ). unless_full y (write_refusal_for (issue_in x) x.id x.payload (length x.out))) there.1
      ∙ writes_in (issue_in x) x.id x.payload (length x.out) c.size c.room

  asked_is : asked_bytes x ≡ bytes_for (issue_in x) x.own x.id n x.payload
  asked_is =
      ap (λ (k : ℕ). take k (our_asking.outputs x)) (sym (length_is (issue_in x) x.payload))
      ∙ in_front (issue_in x) x.own x.next x.kind x.id x.list x.payload x.out
      (given_is (issue_in x) x.list x.kind x.id x.payload (length x.out) x.next ∙ not_refused)

  waiting-is : waiting_for x ≡ entered x.list there.0 n x.id x.target
  waiting-is =
      entered_so (issue_in x) x.list x.kind x.id x.payload (length x.out) x.next x.target not_refused
      ∙ ap (λ (y : Option ℕ). entered_at x.list y n x.id x.target) there.1

  awaited : awaited_of (waiting_for x) n ≡ Some (x.id, x.target)
  awaited =
      ap (λ (r : List ℕ). awaited_of r n) waiting-is
      ∙ is-awaited x.list c.whole there.0 n x.id x.target there.1 c.narrow.id_fits free-number.not_zero free-number.not_taken

  gone : awaited_of (cancelled (waiting_for x) n) n ≡ None
  gone =
      ap (λ (r : List ℕ). awaited_of (cancelled r n) n) waiting-is
      ∙ no_longer x.list c.whole there.0 n x.id x.target there.1 c.narrow.id_fits free-number.not_zero free-number.not_taken

  -- the request arrives
  hears : (y : ToReceive) (r : Sections) (j : ℕ) → y.own ≡ x.target → y.bytes ≡ asked_bytes x
      → is_three y.partners x.own ≡ is_three x.partners x.target → checked y.table ≡ Ok r → HasKind y.table r x.id 3 j
      → ComesAs y r (header_in (issue_in x) x.own x.id n x.payload) 3 j (length x.payload)
  hears y r j a b f e k =
      record {
        is_table = e;
        read =
            ap (λ (m : List ℕ). any_of y.partners y.own m) (b ∙ asked_is)
            ∙ ap (λ (o : ℕ). any_of y.partners o (bytes_for (issue_in x) x.own x.id n x.payload)) a
            ∙ crosses_in (issue_in x) x.own x.target x.id n x.payload y.partners c.one c.two c.narrow.id_fits number_fits c.size
            (stamp_by (is_three x.partners x.target) x.stamp c.narrow.seconds_fit c.narrow.nanoseconds_fit)
            (f ∙ sym (issue_by (is_three x.partners x.target) x.stamp));
        has = subst (λ (w : ℕ). HasKind y.table r w 3 j) (sym (id_is (issue_in x) x.own x.id n x.payload)) k;
      }

  -- and the response
  module _ (issue : Issue) (y : ToReceive) (r : Sections) (j : ℕ) (response outB : List ℕ) (a : y.own ≡ x.own)
      (b : y.bytes ≡ reply_in issue x.target x.id n response outB) (f : is_three y.partners x.target ≡ in_three issue)
      (fits : StampFits issue) (e : checked y.table ≡ Ok r) (k : HasKind y.table r x.id 2 j) (size : length response < 2 ^ 32)
      (room : head_of issue + length response ≤ length outB) where
    comes : ComesAs y r (header_in issue x.target x.id n response) 2 j (length response)
    comes =
        record {
          is_table = e;
          read =
              ap (λ (m : List ℕ). any_of y.partners y.own m) (b ∙ reply_is issue x.target x.id n response outB size room)
              ∙ ap (λ (o : ℕ). any_of y.partners o (bytes_for issue x.target x.id n response)) a
              ∙ crosses_in issue x.target x.own x.id n response y.partners c.other (λ z. c.two (sym z)) c.narrow.id_fits number_fits
              size fits f;
          has = subst (λ (w : ℕ). HasKind y.table r w 2 j) (sym (id_is issue x.target x.id n response)) k;
        }

    answers : (p : Standing) → DeliversAny our_any_receiving y p (waiting_for x) (header_in issue x.target x.id n response) j
    answers p =
        mixed_responses.response y r p (waiting_for x) (header_in issue x.target x.id n response) j (length response) comes
        (pending_is issue x.target x.id n response (waiting_for x) awaited)

    again : (p q : Standing) → RefusesAny our_any_receiving y q (our_any_receiving.list y p (waiting_for x))
    again p q =
        subst (RefusesAny our_any_receiving y q)
        (sym ((answers p).list ∙ ap (cancelled (waiting_for x)) (number_is issue x.target x.id n response)))
        (mixed_responses.any_other y r q (cancelled (waiting_for x) n) (header_in issue x.target x.id n response) j (length response) comes not_again)
      where
        not_again : ¬ (IsPending (cancelled (waiting_for x) n) (header_in issue x.target x.id n response))
        not_again u = none-some _ (sym gone ∙ is-pending issue x.target x.id n response (cancelled (waiting_for x) n) u)

  asked-in-issue : AskedInIssue x
  asked-in-issue =
      record {
        sends =
            ap (λ (y : Sending). y.answer) (sent-so (issue_in x) x.list x.kind x.id x.payload (length x.out) x.next not_refused)
            ∙ ap (Under n) (length_is (issue_in x) x.payload);
        hears = λ y r j q l a b f e k.
            heard-as y r (header_in (issue_in x) x.own x.id n x.payload) 3 j (length x.payload) (hears y r j a b f e k) (λ z. omega arith) q l;
        unlisted = λ y r j q l a b f e k.
            (mixed_responses.stays y r q l l e (no_response y r _ j (length x.payload) (hears y r j a b f e k))).0;
        handed =
            ap (λ (m : List ℕ). part m (head_of (issue_in x)) (length x.payload)) asked_is ∙ part_is (issue_in x) x.own x.id n x.payload;
        answers = λ issue y r j p response outB a b f fits e k size room. answers issue y r j response outB a b f fits e k size room p;
        again = λ issue y r j p q response outB a b f fits e k size room. again issue y r j response outB a b f fits e k size room p q;
        returned = λ issue response outB size room.
            ap (λ (m : List ℕ). part m (head_of issue) (length response)) (reply_is issue x.target x.id n response outB size room)
            ∙ part_is issue x.target x.id n response;
      }

pub mixed_asked : MixedAsked
mixed_asked = asked-in-issue
