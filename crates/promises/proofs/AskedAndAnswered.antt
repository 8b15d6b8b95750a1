-- What is sent, on a table that `check` accepts; a request asked, served and answered.
-- Assumes nothing.
use Prim.Native.Nat.{ℕ, ◌+◌, ◌%◌, ◌^◌, ◌≤◌, ◌<◌}
use Rattle.std.specs.Prelude.{Ok}
use Rattle.std.specs.Prelude.{Option, Some, None}
use Rattle.std.proofs.lemmas.Option.{none-some}
use mathlib.Core.Path.{◌≡◌, refl, sym, ap, subst, ◌∙◌}
use mathlib.Core.Bool.{true}
use mathlib.Core.List.{List}
use native.Mathlib.Omega.{arith}
use lib.ListN.{length, take, drop}
use lib.Seq.{take_at}
use Rattle.wire.specs.Bytes.{over, part}
use Rattle.wire.proofs.Cond.{yes-if, no-if, no-ne}
use Rattle.table.specs.declared.Sections.{Sections}
use Rattle.types.specs.Table.{checked}
use Rattle.operations.specs.Entries.{op_place}
use Rattle.message.specs.declared.Message.TheVariants as message
use Rattle.message.specs.declared.Reading.TheVariants.{Read}
use Rattle.message.specs.Refusal.{write_refusal}
use Rattle.message.specs.Reading.{read_of, payload_of}
use Rattle.message.specs.Writing.{header_for, message_bytes, left_over_by, answered}
use Rattle.message.proofs.Accepted.{admits}
use Rattle.message.proofs.RoundTrip.{reads-back, payload-back}
use Rattle.pending.specs.Places.{free_place, entered, entered_at}
use Rattle.pending.specs.Free.{is_pending, next_free, IsNextFree}
use Rattle.pending.specs.Answers.{awaited_of, cancelled, is_response}
use Rattle.pending.proofs.Looking.{none-bears-it}
use Rattle.pending.proofs.Drawing.{next-is-free}
use Rattle.requests.specs.declared.Issue.TheVariants.{Six}
use Rattle.requests.specs.declared.Sending.{Sending}
use Rattle.requests.specs.declared.Sent.TheVariants.{Under}
use Rattle.requests.specs.Sending.{unless_full, send_refusal, sent_of, output_sent, number_given}
use Rattle.requests.proofs.Sends.{given_is, sent-so, entered_so, written-so}
use Rattle.platform.specs.declared.reactions.Standing.{Standing}
use Rattle.platform.specs.declared.Received.{Received}
use Rattle.platform.specs.Receiving.{refused, response_to, received_of, list_after}
use Rattle.promises.specs.Checks.{Answers, this, next}
use Rattle.promises.specs.Requests.{send_checks, not_sent, sent_as, Arrives}
use Rattle.promises.specs.RequestCalls.{HasKind, kind_in}
use Rattle.promises.specs.AskedAndAnswered.{table_checks, SentOnTable, CanAsk, HeardAt, DeliveredAt, asked, waiting, reply}
use Rattle.promises.specs.AskedAndAnswered.{AskedAndAnswered, AsksAndAnswers}
use Rattle.promises.proofs.Requests.{requests}
use Rattle.promises.proofs.RequestTables.{its-kind, no-request, some-request}
use Rattle.promises.proofs.RequestReceipts.{by-list, output-stays, list-by, as-operation, nothing_owed, not_listed}
use Rattle.promises.proofs.NewRequest.{is-awaited, no_longer}

-- on a table
module _ (t : List ℕ) (s : Sections) (words : List ℕ) (e : checked t ≡ Ok s) (room : s.operations.count ≤ length words) where
  -- 62 by the table's entries
  by_entries : (from id : ℕ) (l payload : List ℕ) (space : ℕ) (x : Sending)
      → Answers (not_sent from) (sent_as from l payload) (send_checks l (kind_in t s words id) payload space) x
      → Answers (not_sent from) (sent_as from l payload) (table_checks t s id l payload space) x
  by_entries from id l payload space x (this h) = this (no-request t s e words room id h)
  by_entries from id l payload space x (next d a) = next (some-request t s e words room id d) a

  arrives : (own from id reader n written : ℕ) (l payload out : List ℕ) → own < 256 → id < 2 ^ 32 → from < 2 ^ 32 → ¬ (own ≡ reader)
      → (sent_of from l (kind_in t s words id) id payload (length out)).answer ≡ Under n written
      → Arrives own id n reader payload (take written (output_sent own from l (kind_in t s words id) id payload out))
  arrives own from id reader n written l payload out o i f d q =
      let z : number_given (sent_of from l (kind_in t s words id) id payload (length out)).answer ≡ 0 = ap number_given q in
      let w : send_refusal l (kind_in t s words id) id payload (length out) ≡ 0 = sym (given_is Six l (kind_in t s words id) id payload (length out) from) ∙ z in
      let g : Under (next_free l from) (20 + length payload) ≡ Under n written =
      sym (ap (λ (x : Sending). x.answer) (sent-so Six l (kind_in t s words id) id payload (length out) from w)) ∙ q in
      let a : next_free l from ≡ n = cc in
      let b : 20 + length payload ≡ written = cc in
      let r : Arrives own id (next_free l from) reader payload
      (take (20 + length payload) (output_sent own from l (kind_in t s words id) id payload out)) =
      requests.arrives own from (kind_in t s words id) id reader l payload out o i f d z in
      subst (λ (k : ℕ). Arrives own id n reader payload (take k (output_sent own from l (kind_in t s words id) id payload out))) b
      (subst
      (λ (k : ℕ). Arrives own id k reader payload (take (20 + length payload) (output_sent own from l (kind_in t s words id) id payload out))) a r)

  on_table : SentOnTable t s words
  on_table =
      record {
        order = λ from id l payload space.
            by_entries from id l payload space (sent_of from l (kind_in t s words id) id payload space)
            (requests.order from (kind_in t s words id) id l payload space);
        arrives = arrives;
      }

-- a message that stands at the output's start
in_front : (own id n : ℕ) (payload out : List ℕ) → take (20 + length payload) (over out 0 (message_bytes own 1 id n payload)) ≡ message_bytes own 1 id n payload
in_front own id n payload out =
    let e : length (message_bytes own 1 id n payload) ≡ 20 + length payload = omega arith in
    take_at (message_bytes own 1 id n payload) (drop (0 + length (message_bytes own 1 id n payload)) out) (20 + length payload) e

pub writes : (id : ℕ) (payload : List ℕ) (room : ℕ) → length payload < 2 ^ 32 → 20 + length payload ≤ room → write_refusal 1 id payload room ≡ 0
writes id payload room h r = admits 1 id payload room (record { domain = omega arith; size = h; contents = refl; fits = r })

-- a message is read at another platform as it was written
abbrev pub Crosses : ℕ → ℕ → ℕ → ℕ → List ℕ → Type 0
Crosses x y id n payload =
    (read_of y (message_bytes x 1 id n payload) ≡ Read (header_for x 1 id n payload) message.Operation 20 (length payload))
    × (part (message_bytes x 1 id n payload) 20 (length payload) ≡ payload)

pub crosses : (x y id n : ℕ) (payload : List ℕ) → x < 256 → ¬ (x ≡ y) → id < 2 ^ 32 → n < 2 ^ 32 → length payload < 2 ^ 32 → Crosses x y id n payload
crosses x y id n payload o d i q size =
    let w : write_refusal 1 id payload (20 + length payload) ≡ 0 = writes id payload (20 + length payload) size (omega arith) in
    let r : read_of y (message_bytes x 1 id n payload) ≡ Read (header_for x 1 id n payload) message.Operation 20 (length payload) =
    reads-back x 1 id n payload (20 + length payload) y (omega arith) d i q w in
    (r, ap (payload_of (message_bytes x 1 id n payload)) (sym r) ∙ payload-back x 1 id n payload (20 + length payload) y (omega arith) d i q w)

module _ (a b from id : ℕ) (t : List ℕ) (s : Sections) (words l payload out : List ℕ) (c : CanAsk a b from id t s words l payload out) where
  abbrev kind : ℕ
  kind = kind_in t s words id

  abbrev n : ℕ
  n = next_free l from

  number : IsNextFree (is_pending l) from (next_free l from)
  number = next-is-free l from c.next_fits

  number_fits : next_free l from < 2 ^ 32
  number_fits =
      let r : next_free l from ≡ (from + number.draws) % 2 ^ 32 = number.reached in
      omega arith

  -- a place is free
  there : (k : ℕ) × (free_place l ≡ Some k)
  there = go (free_place l) refl
    where
      go : (x : Option ℕ) → free_place l ≡ x → (k : ℕ) × (free_place l ≡ Some k)
      go (Some k) p = (k, p)
      go None p = absurd (none-bears-it l 0 64 0 c.place p (omega arith) c.places c.free)

  not_refused : send_refusal l kind id payload (length out) ≡ 0
  not_refused =
      no-ne 62 _ kind 2 (its-kind t s c.table words c.index id 2 c.entry c.sent)
      ∙ ap (λ (x : Option ℕ). unless_full x (write_refusal 1 id payload (length out))) there.1
      ∙ writes id payload (length out) c.size c.room

  -- what platform b gets, and what platform a waits for
  asked_is : asked a b from id t s words l payload out ≡ message_bytes a 1 id (next_free l from) payload
  asked_is = ap (take (20 + length payload)) (written-so Six a from kind id l payload out not_refused) ∙ in_front a id (next_free l from) payload out

  waiting-is : waiting a b from id t s words l payload out ≡ entered l there.0 (next_free l from) id b
  waiting-is =
      entered_so Six l kind id payload (length out) from b not_refused ∙ ap (λ (x : Option ℕ). entered_at l x (next_free l from) id b) there.1

  awaited : awaited_of (waiting a b from id t s words l payload out) n ≡ Some (id, b)
  awaited =
      ap (λ (r : List ℕ). awaited_of r n) waiting-is
      ∙ is-awaited l c.whole there.0 n id b there.1 c.id_fits number.not_zero number.not_taken

  gone : awaited_of (cancelled (waiting a b from id t s words l payload out) n) n ≡ None
  gone =
      ap (λ (r : List ℕ). awaited_of (cancelled r n) n) waiting-is
      ∙ no_longer l c.whole there.0 n id b there.1 c.id_fits number.not_zero number.not_taken

  hears : (u : List ℕ) (r : Sections) (j : ℕ) (q : Standing) (list outB : List ℕ) → checked u ≡ Ok r → HasKind u r id 3 j
      → HeardAt b u q list (asked a b from id t s words l payload out) outB (header_for a 1 id n payload) j payload
  hears u r j q list outB e k =
      subst (λ (m : List ℕ). HeardAt b u q list m outB (header_for a 1 id n payload) j payload) (sym asked_is)
      (record {
        answer = as-operation b u r e _ (header_for a 1 id n payload) 3 j (length payload) x.0 k (λ z. omega arith) q list (length outB);
        handed = x.1;
        output = nothing_owed b u r e _ (header_for a 1 id n payload) 3 j (length payload) x.0 k (λ z. omega arith) q outB;
        list = not_listed b u r e _ (header_for a 1 id n payload) 3 j (length payload) x.0 k (λ z. omega arith) list;
      })
    where
      x : Crosses a b id n payload
      x = crosses a b id n payload c.one c.two c.id_fits number_fits c.size

  answers : (u : List ℕ) (r : Sections) (j : ℕ) (p : Standing) (response outB outA : List ℕ) → checked u ≡ Ok r → HasKind u r id 2 j
      → length response < 2 ^ 32 → 20 + length response ≤ length outB
      → DeliveredAt a u p (waiting a b from id t s words l payload out) (reply a b from id t s words l payload out response outB) outA
      (header_for b 1 id n response) j response
  unfolding response_to
  answers u r j p response outB outA e k size room =
      subst (λ (m : List ℕ). DeliveredAt a u p wait m outA (header_for b 1 id n response) j response) (sym reply_is)
      (record {
        answer = by p wait (length outA) ∙ yes-if {A = Received} _ (refused p 61) is-response;
        handed = x.1;
        output = output-stays a u r e _ (header_for b 1 id n response) 2 j (length response) x.0 k refl p outA;
        gone = ap (λ (z : List ℕ). awaited_of z n) left ∙ gone;
        once = λ q space.
            ap (λ (z : List ℕ). received_of a u q z (message_bytes b 1 id n response) space) left
            ∙ by q (cancelled wait n) space ∙ no-if {A = Received} _ (refused q 61) (requests.no_response (cancelled wait n) n id b not_again);
      })
    where
      x : Crosses b a id n response
      x = crosses b a id n response c.other (λ z. c.two (sym z)) c.id_fits number_fits size

      wait : List ℕ
      wait = waiting a b from id t s words l payload out

      reply_is : reply a b from id t s words l payload out response outB ≡ message_bytes b 1 id n response
      reply_is =
          ap (λ (z : ℕ). take (20 + length response) (left_over_by (answered z (20 + length response)) outB (over outB 0 (message_bytes b 1 id n response))))
          (writes id response (length outB) size room)
          ∙ in_front b id n response outB

      by : (q : Standing) (list : List ℕ) (space : ℕ) → received_of a u q list (message_bytes b 1 id n response) space
          ≡ response_to list (Some (j, op_place u r.operations.at j)) q (header_for b 1 id n response) 20 (length response)
      by q list space = by-list a u r e _ (header_for b 1 id n response) 2 j (length response) x.0 k refl q list space

      is-response : is_response (waiting a b from id t s words l payload out) n id b ≡ true
      is-response = requests.is-response (waiting a b from id t s words l payload out) n id b awaited

      left : list_after a u (waiting a b from id t s words l payload out) (message_bytes b 1 id n response)
          ≡ cancelled (waiting a b from id t s words l payload out) n
      left =
          list-by a u r e _ (header_for b 1 id n response) 2 j (length response) x.0 k refl (waiting a b from id t s words l payload out)
          ∙ yes-if (cancelled (waiting a b from id t s words l payload out) n) (waiting a b from id t s words l payload out) is-response

      not_again : ¬ (awaited_of (cancelled (waiting a b from id t s words l payload out) n) n ≡ Some (id, b))
      not_again q = none-some _ (sym gone ∙ q)

  asked_and_answered : AskedAndAnswered a b from id t s words l payload out
  asked_and_answered =
      record {
        sends = ap (λ (x : Sending). x.answer) (sent-so Six l kind id payload (length out) from not_refused);
        hears = hears;
        answers = answers;
      }

pub asks_and_answers : AsksAndAnswers
asks_and_answers = record { on_table = on_table; asked_and_answered = asked_and_answered }
