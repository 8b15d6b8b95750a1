-- Messages of Issue 3, written and read.
-- Assumes nothing.
use Prim.Native.Nat.{ℕ, zero, suc, ◌+◌, ◌-◌, ◌^◌, ◌≤◌, ◌<◌}
use mathlib.Core.Path.{◌≡◌, refl, sym, ap, subst, ◌∙◌}
use mathlib.Core.List.{List, [], ◌++◌}
use native.Mathlib.Omega.{arith}
use lib.ListN.{length, get_or, take, length-drop}
use Rattle.wire.specs.Bytes.{Octets, number, bytes, over}
use Rattle.wire.specs.All.{all_below}
use Rattle.wire.proofs.Cond.{yes_le}
use Rattle.wire.proofs.Numbers.{number_bytes}
use Rattle.message.specs.declared.Status.{Status}
use Rattle.message.specs.declared.Status.TheVariants.{Down, Up}
use Rattle.message.specs.declared.Writing.TheVariants as writing
use Rattle.message.specs.Platform.{status_value}
use Rattle.message.specs.Refusal.{read_refusal, size_limit}
use Rattle.message.specs.Reading.{reading_out}
use Rattle.message.specs.Writing.{answered}
use Rattle.message3.specs.declared.Stamp.{Stamp}
use Rattle.message3.specs.declared.Header3.{Header3}
use Rattle.message3.specs.declared.Agreement.{Agreement}
use Rattle.message3.specs.declared.Agreement.TheVariants.{Disagree, Agree}
use Rattle.message3.specs.declared.Message3.{Message3}
use Rattle.message3.specs.declared.Message3.TheVariants.{PlatformStatus, PlatformStatusRequest, AvailabilityStatus, AvailabilityStatusRequest}
use Rattle.message3.specs.declared.Message3.TheVariants.{UnknownOperation, ServiceNotAvailable, VersionedDataPull, CompositeChangeRequest}
use Rattle.message3.specs.declared.Message3.TheVariants.{CompositeChangeRequestAck, Operation}
use Rattle.message3.specs.declared.Reading3.{Reading3}
use Rattle.message3.specs.declared.Reading3.TheVariants as reading
use Rattle.message3.specs.Header.{header_length3, domain_in3, sender_in3, id_in3, stamp_in, sequence_in3, payload_in3, header_in3}
use Rattle.message3.specs.Platform.{agreement_value, message_of3, services_bytes, kind_in3, value_in3}
use Rattle.message3.specs.Refusal.{contents_refusal3, read_refusal3, write_refusal3}
use Rattle.message3.specs.Reading.{answered3, read_out3, read_of3, payload_of3}
use Rattle.message3.specs.Writing.{header_for3, write_of3, output_after3}
use Rattle.message3.proofs.Accepted.{readable, admits}
use Rattle.message3.proofs.RoundTrip.{Fields, reads-back, payload-back, written_out, front, same_bytes, writes_again, payload_stands}
use Rattle.message3.proofs.Told.{how-many, length_services, services-written, service-told, state-told}
use Rattle.message3.proofs.NeverBoth as apart
use Rattle.message3.proofs.Worked.{worked_bytes, worked_read}
use Rattle.promises.specs.Issue3Messages.{ReadsAs3, FromAnother3, WrittenThenRead3, ReadThenWritten3, stamp_of, IsSentAs3, AreServices, EachMessage3}
use Rattle.promises.specs.Issue3Messages.{told_as, Kinds3, NeverBoth, WorkedMessages3, Issue3Messages}
use Rattle.promises.proofs.Headers.{not_refused, was_read}

-- what an answer says of the refusal behind it
pub was_read3 : (r : ℕ) (x : Reading3) (h : Header3) (m : Message3) (start len : ℕ) → answered3 r x ≡ reading.Read h m start len → (r ≡ 0)
    × (x ≡ reading.Read h m start len)
was_read3 zero x h m start len e = (refl, e)
was_read3 (suc r) x h m start len e = let z : ◌≡◌ {A = ℕ} 0 1 = cc in absurd (omega arith)

fields : {own reader id seq : ℕ} {t : Stamp} → FromAnother3 own reader id seq t → Fields own reader id seq t
fields a =
    record {
      other = a.other;
      id_fits = a.id_fits;
      sequence_fits = a.sequence_fits;
      seconds_fit = a.seconds_fit;
      nanoseconds_fit = a.nanoseconds_fit;
    }

-- the output's front, where nothing refuses
as_read : (own : ℕ) (t : Stamp) (domain id seq : ℕ) (payload out : List ℕ) → write_refusal3 domain id payload (length out) ≡ 0 → (reader : ℕ)
    → FromAnother3 own reader id seq t
    → ReadsAs3 reader (take (header_length3 + length payload) (output_after3 own t domain id seq payload out))
    (header_for3 own t domain id seq payload) (message_of3 domain id (number 2 payload 0) (number 2 payload 4)) payload
as_read own t domain id seq payload out w reader a =
    rw (front own t domain id seq payload out w) (record {
      answer = reads-back own t domain id seq payload (length out) reader (fields a) w;
      payload = payload-back own t domain id seq payload (length out) reader (fields a) w;
    })

written_then_read : WrittenThenRead3
written_then_read own reader domain id seq n t payload out a e =
    let w = not_refused (write_refusal3 domain id payload (length out)) (header_length3 + length payload) n e in
    rw w.1 (as_read own t domain id seq payload out w.0 reader a)

-- what was read, written again
abbrev Again : List ℕ → List ℕ → Header3 → List ℕ → Type 0
Again s out h payload =
    (write_of3 h.domain h.id payload (length out) ≡ writing.Written (length s))
    × (output_after3 h.platform (stamp_of h) h.domain h.id h.sequence payload out ≡ over out 0 s)

again : (own : ℕ) (s out : List ℕ) → Octets s → read_refusal3 own s ≡ 0 → length s ≤ length out → Again s out (header_in3 s) (payload_in3 s)
again own s out o e l =
    let w : write_refusal3 (domain_in3 s) (id_in3 s) (payload_in3 s) (length out) ≡ 0 = writes_again own s o e (length out) l in
    let n : header_length3 + length (payload_in3 s) ≡ length s = omega (arith, length-drop header_length3 s, (readable own s e).long) in (
      ap (λ (r : ℕ). answered r (header_length3 + length (payload_in3 s))) w ∙ ap writing.Written n,
      written_out (sender_in3 s) (stamp_in s) (domain_in3 s) (id_in3 s) (sequence_in3 s) (payload_in3 s) out w ∙ ap (over out 0) (same_bytes own s o e),
    )

abbrev pub header_read : Header3 → Reading3 → Header3
header_read h (reading.Read x m start len) = x
header_read h (reading.Refused n) = h

read_then_written : ReadThenWritten3
read_then_written own s h m start len out o e l =
    let w = was_read3 (read_refusal3 own s) (read_out3 s) h m start len e in
    let its-header : header_in3 s ≡ h = ap (header_read h) w.1 in
    let its-payload : payload_in3 s ≡ payload_of3 s (read_of3 own s) = sym (payload_stands own s o w.0) in
    subst (λ (x : Header3). Again s out x (payload_of3 s (read_of3 own s))) its-header
    (subst (λ (p : List ℕ). Again s out (header_in3 s) p) its-payload (again own s out o w.0 l))

-- a message whose contents nothing refuses
sent_as : (domain id : ℕ) (payload : List ℕ) (kind : Message3) → domain < 2 → length payload < 2 ^ 32 → contents_refusal3 domain id payload ≡ 0
    → message_of3 domain id (number 2 payload 0) (number 2 payload 4) ≡ kind → IsSentAs3 domain id payload kind
sent_as domain id payload kind dom few ok means own reader seq t out a room =
    let w : write_refusal3 domain id payload (length out)
    ≡ 0 = admits domain id payload (length out) (record { domain = dom; size = few; contents = ok; fits = room }) in (
      ap (λ (r : ℕ). answered r (header_length3 + length payload)) w,
      subst (λ (m : Message3). ReadsAs3 reader (take (header_length3 + length payload) (output_after3 own t domain id seq payload out))
          (header_for3 own t domain id seq payload) m payload) means
          (as_read own t domain id seq payload out w reader a),
    )

-- one of the five that have an ID in their payload and nothing else
one_id : (n : ℕ) (kind : ℕ → Message3) → ((x : ℕ) → contents_refusal3 0 n (bytes 2 x) ≡ 0) → ((x y : ℕ) → message_of3 0 n x y ≡ kind x) → (id : ℕ)
    → id < 2 ^ 32 → IsSentAs3 0 n (bytes 2 id) (kind id)
one_id n kind ok means id h =
    sent_as 0 n (bytes 2 id) (kind id) (omega arith) (omega arith) (ok id)
    (means (number 2 (bytes 2 id) 0) (number 2 (bytes 2 id) 4) ∙ ap kind (number_bytes 2 id [] h))

status : (x : Status) (composite : ℕ) → composite < 2 ^ 32
    → IsSentAs3 0 1 (bytes 2 (status_value x) ++ bytes 2 composite) (PlatformStatus x composite)
status Down composite h =
    sent_as 0 1 (bytes 2 0 ++ bytes 2 composite) (PlatformStatus Down composite) (omega arith) (omega arith) refl
    (ap (PlatformStatus Down) (number_bytes 2 composite [] h))
status Up composite h =
    sent_as 0 1 (bytes 2 1 ++ bytes 2 composite) (PlatformStatus Up composite) (omega arith) (omega arith) refl
    (ap (PlatformStatus Up) (number_bytes 2 composite [] h))

composite_ack : (a : Agreement) → IsSentAs3 0 9 (bytes 2 (agreement_value a)) (CompositeChangeRequestAck a)
composite_ack Disagree = sent_as 0 9 (bytes 2 0) (CompositeChangeRequestAck Disagree) (omega arith) (omega arith) refl refl
composite_ack Agree = sent_as 0 9 (bytes 2 1) (CompositeChangeRequestAck Agree) (omega arith) (omega arith) refl refl

services : (ps : List (ℕ × ℕ)) → AreServices ps → length ps < 2 ^ 29 → IsSentAs3 0 3 (services_bytes ps) (AvailabilityStatus (length ps))
services ps g few =
    sent_as 0 3 (services_bytes ps) (AvailabilityStatus (length ps)) (omega arith) (omega (arith, length_services ps))
    (services-written ps g few) (ap AvailabilityStatus (how-many ps g few))

services_too_many : (ps : List (ℕ × ℕ)) (room : ℕ) → 2 ^ 29 ≤ length ps → write_of3 0 3 (services_bytes ps) room ≡ writing.Refused 5
services_too_many ps room h =
    ap (λ (r : ℕ). answered r (header_length3 + length (services_bytes ps)))
    (yes_le 5 _ size_limit (length (services_bytes ps)) (omega (arith, length_services ps)))

each_message : EachMessage3
each_message =
    record {
      status = status;
      request = sent_as 0 2 [] PlatformStatusRequest (omega arith) (omega arith) refl refl;
      services = services;
      services_too_many = services_too_many;
      services_told = λ ps g i h. (service-told ps g i h, state-told ps g i h);
      services_request = one_id 4 AvailabilityStatusRequest (λ x. refl) (λ x y. refl);
      unknown = one_id 5 UnknownOperation (λ x. refl) (λ x y. refl);
      not_available = one_id 6 ServiceNotAvailable (λ x. refl) (λ x y. refl);
      pull = one_id 7 VersionedDataPull (λ x. refl) (λ x y. refl);
      composite = one_id 8 CompositeChangeRequest (λ x. refl) (λ x y. refl);
      composite_ack = composite_ack;
      operation = λ id payload h. sent_as 1 id payload Operation (omega arith) h refl refl;
    }

-- what is so of each of the nine IDs
abbrev pub Nine : (ℕ → Type 0) → Type 0
Nine P = P 1 × P 2 × P 3 × P 4 × P 5 × P 6 × P 7 × P 8 × P 9

pub nine : (P : ℕ → Type 0) → Nine P → (id : ℕ) → 1 ≤ id → id ≤ 9 → P id
nine P h zero l m = absurd (omega arith)
nine P h (suc zero) l m = h.0
nine P h (suc (suc zero)) l m = h.1
nine P h (suc (suc (suc zero))) l m = h.2
nine P h (suc (suc (suc (suc zero)))) l m = h.3
nine P h (suc (suc (suc (suc (suc zero))))) l m = h.4
nine P h (suc (suc (suc (suc (suc (suc zero)))))) l m = h.5
nine P h (suc (suc (suc (suc (suc (suc (suc zero))))))) l m = h.6
nine P h (suc (suc (suc (suc (suc (suc (suc (suc zero)))))))) l m = h.7
nine P h (suc (suc (suc (suc (suc (suc (suc (suc (suc zero))))))))) l m = h.8
nine P h (suc (suc (suc (suc (suc (suc (suc (suc (suc (suc n)))))))))) l m = absurd (omega arith)

kinds : Kinds3
kinds =
    record {
      of_platform = λ id field second. nine (λ n. kind_in3 (message_of3 0 n field second) ≡ get_or told_as (n - 1) 0)
          (refl, refl, refl, refl, refl, refl, refl, refl, refl) id;
      of_operation = λ id field second. refl;
      value = λ id field second l m. nine (λ n. 3 ≤ n → n ≤ 8 → value_in3 n (message_of3 0 n field second) ≡ field) (
        λ l m. absurd (omega arith),
        λ l m. absurd (omega arith),
        λ l m. refl,
        λ l m. refl,
        λ l m. refl,
        λ l m. refl,
        λ l m. refl,
        λ l m. refl,
        λ l m. absurd (omega arith),
      ) id (omega arith) (omega arith) l m;
      status-value = below_two 1 (λ second. refl) (λ second. refl);
      ack_value = below_two 9 (λ second. refl) (λ second. refl);
      operation_value = λ id field second. refl;
    }
  where
    below_two : (n : ℕ) → ((second : ℕ) → value_in3 n (message_of3 0 n 0 second) ≡ 0) → ((second : ℕ) → value_in3 n (message_of3 0 n 1 second) ≡ 1)
        → (field second : ℕ) → field < 2 → value_in3 n (message_of3 0 n field second) ≡ field
    below_two n a b zero second h = a second
    below_two n a b (suc zero) second h = b second
    below_two n a b (suc (suc field)) second h = absurd (omega arith)

never_both : NeverBoth
never_both own reader s h m start len h₃ m₃ start₃ len₃ e f =
    apart.never_both own reader s (was_read (read_refusal own s) (reading_out s) h m start len e).0
    (was_read3 (read_refusal3 reader s) (read_out3 s) h₃ m₃ start₃ len₃ f).0

worked : WorkedMessages3
unfolding all_below
worked =
    record {
      read = worked_read;
      answer = refl;
      written = worked_bytes;
      own_refused = refl;
      cut = λ own. refl;
      wrapping = refl;
      no_services = refl;
      last_reserved = refl;
      one_missing = refl;
    }

pub issue3_messages : Issue3Messages
issue3_messages =
    record {
      written_then_read = written_then_read;
      read_then_written = read_then_written;
      each_message = each_message;
      kinds = kinds;
      never_both = never_both;
      worked = worked;
    }
