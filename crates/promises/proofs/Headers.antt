-- Messages and binding headers, written and read.
-- Assumes nothing.
use Prim.Native.Nat.{ℕ, zero, suc, ◌+◌, ◌^◌, ◌≤◌, ◌<◌}
use mathlib.Core.Path.{◌≡◌, refl, sym, ap, subst, ◌∙◌}
use mathlib.Core.List.{List, []}
use native.Mathlib.Omega.{arith}
use lib.ListN.{length, take, drop, length-drop}
use lib.Seq.{take_at}
use Rattle.wire.specs.Bytes.{Octets, number, bytes, over}
use Rattle.wire.proofs.Numbers.{number_bytes}
use Rattle.message.specs.declared.Header.{Header}
use Rattle.message.specs.declared.Status.{Status}
use Rattle.message.specs.declared.Status.TheVariants.{Down, Up}
use Rattle.message.specs.declared.Message.{Message}
use Rattle.message.specs.declared.Message.TheVariants.{PlatformStatus, PlatformStatusRequest, UnknownOperation, VersionedDataPull, Operation}
use Rattle.message.specs.declared.Reading.{Reading}
use Rattle.message.specs.declared.Reading.TheVariants as reading
use Rattle.message.specs.declared.Writing.TheVariants as writing
use Rattle.message.specs.Header.{header_length, domain_in, sender_in, id_in, sequence_in, payload_in, header_in}
use Rattle.message.specs.Platform.{platform_status, platform_status_request, unknown_operation, versioned_data_pull, status_value, message_of}
use Rattle.message.specs.Refusal.{contents_refusal, read_refusal, write_refusal}
use Rattle.message.specs.Reading.{reading_out, read_of, payload_of}
use Rattle.message.specs.Reading as reads
use Rattle.message.specs.Writing.{header_for, message_bytes, left_over_by, write_of, output_after}
use Rattle.message.specs.Writing as writes
use Rattle.message.proofs.Accepted.{readable, admits}
use Rattle.message.proofs.RoundTrip.{reads-back, payload-back, same_bytes, writes_again}
use Rattle.platform.proofs.Unchanged.{payload_stands}
use Rattle.binding.proofs.Headers.{header_back, piece_back, bytes_back}
use Rattle.promises.specs.Headers.{ReadsAs, FromAnother, WrittenThenRead, ReadThenWritten, IsSentAs, EachMessage, HeaderThenRead, HeaderReadThenWritten}

-- what an answer says of the refusal behind it
pub not_refused : (r k n : ℕ) → writes.answered r k ≡ writing.Written n → (r ≡ 0) × (n ≡ k)
not_refused zero k n e = (refl, cc)
not_refused (suc r) k n e = let z : ◌≡◌ {A = ℕ} 0 1 = cc in absurd (omega arith)

pub was_read : (r : ℕ) (x : Reading) (h : Header) (m : Message) (start len : ℕ) → reads.answered r x ≡ reading.Read h m start len → (r ≡ 0)
    × (x ≡ reading.Read h m start len)
was_read zero x h m start len e = (refl, e)
was_read (suc r) x h m start len e = let z : ◌≡◌ {A = ℕ} 0 1 = cc in absurd (omega arith)

-- the output where nothing refuses, and its front
module _ (own domain id seq : ℕ) (payload out : List ℕ) (w : write_refusal domain id payload (length out) ≡ 0) where
  written_out : output_after own domain id seq payload out ≡ over out 0 (message_bytes own domain id seq payload)
  written_out = ap (λ (r : ℕ). left_over_by (writes.answered r (header_length + length payload)) out (over out 0 (message_bytes own domain id seq payload))) w

  pub front : take (header_length + length payload) (output_after own domain id seq payload out) ≡ message_bytes own domain id seq payload
  front =
      let b : List ℕ = message_bytes own domain id seq payload in
      ap (take (header_length + length payload)) written_out ∙ take_at b (drop (0 + length b) out) (header_length + length payload) (omega arith)

  as_read : (reader : ℕ) → FromAnother own reader id seq
      → ReadsAs reader (take (header_length + length payload) (output_after own domain id seq payload out))
      (header_for own domain id seq payload) (message_of domain id (number 2 payload 0)) payload
  as_read reader a =
      rw front (record {
        answer = reads-back own domain id seq payload (length out) reader (omega (arith, a.platform)) a.other a.id_fits a.sequence_fits w;
        payload = payload-back own domain id seq payload (length out) reader (omega (arith, a.platform)) a.other a.id_fits a.sequence_fits w;
      })

pub written_then_read : WrittenThenRead
written_then_read own reader domain id seq n payload out a e =
    let w = not_refused (write_refusal domain id payload (length out)) (header_length + length payload) n e in
    rw w.1 (as_read own domain id seq payload out w.0 reader a)

-- what was read, written again
abbrev Again : List ℕ → List ℕ → Header → List ℕ → Type 0
Again s out h payload =
    (write_of h.domain h.id payload (length out) ≡ writing.Written (length s))
    × (output_after h.platform h.domain h.id h.sequence payload out ≡ over out 0 s)

again : (own : ℕ) (s out : List ℕ) → Octets s → read_refusal own s ≡ 0 → length s ≤ length out → Again s out (header_in s) (payload_in s)
again own s out o e l =
    let w : write_refusal (domain_in s) (id_in s) (payload_in s) (length out) ≡ 0 = writes_again own s o e (length out) l in
    let n : header_length + length (payload_in s) ≡ length s = omega (arith, length-drop header_length s, (readable own s e).long) in (
      ap (λ (r : ℕ). writes.answered r (header_length + length (payload_in s))) w ∙ ap writing.Written n,
      written_out (sender_in s) (domain_in s) (id_in s) (sequence_in s) (payload_in s) out w ∙ ap (over out 0) (same_bytes own s o e),
    )

abbrev pub header_read : Header → Reading → Header
header_read h (reading.Read x m start len) = x
header_read h (reading.Refused n) = h

pub read_then_written : ReadThenWritten
read_then_written own s h m start len out o e l =
    let w = was_read (read_refusal own s) (reading_out s) h m start len e in
    let fields : header_in s ≡ h = ap (header_read h) w.1 in
    let its-payload : payload_in s
    ≡ payload_of s (read_of own s) = sym (ap (λ (r : ℕ). payload_of s (reads.answered r (reading_out s))) w.0 ∙ payload_stands own s w.0) in
    subst (λ (x : Header). Again s out x (payload_of s (read_of own s))) fields
    (subst (λ (p : List ℕ). Again s out (header_in s) p) its-payload (again own s out o w.0 l))

-- a message whose contents nothing refuses
sent_as : (domain id : ℕ) (payload : List ℕ) (kind : Message) → domain < 2 → length payload < 2 ^ 32 → contents_refusal domain id payload ≡ 0
    → message_of domain id (number 2 payload 0) ≡ kind → IsSentAs domain id payload kind
sent_as domain id payload kind dom few ok means own reader seq out a room =
    let w : write_refusal domain id payload (length out)
    ≡ 0 = admits domain id payload (length out) (record { domain = dom; size = few; contents = ok; fits = room }) in (
      ap (λ (r : ℕ). writes.answered r (header_length + length payload)) w,
      subst (λ (m : Message). ReadsAs reader (take (header_length + length payload) (output_after own domain id seq payload out))
          (header_for own domain id seq payload) m payload) means
          (as_read own domain id seq payload out w reader a),
    )

pub each_message : EachMessage
each_message =
    record {
      status = status;
      request = sent_as 0 platform_status_request [] PlatformStatusRequest (omega arith) (omega arith) refl refl;
      unknown = λ id h. sent_as 0 unknown_operation (bytes 2 id) (UnknownOperation id) (omega arith) (omega arith) refl
          (ap UnknownOperation (number_bytes 2 id [] h));
      pull = λ id h. sent_as 0 versioned_data_pull (bytes 2 id) (VersionedDataPull id) (omega arith) (omega arith) refl
          (ap VersionedDataPull (number_bytes 2 id [] h));
      operation = λ id payload h. sent_as 1 id payload Operation (omega arith) h refl refl;
    }
  where
    status : (x : Status) → IsSentAs 0 platform_status (bytes 2 (status_value x)) (PlatformStatus x)
    status Down = sent_as 0 platform_status (bytes 2 0) (PlatformStatus Down) (omega arith) (omega arith) refl refl
    status Up = sent_as 0 platform_status (bytes 2 1) (PlatformStatus Up) (omega arith) (omega arith) refl refl

-- the binding header
pub header_then_read : HeaderThenRead
header_then_read h piece s c l m = (header_back h piece s c l m, piece_back h piece)

pub header_read_then_written : HeaderReadThenWritten
header_read_then_written d h o e = bytes_back d h o e
