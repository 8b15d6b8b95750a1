-- A message of Issue 3 that is written reads back as the same header, timestamp too, kind and payload at every platform but its
-- sender, and a message that is read gives the same bytes when it is written again with the same fields.
-- Assumes nothing.
use Prim.Native.Nat.{ℕ, ◌+◌, ◌≤◌, ◌<◌}
use mathlib.Core.Path.{◌≡◌, refl, sym, ap, ◌∙◌}
use mathlib.Core.List.{List, [], ◌++◌}
use native.Mathlib.Omega.{arith}
use lib.ListN.{length, take, drop, length-drop}
use lib.Seq.{take-length, take_all, take_at}
use Rattle.wire.specs.Bytes.{Octets, span, number, bytes, over}
use Rattle.wire.proofs.Numbers.{number_lt, number_bytes}
use Rattle.wire.proofs.Runs.{part_in}
use Rattle.message.specs.Writing.{answered, left_over_by}
use Rattle.message.proofs.RoundTrip.{field}
use Rattle.message3.specs.declared.Header3.{Header3}
use Rattle.message3.specs.declared.Stamp.{Stamp}
use Rattle.message3.specs.declared.Reading3.TheVariants.{Read}
use Rattle.message3.specs.Header.{header_length3, the_version3, version_in3, domain_in3, version_and_domain, sender_in3, id_in3, seconds_in}
use Rattle.message3.specs.Header.{nanoseconds_in, stamp_in, payload_size_in3, sequence_in3, payload_in3, header_of3}
use Rattle.message3.specs.Platform.{first_in, second_in, message_of3}
use Rattle.message3.specs.Refusal.{contents_refusal3, read_refusal3, write_refusal3}
use Rattle.message3.specs.Reading.{answered3, read_out3, read_of3, payload_of3}
use Rattle.message3.specs.Writing.{header_for3, message_bytes3, output_after3}
use Rattle.message3.proofs.Accepted.{Readable, readable, Writable, writable, accepts, admits}

-- the numbers of a message are as wide as their fields, and the reader is not its sender
pub record Fields (own reader id seq : ℕ) (t : Stamp) : Type 0 where
  pub other : own ≡ reader → ⊥
  pub id_fits : id < span 2
  pub sequence_fits : seq < span 2
  pub seconds_fit : t.seconds < span 2
  pub nanoseconds_fit : t.nanoseconds < span 2

-- what is written reads back
module _ (own : ℕ) (t : Stamp) (domain id seq : ℕ) (payload : List ℕ) (room reader : ℕ) (f : Fields own reader id seq t)
    (w : write_refusal3 domain id payload room ≡ 0) where
  abbrev message : List ℕ
  message = message_bytes3 own t domain id seq payload

  ok : Writable domain id payload room
  ok = writable domain id payload room w

  its-version : version_in3 message ≡ the_version3
  its-version = omega (arith, ok.domain)

  its-domain : domain_in3 message ≡ domain
  its-domain = omega (arith, ok.domain)

  -- a field is the four bytes that were laid there, whatever stands behind them
  its_id : id_in3 message ≡ id
  its_id = number_bytes 2 id [] f.id_fits

  its-seconds : seconds_in message ≡ t.seconds
  its-seconds = number_bytes 2 t.seconds [] f.seconds_fit

  its-nanoseconds : nanoseconds_in message ≡ t.nanoseconds
  its-nanoseconds = number_bytes 2 t.nanoseconds [] f.nanoseconds_fit

  its-size : payload_size_in3 message ≡ length payload
  its-size = number_bytes 2 (length payload) [] ok.size

  its-sequence : sequence_in3 message ≡ seq
  its-sequence = number_bytes 2 seq [] f.sequence_fits

  -- nothing refuses it at the reader
  pub not_refused : read_refusal3 reader message ≡ 0
  not_refused =
      let z = its-size in
      let d = its-domain in
      accepts reader message (record {
        long = omega arith;
        mark = refl;
        version = its-version;
        domain = omega (arith, ok.domain);
        size = omega arith;
        other = f.other;
        contents = (λ i. contents_refusal3 (its-domain i) (its_id i) payload) ∙ ok.contents;
      })

  abbrev fields : ℕ → ℕ → ℕ → ℕ → ℕ → ℕ → Header3
  fields d i s n z q = header_of3 d own i (record { seconds = s; nanoseconds = n }) z q

  pub reads-back : read_of3 reader message
      ≡ Read (header_for3 own t domain id seq payload) (message_of3 domain id (first_in payload) (second_in payload)) header_length3 (length payload)
  reads-back =
      ap (λ (n : ℕ). answered3 n (read_out3 message)) not_refused
      ∙ (λ i. Read (fields (its-domain i) (its_id i) (its-seconds i) (its-nanoseconds i) (its-size i) (its-sequence i))
      (message_of3 (its-domain i) (its_id i) (first_in payload) (second_in payload)) header_length3 (its-size i))

  pub payload-back : payload_of3 message (read_of3 reader message) ≡ payload
  payload-back = ap (payload_of3 message) reads-back ∙ part_in message header_length3 (length payload) (omega arith) ∙ take-length payload

-- the output where nothing refuses, and its front
module _ (own : ℕ) (t : Stamp) (domain id seq : ℕ) (payload out : List ℕ) (w : write_refusal3 domain id payload (length out) ≡ 0) where
  pub written_out : output_after3 own t domain id seq payload out ≡ over out 0 (message_bytes3 own t domain id seq payload)
  written_out =
      ap (λ (r : ℕ). left_over_by (answered r (header_length3 + length payload)) out (over out 0 (message_bytes3 own t domain id seq payload))) w

  pub front : take (header_length3 + length payload) (output_after3 own t domain id seq payload out) ≡ message_bytes3 own t domain id seq payload
  front =
      let b : List ℕ = message_bytes3 own t domain id seq payload in
      ap (take (header_length3 + length payload)) written_out ∙ take_at b (drop (0 + length b) out) (header_length3 + length payload) (omega arith)

-- what is read, written again
module _ (own : ℕ) (s : List ℕ) (o : Octets s) (e : read_refusal3 own s ≡ 0) where
  seen : Readable own s
  seen = readable own s e

  payload-size : length (payload_in3 s) ≡ payload_size_in3 s
  payload-size = length-drop header_length3 s ∙ sym seen.size

  -- the two halves make the byte that was there
  halves : version_and_domain (domain_in3 s) ≡ number 0 s 2
  halves = omega (arith, seen.version)

  pub same_bytes : message_bytes3 (sender_in3 s) (stamp_in s) (domain_in3 s) (id_in3 s) (sequence_in3 s) (payload_in3 s) ≡ s
  same_bytes =
      let a = seen.long in
      let r20 : List ℕ = bytes 2 (sequence_in3 s) ++ payload_in3 s in
      let r16 : List ℕ = bytes 2 (length (payload_in3 s)) ++ r20 in
      let r12 : List ℕ = bytes 2 (number 2 s 12) ++ r16 in
      let r8 : List ℕ = bytes 2 (number 2 s 8) ++ r12 in
      let r4 : List ℕ = bytes 2 (id_in3 s) ++ r8 in
      let r3 : List ℕ = bytes 0 (sender_in3 s) ++ r4 in
      let r2 : List ℕ = bytes 0 (version_and_domain (domain_in3 s)) ++ r3 in
      let at20 : r20 ≡ drop 20 s = field 2 s (payload_in3 s) 20 o (omega arith) refl in
      let at16 : r16 ≡ drop 16 s = ap (λ (n : ℕ). bytes 2 n ++ r20) payload-size ∙ field 2 s r20 16 o (omega arith) at20 in
      let at12 : r12 ≡ drop 12 s = field 2 s r16 12 o (omega arith) at16 in
      let at8 : r8 ≡ drop 8 s = field 2 s r12 8 o (omega arith) at12 in
      let at4 : r4 ≡ drop 4 s = field 2 s r8 4 o (omega arith) at8 in
      let at3 : r3 ≡ drop 3 s = field 0 s r4 3 o (omega arith) at4 in
      let at2 : r2 ≡ drop 2 s = ap (λ (n : ℕ). bytes 0 n ++ r3) halves ∙ field 0 s r3 2 o (omega arith) at3 in
      ap (λ (n : ℕ). bytes 1 n ++ r2) (sym seen.mark) ∙ field 1 s r2 0 o (omega arith) at2

  -- and its sender's writer does not refuse it, where the output has room
  pub writes_again : (room : ℕ) → length s ≤ room → write_refusal3 (domain_in3 s) (id_in3 s) (payload_in3 s) room ≡ 0
  writes_again room h =
      let l = payload-size in
      let a = seen.long in
      let z = seen.size in
      admits (domain_in3 s) (id_in3 s) (payload_in3 s) room (record {
        domain = seen.domain;
        size = omega (arith, number_lt 2 s 16 o);
        contents = seen.contents;
        fits = omega arith;
      })

  -- the payload that is handed back is what stands behind the header
  pub payload_stands : payload_of3 s (read_of3 own s) ≡ payload_in3 s
  payload_stands =
      let l = payload-size in
      let a = seen.long in
      let z = seen.size in
      ap (λ (n : ℕ). payload_of3 s (answered3 n (read_out3 s))) e
      ∙ part_in s header_length3 (payload_size_in3 s) (omega arith)
      ∙ take_all (payload_size_in3 s) (drop header_length3 s) (omega arith)
