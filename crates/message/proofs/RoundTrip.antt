-- A message that is written reads back as the same header, kind and payload at every platform but its sender, and a message
-- that is read gives the same bytes when it is written again with the same fields.
-- Assumes nothing.
use Prim.Native.Nat.{ℕ, ◌+◌, ◌-◌, ◌^◌, ◌≤◌, ◌<◌}
use mathlib.Core.Path.{◌≡◌, refl, sym, ap, ap₂, ◌∙◌}
use mathlib.Core.List.{List, ◌++◌}
use native.Mathlib.Omega.{arith}
use lib.ListN.{length, drop, length-drop, take-append-drop}
use lib.Seq.{take-length, drop-drop}
use Rattle.wire.specs.Bytes.{Octets, span, number, bytes}
use Rattle.wire.proofs.Numbers.{number_lt, number_bytes, bytes_number}
use Rattle.wire.proofs.Runs.{part_in}
use Rattle.message.specs.declared.Header.{Header}
use Rattle.message.specs.declared.Reading.TheVariants.{Read}
use Rattle.message.specs.Header.{header_length, the_version, domain_in, sender_in, id_in, payload_size_in, sequence_in, payload_in, header_in}
use Rattle.message.specs.Platform.{message_of}
use Rattle.message.specs.Refusal.{contents_refusal, read_refusal, write_refusal}
use Rattle.message.specs.Reading.{answered, reading_out, read_of, payload_of}
use Rattle.message.specs.Writing.{header_for, message_bytes}
use Rattle.message.proofs.Accepted.{Readable, readable, Writable, writable, accepts, admits}

abbrev fields : ℕ → ℕ → ℕ → ℕ → ℕ → Header
fields domain size seq platform id = record { domain = domain; platform = platform; id = id; payload_size = size; sequence = seq }

-- what is written reads back
module _ (own domain id seq : ℕ) (payload : List ℕ) (room reader : ℕ) (o : own < span 2) (r : own ≡ reader → ⊥) (i : id < span 2)
    (q : seq < span 2) (w : write_refusal domain id payload room ≡ 0) where
  abbrev message : List ℕ
  message = message_bytes own domain id seq payload

  ok : Writable domain id payload room
  ok = writable domain id payload room w

  sender : sender_in message ≡ own
  sender = number_bytes 2 own (bytes 2 id ++ (bytes 2 (length payload) ++ (bytes 2 seq ++ payload))) o

  its_id : id_in message ≡ id
  its_id = number_bytes 2 id (bytes 2 (length payload) ++ (bytes 2 seq ++ payload)) i

  its-size : payload_size_in message ≡ length payload
  its-size = number_bytes 2 (length payload) (bytes 2 seq ++ payload) ok.size

  its-sequence : sequence_in message ≡ seq
  its-sequence = number_bytes 2 seq payload q

  -- nothing refuses it at the reader
  pub not_refused : read_refusal reader message ≡ 0
  not_refused =
      let z = its-size in
      accepts reader message (record {
        long = omega arith;
        mark = refl;
        version = refl;
        domain = ok.domain;
        size = omega arith;
        other = λ e. r (sym sender ∙ e);
        contents = ap (λ (n : ℕ). contents_refusal domain n payload) its_id ∙ ok.contents;
      })

  the_header : header_in message ≡ header_for own domain id seq payload
  the_header = ap₂ (fields domain (payload_size_in message) (sequence_in message)) sender its_id
      ∙ ap₂ (λ (n m : ℕ). fields domain n m own id) its-size its-sequence

  pub reads-back : read_of reader message ≡ Read (header_for own domain id seq payload) (message_of domain id (number 2 payload 0)) header_length (length payload)
  reads-back =
      ap (λ (n : ℕ). answered n (reading_out message)) not_refused
      ∙ ap₂ (λ (h : Header) (n : ℕ). Read h (message_of domain n (number 2 payload 0)) header_length h.payload_size) the_header its_id

  pub payload-back : payload_of message (read_of reader message) ≡ payload
  payload-back = ap (payload_of message) reads-back ∙ part_in message header_length (length payload) (omega arith) ∙ take-length payload

-- the bytes of a field that was read, and what stands behind it
pub field : (k : ℕ) (s rest : List ℕ) (p : ℕ) → Octets s → p + 2 ^ k ≤ length s → rest ≡ drop (p + 2 ^ k) s → bytes k (number k s p) ++ rest ≡ drop p s
field k s rest p o h e =
    ap₂ (λ (a b : List ℕ). a ++ b) (bytes_number k s p o h) (e ∙ sym (drop-drop (2 ^ k) p s)) ∙ take-append-drop (2 ^ k) (drop p s)

-- what is read, written again
module _ (own : ℕ) (s : List ℕ) (o : Octets s) (e : read_refusal own s ≡ 0) where
  seen : Readable own s
  seen = readable own s e

  payload-size : length (payload_in s) ≡ payload_size_in s
  payload-size = length-drop header_length s ∙ sym seen.size

  pub same_bytes : message_bytes (sender_in s) (domain_in s) (id_in s) (sequence_in s) (payload_in s) ≡ s
  same_bytes =
      let a = seen.long in
      let r16 : List ℕ = bytes 2 (sequence_in s) ++ payload_in s in
      let r12 : List ℕ = bytes 2 (length (payload_in s)) ++ r16 in
      let r8 : List ℕ = bytes 2 (id_in s) ++ r12 in
      let r4 : List ℕ = bytes 2 (sender_in s) ++ r8 in
      let r3 : List ℕ = bytes 0 (domain_in s) ++ r4 in
      let r2 : List ℕ = bytes 0 the_version ++ r3 in
      let at16 : r16 ≡ drop 16 s = field 2 s (payload_in s) 16 o (omega arith) refl in
      let at12 : r12 ≡ drop 12 s = ap (λ (n : ℕ). bytes 2 n ++ r16) payload-size ∙ field 2 s r16 12 o (omega arith) at16 in
      let at8 : r8 ≡ drop 8 s = field 2 s r12 8 o (omega arith) at12 in
      let at4 : r4 ≡ drop 4 s = field 2 s r8 4 o (omega arith) at8 in
      let at3 : r3 ≡ drop 3 s = field 0 s r4 3 o (omega arith) at4 in
      let at2 : r2 ≡ drop 2 s = ap (λ (n : ℕ). bytes 0 n ++ r3) (sym seen.version) ∙ field 0 s r3 2 o (omega arith) at3 in
      ap (λ (n : ℕ). bytes 1 n ++ r2) (sym seen.mark) ∙ field 1 s r2 0 o (omega arith) at2

  -- and its sender's writer does not refuse it, where the output has room
  pub writes_again : (room : ℕ) → length s ≤ room → write_refusal (domain_in s) (id_in s) (payload_in s) room ≡ 0
  writes_again room h =
      let l = payload-size in
      let a = seen.long in
      let z = seen.size in
      admits (domain_in s) (id_in s) (payload_in s) room (record {
        domain = seen.domain;
        size = omega (arith, number_lt 2 s 12 o);
        contents = seen.contents;
        fits = omega arith;
      })
