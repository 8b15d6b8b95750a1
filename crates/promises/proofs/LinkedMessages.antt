-- What is linked writes and reads messages, and cuts them, as demand 2 asks.
-- Assumes nothing.
use Prim.Native.Nat.{ℕ, zero, suc, ◌+◌, ◌-◌, ◌^◌, ◌≤◌, ◌<◌}
use mathlib.Core.Path.{◌≡◌, refl, sym, ap, ap₂, ◌∙◌}
use mathlib.Core.Bool.{Bool, false, cond}
use mathlib.Core.List.{List, [], ◌∷◌}
use native.Mathlib.Omega.{arith}
use native.Mathlib.Nat.{suc-ne-zero}
use borrow.Author.Tests.{ne_eqb}
use lib.Dec.{eqb}
use lib.ListN.{length, take, drop}
use lib.Seq.{drop_at}
use Rattle.wire.specs.Bytes.{Octets, number, bytes, over}
use Rattle.message.specs.declared.Reading.{Reading}
use Rattle.message.specs.declared.Writing.TheVariants as writing
use Rattle.message.specs.Header.{header_length, domain_in, sender_in, id_in, payload_size_in, sequence_in, header_in}
use Rattle.message.specs.Platform.{message_of, kind_in, value_in}
use Rattle.message.specs.Refusal.{contents_refusal, read_refusal, write_refusal}
use Rattle.message.specs.Reading.{reading_out, read_of, payload_of}
use Rattle.message.specs.Reading as reads
use Rattle.message.specs.Writing.{header_for, message_bytes, write_of, output_after}
use Rattle.message.specs.Writing as writes
use Rattle.message.proofs.Accepted.{Readable, readable, Writable, writable, admits}
use Rattle.platform.proofs.Unchanged.{payload_stands}
use Rattle.nyrkovash.specs.MessageCalls.{read_left, write_left}
use Rattle.nyrkovash.proofs.Words.{id_known, kind-is-id, value-is-field}
use Rattle.promises.specs.Headers.{ReadsAs}
use Rattle.promises.specs.LinkedMessages.{kind_sent, value_sent, IsRead, Wrote, WriteThenRead, WasRead, ReadThenWrite, IsWritten, EachIsWritten}
use Rattle.promises.specs.LinkedMessages.{LinkedMessages}
use Rattle.promises.proofs.Headers.{was_read, written_then_read, read_then_written}
use Rattle.promises.proofs.LinkedPieces.{cut_then_joined}

-- the words that tell a message
pub told_words : (d i : ℕ) (p : List ℕ) → d < 2 → contents_refusal d i p ≡ 0
    → (kind_in (message_of d i (number 2 p 0)) ≡ kind_sent d i) × (value_in i (message_of d i (number 2 p 0)) ≡ value_sent d i p)
told_words zero i p h e = (kind-is-id i p e (number 2 p 0), value-is-field i p e)
told_words (suc zero) i p h e = (refl, refl)
told_words (suc (suc d)) i p h e = absurd (omega arith)

-- number 0 is nothing refused
pub wrote_zero : (r k : ℕ) → writes.number_given (writes.answered r k) ≡ 0 → r ≡ 0
wrote_zero zero k e = refl
wrote_zero (suc r) k e = absurd (suc-ne-zero r e)

-- what was read, in words
module _ (own domain id seq : ℕ) (payload m : List ℕ) (reader : ℕ)
    (r : ReadsAs reader m (header_for own domain id seq payload) (message_of domain id (number 2 payload 0)) payload) where
  its-payload : drop 20 m ≡ payload
  its-payload =
      let w = was_read (read_refusal reader m) (reading_out m) (header_for own domain id seq payload)
      (message_of domain id (number 2 payload 0)) header_length (length payload) r.answer in
      sym (ap (λ (x : ℕ). payload_of m (reads.answered x (reading_out m))) w.0 ∙ payload_stands reader m w.0) ∙ r.payload

  its-words : (was : List ℕ) → domain < 2 → contents_refusal domain id payload ≡ 0
      → read_left was (read_of reader m) ≡ kind_sent domain id ∷ value_sent domain id payload ∷ own ∷ seq ∷ 20 ∷ length payload ∷ []
  its-words was h c =
      let t = told_words domain id payload h c in
      ap (read_left was) r.answer ∙ ap₂ (λ (x y : ℕ). x ∷ y ∷ own ∷ seq ∷ 20 ∷ length payload ∷ []) t.0 t.1

-- what was written
module _ (own domain id seq : ℕ) (payload out : List ℕ) (ho : own < 256) (hi : id < 2 ^ 32) (hs : seq < 2 ^ 32)
    (w : write_refusal domain id payload (length out) ≡ 0) where
  abbrev n : ℕ
  n = 20 + length payload

  write-is : write_of domain id payload (length out) ≡ writing.Written n
  write-is = ap (λ (r : ℕ). writes.answered r n) w

  can : Writable domain id payload (length out)
  can = writable domain id payload (length out) w

  is_read : IsRead own (take n (output_after own domain id seq payload out)) (kind_sent domain id) (value_sent domain id payload) seq payload
  is_read k a x e p em other =
      let m : List ℕ = take n (output_after own domain id seq payload out) in
      let r : ReadsAs a.0 m (header_for own domain id seq payload) (message_of domain id (number 2 payload 0)) payload =
      written_then_read own a.0 domain id seq n payload out
      (record { platform = ho; other = other; id_fits = hi; sequence_fits = hs }) write-is in (
        p.0 ∙ ap (λ (b : List ℕ). reads.number_given (read_of a.0 b)) em ∙ ap reads.number_given r.answer,
        p.1 ∙ ap (λ (b : List ℕ). read_left a.1.1.0.now (read_of a.0 b)) em
            ∙ its-words own domain id seq payload m a.0 r a.1.1.0.now can.domain can.contents,
        its-payload own domain id seq payload m a.0 r,
      )

  rest-is : drop n (output_after own domain id seq payload out) ≡ drop n out
  rest-is =
      let b : List ℕ = message_bytes own domain id seq payload in
      let l : 0 + length b ≡ n = omega arith in
      ap (λ (r : ℕ). drop n (writes.left_over_by (writes.answered r n) out (over out 0 b))) w
      ∙ drop_at b (drop (0 + length b) out) n (omega arith) ∙ ap (λ (j : ℕ). drop j out) l

  wrote : (written : ℕ) (left : List ℕ) → written ≡ n → left ≡ output_after own domain id seq payload out → Wrote own domain id seq payload out written left
  wrote written left e f = rw (e, f) (record { count = refl; room = can.fits; reads = is_read; rest = rest-is })

write_then_read : WriteThenRead
write_then_read k a x e p ho hi hs z =
    let payload = a.1.1.1.1.0.now in
    let out = a.1.1.1.1.1.0.now in
    let w : write_refusal a.1.0 a.1.1.0 payload (length out) ≡ 0 =
    wrote_zero (write_refusal a.1.0 a.1.1.0 payload (length out)) (20 + length payload) (sym p.0 ∙ z) in
    wrote a.0 a.1.0 a.1.1.0 a.1.1.1.0 payload out ho hi hs w _ _
    (p.1.1 ∙ ap (write_left a.1.1.1.1.1.1.0.now)
    (write-is a.0 a.1.0 a.1.1.0 a.1.1.1.0 payload out ho hi hs w))
    p.1.0

-- what was read, written again
read_zero : (r : ℕ) (x : Reading) → reads.number_given (reads.answered r x) ≡ 0 → r ≡ 0
read_zero zero x e = refl
read_zero (suc r) x e = absurd (suc-ne-zero r e)

fields_told : (d i : ℕ) (p : List ℕ) → d < 2 → contents_refusal d i p ≡ 0
    → (cond (eqb (kind_sent d i) 5) 1 0 ≡ d) × (cond (eqb (kind_sent d i) 5) (value_sent d i p) (kind_sent d i) ≡ i)
fields_told zero i p h e =
    let l : i ≤ 4 = (id_known i p e).1 in
    let f : eqb i 5 ≡ false = ne_eqb i 5 (λ (z : i ≡ 5). omega arith) in
    (ap (λ (b : Bool). cond {A = ℕ} b 1 0) f, ap (λ (b : Bool). cond b (number 2 p 0) i) f)
fields_told (suc zero) i p h e = (refl, refl)
fields_told (suc (suc d)) i p h e = absurd (omega arith)

module _ (own : ℕ) (m : List ℕ) (o : Octets m) (z : read_refusal own m ≡ 0) where
  abbrev d : ℕ
  d = domain_in m

  abbrev i : ℕ
  i = id_in m

  is-readable : Readable own m
  is-readable = readable own m z

  read_is : read_of own m ≡ reading_out m
  read_is = ap (λ (r : ℕ). reads.answered r (reading_out m)) z

  behind : payload_of m (read_of own m) ≡ drop 20 m
  behind = ap (λ (r : ℕ). payload_of m (reads.answered r (reading_out m))) z ∙ payload_stands own m z

  six-words : (was : List ℕ) → read_left was (read_of own m)
      ≡ kind_sent d i ∷ value_sent d i (drop 20 m) ∷ sender_in m ∷ sequence_in m ∷ 20 ∷ (length m - 20) ∷ []
  six-words was =
      let t = told_words d i (drop 20 m) is-readable.domain is-readable.contents in
      ap (read_left was) read_is
      ∙ ap₂ (λ (x y : ℕ). x ∷ y ∷ sender_in m ∷ sequence_in m ∷ 20 ∷ payload_size_in m ∷ []) t.0 t.1
      ∙ ap (λ (x : ℕ). kind_sent d i ∷ value_sent d i (drop 20 m) ∷ sender_in m ∷ sequence_in m ∷ 20 ∷ x ∷ []) is-readable.size

  written-again : (own' domain id seq : ℕ) (payload out : List ℕ) → own' ≡ sender_in m → domain ≡ d → id ≡ i → seq ≡ sequence_in m → payload ≡ drop 20 m
      → length m ≤ length out
      → (write_of domain id payload (length out) ≡ writing.Written (length m)) × (output_after own' domain id seq payload out ≡ over out 0 m)
  written-again own' domain id seq payload out eo ed ei es ep l =
      rw (eo, ed, ei, es, ep ∙ sym behind)
      (read_then_written own m (header_in m) (message_of d i (number 2 (drop 20 m) 0)) header_length (payload_size_in m) out o read_is l)

  was-told : (answer was : List ℕ) → answer ≡ read_left was (read_of own m) → WasRead m answer
  was-told answer was e =
      let f = fields_told d i (drop 20 m) is-readable.domain is-readable.contents in
      record {
        kind = kind_sent d i;
        value = value_sent d i (drop 20 m);
        sender = sender_in m;
        seq = sequence_in m;
        words = e ∙ six-words was;
        again = λ k a n x p eo ed ei es ep l.
            let w = written-again a.0 a.1.0 a.1.1.0 a.1.1.1.0 a.1.1.1.1.0.now a.1.1.1.1.1.0.now
            eo (ed ∙ f.0) (ei ∙ f.1) es ep l in
            (p.0 ∙ ap writes.number_given w.0, p.1.1 ∙ ap (write_left a.1.1.1.1.1.1.0.now) w.0, p.1.0 ∙ w.1);
      }

read_then_write : ReadThenWrite
read_then_write k a n e p o z =
    let m = a.1.0.now in
    was-told a.0 m o (read_zero (read_refusal a.0 m) (reading_out m) (sym p.0 ∙ z)) e.1.1.0.now a.1.1.0.now p.1

-- each message
is_written : (domain id : ℕ) (payload : List ℕ) → domain < 2 → length payload < 2 ^ 32 → contents_refusal domain id payload ≡ 0 → IsWritten domain id payload
is_written domain id payload dom few ok k a n e p ed ei ep room =
    let out = a.1.1.1.1.1.0.now in
    let w : write_refusal domain id payload (length out) ≡ 0 =
    admits domain id payload (length out) (record { domain = dom; size = few; contents = ok; fits = room }) in
    p.0 ∙ rw (ed, ei, ep) (ap (λ (r : ℕ). writes.number_given (writes.answered r (20 + length payload))) w)

each_is_written : EachIsWritten
each_is_written =
    record {
      status = status;
      request = is_written 0 2 [] (omega arith) (omega arith) refl;
      unknown = λ id h. is_written 0 3 (bytes 2 id) (omega arith) (omega arith) refl;
      pull = λ id h. is_written 0 4 (bytes 2 id) (omega arith) (omega arith) refl;
      operation = λ id payload h. is_written 1 id payload (omega arith) h refl;
    }
  where
    status : (x : ℕ) → x < 2 → IsWritten 0 1 (bytes 2 x)
    status zero h = is_written 0 1 (bytes 2 0) (omega arith) (omega arith) refl
    status (suc zero) h = is_written 0 1 (bytes 2 1) (omega arith) (omega arith) refl
    status (suc (suc x)) h = absurd (omega arith)

pub linked_messages : LinkedMessages
linked_messages =
    record {
      write_then_read = write_then_read;
      read_then_write = read_then_write;
      each_is_written = each_is_written;
      cut_then_joined = cut_then_joined;
    }
