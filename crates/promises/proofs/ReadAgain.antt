-- A message of Issue 3 that was read and is written again is the same bytes.
-- Assumes nothing.
use Prim.Native.Nat.{ℕ, zero, suc, ◌-◌, ◌≤◌, ◌<◌}
use mathlib.Core.Path.{◌≡◌, refl, sym, ap, ap₂, ◌∙◌}
use mathlib.Core.Bool.{cond}
use mathlib.Core.List.{List}
use native.Mathlib.Omega.{arith}
use lib.Dec.{eqb}
use lib.ListN.{length, get_or, drop}
use Rattle.wire.specs.Bytes.{Octets, number, over}
use Rattle.message.specs.declared.Writing.TheVariants.{Written}
use Rattle.message.specs.Writing as writes
use Rattle.message3.specs.Header.{header_length3, sender_in3, domain_in3, id_in3, sequence_in3, seconds_in, nanoseconds_in, payload_size_in3, payload_in3, header_in3}
use Rattle.message3.specs.Platform.{first_in, second_in, message_of3}
use Rattle.message3.specs.Refusal.{contents_refusal3, read_refusal3}
use Rattle.message3.specs.Reading.{read_out3, answered3}
use Rattle.message3.specs.Writing.{write_of3, output_after3}
use Rattle.message3.proofs.Accepted as accepted3
use Rattle.message3.proofs.RoundTrip.{payload_stands}
use Rattle.nyrkovash.specs.MessageCalls.{write_left}
use Rattle.nyrkovash.specs.IssueCalls.{stamped}
use Rattle.promises.specs.LinkedMessages.{value_sent}
use Rattle.promises.specs.Issue3Messages.{told_as}
use Rattle.promises.specs.LinkedIssue3.{MixedLent, ReadsMixed, Write3Lent, WriteLeft, Writes3, kind_sent3, three_words, id_told, SaysAgain, SameBytes}
use Rattle.promises.proofs.Issue3Messages.{nine, issue3_messages}
use Rattle.promises.proofs.Issue3Words.{id_known}
use Rattle.promises.proofs.IssueContracts.{write3_by}
use Rattle.promises.proofs.ReadByIssue.{three-none, as_three, is-three-form}

-- domain and ID, by kind and value
abbrev domain_told : ℕ → ℕ
domain_told kind = cond (eqb kind 5) 1 0

fields_told : (d i : ℕ) (p : List ℕ) → d < 2 → contents_refusal3 d i p ≡ 0
    → (domain_told (kind_sent3 d i) ≡ d) × (id_told (kind_sent3 d i) (value_sent d i p) ≡ i)
fields_told zero i p h e =
    let k = id_known i p e in (
      nine (λ n. domain_told (get_or told_as (n - 1) 0) ≡ 0) (refl, refl, refl, refl, refl, refl, refl, refl, refl) i k.0 k.1,
      nine (λ n. id_told (get_or told_as (n - 1) 0) (number 2 p 0) ≡ n) (refl, refl, refl, refl, refl, refl, refl, refl, refl) i k.0 k.1,
    )
fields_told (suc zero) i p h e = (refl, refl)
fields_told (suc (suc d)) i p h e = absurd (omega arith)

-- by its fields
again : (own : ℕ) (m : List ℕ) (o : Octets m) (z : read_refusal3 own m ≡ 0) (sender seconds nanoseconds domain id seq : ℕ) (payload out : List ℕ)
    → sender ≡ sender_in3 m → seconds ≡ seconds_in m → nanoseconds ≡ nanoseconds_in m → domain ≡ domain_in3 m → id ≡ id_in3 m
    → seq ≡ sequence_in3 m → payload ≡ drop 24 m → length m ≤ length out
    → (write_of3 domain id payload (length out) ≡ Written (length m))
    × (output_after3 sender (stamped seconds nanoseconds) domain id seq payload out ≡ over out 0 m)
again own m o z sender seconds nanoseconds domain id seq payload out eo es en ed ei eq ep l =
    rw (eo, es, en, ed, ei, eq, ep ∙ sym (payload_stands own m o z))
    (issue3_messages.read_then_written own m (header_in3 m)
    (message_of3 (domain_in3 m) (id_in3 m) (first_in (payload_in3 m)) (second_in (payload_in3 m))) header_length3 (payload_size_in3 m) out o
    (ap (λ (r : ℕ). answered3 r (read_out3 m)) z) l)

pub read_then_write : (l : MixedLent) (n : ℕ) (left : List ℕ) → ReadsMixed l n left → Octets l.message → n ≡ 0 → get_or left 6 0 ≡ 3
    → (w : Write3Lent) (k : ℕ) (r : WriteLeft) → Writes3 w k r → SaysAgain left l.message w → SameBytes l.message w.lent.out k r
read_then_write l n left s o z t w k r q says =
    let m = l.message in
    let form = is-three-form l n left s z t in
    let none = three-none l n left s z form in
    let told = (as_three l n left s z form).words in
    let g = accepted3.readable l.own m none in
    let f = fields_told (domain_in3 m) (id_in3 m) (drop 24 m) g.domain g.contents in
    let word : (i : ℕ) → get_or left i 0 ≡ get_or (three_words m) i 0 = λ i. ap (λ (ws : List ℕ). get_or ws i 0) told in
    let x = w.lent in
    let a = again l.own m o none x.own w.seconds w.nanoseconds x.domain x.id x.sequence x.payload x.out
    (says.sender ∙ word 2) (says.seconds_told ∙ word 7) (says.nanoseconds_told ∙ word 8) (says.domain-told ∙ ap domain_told (word 0) ∙ f.0)
    (says.id-told ∙ ap₂ id_told (word 0) (word 1) ∙ f.1) (says.sequence_told ∙ word 3) says.payload_told says.room in
    let b = write3_by w k r q in
    record {
      number-given = b.0 ∙ ap writes.number_given a.0;
      count = b.2 ∙ ap (write_left x.written) a.0;
      bytes_left = b.1 ∙ a.1;
    }
