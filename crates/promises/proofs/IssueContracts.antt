-- The contracts of the calls by issue, by the names that specs/LinkedIssue3 has for what was lent.
-- Assumes nothing.
use Prim.Native.Nat.{ℕ}
use mathlib.Core.Path.{◌≡◌, sym, ap, ◌∙◌}
use mathlib.Core.List.{List}
use Rattle.message.specs.Writing.{output_after}
use Rattle.mixed.specs.declared.AnyReading.{AnyReading}
use Rattle.mixed.specs.Reading.{any_of, number_given}
use Rattle.nyrkovash.specs.MessageCalls.{number_read, read_answer, write_number, write_given}
use Rattle.nyrkovash.specs.IssueCalls.{partners_left, any_left, any_number, any_answer, write_number3, write_output3, write_given3}
use Rattle.promises.specs.LinkedIssue3.{SetLent, Sets, ReadLent, MixedLent, Reads, ReadsMixed, WriteLent, Write3Lent, WriteLeft, Writes, Writes3}

-- what the contracts say, by the names of what was lent
pub set_by : (l : SetLent) (n : ℕ) (left : List ℕ) → Sets l n left → (n ≡ 0) × (left ≡ partners_left l.partners l.platform l.issue)
set_by l n left s =
    let p = s.1.1.1.0 in
    (p.0, sym s.1.1.1.1.1 ∙ p.1 ∙ ap (λ (x : SetLent). partners_left x.partners x.platform x.issue) s.1.1.1.1.0)

pub read_by : (l : ReadLent) (n : ℕ) (left : List ℕ) → Reads l n left
    → (n ≡ number_read l.own l.message) × (left ≡ read_answer l.own l.message l.answer)
read_by l n left s =
    let p = s.1.1.1.0 in
    let e = s.1.1.1.1.0 in (
      p.0 ∙ ap (λ (x : ReadLent). number_read x.own x.message) e,
      sym s.1.1.1.1.1 ∙ p.1 ∙ ap (λ (x : ReadLent). read_answer x.own x.message x.answer) e,
    )

pub mixed_by : (l : MixedLent) (n : ℕ) (left : List ℕ) → ReadsMixed l n left
    → (n ≡ any_number l.partners l.own l.message) × (left ≡ any_answer l.partners l.own l.message l.answer)
mixed_by l n left s =
    let p = s.1.1.1.0 in
    let e = s.1.1.1.1.0 in (
      p.0 ∙ ap (λ (x : MixedLent). any_number x.partners x.own x.message) e,
      sym s.1.1.1.1.1 ∙ p.1 ∙ ap (λ (x : MixedLent). any_answer x.partners x.own x.message x.answer) e,
    )

abbrev pub number_of : WriteLent → ℕ
number_of x = write_number x.domain x.id x.payload x.out

abbrev pub out_of : WriteLent → List ℕ
out_of x = output_after x.own x.domain x.id x.sequence x.payload x.out

abbrev pub given_of : WriteLent → ℕ
given_of x = write_given x.domain x.id x.payload x.out x.written

pub write_by : (l : WriteLent) (n : ℕ) (r : WriteLeft) → Writes l n r → (n ≡ number_of l) × (r.out ≡ out_of l) × (r.written ≡ given_of l)
write_by l n r s =
    let p = s.1.1.1.0 in
    let e = s.1.1.1.1.0 in
    let f = s.1.1.1.1.1 in (
      p.0 ∙ ap number_of e,
      sym (ap (λ (x : WriteLeft). x.out) f) ∙ p.1.0 ∙ ap out_of e,
      sym (ap (λ (x : WriteLeft). x.written) f) ∙ p.1.1 ∙ ap given_of e,
    )

abbrev pub number_of3 : Write3Lent → ℕ
number_of3 x = write_number3 x.lent.domain x.lent.id x.lent.payload x.lent.out

abbrev pub out_of3 : Write3Lent → List ℕ
out_of3 x =
    let y = x.lent in
    write_output3 y.own x.seconds x.nanoseconds y.domain y.id y.sequence y.payload y.out

abbrev pub given_of3 : Write3Lent → ℕ
given_of3 x = write_given3 x.lent.domain x.lent.id x.lent.payload x.lent.out x.lent.written

pub write3_by : (l : Write3Lent) (n : ℕ) (r : WriteLeft) → Writes3 l n r → (n ≡ number_of3 l) × (r.out ≡ out_of3 l) × (r.written ≡ given_of3 l)
write3_by l n r s =
    let p = s.1.1.1.0 in
    let e = s.1.1.1.1.0 in
    let f = s.1.1.1.1.1 in (
      p.0 ∙ ap number_of3 e,
      sym (ap (λ (x : WriteLeft). x.out) f) ∙ p.1.0 ∙ ap out_of3 e,
      sym (ap (λ (x : WriteLeft). x.written) f) ∙ p.1.1 ∙ ap given_of3 e,
    )

-- a message that is read as this
pub told_as : (l : MixedLent) (n : ℕ) (left : List ℕ) → ReadsMixed l n left → (m : List ℕ) → l.message ≡ m → (r : AnyReading)
    → any_of l.partners l.own m ≡ r → (n ≡ number_given r) × (left ≡ any_left l.answer r)
told_as l n left s m em r e =
    let f = mixed_by l n left s in
    let g : any_of l.partners l.own l.message ≡ r = ap (any_of l.partners l.own) em ∙ e in
    (f.0 ∙ ap number_given g, f.1 ∙ ap (any_left l.answer) g)
