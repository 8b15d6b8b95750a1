-- By which issue a message is read: only by its sender's, by that one always, and where nobody speaks Issue 3 as before.
-- Assumes nothing.
use Prim.Native.Nat.{ℕ, zero, suc}
use mathlib.Core.Path.{◌≡◌, refl, sym, ap, ◌∙◌}
use mathlib.Core.Bool.{Bool, true, false, not, cond}
use mathlib.Core.List.{List}
use native.Mathlib.Omega.{arith}
use borrow.Author.Tests.{eq-eqb, ne_eqb}
use lib.Dec.{eqb}
use Rattle.wire.proofs.Cond.{yes-if, no-if, and_right}
use Rattle.message.specs.declared.Header.{Header}
use Rattle.message.specs.declared.Message.{Message}
use Rattle.message.specs.declared.Reading.{Reading}
use Rattle.message.specs.declared.Reading.TheVariants as six
use Rattle.message.specs.Header.{the_version, version_in, sender_in}
use Rattle.message.specs.Refusal.{frame_refusal, read_refusal}
use Rattle.message.specs.Reading.{answered, reading_out, read_of}
use Rattle.message.proofs.Accepted.{Readable, readable}
use Rattle.message3.specs.declared.Header3.{Header3}
use Rattle.message3.specs.declared.Message3.{Message3}
use Rattle.message3.specs.declared.Reading3.{Reading3}
use Rattle.message3.specs.declared.Reading3.TheVariants as three
use Rattle.message3.specs.Header.{sender_in3}
use Rattle.message3.specs.Refusal.{read_refusal3}
use Rattle.message3.specs.Reading.{answered3, read_out3, read_of3}
use Rattle.message3.proofs.Accepted.{Readable as Readable3, readable as readable3}
use Rattle.partners.specs.Threes.{is_three}
use Rattle.mixed.specs.declared.Form.{Form}
use Rattle.mixed.specs.declared.Form.TheVariants as form
use Rattle.mixed.specs.declared.AnyReading.{AnyReading}
use Rattle.mixed.specs.declared.AnyReading.TheVariants.{Refused, Six, Three}
use Rattle.mixed.specs.Form.{three_form}
use Rattle.mixed.specs.Reading.{other_issue, form_of, from_six, from_three, any_of, issue_in}

-- what was read under one issue, taken back
abbrev pub as_six : AnyReading → Reading
as_six (Refused n) = six.Refused n
as_six (Six h m start len) = six.Read h m start len
as_six (Three h m start len) = six.Refused 0

abbrev pub as_three : AnyReading → Reading3
as_three (Refused n) = three.Refused n
as_three (Six h m start len) = three.Refused 0
as_three (Three h m start len) = three.Read h m start len

pub six_back : (x : Reading) → x ≡ as_six (from_six x)
six_back (six.Refused n) = refl
six_back (six.Read h m start len) = refl

pub three_back : (x : Reading3) → x ≡ as_three (from_three x)
three_back (three.Refused n) = refl
three_back (three.Read h m start len) = refl

pub six_issue : (x : Reading) → issue_in (from_six x) ≡ 3 → ⊥
six_issue (six.Refused n) e = omega arith
six_issue (six.Read h m start len) e = omega arith

pub three_issue : (x : Reading3) → issue_in (from_three x) ≡ 6 → ⊥
three_issue (three.Refused n) e = omega arith
three_issue (three.Read h m start len) e = omega arith

-- a message that an issue reads: nothing refuses it, and its header is that of its bytes
abbrev header_read : Header → Reading → Header
header_read h (six.Refused n) = h
header_read h (six.Read k m start len) = k

abbrev header_read3 : Header3 → Reading3 → Header3
header_read3 h (three.Refused n) = h
header_read3 h (three.Read k m start len) = k

abbrev is_read : Reading → ℕ
is_read (six.Refused n) = 0
is_read (six.Read h m start len) = 1

abbrev is_read3 : Reading3 → ℕ
is_read3 (three.Refused n) = 0
is_read3 (three.Read h m start len) = 1

module _ (own : ℕ) (s : List ℕ) where
  module _ (h : Header) (m : Message) (start len : ℕ) (e : read_of own s ≡ six.Read h m start len) where
    pub not_refused : read_refusal own s ≡ 0
    not_refused = go (read_refusal own s) (ap is_read e)
      where
        go : (n : ℕ) → is_read (answered n (reading_out s)) ≡ 1 → n ≡ 0
        go zero f = refl
        go (suc n) f = omega arith

    pub six-sender : sender_in s ≡ h.platform
    six-sender =
        let z = not_refused in
        ap (λ (k : Header). k.platform) (ap (header_read h) (ap (λ (n : ℕ). answered n (reading_out s)) (sym z) ∙ e))

    pub six-readable : Readable own s
    six-readable = readable own s not_refused

  module _ (h : Header3) (m : Message3) (start len : ℕ) (e : read_of3 own s ≡ three.Read h m start len) where
    not-refused3 : read_refusal3 own s ≡ 0
    not-refused3 = go (read_refusal3 own s) (ap is_read3 e)
      where
        go : (n : ℕ) → is_read3 (answered3 n (read_out3 s)) ≡ 1 → n ≡ 0
        go zero f = refl
        go (suc n) f = omega arith

    pub three-sender : sender_in3 s ≡ h.platform
    three-sender =
        let z = not-refused3 in
        ap (λ (k : Header3). k.platform) (ap (header_read3 h) (ap (λ (n : ℕ). answered3 n (read_out3 s)) (sym z) ∙ e))

    pub three-readable : Readable3 own s
    three-readable = readable3 own s not-refused3

-- what is read of each form
abbrev pub read_by : ℕ → List ℕ → Form → AnyReading
read_by own s form.Three = from_three (read_of3 own s)
read_by own s form.Six = from_six (read_of own s)
read_by own s (form.Other n) = Refused n

abbrev is_six : Form → ℕ
is_six form.Three = 0
is_six form.Six = 1
is_six (form.Other n) = 0

-- by the two tests
module _ (i : List ℕ) (own : ℕ) (s : List ℕ) where
  pub if-three : three_form i s ≡ true → any_of i own s ≡ from_three (read_of3 own s)
  unfolding any_of
  if-three e = yes-if {A = AnyReading} (from_three (read_of3 own s)) _ e

  module _ (e : three_form i s ≡ false) where
    if-not : any_of i own s ≡ cond (is_three i (sender_in s)) (Refused (other_issue (frame_refusal s))) (from_six (read_of own s))
    unfolding any_of
    if-not = no-if {A = AnyReading} (from_three (read_of3 own s)) _ e

    pub if-other : is_three i (sender_in s) ≡ true → any_of i own s ≡ Refused (other_issue (frame_refusal s))
    if-other f = if-not ∙ yes-if {A = AnyReading} (Refused (other_issue (frame_refusal s))) (from_six (read_of own s)) f

    -- as before, refusals too
    pub if-six : is_three i (sender_in s) ≡ false → any_of i own s ≡ from_six (read_of own s)
    if-six f = if-not ∙ no-if {A = AnyReading} (Refused (other_issue (frame_refusal s))) (from_six (read_of own s)) f

  -- byte 2 decides, and then the set-up
  pub of-six-form : version_in s ≡ the_version → three_form i s ≡ false
  unfolding three_form
  of-six-form e = rw (eq-eqb (version_in s) the_version e) refl

  pub of-three-form : (version_in s ≡ the_version → ⊥) → three_form i s ≡ is_three i (sender_in3 s)
  unfolding three_form
  of-three-form n = rw (ne_eqb (version_in s) the_version n) refl

  pub of-speaker : three_form i s ≡ true → is_three i (sender_in3 s) ≡ true
  unfolding three_form
  of-speaker e = and_right (not (eqb (version_in s) the_version)) (is_three i (sender_in3 s)) e

  -- reading goes by the form that was found
  pub by_form : any_of i own s ≡ read_by own s (form_of i s)
  unfolding any_of form_of
  by_form = go (three_form i s) (is_three i (sender_in s))
    where
      go : (a b : Bool) → cond a (from_three (read_of3 own s)) (cond b (Refused (other_issue (frame_refusal s))) (from_six (read_of own s)))
          ≡ read_by own s (cond a form.Three (cond b (form.Other (other_issue (frame_refusal s))) form.Six))
      go true b = refl
      go false true = refl
      go false false = refl

  -- Issue 6's form is found where both tests fail
  pub six-tests : form.Six ≡ form_of i s → (three_form i s ≡ false) × (is_three i (sender_in s) ≡ false)
  unfolding form_of
  six-tests e = go (three_form i s) (is_three i (sender_in s)) refl refl (ap is_six e)
    where
      go : (a b : Bool) → three_form i s ≡ a → is_three i (sender_in s) ≡ b
          → 1 ≡ is_six (cond a form.Three (cond b (form.Other (other_issue (frame_refusal s))) form.Six))
          → (three_form i s ≡ false) × (is_three i (sender_in s) ≡ false)
      go true b p q d = absurd (omega arith)
      go false true p q d = absurd (omega arith)
      go false false p q d = (p, q)
