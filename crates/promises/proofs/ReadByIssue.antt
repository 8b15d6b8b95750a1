-- Bytes that were read by one issue are of it; what Issue 6 alone decides is as `nyr_read` has it.
-- Assumes nothing.
use Prim.Native.Nat.{ℕ, zero, suc}
use mathlib.Core.Path.{◌≡◌, refl, sym, ap, ap₂, ◌∙◌}
use mathlib.Core.Bool.{Bool, true, false}
use mathlib.Core.Logic.{◌⊎◌, inl, inr}
use mathlib.Core.List.{List, [], ◌∷◌, ◌++◌}
use native.Mathlib.Omega.{arith}
use native.Mathlib.Nat.{suc-ne-zero}
use lib.ListN.{get_or, drop}
use Rattle.wire.specs.Bytes.{number}
use Rattle.message.specs.declared.Message.{Message}
use Rattle.message.specs.declared.Reading.{Reading}
use Rattle.message.specs.declared.Reading.TheVariants as six
use Rattle.message.specs.Header.{sender_in, domain_in, id_in, sequence_in, payload_in, payload_size_in, header_in}
use Rattle.message.specs.Platform.{message_of}
use Rattle.message.specs.Refusal.{frame_refusal, read_refusal}
use Rattle.message.specs.Reading.{reading_out, read_of, answered}
use Rattle.message.specs.Reading as reads
use Rattle.message.proofs.Accepted.{readable}
use Rattle.message3.specs.declared.Reading3.{Reading3}
use Rattle.message3.specs.Header.{sender_in3, domain_in3, id_in3, sequence_in3, seconds_in, nanoseconds_in, payload_in3, payload_size_in3}
use Rattle.message3.specs.Refusal.{read_refusal3}
use Rattle.message3.specs.Reading.{read_out3, read_of3, answered3}
use Rattle.message3.proofs.Accepted as accepted3
use Rattle.partners.specs.Threes.{is_three}
use Rattle.mixed.specs.declared.AnyReading.TheVariants.{Refused, Six}
use Rattle.mixed.specs.Form.{three_form}
use Rattle.mixed.specs.Reading.{other_issue, from_six, from_three, any_of, number_given}
use Rattle.mixed.proofs.Issues.{if-three, if-other, if-six, of-speaker}
use Rattle.mixed.proofs.NoCrossing.{all_of_six, six_from_three}
use Rattle.nyrkovash.specs.MessageCalls.{read_left}
use Rattle.nyrkovash.specs.IssueCalls.{any_left}
use Rattle.promises.specs.LinkedMessages.{kind_sent, value_sent}
use Rattle.promises.specs.AnyOrder.{ThreeForm}
use Rattle.promises.specs.LinkedIssue3.{MixedLent, Reads, ReadsMixed, kind_sent3, composite_sent, AsThree, AsSix, AsRead, BySender}
use Rattle.promises.proofs.LinkedMessages.{told_words}
use Rattle.promises.proofs.AnyOrder.{form-decides}
use Rattle.promises.proofs.Issue3Words.{told_words3, ten_words}
use Rattle.promises.proofs.IssueContracts.{read_by, told_as}

-- number 0 is nothing refused
three_zero : (r : ℕ) (x : Reading3) → number_given (from_three (answered3 r x)) ≡ 0 → r ≡ 0
three_zero zero x e = refl
three_zero (suc r) x e = absurd (suc-ne-zero r e)

six_zero : (r : ℕ) (x : Reading) → number_given (from_six (answered r x)) ≡ 0 → r ≡ 0
six_zero zero x e = refl
six_zero (suc r) x e = absurd (suc-ne-zero r e)

other_zero : (r : ℕ) → other_issue r ≡ 0 → ⊥
other_zero zero e = suc-ne-zero 2 e
other_zero (suc zero) e = suc-ne-zero 0 e
other_zero (suc (suc zero)) e = suc-ne-zero 1 e
other_zero (suc (suc (suc r))) e = suc-ne-zero 2 e

-- any bytes that were read
module _ (l : MixedLent) (n : ℕ) (left : List ℕ) (s : ReadsMixed l n left) (z : n ≡ 0) where
  abbrev i : List ℕ
  i = l.partners

  abbrev m : List ℕ
  m = l.message

  pub three-none : three_form i m ≡ true → read_refusal3 l.own m ≡ 0
  three-none e =
      let a = told_as l n left s m refl (from_three (read_of3 l.own m)) (if-three i l.own m e) in
      three_zero (read_refusal3 l.own m) (read_out3 m) (sym a.0 ∙ z)

  pub as_three : three_form i m ≡ true → AsThree l left
  as_three e =
      let a = told_as l n left s m refl (from_three (read_of3 l.own m)) (if-three i l.own m e) in
      let none = three-none e in
      let g = accepted3.readable l.own m none in
      let words = told_words3 (domain_in3 m) (id_in3 m) (payload_in3 m) g.domain g.contents in
      record {
        sender = of-speaker i l.own m e;
        version = g.version;
        words = a.1 ∙ ap (λ (r : ℕ). any_left l.answer (from_three (answered3 r (read_out3 m)))) none
            ∙ ten_words words (sender_in3 m) (sequence_in3 m) (payload_size_in3 m) (seconds_in m) (nanoseconds_in m)
            ∙ ap (λ (len : ℕ). kind_sent3 (domain_in3 m) (id_in3 m) ∷ value_sent (domain_in3 m) (id_in3 m) (drop 24 m)
            ∷ sender_in3 m ∷ sequence_in3 m ∷ 24 ∷ len ∷ 3 ∷ seconds_in m ∷ nanoseconds_in m ∷ composite_sent (domain_in3 m) (id_in3 m) (drop 24 m) ∷ []) g.size;
      }

  as_six : three_form i m ≡ false → is_three i (sender_in m) ≡ false → AsSix l left
  as_six e q =
      let a = told_as l n left s m refl (from_six (read_of l.own m)) (if-six i l.own m e q) in
      let none : read_refusal l.own m ≡ 0 = six_zero (read_refusal l.own m) (reading_out m) (sym a.0 ∙ z) in
      let g = readable l.own m none in
      let t = told_words (domain_in m) (id_in m) (payload_in m) g.domain g.contents in
      record {
        sender = q;
        version = g.version;
        words = a.1 ∙ ap (λ (r : ℕ). any_left l.answer (from_six (answered r (reading_out m)))) none
            ∙ ap₂ (λ (u v : ℕ). u ∷ v ∷ sender_in m ∷ sequence_in m ∷ 20 ∷ payload_size_in m ∷ 6 ∷ 0 ∷ 0 ∷ 0 ∷ []) t.0 t.1
            ∙ ap (λ (len : ℕ). kind_sent (domain_in m) (id_in m) ∷ value_sent (domain_in m) (id_in m) (drop 20 m)
            ∷ sender_in m ∷ sequence_in m ∷ 20 ∷ len ∷ 6 ∷ 0 ∷ 0 ∷ 0 ∷ []) g.size;
      }

  pub by_issue : AsThree l left ⊎ AsSix l left
  by_issue = go (three_form i m) refl (is_three i (sender_in m)) refl
    where
      go : (a : Bool) → three_form i m ≡ a → (b : Bool) → is_three i (sender_in m) ≡ b → AsThree l left ⊎ AsSix l left
      go true e b q = inl (as_three e)
      go false e true q =
          let a = told_as l n left s m refl (Refused (other_issue (frame_refusal m))) (if-other i l.own m e q) in
          absurd (other_zero (frame_refusal m) (sym a.0 ∙ z))
      go false e false q = inr (as_six e q)

  -- the seventh word says which form it was
  pub is-three-form : get_or left 6 0 ≡ 3 → three_form i m ≡ true
  is-three-form t = go (three_form i m) refl (is_three i (sender_in m)) refl
    where
      go : (a : Bool) → three_form i m ≡ a → (b : Bool) → is_three i (sender_in m) ≡ b → a ≡ true
      go true e b q = refl
      go false e true q =
          let a = told_as l n left s m refl (Refused (other_issue (frame_refusal m))) (if-other i l.own m e q) in
          absurd (other_zero (frame_refusal m) (sym a.0 ∙ z))
      go false e false q =
          let six_told : get_or left 6 0 ≡ 6 = ap (λ (ws : List ℕ). get_or ws 6 0) (as_six e q).words in
          absurd (omega (arith, t, six_told))

-- as `nyr_read`
six_number : (x : Reading) → number_given (from_six x) ≡ reads.number_given x
six_number (six.Refused n) = refl
six_number (six.Read h m start len) = refl

pub as_read : (l : MixedLent) (n : ℕ) (left : List ℕ) → ReadsMixed l n left → any_of l.partners l.own l.message ≡ from_six (read_of l.own l.message)
    → AsRead l n left
as_read l n left s e was n6 left6 s6 =
    let m = l.message in
    let a = told_as l n left s m refl (from_six (read_of l.own m)) e in
    let b = read_by (record { own = l.own; message = m; answer = was }) n6 left6 s6 in (
      a.0 ∙ six_number (read_of l.own m) ∙ sym b.0,
      λ z.
          let none : read_refusal l.own m ≡ 0 = six_zero (read_refusal l.own m) (reading_out m) (sym a.0 ∙ z) in
          a.1 ∙ ap (λ (r : ℕ). any_left l.answer (from_six (answered r (reading_out m)))) none
          ∙ sym (ap (λ (r : ℕ). read_left was (answered r (reading_out m)) ++ (6 ∷ 0 ∷ 0 ∷ 0 ∷ [])) none)
          ∙ sym (ap (λ (ws : List ℕ). ws ++ (6 ∷ 0 ∷ 0 ∷ 0 ∷ [])) b.1),
    )

-- what `nyr_read` reads
module _ (l : MixedLent) (n : ℕ) (left : List ℕ) (s : ReadsMixed l n left) (was left6 : List ℕ)
    (s6 : Reads (record { own = l.own; message = l.message; answer = was }) 0 left6) where
  abbrev x : List ℕ
  x = l.message

  abbrev its-kind : Message
  its-kind = message_of (domain_in x) (id_in x) (number 2 (payload_in x) 0)

  six-none : read_refusal l.own x ≡ 0
  six-none =
      let b = read_by (record { own = l.own; message = x; answer = was }) 0 left6 s6 in
      six_zero (read_refusal l.own x) (reading_out x) (six_number (read_of l.own x) ∙ sym b.0)

  is_read : read_of l.own x ≡ reading_out x
  is_read = ap (λ (r : ℕ). answered r (reading_out x)) six-none

  told-six : left6 ≡ read_left was (reading_out x)
  told-six = (read_by (record { own = l.own; message = x; answer = was }) 0 left6 s6).1 ∙ ap (read_left was) is_read

  its-sender : is_three l.partners (get_or left6 2 0) ≡ is_three l.partners (sender_in x)
  its-sender = ap (λ (ws : List ℕ). is_three l.partners (get_or ws 2 0)) told-six

  as-its : is_three l.partners (get_or left6 2 0) ≡ false → (n ≡ 0) × (left ≡ read_left was (reading_out x) ++ (6 ∷ 0 ∷ 0 ∷ 0 ∷ []))
  as-its q =
      told_as l n left s x refl (Six (header_in x) its-kind 20 (payload_size_in x))
      (all_of_six l.partners l.own x (header_in x) its-kind 20 (payload_size_in x) is_read (sym its-sender ∙ q))

  as-another : is_three l.partners (get_or left6 2 0) ≡ true → n ≡ 3
  as-another q =
      (told_as l n left s x refl (Refused 3)
      (six_from_three l.partners l.own x (header_in x) its-kind 20 (payload_size_in x) is_read (sym its-sender ∙ q))).0

  pub every-six : BySender l n left left6
  every-six =
      record {
        six_given = λ q. (as-its q).0;
        six-words = λ q. (as-its q).1 ∙ sym (ap (λ (ws : List ℕ). ws ++ (6 ∷ 0 ∷ 0 ∷ 0 ∷ [])) told-six);
        three_given = as-another;
      }

pub six_as_before : (l : MixedLent) (n : ℕ) (left : List ℕ) → ReadsMixed l n left → ¬ (ThreeForm l.partners l.message)
    → is_three l.partners (number 2 l.message 4) ≡ false → AsRead l n left
six_as_before l n left s other q = as_read l n left s (if-six l.partners l.own l.message form q)
  where
    form : three_form l.partners l.message ≡ false
    form = go (three_form l.partners l.message) refl
      where
        go : (b : Bool) → three_form l.partners l.message ≡ b → b ≡ false
        go true e = absurd (other ((form-decides l.partners l.own l.message).yes_is e))
        go false e = refl
