-- 02, request 8: "No message may be read under the other issue's meaning", and each is read under its sender's.
-- Assumes nothing.
use Prim.Native.Nat.{ℕ, ◌≤◌}
use mathlib.Core.Path.{◌≡◌, refl, sym, ap, ◌∙◌}
use mathlib.Core.Bool.{Bool, true, false}
use mathlib.Core.List.{List}
use native.Mathlib.Omega.{arith}
use lib.ListN.{length}
use Rattle.wire.proofs.Cond.{no_lt, no-ne, yes-ne}
use Rattle.message.specs.declared.Header.{Header}
use Rattle.message.specs.declared.Message.{Message}
use Rattle.message.specs.declared.Reading.TheVariants as six
use Rattle.message.specs.Header.{header_length, the_mark, mark_in, the_version, version_in, domain_in, sender_in, id_in, payload_in}
use Rattle.message.specs.Refusal.{first, frame_refusal, address_refusal, contents_refusal}
use Rattle.message.specs.Reading.{answered, reading_out, read_of}
use Rattle.message.proofs.Accepted.{both}
use Rattle.message3.specs.declared.Header3.{Header3}
use Rattle.message3.specs.declared.Message3.{Message3}
use Rattle.message3.specs.declared.Reading3.TheVariants as three
use Rattle.message3.specs.Header.{version_in3, sender_in3}
use Rattle.message3.specs.Reading.{read_of3}
use Rattle.partners.specs.Threes.{is_three}
use Rattle.mixed.specs.declared.AnyReading.TheVariants.{Refused, Six, Three}
use Rattle.mixed.specs.Form.{three_form}
use Rattle.mixed.specs.Reading.{other_issue, from_six, from_three, any_of, issue_in}
use Rattle.mixed.proofs.Issues.{as_six, as_three, six_back, three_back, six_issue, three_issue, not_refused, six-sender, six-readable}
use Rattle.mixed.proofs.Issues.{three-sender, three-readable, if-three, if-other, if-six, of-six-form, of-three-form, of-speaker}

-- where the version is neither issue's that the sender's place stands for: 3, unless 1 or 2 is given
module _ (s : List ℕ) (long : header_length ≤ length s) (mark : mark_in s ≡ the_mark) (other : version_in s ≡ the_version → ⊥) where
  pub wrong-frame : frame_refusal s ≡ 3
  wrong-frame =
      no_lt 1 _ (length s) header_length long ∙ no-ne 2 _ (mark_in s) the_mark mark ∙ yes-ne 3 _ (version_in s) the_version other

  not_read : (own : ℕ) → from_six (read_of own s) ≡ Refused 3
  not_read own =
      let rest : ℕ = first (address_refusal own s) (contents_refusal (domain_in s) (id_in s) (payload_in s)) in
      ap (λ (n : ℕ). from_six (answered (first n rest) (reading_out s))) wrong-frame

  pub gets-3 : (i : List ℕ) (own : ℕ) → is_three i (sender_in3 s) ≡ false → any_of i own s ≡ Refused 3
  gets-3 i own e = go (is_three i (sender_in s)) refl
    where
      form : three_form i s ≡ false
      form = of-three-form i own s other ∙ e

      go : (b : Bool) → is_three i (sender_in s) ≡ b → any_of i own s ≡ Refused 3
      go true q = if-other i own s form q ∙ ap (λ (n : ℕ). Refused (other_issue n)) wrong-frame
      go false q = if-six i own s form q ∙ not_read own

module _ (i : List ℕ) (own : ℕ) (s : List ℕ) (h : Header) (m : Message) (start len : ℕ) where
  pub six_is_six : any_of i own s ≡ Six h m start len
      → (is_three i h.platform ≡ false) × (version_in s ≡ the_version) × (read_of own s ≡ six.Read h m start len)
  six_is_six e = go (three_form i s) refl (is_three i (sender_in s)) refl
    where
      go : (a : Bool) → three_form i s ≡ a → (b : Bool) → is_three i (sender_in s) ≡ b
          → (is_three i h.platform ≡ false) × (version_in s ≡ the_version) × (read_of own s ≡ six.Read h m start len)
      go true p b q = absurd (three_issue (read_of3 own s) (ap issue_in (sym (if-three i own s p) ∙ e)))
      go false p true q = let z : ◌≡◌ {A = ℕ} 0 6 = ap issue_in (sym (if-other i own s p q) ∙ e) in absurd (omega arith)
      go false p false q =
          let r = six_back (read_of own s) ∙ ap as_six (sym (if-six i own s p q) ∙ e) in
          (ap (is_three i) (sym (six-sender own s h m start len r)) ∙ q, (six-readable own s h m start len r).version, r)

  module _ (e : read_of own s ≡ six.Read h m start len) where
    form-is-six : three_form i s ≡ false
    form-is-six = of-six-form i own s (six-readable own s h m start len e).version

    pub all_of_six : is_three i h.platform ≡ false → any_of i own s ≡ Six h m start len
    all_of_six f = if-six i own s form-is-six (ap (is_three i) (six-sender own s h m start len e) ∙ f) ∙ ap from_six e

    -- Issue 6's form from a sender that speaks Issue 3
    pub six_from_three : is_three i h.platform ≡ true → any_of i own s ≡ Refused 3
    six_from_three f =
        let z : frame_refusal s ≡ 0 = (both (frame_refusal s) _ (not_refused own s h m start len e)).0 in
        if-other i own s form-is-six (ap (is_three i) (six-sender own s h m start len e) ∙ f) ∙ ap (λ (n : ℕ). Refused (other_issue n)) z

module _ (i : List ℕ) (own : ℕ) (s : List ℕ) (h : Header3) (m : Message3) (start len : ℕ) where
  pub three_is_three : any_of i own s ≡ Three h m start len
      → (is_three i h.platform ≡ true) × (version_in3 s ≡ 1) × (read_of3 own s ≡ three.Read h m start len)
  three_is_three e = go (three_form i s) refl (is_three i (sender_in s)) refl
    where
      go : (a : Bool) → three_form i s ≡ a → (b : Bool) → is_three i (sender_in s) ≡ b
          → (is_three i h.platform ≡ true) × (version_in3 s ≡ 1) × (read_of3 own s ≡ three.Read h m start len)
      go true p b q =
          let r = three_back (read_of3 own s) ∙ ap as_three (sym (if-three i own s p) ∙ e) in
          (ap (is_three i) (sym (three-sender own s h m start len r)) ∙ of-speaker i own s p, (three-readable own s h m start len r).version, r)
      go false p true q = let z : ◌≡◌ {A = ℕ} 0 3 = ap issue_in (sym (if-other i own s p q) ∙ e) in absurd (omega arith)
      go false p false q = absurd (six_issue (read_of own s) (ap issue_in (sym (if-six i own s p q) ∙ e)))

  module _ (e : read_of3 own s ≡ three.Read h m start len) where
    other_version : version_in s ≡ the_version → ⊥
    other_version v = omega (arith, v, (three-readable own s h m start len e).version)

    pub all_of_three : is_three i h.platform ≡ true → any_of i own s ≡ Three h m start len
    all_of_three f =
        if-three i own s (of-three-form i own s other_version ∙ ap (is_three i) (three-sender own s h m start len e) ∙ f) ∙ ap from_three e

    -- Issue 3's form from a sender that speaks Issue 6
    pub three_from_six : is_three i h.platform ≡ false → any_of i own s ≡ Refused 3
    three_from_six f =
        let r = three-readable own s h m start len e in
        let long : header_length ≤ length s = omega (arith, r.long) in
        gets-3 s long r.mark other_version i own (ap (is_three i) (three-sender own s h m start len e) ∙ f)

-- whatever the set-up
pub never_both : (own reader : ℕ) (s : List ℕ) (h : Header) (m : Message) (start len : ℕ) (h3 : Header3) (m3 : Message3) (start3 len3 : ℕ)
    → read_of own s ≡ six.Read h m start len → read_of3 reader s ≡ three.Read h3 m3 start3 len3 → ⊥
never_both own reader s h m start len h3 m3 start3 len3 e f =
    omega (arith, (six-readable own s h m start len e).version, (three-readable reader s h3 m3 start3 len3 f).version)

-- where nobody speaks Issue 3, every message as before
pub as_before : (i : List ℕ) (own : ℕ) (s : List ℕ) → ((k : ℕ) → is_three i k ≡ false) → any_of i own s ≡ from_six (read_of own s)
as_before i own s none = if-six i own s form (none (sender_in s))
  where
    form : three_form i s ≡ false
    form = go (three_form i s) refl
      where
        go : (b : Bool) → three_form i s ≡ b → b ≡ false
        go true p = sym (of-speaker i own s p) ∙ none (sender_in3 s)
        go false p = refl
