-- The words of a message that was read by its sender's issue.
-- Assumes nothing.
use Prim.Native.Nat.{ℕ, zero, suc}
use mathlib.Core.Path.{◌≡◌, refl, sym, ap, ap₂, ◌∙◌}
use mathlib.Core.Bool.{cond}
use mathlib.Core.List.{List, [], ◌∷◌, ◌++◌}
use lib.Dec.{eqb}
use Rattle.wire.specs.Bytes.{number}
use Rattle.message.specs.Header.{header_length, platform_domain, domain_in, sender_in, id_in, payload_size_in, sequence_in, payload_in}
use Rattle.message.specs.Platform.{kind_in}
use Rattle.message.specs.Refusal.{contents_refusal, read_refusal}
use Rattle.message.specs.Reading.{answered, reading_out, read_of}
use Rattle.message.specs.declared.Message.TheVariants as six
use Rattle.message.specs.declared.Status.{Status}
use Rattle.message3.specs.declared.Header3.{Header3}
use Rattle.message3.specs.declared.Message3.{Message3}
use Rattle.message3.specs.declared.Message3.TheVariants.{PlatformStatus, PlatformStatusRequest, AvailabilityStatus, AvailabilityStatusRequest}
use Rattle.message3.specs.declared.Message3.TheVariants.{UnknownOperation, ServiceNotAvailable, VersionedDataPull}
use Rattle.message3.specs.declared.Message3.TheVariants.{CompositeChangeRequest, CompositeChangeRequestAck, Operation}
use Rattle.message3.specs.Platform.{kind_in3, value_in3, composite_in}
use Rattle.mixed.specs.declared.Form.{Form}
use Rattle.mixed.specs.declared.AnyReading.TheVariants.{Three}
use Rattle.mixed.specs.Reading.{form_of, from_six, number_given}
use Rattle.mixed.proofs.Issues.{read_by, by_form}
use Rattle.nyrkovash.specs.IssueCalls.{any_left, any_number, any_answer}
use Rattle.nyrkovash.proofs.Words.{words_read}

-- a message that is no status tells no composite ID
pub no-composite : (m : Message3) → ((x : Status) (c : ℕ) → m ≡ PlatformStatus x c → ⊥) → 0 ≡ composite_in m
no-composite (PlatformStatus x c) h = absurd (h x c refl)
no-composite PlatformStatusRequest h = refl
no-composite (AvailabilityStatus n) h = refl
no-composite (AvailabilityStatusRequest i) h = refl
no-composite (UnknownOperation i) h = refl
no-composite (ServiceNotAvailable i) h = refl
no-composite (VersionedDataPull i) h = refl
no-composite (CompositeChangeRequest c) h = refl
no-composite (CompositeChangeRequestAck a) h = refl
no-composite Operation h = refl

-- `put_three`: what its three calls told, in their places
pub three_told : {k v c : ℕ} (was : List ℕ) (h : Header3) (m : Message3) (start len : ℕ) → k ≡ kind_in3 m → v ≡ value_in3 h.id m → c ≡ composite_in m
    → (k ∷ v ∷ h.platform ∷ h.sequence ∷ start ∷ len ∷ 3 ∷ h.seconds ∷ h.nanoseconds ∷ c ∷ []) ≡ any_left was (Three h m start len)
three_told {k} {v} {c} was h m start len ek ev ec =
    ap₂ (λ (x y : ℕ). x ∷ y ∷ h.platform ∷ h.sequence ∷ start ∷ len ∷ 3 ∷ h.seconds ∷ h.nanoseconds ∷ c ∷ []) ek ev
    ∙ ap (λ (z : ℕ). kind_in3 m ∷ value_in3 h.id m ∷ h.platform ∷ h.sequence ∷ start ∷ len ∷ 3 ∷ h.seconds ∷ h.nanoseconds ∷ z ∷ []) ec

-- `put_six`: the words of `nyr_read`, and behind them its issue
pub six_told :
    {d i f k v a b l : ℕ} (s was : List ℕ) →
    contents_refusal (domain_in s) (id_in s) (payload_in s) ≡ 0 →
    d ≡ domain_in s → i ≡ id_in s → k ≡ cond (eqb d platform_domain) i (kind_in six.Operation) →
    f ≡ number 2 s header_length → v ≡ cond (eqb d platform_domain) f i →
    a ≡ sender_in s → b ≡ sequence_in s → l ≡ payload_size_in s →
    (k ∷ v ∷ a ∷ b ∷ header_length ∷ l ∷ 6 ∷ 0 ∷ 0 ∷ 0 ∷ []) ≡ any_left was (from_six (reading_out s))
six_told s was ok ed ei ek ef ev ea eb el =
    ap (λ (x : List ℕ). x ++ (6 ∷ 0 ∷ 0 ∷ 0 ∷ [])) (words_read s was ok ed ei ek ef ev ea eb el)

-- `read_six`, by the number that refuses
module _ (own : ℕ) (s : List ℕ) (n : ℕ) (e : n ≡ read_refusal own s) where
  pub six_number : n ≡ 0 → 0 ≡ number_given (from_six (read_of own s))
  six_number z = ap (λ (m : ℕ). number_given (from_six (answered m (reading_out s)))) (sym z ∙ e)

  pub six-words : {x : List ℕ} (was : List ℕ) → n ≡ 0 → x ≡ any_left was (from_six (reading_out s)) → x ≡ any_left was (from_six (read_of own s))
  six-words was z f = f ∙ ap (λ (m : ℕ). any_left was (from_six (answered m (reading_out s)))) (sym z ∙ e)

  pub six-refused : (n ≡ 0 → ⊥) → n ≡ number_given (from_six (read_of own s))
  six-refused h = go n h ∙ ap (λ (m : ℕ). number_given (from_six (answered m (reading_out s)))) e
    where
      go : (k : ℕ) → (k ≡ 0 → ⊥) → k ≡ number_given (from_six (answered k (reading_out s)))
      go zero h = absurd (h refl)
      go (suc k) h = refl

  pub six-nothing : (was : List ℕ) → (n ≡ 0 → ⊥) → was ≡ any_left was (from_six (read_of own s))
  six-nothing was h = go n h ∙ ap (λ (m : ℕ). any_left was (from_six (answered m (reading_out s)))) e
    where
      go : (k : ℕ) → (k ≡ 0 → ⊥) → was ≡ any_left was (from_six (answered k (reading_out s)))
      go zero h = absurd (h refl)
      go (suc k) h = refl

-- `nyr_read_mixed`, by the form that was found
module _ (i : List ℕ) (own : ℕ) (s : List ℕ) (x y : Form) (e : x ≡ form_of i s) (f : x ≡ y) where
  pub form-number : {r : ℕ} → r ≡ number_given (read_by own s y) → r ≡ any_number i own s
  form-number d = d ∙ ap number_given (ap (read_by own s) (sym f ∙ e) ∙ sym (by_form i own s))

  pub form-words : {r : List ℕ} (was : List ℕ) → r ≡ any_left was (read_by own s y) → r ≡ any_answer i own s was
  form-words was d = d ∙ ap (any_left was) (ap (read_by own s) (sym f ∙ e) ∙ sym (by_form i own s))
