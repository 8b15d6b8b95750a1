-- The words of a message that was read, by its bytes.
-- Assumes nothing.
use Prim.Native.Nat.{ℕ, zero, suc, ◌≤◌, ◌<◌}
use mathlib.Core.Path.{◌≡◌, refl, sym, ap, ap₂, ◌∙◌}
use mathlib.Core.Bool.{Bool, true, false, not, cond, ◌&&◌}
use mathlib.Core.List.{List, [], ◌∷◌}
use native.Mathlib.Omega.{arith}
use borrow.Author.Tests.{eqb-true, eqb-false, ltb-false, leb-false, not-false}
use lib.Dec.{eqb, leb, ltb}
use lib.ListN.{length}
use Rattle.wire.specs.Bytes.{number}
use Rattle.wire.proofs.Cond.{yes-if, passed, neither}
use Rattle.wire.proofs.Numbers.{past_end, number_drop}
use Rattle.message.specs.Header.{header_length, platform_domain, domain_in, sender_in, id_in, payload_size_in, sequence_in, payload_in}
use Rattle.message.specs.Platform.{platform_status, reserved_id, payload_length, reserved_states, status_of, status_value, platform_message, message_of}
use Rattle.message.specs.Platform.{kind_in, value_in}
use Rattle.message.specs.Refusal.{contents_refusal, read_refusal}
use Rattle.message.specs.Reading.{answered, reading_out, number_given}
use Rattle.message.specs.declared.Message.{Message}
use Rattle.message.specs.declared.Message.TheVariants.{Operation}
use Rattle.message.specs.declared.Reading.{Reading}
use Rattle.message.proofs.Accepted.{readable}
use Rattle.nyrkovash.specs.MessageCalls.{read_left, number_read, read_answer}

-- a state that is not reserved is 0 or 1
state_is : (f : ℕ) → f < 2 → status_value (status_of f) ≡ f
state_is f h = go (eqb f 0) refl
  where
    go : (b : Bool) → eqb f 0 ≡ b → status_value (status_of f) ≡ f
    go true e = rw e (sym (eqb-true f 0 e))
    go false e = rw e (omega (arith, eqb-false f 0 e))

-- a platform message that nothing refuses: its kind is its ID, and its value the field of its payload
module _ (i : ℕ) (p : List ℕ) (e : contents_refusal platform_domain i p ≡ 0) where
  pub id_known : (i ≡ 0 → ⊥) × (i ≤ 4)
  id_known =
      let n = neither (eqb i 0) (ltb 4 i) (passed (reserved_id i) 6 _ e).0 in
      (eqb-false i 0 n.0, ltb-false 4 i n.1)

  length_known : length p ≡ payload_length i
  length_known =
      let r = (passed (reserved_id i) 6 _ e).1 in
      eqb-true (length p) (payload_length i) (not-false _ (passed (not (eqb (length p) (payload_length i))) 7 _ r).0)

  state-known : (eqb i platform_status && leb reserved_states (number 2 p 0)) ≡ false
  state-known =
      let r = (passed (reserved_id i) 6 _ e).1 in
      let l = (passed (not (eqb (length p) (payload_length i))) 7 _ r).1 in
      (passed (eqb i platform_status && leb reserved_states (number 2 p 0)) 8 0 l).0

  pub kind-is-id : (f : ℕ) → kind_in (platform_message i f) ≡ i
  kind-is-id f = go (eqb i 1) (eqb i 2) (eqb i 3) refl refl refl
    where
      go : (x y z : Bool) → eqb i 1 ≡ x → eqb i 2 ≡ y → eqb i 3 ≡ z → kind_in (platform_message i f) ≡ i
      go true y z a b c = rw a (sym (eqb-true i 1 a))
      go false true z a b c = rw (a, b) (sym (eqb-true i 2 b))
      go false false true a b c = rw (a, b, c) (sym (eqb-true i 3 c))
      go false false false a b c =
          let k = id_known in
          let k0 = k.0 in
          let k4 = k.1 in
          rw (a, b, c) (omega (arith, eqb-false i 1 a, eqb-false i 2 b, eqb-false i 3 c, k0))

  pub value-is-field : value_in i (platform_message i (number 2 p 0)) ≡ number 2 p 0
  value-is-field = go (eqb i 1) (eqb i 2) (eqb i 3) refl refl refl
    where
      go : (x y z : Bool) → eqb i 1 ≡ x → eqb i 2 ≡ y → eqb i 3 ≡ z → value_in i (platform_message i (number 2 p 0)) ≡ number 2 p 0
      go true y z a b c =
          let s : leb reserved_states (number 2 p 0) ≡ false = rw a at state-known in
          rw a (state_is (number 2 p 0) (leb-false reserved_states (number 2 p 0) s))
      go false true z a b c =
          let l : length p ≡ 0 = length_known ∙ yes-if 0 4 b in
          rw (a, b) (sym (past_end 2 p 0 (omega arith)))
      go false false true a b c = rw (a, b, c)
      go false false false a b c = rw (a, b, c)

module _ (d i : ℕ) (p : List ℕ) (e : contents_refusal d i p ≡ 0) where
  kind-is : (f : ℕ) → kind_in (message_of d i f) ≡ cond (eqb d platform_domain) i (kind_in Operation)
  kind-is f = go (eqb d platform_domain) refl
    where
      go : (b : Bool) → eqb d platform_domain ≡ b → kind_in (message_of d i f) ≡ cond (eqb d platform_domain) i (kind_in Operation)
      go true a =
          let z : d ≡ 0 = eqb-true d 0 a in
          rw a (kind-is-id i p (rw z at e) f)
      go false a = rw a

  value-is : value_in i (message_of d i (number 2 p 0)) ≡ cond (eqb d platform_domain) (number 2 p 0) i
  value-is = go (eqb d platform_domain) refl
    where
      go : (b : Bool) → eqb d platform_domain ≡ b → value_in i (message_of d i (number 2 p 0)) ≡ cond (eqb d platform_domain) (number 2 p 0) i
      go true a =
          let z : d ≡ 0 = eqb-true d 0 a in
          rw a (value-is-field i p (rw z at e))
      go false a = rw a

-- `put_reading`
pub words_read :
    {d i f k v a b l : ℕ} (s was : List ℕ) →
    contents_refusal (domain_in s) (id_in s) (payload_in s) ≡ 0 →
    d ≡ domain_in s → i ≡ id_in s → k ≡ cond (eqb d platform_domain) i (kind_in Operation) →
    f ≡ number 2 s header_length → v ≡ cond (eqb d platform_domain) f i →
    a ≡ sender_in s → b ≡ sequence_in s → l ≡ payload_size_in s →
    (k ∷ v ∷ a ∷ b ∷ header_length ∷ l ∷ []) ≡ read_left was (reading_out s)
words_read {d} {i} {f} {k} {v} {a} {b} {l} s was ok ed ei ek ef ev ea eb el =
    let m : Message = message_of (domain_in s) (id_in s) (number 2 (payload_in s) 0) in
    let f₁ : f ≡ number 2 (payload_in s) 0 = ef ∙ sym (number_drop 2 header_length s 0) in
    let k₁ : k ≡ cond (eqb (domain_in s) platform_domain) (id_in s) (kind_in Operation) =
    ek ∙ ap₂ (λ (y z : ℕ). cond (eqb y platform_domain) z (kind_in Operation)) ed ei in
    let k₂ : k ≡ kind_in m = k₁ ∙ sym (kind-is (domain_in s) (id_in s) (payload_in s) ok (number 2 (payload_in s) 0)) in
    let v₁ : v ≡ cond (eqb (domain_in s) platform_domain) (number 2 (payload_in s) 0) (id_in s) =
    ev ∙ ap (λ (y : ℕ). cond (eqb y platform_domain) f i) ed ∙ ap₂ (λ (y z : ℕ). cond (eqb (domain_in s) platform_domain) y z) f₁ ei in
    let v₂ : v ≡ value_in (id_in s) m = v₁ ∙ sym (value-is (domain_in s) (id_in s) (payload_in s) ok) in
    ap₂ (λ (y z : ℕ). y ∷ z ∷ a ∷ b ∷ header_length ∷ l ∷ []) k₂ v₂
    ∙ ap₂ (λ (y z : ℕ). kind_in m ∷ value_in (id_in s) m ∷ y ∷ z ∷ header_length ∷ l ∷ []) ea eb
    ∙ ap (λ (y : ℕ). kind_in m ∷ value_in (id_in s) m ∷ sender_in s ∷ sequence_in s ∷ header_length ∷ y ∷ []) el

-- `read`, by the number that refuses
not_refused : (n : ℕ) (r : Reading) → (n ≡ 0 → ⊥) → number_given (answered n r) ≡ n
not_refused zero r h = absurd (h refl)
not_refused (suc n) r h = refl

no_words : (n : ℕ) (r : Reading) (was : List ℕ) → (n ≡ 0 → ⊥) → was ≡ read_left was (answered n r)
no_words zero r was h = absurd (h refl)
no_words (suc n) r was h = refl

module _ (own : ℕ) (s : List ℕ) (n : ℕ) (e : n ≡ read_refusal own s) where
  pub contents-known : n ≡ 0 → contents_refusal (domain_in s) (id_in s) (payload_in s) ≡ 0
  contents-known z = (readable own s (sym e ∙ z)).contents

  pub read_number : n ≡ 0 → 0 ≡ number_read own s
  read_number z = ap (λ (m : ℕ). number_given (answered m (reading_out s))) (sym z ∙ e)

  pub read-words : {x : List ℕ} (was : List ℕ) → n ≡ 0 → x ≡ read_left was (reading_out s) → x ≡ read_answer own s was
  read-words was z f = f ∙ ap (λ (m : ℕ). read_left was (answered m (reading_out s))) (sym z ∙ e)

  pub read-refused : (n ≡ 0 → ⊥) → n ≡ number_read own s
  read-refused h = sym (not_refused n (reading_out s) h) ∙ ap (λ (m : ℕ). number_given (answered m (reading_out s))) e

  pub read-nothing : (was : List ℕ) → (n ≡ 0 → ⊥) → was ≡ read_answer own s was
  read-nothing was h = no_words n (reading_out s) was h ∙ ap (λ (m : ℕ). read_left was (answered m (reading_out s))) e
