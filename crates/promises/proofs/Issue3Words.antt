-- What the words of a message say of its fields, where nothing refuses its contents: Issue 3's as specs/LinkedIssue3 has them.
-- Assumes nothing.
use Prim.Native.Nat.{ℕ, zero, suc, ◌≤◌, ◌<◌}
use mathlib.Core.Path.{◌≡◌, refl, sym, ap, ap₂, ◌∙◌}
use mathlib.Core.Bool.{not, cond}
use mathlib.Core.List.{List, [], ◌∷◌}
use native.Mathlib.Omega.{arith}
use borrow.Author.Tests.{eqb-true, eqb-false, ltb-false, leb-false, not-false}
use lib.Dec.{eqb, leb, ltb}
use lib.ListN.{length}
use Rattle.wire.specs.Bytes.{number}
use Rattle.wire.proofs.Cond.{passed, neither}
use Rattle.wire.proofs.Numbers.{past_end}
use Rattle.message3.specs.Platform.{reserved_id3, message_of3, kind_in3, value_in3, composite_in}
use Rattle.message3.specs.Refusal.{contents_refusal3}
use Rattle.promises.specs.LinkedMessages.{value_sent}
use Rattle.promises.specs.LinkedIssue3.{kind_sent3, composite_sent}
use Rattle.promises.proofs.Issue3Messages.{nine, issue3_messages}

-- what the tests of a message's length, and of its first field, say where they refuse nothing
length_known : (p : List ℕ) (l m : ℕ) → cond (not (eqb (length p) l)) 8 m ≡ 0 → length p ≡ l
length_known p l m e = eqb-true (length p) l (not-false _ (passed (not (eqb (length p) l)) 7 m e).0)

field_known : (p : List ℕ) (l : ℕ) → cond {A = ℕ} (not (eqb (length p) l)) 8 (cond (leb 2 (number 2 p 0)) 9 0) ≡ 0 → number 2 p 0 < 2
field_known p l e =
    let r = (passed (not (eqb (length p) l)) 7 (cond (leb 2 (number 2 p 0)) 9 0) e).1 in
    leb-false 2 (number 2 p 0) (passed (leb 2 (number 2 p 0)) 8 0 r).0

pub id_known : (i : ℕ) (p : List ℕ) → contents_refusal3 0 i p ≡ 0 → (1 ≤ i) × (i ≤ 9)
id_known i p e =
    let n = neither (eqb i 0) (ltb 9 i) (passed (reserved_id3 i) 6 _ e).0 in
    let some = eqb-false i 0 n.0 in
    (omega (arith, some), ltb-false 9 i n.1)

-- a platform message, by the nine IDs: its value is the first field of its payload, and of a status the second is its composite ID
value_told : (i : ℕ) (p : List ℕ) → contents_refusal3 0 i p ≡ 0 → value_in3 i (message_of3 0 i (number 2 p 0) (number 2 p 4)) ≡ number 2 p 0
value_told i p e =
    let k = id_known i p e in
    let f = number 2 p 0 in
    let s = number 2 p 4 in
    let all = issue3_messages.kinds in
    nine (λ n. contents_refusal3 0 n p ≡ 0 → value_in3 n (message_of3 0 n (number 2 p 0) (number 2 p 4)) ≡ number 2 p 0) (
      λ r. all.status-value f s (field_known p 8 r),
      λ r. let l = length_known p 0 0 r in sym (past_end 2 p 0 (omega (arith, l))),
      λ r. refl,
      λ r. refl,
      λ r. refl,
      λ r. refl,
      λ r. refl,
      λ r. refl,
      λ r. all.ack_value f s (field_known p 4 r),
    ) i k.0 k.1 e

composite_told : (i field second : ℕ) → 1 ≤ i → i ≤ 9 → composite_in (message_of3 0 i field second) ≡ cond (eqb i 1) second 0
composite_told i field second =
    nine (λ n. composite_in (message_of3 0 n field second) ≡ cond (eqb n 1) second 0) (refl, refl, refl, refl, refl, refl, refl, refl, refl) i

-- the words that tell a message of either domain
pub record Told3 (d i : ℕ) (p : List ℕ) : Type 0 where
  pub kind : kind_in3 (message_of3 d i (number 2 p 0) (number 2 p 4)) ≡ kind_sent3 d i
  pub value : value_in3 i (message_of3 d i (number 2 p 0) (number 2 p 4)) ≡ value_sent d i p
  pub composite : composite_in (message_of3 d i (number 2 p 0) (number 2 p 4)) ≡ composite_sent d i p

pub told_words3 : (d i : ℕ) (p : List ℕ) → d < 2 → contents_refusal3 d i p ≡ 0 → Told3 d i p
told_words3 zero i p h e =
    let k = id_known i p e in
    record {
      kind = issue3_messages.kinds.of_platform i (number 2 p 0) (number 2 p 4) k.0 k.1;
      value = value_told i p e;
      composite = composite_told i (number 2 p 0) (number 2 p 4) k.0 k.1;
    }
told_words3 (suc zero) i p h e = record { kind = refl; value = refl; composite = refl }
told_words3 (suc (suc d)) i p h e = absurd (omega arith)

-- and all ten
pub ten_words : {d i : ℕ} {p : List ℕ} → Told3 d i p → (own seq len seconds nanoseconds : ℕ)
    → kind_in3 (message_of3 d i (number 2 p 0) (number 2 p 4)) ∷ value_in3 i (message_of3 d i (number 2 p 0) (number 2 p 4))
    ∷ own ∷ seq ∷ 24 ∷ len ∷ 3 ∷ seconds ∷ nanoseconds ∷ composite_in (message_of3 d i (number 2 p 0) (number 2 p 4)) ∷ []
    ≡ kind_sent3 d i ∷ value_sent d i p ∷ own ∷ seq ∷ 24 ∷ len ∷ 3 ∷ seconds ∷ nanoseconds ∷ composite_sent d i p ∷ []
ten_words {d} {i} {p} t own seq len seconds nanoseconds =
    let c = composite_in (message_of3 d i (number 2 p 0) (number 2 p 4)) in
    ap₂ (λ (x y : ℕ). x ∷ y ∷ own ∷ seq ∷ 24 ∷ len ∷ 3 ∷ seconds ∷ nanoseconds ∷ c ∷ []) t.kind t.value
    ∙ ap (λ (z : ℕ). kind_sent3 d i ∷ value_sent d i p ∷ own ∷ seq ∷ 24 ∷ len ∷ 3 ∷ seconds ∷ nanoseconds ∷ z ∷ []) t.composite
