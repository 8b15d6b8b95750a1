-- The order of checks for messages of partners of both issues: that of the form which a message has.
-- Assumes nothing.
use Prim.Native.Nat.{ℕ, ◌-◌, ◌<◌}
use mathlib.Core.Path.{◌≡◌, refl, sym, subst}
use mathlib.Core.Bool.{Bool, true, false, not, cond}
use mathlib.Core.Logic.{◌⊎◌, inl, inr, ⊎_elim}
use mathlib.Core.List.{List, [], ◌∷◌}
use lib.Dec.{eqb, leb, ltb}
use lib.ListN.{length, drop}
use Rattle.wire.specs.Bytes.{number}
use Rattle.wire.proofs.Cond.{clash}
use Rattle.message.specs.declared.Reading.TheVariants as reading
use Rattle.message.specs.Header.{header_length, the_mark, mark_in, the_version, version_in, reserved_domains, domain_in, sender_in}
use Rattle.message.specs.Refusal.{frame_refusal}
use Rattle.message.specs.Reading.{reading_out, read_of}
use Rattle.message3.specs.declared.Reading3.TheVariants as reading3
use Rattle.message3.specs.Header.{sender_in3}
use Rattle.message3.specs.Reading.{read_out3}
use Rattle.partners.specs.Threes.{is_three}
use Rattle.mixed.specs.declared.AnyReading.TheVariants.{Refused}
use Rattle.mixed.specs.Form.{three_form}
use Rattle.mixed.specs.Reading.{other_issue, from_six, from_three, any_of, number_given}
use Rattle.mixed.proofs.Issues.{if-three, if-other, if-six}
use Rattle.promises.specs.Checks.{Check, ◌when◌, Answers, Outside, none, this, next}
use Rattle.promises.specs.Order.{length_in_table4, read_checks}
use Rattle.promises.specs.Issue3Order.{read_checks3}
use Rattle.promises.specs.AnyOrder.{ThreeForm, ByForm, any_checks, its_reading, AnyOrder}
use Rattle.promises.proofs.Checks.{Decides, lt_decides, eq_decides, not_decides, and_decides}
use Rattle.promises.proofs.Checks.{numbers, then}
use Rattle.promises.proofs.Order.{read_in_order}
use Rattle.promises.proofs.Issue3Order.{issue3_order}

-- two lists of checks that say the same
data Alike : List Check → List Check → Type 1 where
  ends : Alike [] []
  more : {A B : Type 0} {cs ds : List Check} (n : ℕ) → (A → B) → (B → A) → Alike cs ds → Alike (n when A ∷ cs) (n when B ∷ ds)

keep : {A : Type 0} {cs ds : List Check} (n : ℕ) → Alike cs ds → Alike (n when A ∷ cs) (n when A ∷ ds)
keep n r = more n (λ a. a) (λ a. a) r

alike : {X : Type 0} {refused : ℕ → X} {good x : X} {cs ds : List Check} → Alike cs ds → Answers refused good cs x → Answers refused good ds x
alike ends a = a
alike (more n f g r) (this a) = this (f a)
alike (more n f g r) (next z a) = next (λ b. z (g b)) (alike r a)

-- Issue 6's form, with the sender's issue
abbrev checks6 : List ℕ → ℕ → List ℕ → List Check
checks6 i own s =
    1 when (length s < 20)
    ∷ 2 when (¬ (number 1 s 0 ≡ 0xEC0A))
    ∷ 3 when ((¬ (number 0 s 2 ≡ 2)) ⊎ (is_three i (number 2 s 4) ≡ true))
    ∷ 4 when (1 < number 0 s 3)
    ∷ 5 when (¬ (number 2 s 12 ≡ length s - 20))
    ∷ 6 when (number 2 s 4 ≡ own)
    ∷ 7 when ((number 0 s 3 ≡ 0) × Outside 1 4 (number 2 s 8))
    ∷ 8 when ((number 0 s 3 ≡ 0) × ¬ (length (drop 20 s) ≡ length_in_table4 (number 2 s 8)))
    ∷ 9 when ((number 0 s 3 ≡ 0) × ((number 2 s 8 ≡ 1) × (1 < number 2 (drop 20 s) 0)))
    ∷ []

module _ (i : List ℕ) (own : ℕ) (s : List ℕ) where
  -- from one that speaks Issue 3
  of_three : is_three i (sender_in s) ≡ true → Answers Refused (from_six (reading_out s)) (checks6 i own s) (Refused (other_issue (frame_refusal s)))
  of_three f = go (ltb (length s) header_length) refl (eqb (mark_in s) the_mark) refl
    where
      behind : (c d : Bool) → 3 ≡ other_issue (cond (not c) 3 (cond d 4 0))
      behind true true = refl
      behind true false = refl
      behind false d = refl

      go : (a : Bool) → ltb (length s) header_length ≡ a → (b : Bool) → eqb (mark_in s) the_mark ≡ b
          → Answers Refused (from_six (reading_out s)) (checks6 i own s)
          (Refused (other_issue (cond a 1 (cond (not b) 2 (cond (not (eqb (version_in s) the_version)) 3 (cond (leb reserved_domains (domain_in s)) 4 0))))))
      go true p b q = this ((lt_decides (length s) header_length).yes_is p)
      go false p false q = next ((lt_decides (length s) header_length).no_is p) (this ((eq_decides (mark_in s) the_mark).no_is q))
      go false p true q =
          subst (λ (n : ℕ). Answers Refused (from_six (reading_out s)) (checks6 i own s) (Refused n))
          (behind (eqb (version_in s) the_version) (leb reserved_domains (domain_in s)))
          (next ((lt_decides (length s) header_length).no_is p)
          (next {c = 2 when (¬ (number 1 s 0 ≡ 0xEC0A))} (λ n. n ((eq_decides (mark_in s) the_mark).yes_is q)) (this (inr f))))

  -- from any other, as before
  of-six : is_three i (sender_in s) ≡ false → Answers Refused (from_six (reading_out s)) (checks6 i own s) (from_six (read_of own s))
  unfolding read_checks
  of-six f =
      alike (keep 1 (keep 2 (more 3 inl (λ o. ⊎_elim (λ v. v) (λ y. absurd (clash f y)) o) (keep 4 (keep 5 (keep 6 (keep 7 (keep 8 (keep 9 ends)))))))))
      (then reading.Refused (reading_out s) Refused (from_six (reading_out s)) from_six (λ n. refl) (read_in_order own s) (λ e. none))

  pub form-decides : Decides (three_form i s) (ThreeForm i s)
  unfolding three_form
  form-decides =
      and_decides (not (eqb (version_in s) the_version)) (is_three i (sender_in3 s))
      (not_decides (eqb (version_in s) the_version) (eq_decides (version_in s) the_version))
      (record { yes_is = λ e. e; no_is = clash })

  -- each check is the one that is asked of the form
  module _ (t : ThreeForm i s) where
    three : {A B : Type 0} {cs ds : List Check} (n : ℕ) → Alike cs ds → Alike (n when A ∷ cs) (n when ByForm i s A B ∷ ds)
    three {A} {B} n r = more {B = ByForm i s A B} n (λ a. inl (t, a)) (λ o. ⊎_elim (λ p. p.1) (λ q. absurd (q.0 t)) o) r

    by_three : Alike (read_checks3 own s) (any_checks i own s)
    unfolding any_checks
    by_three = three 1 (three 2 (three 3 (three 4 (three 5 (three 6 (three 7 (three 8 (three 9 ends))))))))

  module _ (t : ¬ (ThreeForm i s)) where
    six : {A B : Type 0} {cs ds : List Check} (n : ℕ) → Alike cs ds → Alike (n when B ∷ cs) (n when ByForm i s A B ∷ ds)
    six {A} {B} n r = more {B = ByForm i s A B} n (λ b. inr (t, b)) (λ o. ⊎_elim (λ p. absurd (t p.0)) (λ q. q.1) o) r

    by-six : Alike (checks6 i own s) (any_checks i own s)
    unfolding any_checks
    by-six = six 1 (six 2 (six 3 (six 4 (six 5 (six 6 (six 7 (six 8 (six 9 ends))))))))

  six-in-order : three_form i s ≡ false → Answers Refused (from_six (reading_out s)) (checks6 i own s) (any_of i own s)
  six-in-order e = go (is_three i (sender_in s)) refl
    where
      go : (b : Bool) → is_three i (sender_in s) ≡ b → Answers Refused (from_six (reading_out s)) (checks6 i own s) (any_of i own s)
      go true f = subst (Answers Refused (from_six (reading_out s)) (checks6 i own s)) (sym (if-other i own s e f)) (of_three f)
      go false f = subst (Answers Refused (from_six (reading_out s)) (checks6 i own s)) (sym (if-six i own s e f)) (of-six f)

  three-in-order : three_form i s ≡ true → Answers Refused (from_three (read_out3 s)) (read_checks3 own s) (any_of i own s)
  three-in-order e =
      subst (Answers Refused (from_three (read_out3 s)) (read_checks3 own s)) (sym (if-three i own s e))
      (then reading3.Refused (read_out3 s) Refused (from_three (read_out3 s)) from_three (λ n. refl) (issue3_order.read own s) (λ f. none))

  any-in-order : Answers Refused (its_reading i s) (any_checks i own s) (any_of i own s)
  any-in-order = go (three_form i s) refl
    where
      go : (b : Bool) → three_form i s ≡ b → Answers Refused (cond b (from_three (read_out3 s)) (from_six (reading_out s))) (any_checks i own s) (any_of i own s)
      go true e = alike (by_three (form-decides.yes_is e)) (three-in-order e)
      go false e = alike (by-six (form-decides.no_is e)) (six-in-order e)

  its-number : number_given (its_reading i s) ≡ 0
  its-number = go (three_form i s)
    where
      go : (b : Bool) → number_given (cond b (from_three (read_out3 s)) (from_six (reading_out s))) ≡ 0
      go true = refl
      go false = refl

pub any_order : AnyOrder
any_order =
    record {
      read = any-in-order;
      number = λ i own s. numbers number_given (λ n. refl) (its-number i own s) (any-in-order i own s);
    }
