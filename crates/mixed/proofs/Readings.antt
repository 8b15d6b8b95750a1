-- What the functions of `reader` answer at their returns.
-- Assumes nothing.
use Prim.Native.Nat.{ℕ}
use mathlib.Core.Path.{◌≡◌, refl, sym, ap, ◌∙◌}
use mathlib.Core.Bool.{Bool, true, false, not, cond, ◌&&◌}
use mathlib.Core.List.{List}
use lib.Dec.{eqb}
use Rattle.wire.proofs.Cond.{yes-if, no-if}
use Rattle.message.specs.declared.Reading.{Reading}
use Rattle.message.specs.Header.{the_version, version_in, sender_in}
use Rattle.message.specs.Refusal.{frame_refusal}
use Rattle.message.specs.Reading.{read_of}
use Rattle.message3.specs.declared.Reading3.{Reading3}
use Rattle.message3.specs.Header.{sender_in3}
use Rattle.message3.specs.Reading.{read_of3}
use Rattle.partners.specs.Threes.{is_three}
use Rattle.mixed.specs.declared.Form.{Form}
use Rattle.mixed.specs.declared.Form.TheVariants as form
use Rattle.mixed.specs.declared.AnyReading.{AnyReading}
use Rattle.mixed.specs.declared.AnyReading.TheVariants.{Refused}
use Rattle.mixed.specs.Form.{three_form}
use Rattle.mixed.specs.Reading.{other_issue, form_of, from_six, from_three, any_of}
use Rattle.mixed.proofs.Issues.{read_by, by_form}

pub the_form : {version sender : ℕ} {speaks : Bool} (i s : List ℕ) → sender ≡ sender_in3 s → version ≡ version_in s → speaks ≡ is_three i sender
    → (not (eqb version the_version) && speaks) ≡ three_form i s
unfolding three_form
the_form i s p q r = rw (q, r, p) refl

-- `form_of` by its two tests
module _ (i s : List ℕ) (three : Bool) (e : three ≡ three_form i s) where
  pub three-found : three ≡ true → form.Three ≡ form_of i s
  unfolding form_of
  three-found y = sym (yes-if {A = Form} form.Three _ (sym e ∙ y))

  module _ (n : three ≡ false) (sender : ℕ) (speaks : Bool) (f : sender ≡ sender_in s) (g : speaks ≡ is_three i sender) where
    in-its-form : form_of i s ≡ cond (is_three i (sender_in s)) (form.Other (other_issue (frame_refusal s))) form.Six
    unfolding form_of
    in-its-form = no-if {A = Form} form.Three _ (sym e ∙ n)

    its-issue : speaks ≡ is_three i (sender_in s)
    its-issue = g ∙ ap (is_three i) f

    pub other-found : {k m : ℕ} → speaks ≡ true → k ≡ frame_refusal s → m ≡ other_issue k → form.Other m ≡ form_of i s
    other-found y p q = ap form.Other (q ∙ ap other_issue p) ∙ sym (in-its-form ∙ yes-if {A = Form} _ form.Six (sym its-issue ∙ y))

    pub six-found : speaks ≡ false → form.Six ≡ form_of i s
    six-found z = sym (in-its-form ∙ no-if {A = Form} (form.Other (other_issue (frame_refusal s))) form.Six (sym its-issue ∙ z))

-- `read` by the form
module _ (i : List ℕ) (own : ℕ) (s : List ℕ) (x : Form) (e : x ≡ form_of i s) where
  pub its-reading : (y : Form) → x ≡ y → read_by own s y ≡ any_of i own s
  its-reading y f = ap (read_by own s) (sym f ∙ e) ∙ sym (by_form i own s)

  pub by_three : {y : Reading3} {r : AnyReading} → x ≡ form.Three → y ≡ read_of3 own s → r ≡ from_three y → r ≡ any_of i own s
  by_three f p q = q ∙ ap from_three p ∙ its-reading form.Three f

  pub by-six : {y : Reading} {r : AnyReading} → x ≡ form.Six → y ≡ read_of own s → r ≡ from_six y → r ≡ any_of i own s
  by-six f p q = q ∙ ap from_six p ∙ its-reading form.Six f

  pub not-its-issue : {n : ℕ} → x ≡ form.Other n → Refused n ≡ any_of i own s
  not-its-issue {n} f = its-reading (form.Other n) f
