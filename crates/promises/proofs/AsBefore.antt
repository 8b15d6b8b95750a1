-- A message of Issue 6 is answered as before, whoever else speaks Issue 3.
-- Assumes nothing.
use Prim.Native.Nat.{ℕ}
use mathlib.Core.Path.{◌≡◌, refl, ◌∙◌}
use mathlib.Core.Bool.{Bool, true, false}
use mathlib.Core.List.{List}
use borrow.Author.Tests.{eqb-true, eqb-false}
use lib.Dec.{eqb}
use Rattle.message.specs.Header.{the_version, version_in}
use Rattle.mixed.specs.Form.{three_form}
use Rattle.mixed.proofs.Issues.{of-six-form, of-three-form}
use Rattle.mixed.proofs.AsBefore.{sections-before, sections-output-before, sections-list-before, sections-words-before}
use Rattle.mixed.proofs.AsBefore.{answer-before, left-before, pending-before, kept-before}
use Rattle.promises.specs.AsBefore.{OfIssue6, AsBefore}

not_three : (own : ℕ) (i m : List ℕ) → OfIssue6 i m → three_form i m ≡ false
not_three own i m d = go (eqb (version_in m) the_version) refl
  where
    go : (b : Bool) → eqb (version_in m) the_version ≡ b → three_form i m ≡ false
    go true q = of-six-form i own m (eqb-true (version_in m) the_version q)
    go false q = let n = eqb-false (version_in m) the_version q in of-three-form i own m n ∙ d.form n

pub as_before : AsBefore
as_before =
    record {
      on_bytes = λ own i ours t p ws m d.
          record {
            answer = answer-before own i ours t p ws m (not_three own i m d) d.sender;
            output = left-before own i ours t p ws m (not_three own i m d) d.sender;
            list = pending-before own i ours t p ws m (not_three own i m d) d.sender;
            services = kept-before own i ours t p ws m (not_three own i m d) d.sender;
          };
      on_sections = λ own i ours t s index p ws m d.
          record {
            answer = sections-before own i ours t s index p ws m (not_three own i m d) d.sender;
            output = sections-output-before own i ours t s index p ws m (not_three own i m d) d.sender;
            list = sections-list-before own i ours t s index p ws m (not_three own i m d) d.sender;
            services = sections-words-before own i ours t s index p ws m (not_three own i m d) d.sender;
          };
      nobody = λ i m none. record { form = λ v. none _; sender = none _ };
    }
