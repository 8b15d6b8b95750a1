-- What is linked reads and writes by issue.
-- Assumes nothing.
use Prim.Native.Nat.{ℕ}
use mathlib.Core.Path.{sym, ap, subst, ◌∙◌}
use mathlib.Core.List.{List}
use native.Mathlib.Omega.{arith}
use lib.Dec.{eqb}
use lib.ListN.{length}
use Rattle.partners.specs.Threes.{is_three}
use Rattle.partners.proofs.SettingUp.{above_sets_nothing, is_set, others_stay, none_in}
use Rattle.mixed.proofs.NoCrossing.{as_before}
use Rattle.promises.specs.Checks.{Gives}
use Rattle.promises.specs.Issue3Order.{write_checks3}
use Rattle.promises.specs.AnyOrder.{any_checks}
use Rattle.promises.specs.LinkedIssue3.{SetLent, Sets, IsSetUp, LinkedIssue3}
use Rattle.promises.proofs.Issue3Order.{issue3_order}
use Rattle.promises.proofs.AnyOrder.{any_order}
use Rattle.promises.proofs.IssueContracts.{set_by, mixed_by, write3_by}
use Rattle.promises.proofs.WrittenByIssue.{write_3, write_six, each_is_written}
use Rattle.promises.proofs.ReadAgain.{read_then_write}
use Rattle.promises.proofs.ReadByIssue.{by_issue, as_read, every-six, six_as_before}

-- the set-up
sets_up : (l : SetLent) (n : ℕ) (left : List ℕ) → Sets l n left → IsSetUp l n left
sets_up l n left s =
    let f = set_by l n left s in
    let three = eqb l.issue 3 in
    record {
      number = f.0;
      there = λ h long. ap (λ (w : List ℕ). is_three w l.platform) f.1 ∙ is_set l.partners l.platform three h (omega (arith, h, long));
      others = λ k other. ap (λ (w : List ℕ). is_three w k) f.1 ∙ others_stay l.partners l.platform three k other;
      above = λ h. f.1 ∙ above_sets_nothing l.partners l.platform three (omega (arith, h));
    }

pub linked_issue_3 : LinkedIssue3
linked_issue_3 =
    record {
      nobody = none_in 4;
      sets_up = sets_up;
      write_3 = write_3;
      write_six = write_six;
      each_is_written = each_is_written;
      read_then_write = read_then_write;
      by_issue = by_issue;
      all_of_six = every-six;
      six_as_before = six_as_before;
      all_as_before = λ l n left s none. as_read l n left s (as_before l.partners l.own l.message none);
      read_order = λ l n left s. subst (Gives (any_checks l.partners l.own l.message)) (sym (mixed_by l n left s).0)
          (any_order.number l.partners l.own l.message);
      write_order = λ l n r s.
          let x = l.lent in
          subst (Gives (write_checks3 x.domain x.id x.payload (length x.out))) (sym (write3_by l n r s).0)
          (issue3_order.write_number x.domain x.id x.payload (length x.out));
    }
