-- A request is written in its target's issue.
-- Assumes nothing.
use Prim.Native.Nat.{ℕ, ◌+◌}
use mathlib.Core.Path.{◌≡◌, sym, ap, subst, ◌∙◌}
use mathlib.Core.List.{List}
use lib.ListN.{length, take, drop}
use Rattle.wire.proofs.Cond.{yes-if, no-if}
use Rattle.message3.specs.declared.Message3.TheVariants.{Operation}
use Rattle.message3.specs.declared.Reading3.TheVariants.{Read}
use Rattle.message3.specs.Refusal.{write_refusal3}
use Rattle.message3.specs.Reading.{read_of3}
use Rattle.message3.specs.Writing.{message_bytes3}
use Rattle.message3.proofs.RoundTrip.{Fields, reads-back, payload-back}
use Rattle.partners.proofs.Counting.{above_is_none}
use Rattle.mixed.proofs.NoCrossing.{all_of_three, three_from_six}
use Rattle.pending.specs.Places.{free_place, entered_at}
use Rattle.pending.specs.Free.{next_free}
use Rattle.requests.specs.declared.Issue.{Issue}
use Rattle.requests.specs.declared.Issue.TheVariants.{Six, Three}
use Rattle.requests.specs.Sending.{sent_for, list_sent_for, output_sent_for, number_given}
use Rattle.requests.proofs.Sends.{next_kept, list_kept, output_kept, entered_so}
use Rattle.promises.specs.Checks.{Answers}
use Rattle.promises.specs.Requests.{not_sent}
use Rattle.promises.specs.MixedSending.{ToSend, our_asking, issue_in, AsForSix, send_checks3, sent_as3, header_sent3, Arrives3, Narrow}
use Rattle.promises.specs.MixedSending.{ToSix, ToThree, given, SendsByIssue}
use Rattle.promises.proofs.SentFor.{order-at, number_small, accepted, can, in_front, behind}

-- what is said of an issue is so of the target's
module _ (x : ToSend) where
  pub is-six : ToSix x → issue_in x ≡ Six
  is-six e = no-if {A = Issue} (Three x.stamp) Six e

  pub is-three : ToThree x → issue_in x ≡ Three x.stamp
  is-three e = yes-if {A = Issue} (Three x.stamp) Six e

  as_six : ToSix x → AsForSix our_asking x
  as_six e =
      record {
        answer = ap (λ (i : Issue). sent_for i x.next x.list x.kind x.id x.payload (length x.out)) (is-six e);
        list = ap (λ (i : Issue). list_sent_for i x.next x.list x.kind x.id x.target x.payload (length x.out)) (is-six e);
        output = ap (λ (i : Issue). output_sent_for i x.own x.next x.list x.kind x.id x.payload x.out) (is-six e);
      }

  order : ToThree x →
      Answers (not_sent x.next) (sent_as3 x.next x.list x.payload) (send_checks3 x.list x.kind x.payload (length x.out))
      (our_asking.answers x)
  order e =
      subst
      (λ (i : Issue).
      Answers (not_sent x.next) (sent_as3 x.next x.list x.payload) (send_checks3 x.list x.kind x.payload (length x.out))
      (sent_for i x.next x.list x.kind x.id x.payload (length x.out)))
      (sym (is-three e)) (order-at 24 x.next x.kind x.list x.payload (length x.out))

  -- what is sent in Issue 3
  module _ (e : ToThree x) (z : given our_asking x ≡ 0) where
    abbrev n : ℕ
    n = next_free x.list x.next

    abbrev three : Issue
    three = Three x.stamp

    sent : number_given (sent_for three x.next x.list x.kind x.id x.payload (length x.out)).answer ≡ 0
    sent =
        sym (ap (λ (i : Issue). number_given (sent_for i x.next x.list x.kind x.id x.payload (length x.out)).answer) (is-three e)) ∙ z

    output-is : our_asking.outputs x ≡ output_sent_for three x.own x.next x.list x.kind x.id x.payload x.out
    output-is = ap (λ (i : Issue). output_sent_for i x.own x.next x.list x.kind x.id x.payload x.out) (is-three e)

    entered : our_asking.lists x ≡ entered_at x.list (free_place x.list) n x.id x.target
    entered =
        ap (λ (i : Issue). list_sent_for i x.next x.list x.kind x.id x.target x.payload (length x.out)) (is-three e)
        ∙ entered_so three x.list x.kind x.id x.payload (length x.out) x.next x.target
        (accepted three x.own x.next x.kind x.id x.list x.payload x.out sent)

    pub front3 : take (24 + length x.payload) (our_asking.outputs x) ≡ message_bytes3 x.own x.stamp 1 x.id n x.payload
    front3 =
        ap (take (24 + length x.payload)) output-is ∙ in_front three x.own x.next x.kind x.id x.list x.payload x.out sent

    arrives : (reader : ℕ) → Narrow x → ¬ (x.own ≡ reader) → Arrives3 x n reader (take (24 + length x.payload) (our_asking.outputs x))
    arrives reader w other =
        subst (Arrives3 x n reader) (sym front3)
        (record {
          heard = heard;
          handed = payload-back x.own x.stamp 1 x.id n x.payload (length x.out) reader fields writes;
          told = λ i so. all_of_three i reader bytes (header_sent3 x n) Operation 24 (length x.payload) heard so;
          elsewhere = λ i so. three_from_six i reader bytes (header_sent3 x n) Operation 24 (length x.payload) heard so;
        })
      where
        bytes : List ℕ
        bytes = message_bytes3 x.own x.stamp 1 x.id n x.payload

        fields : Fields x.own reader x.id n x.stamp
        fields =
            record {
              other = other;
              id_fits = w.id_fits;
              sequence_fits = number_small x.list x.next w.next_fits;
              seconds_fit = w.seconds_fit;
              nanoseconds_fit = w.nanoseconds_fit;
            }

        writes : write_refusal3 1 x.id x.payload (length x.out) ≡ 0
        writes = (can three x.own x.next x.kind x.id x.list x.payload x.out sent).writes

        heard : read_of3 reader bytes ≡ Read (header_sent3 x n) Operation 24 (length x.payload)
        heard = reads-back x.own x.stamp 1 x.id n x.payload (length x.out) reader fields writes

pub sends_by_issue : SendsByIssue our_asking
sends_by_issue =
    record {
      as_before = as_six;
      above = λ x h. as_six x (above_is_none x.partners x.target h);
      order = order;
      next_kept = λ x. next_kept (issue_in x) x.list x.kind x.id x.payload (length x.out) x.next;
      list_kept = λ x. list_kept (issue_in x) x.list x.kind x.id x.payload (length x.out) x.next x.target;
      output_kept = λ x. output_kept (issue_in x) x.own x.next x.kind x.id x.list x.payload x.out;
      entered = entered;
      arrives = λ x reader e w other z. arrives x e z reader w other;
      behind = λ x e z.
          let k = 24 + length x.payload in
          ap (drop k) (output-is x e z)
          ∙ behind (Three x.stamp) x.own x.next x.kind x.id x.list x.payload x.out (sent x e z);
    }
