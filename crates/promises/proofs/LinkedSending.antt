-- What is linked writes a request in its target's issue.
-- Assumes nothing.
use Prim.Native.Nat.{ℕ, ◌+◌, ◌%◌, ◌^◌}
use Rattle.std.specs.Prelude.{Ok}
use Rattle.std.specs.Prelude.{Option, Some, None}
use mathlib.Core.Path.{◌≡◌, refl, sym, ap, ap₂, subst, ◌∙◌}
use mathlib.Core.Bool.{Bool, true, false, cond}
use mathlib.Core.List.{List}
use native.Mathlib.Omega.{arith}
use lib.ListN.{length, take, drop}
use Rattle.wire.proofs.Cond.{yes-if}
use Rattle.wire.specs.Bytes.{over}
use Rattle.table.specs.declared.Sections.{Sections}
use Rattle.table.specs.Layout.{within}
use Rattle.table.specs.Words.{sections_in, index_in}
use Rattle.types.specs.Table.{checked}
use Rattle.types.proofs.Accepted.{accepted, is_within}
use Rattle.operations.specs.Search.{sought_in}
use Rattle.message3.specs.declared.Message3.TheVariants.{Operation}
use Rattle.partners.proofs.Counting.{above_is_none}
use Rattle.mixed.specs.declared.AnyReading.TheVariants as any
use Rattle.requests.specs.declared.Issue.{Issue}
use Rattle.requests.specs.declared.Issue.TheVariants.{Six, Three}
use Rattle.requests.specs.declared.Sending.{Sending}
use Rattle.requests.specs.declared.Sent.TheVariants.{Under}
use Rattle.requests.specs.Sending.{length_for, refused_with, sent_for, number_given, left_over_by}
use Rattle.requests.proofs.Sends.{sent-so}
use Rattle.platform_words.specs.Words.{next_in, pending_in}
use Rattle.platform_words.specs.SendCalls.{kind_found, kind_of, outcome_sent_for, request_bytes, words_sent, sent_words}
use Rattle.platform_words.specs.SendCalls.{send_number_for, send_words_for, send_output_for, send_sent_for}
use Rattle.mixed_words.specs.HeardWords.{stamp_in}
use Rattle.mixed_words.specs.SendCalls.{issue_for}
use Rattle.promises.specs.Checks.{◌when◌, Gives, this, next}
use Rattle.promises.specs.LinkedReplies.{CheckLeft}
use Rattle.promises.specs.Lookups.{laid}
use Rattle.promises.specs.PayloadOrder.{LieIn}
use Rattle.promises.specs.RequestCalls as calls
use Rattle.promises.specs.RequestCalls.{kind_in}
use Rattle.promises.specs.MixedSending.{ToSend, our_asking, issue_in, send_checks3, header_sent3, Arrives3, given}
use Rattle.promises.specs.LinkedSending.{SendLent, SendMixedLent, SendLeft, Sends, SendsMixed, TargetIsSix, TargetIsThree, AsSent}
use Rattle.promises.specs.LinkedSending.{pending_of, its_number, any_sections_checks, checked_table_checks, request_in}
use Rattle.promises.specs.LinkedSending.{SendFits, Asked3, LinkedSending}
use Rattle.promises.proofs.Checks.{numbers}
use Rattle.promises.proofs.PayloadOrder.{lie_decides}
use Rattle.promises.proofs.LinkedPayloads.{sections_back}
use Rattle.promises.proofs.RequestTables.{no-request, some-request}
use Rattle.promises.proofs.IssueContracts.{told_as}
use Rattle.promises.proofs.SentFor.{order-at, accepted as not_refused}
use Rattle.promises.proofs.MixedSending.{is-six, is-three, front3, sends_by_issue}

-- the contracts, by the names of what was lent
abbrev number_for : Issue → SendLent → ℕ
number_for i x = send_number_for i x.platform x.table x.sections x.id x.payload x.out

abbrev left_for : Issue → SendLent → SendLeft
left_for i x =
    record {
      platform = send_words_for i x.platform x.table x.sections x.id x.target x.payload x.out;
      out = send_output_for i x.own x.platform x.table x.sections x.id x.payload x.out;
      sent = send_sent_for i x.platform x.table x.sections x.id x.payload x.out x.sent;
    }

abbrev issue_of : SendMixedLent → Issue
issue_of l = issue_for l.partners (stamp_in l.stamp) l.lent.target

send_by : (x : SendLent) (n : ℕ) (r : SendLeft) → Sends x n r → (n ≡ number_for Six x) × (r ≡ left_for Six x)
send_by x n r s =
    let p = s.1.1.1.0 in
    let e = s.1.1.1.1.0 in (
      p.0 ∙ ap (number_for Six) e,
      sym s.1.1.1.1.1 ∙ (λ i. record { platform = p.1.0 i; out = p.1.1.0 i; sent = p.1.1.1 i }) ∙ ap (left_for Six) e,
    )

mixed_by : (l : SendMixedLent) (n : ℕ) (r : SendLeft) → SendsMixed l n r → (n ≡ number_for (issue_of l) l.lent) × (r ≡ left_for (issue_of l) l.lent)
mixed_by l n r s =
    let p = s.1.1.1.0 in
    let e = s.1.1.1.1.0 in (
      p.0 ∙ ap (λ (y : SendMixedLent). number_for (issue_of y) y.lent) e,
      sym s.1.1.1.1.1 ∙ (λ i. record { platform = p.1.0 i; out = p.1.1.0 i; sent = p.1.1.1 i })
          ∙ ap (λ (y : SendMixedLent). left_for (issue_of y) y.lent) e,
    )

-- what is lent, by value
abbrev valued : SendMixedLent → ToSend
valued l =
    let x = l.lent in
    record {
      own = x.own;
      stamp = stamp_in l.stamp;
      partners = l.partners;
      next = next_in x.platform;
      list = pending_in x.platform;
      kind = kind_of x.table x.sections x.id;
      id = x.id;
      target = x.target;
      payload = x.payload;
      out = x.out;
    }

as_before : (l : SendMixedLent) (n : ℕ) (r : SendLeft) → SendsMixed l n r → TargetIsSix l → AsSent l n r
as_before l n r s six n6 r6 s6 =
    let m = mixed_by l n r s in
    let q = send_by l.lent n6 r6 s6 in
    let e : issue_of l ≡ Six = is-six (valued l) six in
    (m.0 ∙ ap (λ (i : Issue). number_for i l.lent) e ∙ sym q.0, m.1 ∙ ap (λ (i : Issue). left_for i l.lent) e ∙ sym q.1)

-- the order of checks
module _ (st : Issue) (x : SendLent) where
  abbrev inside : Sending
  inside =
      sent_for st (next_in x.platform) (pending_in x.platform) (kind_of x.table x.sections x.id) x.id x.payload (length x.out)

  abbrev outside : Sending
  outside = refused_with (next_in x.platform) 30

  abbrev outcome : Sending
  outcome = outcome_sent_for st x.platform x.table x.sections x.id x.payload (length x.out)

  inside_is : within x.table (sections_in x.sections) ≡ true → outcome ≡ inside
  unfolding outcome_sent_for
  inside_is e = yes-if {A = Sending} inside outside e

  is-inside : number_for st x ≡ 0 → within x.table (sections_in x.sections) ≡ true
  unfolding outcome_sent_for
  is-inside z = go (within x.table (sections_in x.sections)) z
    where
      go : (b : Bool) → number_given (cond b inside outside).answer ≡ 0 → b ≡ true
      go true e = refl
      go false e = absurd (omega (arith, e))

module _ (l : SendMixedLent) (n : ℕ) (r : SendLeft) (s : SendsMixed l n r) (three : TargetIsThree l) where
  abbrev x : SendLent
  x = l.lent

  number-three : n ≡ number_for (Three (stamp_in l.stamp)) x
  number-three = (mixed_by l n r s).0 ∙ ap (λ (i : Issue). number_for i x) (is-three (valued l) three)

  within-order : Gives (send_checks3 (pending_of x) (kind_of x.table x.sections x.id) x.payload (length x.out))
      (number_given (inside (Three (stamp_in l.stamp)) x).answer)
  within-order =
      numbers (λ (y : Sending). number_given y.answer) (λ k. refl) refl
      (order-at 24 (next_in x.platform) (kind_of x.table x.sections x.id) (pending_in x.platform) x.payload (length x.out))

  order : Gives (any_sections_checks x) n
  unfolding outcome_sent_for
  order = subst (Gives (any_sections_checks x)) (sym number-three) (go (within x.table (sections_in x.sections)) refl)
    where
      go : (b : Bool) → within x.table (sections_in x.sections) ≡ b
          → Gives (any_sections_checks x) (number_given (cond b (inside (Three (stamp_in l.stamp)) x) (outside (Three (stamp_in l.stamp)) x)).answer)
      go true e =
          next {c = 30 when (¬ (LieIn x.table (sections_in x.sections)))}
          (λ f. f ((lie_decides x.table (sections_in x.sections)).yes_is e)) within-order
      go false e =
          this {c = 30 when (¬ (LieIn x.table (sections_in x.sections)))} ((lie_decides x.table (sections_in x.sections)).no_is e)

  -- on a table that the check accepts
  module _ (ss : Sections) (words : List ℕ) (e : checked x.table ≡ Ok ss) (f : CheckLeft x.table ss words x.sections) where
    back : sections_in x.sections ≡ ss
    back = sections_back x.table ss x.sections (laid x.table ss words) e f.0

    kind-same : (y : Option (ℕ × ℕ)) → kind_found x.table y ≡ calls.kind_found x.table y
    unfolding kind_found
    kind-same (Some (i, p)) = refl
    kind-same None = refl

    kind-is : kind_of x.table x.sections x.id ≡ kind_in x.table ss words x.id
    kind-is =
        ap (kind_found x.table)
        (ap₂ (λ (i : List ℕ) (y : Sections). sought_in x.table i y.operations.count x.id) (ap index_in f.0) back)
        ∙ kind-same _

    inside-number : n ≡ number_given (inside (Three (stamp_in l.stamp)) x).answer
    inside-number =
        number-three
        ∙ ap (λ (y : Sending). number_given y.answer)
        (inside_is (Three (stamp_in l.stamp)) x (ap (within x.table) back ∙ is_within x.table ss (accepted x.table ss e)))

    table_order : Gives (checked_table_checks ss x) n
    table_order = subst (Gives (checked_table_checks ss x)) (sym inside-number) (go within-order)
      where
        go : {k : ℕ} → Gives (send_checks3 (pending_of x) (kind_of x.table x.sections x.id) x.payload (length x.out)) k
            → Gives (checked_table_checks ss x) k
        go (this h) = this (no-request x.table ss e words f.1 x.id (λ q. h (kind-is ∙ q)))
        go (next a rest) = next (some-request x.table ss e words f.1 x.id (λ g. a (λ q. g (sym kind-is ∙ q)))) rest

  -- what is sent
  module _ (fits : SendFits l) (z : n ≡ 0) where
    abbrev v : ToSend
    v = valued l

    here : outcome (issue_in v) x ≡ our_asking.answers v
    here = inside_is (issue_in v) x (is-inside (issue_in v) x (sym (mixed_by l n r s).0 ∙ z))

    sent : given our_asking v ≡ 0
    sent = sym (ap (λ (y : Sending). number_given y.answer) here) ∙ sym (mixed_by l n r s).0 ∙ z

    answer-is : outcome (issue_in v) x ≡ record { next = (its_number x + 1) % 2 ^ 32; answer = Under (its_number x) (24 + length x.payload) }
    answer-is =
        here
        ∙ sent-so (issue_in v) v.list v.kind v.id v.payload (length v.out) v.next
        (not_refused (issue_in v) v.own v.next v.kind v.id v.list v.payload v.out sent)
        ∙ ap (λ (i : Issue). record { next = (its_number x + 1) % 2 ^ 32; answer = Under (its_number x) (length_for i x.payload) }) (is-three v three)

    out-is : r.out ≡ our_asking.outputs v
    out-is =
        ap (λ (y : SendLeft). y.out) (mixed_by l n r s).1
        ∙ ap (λ (y : Sending). left_over_by y.answer x.out (over x.out 0 (request_bytes (issue_in v) x.own x.platform x.id x.payload))) here

    request-is : request_in x r ≡ take (24 + length x.payload) (our_asking.outputs v)
    request-is = ap (take (24 + length x.payload)) out-is

    arrives : (reader : ℕ) → ¬ (x.own ≡ reader) → Arrives3 v (its_number x) reader (request_in x r)
    arrives reader other =
        subst (Arrives3 v (its_number x) reader) (sym request-is)
        (sends_by_issue.arrives v reader three
        (record {
          id_fits = fits.id_fits;
          next_fits = omega arith;
          seconds_fit = fits.seconds_fit;
          nanoseconds_fit = fits.nanoseconds_fit;
        }) other sent)

    sends : Asked3 l r
    sends =
        record {
          answer = ap (λ (y : SendLeft). y.sent) (mixed_by l n r s).1 ∙ ap (λ (y : Sending). sent_words y.answer x.sent) answer-is;
          platform = ap (λ (y : SendLeft). y.platform) (mixed_by l n r s).1
              ∙ ap (λ (y : Sending). words_sent y x.platform x.id x.target) answer-is;
          behind = ap (drop 24) (request-is ∙ front3 v three sent);
          rest = ap (drop (24 + length x.payload)) out-is ∙ sends_by_issue.behind v three sent;
          told = λ y k left u em other so.
              told_as y k left u (request_in x r) em (any.Three (header_sent3 v (its_number x)) Operation 24 (length x.payload))
              ((arrives y.own other).told y.partners so);
          elsewhere = λ y k left u em other so. told_as y k left u (request_in x r) em (any.Refused 3) ((arrives y.own other).elsewhere y.partners so);
        }

pub linked_sending : LinkedSending
linked_sending =
    record {
      as_before = as_before;
      nobody = λ l n r s none. as_before l n r s (none l.lent.target);
      above = λ l n r s h. as_before l n r s (above_is_none l.partners l.lent.target h);
      order = order;
      table_order = λ ss words l n r s three e f. table_order l n r s three ss words e f;
      sends = λ l n r s three fits z. sends l n r s three fits z;
    }
