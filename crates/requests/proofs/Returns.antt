-- What `send_at` and `write_for` come to at their returns.
-- Assumes nothing.
use Prim.Native.Nat.{ℕ, zero, suc}
use mathlib.Core.Path.{◌≡◌, refl, sym, ap, ◌∙◌}
use mathlib.Core.List.{List}
use native.Mathlib.Omega.{arith}
use lib.ListN.{length}
use Rattle.message.specs.declared.Writing.{Writing}
use Rattle.message.specs.declared.Writing.TheVariants as writing
use Rattle.message.specs.Writing.{answered, write_of, output_after}
use Rattle.pending.specs.Places.{entered}
use Rattle.pending.specs.Free.{drawn, next_free}
use Rattle.message3.specs.declared.Stamp.{Stamp}
use Rattle.message3.specs.Writing.{write_of3, output_after3}
use Rattle.requests.specs.declared.Issue.{Issue}
use Rattle.requests.specs.declared.Issue.TheVariants.{Six, Three}
use Rattle.requests.specs.declared.Sending.{Sending}
use Rattle.requests.specs.declared.Sent.TheVariants.{Under}
use Rattle.requests.specs.Sending.{operation_domain, write_refusal_for, length_for, refused_with, answered_by, left_over_by}
use Rattle.requests.specs.Sending.{write_for, output_for, written_of, list_written, output_written}

-- what an answer of `write` says of the number that refuses
wrote : (r all n : ℕ) → answered r all ≡ writing.Written n → (r ≡ 0) × (n ≡ all)
wrote zero all n e =
    let h : all ≡ n = cc in
    (refl, sym h)
wrote (suc r) all n e =
    let z : ◌≡◌ {A = ℕ} 0 1 = cc in
    absurd (omega arith)

declined : (r all n : ℕ) → answered r all ≡ writing.Refused n → (next m : ℕ) → refused_with next n ≡ answered_by r next m all
declined zero all n e next m =
    let z : ◌≡◌ {A = ℕ} 0 1 = cc in
    absurd (omega arith)
declined (suc r) all n e next m =
    let h : suc r ≡ n = cc in
    ap (refused_with next) (sym h)

stays : (r all n next m : ℕ) (was new : List ℕ) → answered r all ≡ writing.Refused n → was ≡ left_over_by (answered_by r next m all).answer was new
stays zero all n next m was new e =
    let z : ◌≡◌ {A = ℕ} 0 1 = cc in
    absurd (omega arith)
stays (suc r) all n next m was new e = refl

-- the message is written in the target's issue
module _ {issue : Issue} (id : ℕ) (payload out : List ℕ) where
  pub six-answer : (w : Writing) → w ≡ write_of operation_domain id payload (length out) → issue ≡ Six → w ≡ write_for issue id payload (length out)
  six-answer w p e = p ∙ ap (λ (i : Issue). write_for i id payload (length out)) (sym e)

  pub three-answer : (t : Stamp) (w : Writing) → w ≡ write_of3 operation_domain id payload (length out) → issue ≡ Three t
      → w ≡ write_for issue id payload (length out)
  three-answer t w p e = p ∙ ap (λ (i : Issue). write_for i id payload (length out)) (sym e)

  pub six-output : (own n : ℕ) (r : List ℕ) → r ≡ output_after own operation_domain id n payload out → issue ≡ Six
      → r ≡ output_for issue own id n payload out
  six-output own n r p e = p ∙ ap (λ (i : Issue). output_for i own id n payload out) (sym e)

  pub three-output : (t : Stamp) (own n : ℕ) (r : List ℕ) → r ≡ output_after3 own t operation_domain id n payload out → issue ≡ Three t
      → r ≡ output_for issue own id n payload out
  three-output t own n r p e = p ∙ ap (λ (i : Issue). output_for i own id n payload out) (sym e)

-- the message was written, or was not
module _ (issue : Issue) (next id room : ℕ) (l payload : List ℕ) (w : Writing) (p : w ≡ write_for issue id payload room) (x : ℕ) (q : x ≡ next_free l next) where
  module _ (n : ℕ) (e : w ≡ writing.Written n) where
    its : (write_refusal_for issue id payload room ≡ 0) × (n ≡ length_for issue payload)
    its = wrote (write_refusal_for issue id payload room) (length_for issue payload) n (sym p ∙ e)

    pub sent-answer : (d : ℕ) → d ≡ drawn x → ◌≡◌ {A = Sending} (record { next = d; answer = Under x n }) (written_of issue next l id payload room)
    sent-answer d f = rw (its.0, f, q, its.1) refl

    pub sent-list : (k target : ℕ) (r : List ℕ) → r ≡ entered l k x id target → r ≡ list_written issue next l k id target payload room
    sent-list k target r f = rw (its.0, f, q) refl

  module _ (n : ℕ) (e : w ≡ writing.Refused n) where
    pub not-sent-answer : (s : Sending) → s ≡ refused_with next n → s ≡ written_of issue next l id payload room
    not-sent-answer s f =
        f ∙ declined (write_refusal_for issue id payload room) (length_for issue payload) n (sym p ∙ e) next (next_free l next)

    pub not-sent-list : (k target : ℕ) → l ≡ list_written issue next l k id target payload room
    not-sent-list k target =
        stays (write_refusal_for issue id payload room) (length_for issue payload) n next (next_free l next) l
        (entered l k (next_free l next) id target) (sym p ∙ e)

pub sent_output : (issue : Issue) (own next id : ℕ) (l payload out r : List ℕ) (x : ℕ) → x ≡ next_free l next → r ≡ output_for issue own id x payload out
    → r ≡ output_written issue own next l id payload out
sent_output issue own next id l payload out r x q e = e ∙ ap (λ (n : ℕ). output_for issue own id n payload out) q
