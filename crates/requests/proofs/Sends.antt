-- What is known of a request that nothing refuses, and what a refusal leaves.
-- Assumes nothing.
use Prim.Native.Nat.{ℕ, zero, suc}
use Rattle.std.specs.Prelude.{Option, Some, None}
use mathlib.Core.Path.{◌≡◌, refl, sym, ap, ◌∙◌}
use mathlib.Core.Bool.{false, not}
use mathlib.Core.List.{List}
use native.Mathlib.Nat.{suc-ne-zero}
use borrow.Author.Tests.{eqb-true, not-false}
use lib.Dec.{eqb}
use lib.ListN.{length}
use Rattle.wire.specs.Bytes.{over}
use Rattle.wire.proofs.Cond.{passed}
use Rattle.pending.specs.Places.{free_place, entered_at}
use Rattle.pending.specs.Free.{drawn, next_free}
use Rattle.requests.specs.declared.Issue.{Issue}
use Rattle.requests.specs.declared.Sent.TheVariants.{Under}
use Rattle.requests.specs.Sending.{write_refusal_for, length_for, bytes_for, unless_full, send_refusal_for, answered_by}
use Rattle.requests.specs.Sending.{sent_for, number_given, left_over_by, list_sent_for, output_sent_for}

pub record Sendable (issue : Issue) (l : List ℕ) (kind id : ℕ) (payload : List ℕ) (room : ℕ) : Type 0 where
  pub right : kind ≡ 2
  pub place : ℕ
  pub free : free_place l ≡ Some place
  pub writes : write_refusal_for issue id payload room ≡ 0

module _ (issue : Issue) (l : List ℕ) (kind id : ℕ) (payload : List ℕ) (room : ℕ) where
  -- the number that an answer gives back is the one that refuses
  pub given_is : (next : ℕ) → number_given (sent_for issue next l kind id payload room).answer ≡ send_refusal_for issue l kind id payload room
  given_is next = go (send_refusal_for issue l kind id payload room)
    where
      go : (r : ℕ) → number_given (answered_by r next (next_free l next) (length_for issue payload)).answer ≡ r
      go zero = refl
      go (suc r) = refl

  pub sendable : send_refusal_for issue l kind id payload room ≡ 0 → Sendable issue l kind id payload room
  sendable e = go (free_place l) refl
    where
      both : (not (eqb kind 2) ≡ false) × (unless_full (free_place l) (write_refusal_for issue id payload room) ≡ 0)
      both = passed (not (eqb kind 2)) 61 (unless_full (free_place l) (write_refusal_for issue id payload room)) e

      go : (s : Option ℕ) → free_place l ≡ s → Sendable issue l kind id payload room
      go (Some k) p =
          record {
            right = eqb-true kind 2 (not-false (eqb kind 2) both.0);
            place = k;
            free = p;
            writes = sym (ap (λ (s : Option ℕ). unless_full s (write_refusal_for issue id payload room)) p) ∙ both.1;
          }
      go None p = absurd (suc-ne-zero 59 (sym (ap (λ (s : Option ℕ). unless_full s (write_refusal_for issue id payload room)) p) ∙ both.1))

  module _ (next : ℕ) where
    -- what is sent
    pub sent-so : send_refusal_for issue l kind id payload room ≡ 0
        → sent_for issue next l kind id payload room ≡ record { next = drawn (next_free l next); answer = Under (next_free l next) (length_for issue payload) }
    sent-so e = ap (λ (r : ℕ). answered_by r next (next_free l next) (length_for issue payload)) e

    pub entered_so : (target : ℕ) → send_refusal_for issue l kind id payload room ≡ 0
        → list_sent_for issue next l kind id target payload room ≡ entered_at l (free_place l) (next_free l next) id target
    entered_so target e =
        ap (λ (r : ℕ).
        left_over_by (answered_by r next (next_free l next) (length_for issue payload)).answer l (entered_at l (free_place l) (next_free l next) id target)) e

    -- a refusal leaves all as it was
    pub next_kept : (number_given (sent_for issue next l kind id payload room).answer ≡ 0 → ⊥) → (sent_for issue next l kind id payload room).next ≡ next
    next_kept d = go (send_refusal_for issue l kind id payload room) (λ e. d (given_is next ∙ e))
      where
        go : (r : ℕ) → (r ≡ 0 → ⊥) → (answered_by r next (next_free l next) (length_for issue payload)).next ≡ next
        go zero h = absurd (h refl)
        go (suc r) h = refl

    pub list_kept : (target : ℕ) → (number_given (sent_for issue next l kind id payload room).answer ≡ 0 → ⊥)
        → list_sent_for issue next l kind id target payload room ≡ l
    list_kept target d = go (send_refusal_for issue l kind id payload room) (λ e. d (given_is next ∙ e))
      where
        go : (r : ℕ) → (r ≡ 0 → ⊥)
            → left_over_by (answered_by r next (next_free l next) (length_for issue payload)).answer l (entered_at l (free_place l) (next_free l next) id target) ≡ l
        go zero h = absurd (h refl)
        go (suc r) h = refl

module _ (issue : Issue) (own next kind id : ℕ) (l payload out : List ℕ) where
  bytes-sent : List ℕ
  bytes-sent = over out 0 (bytes_for issue own id (next_free l next) payload)

  pub written-so : send_refusal_for issue l kind id payload (length out) ≡ 0
      → output_sent_for issue own next l kind id payload out ≡ over out 0 (bytes_for issue own id (next_free l next) payload)
  unfolding bytes-sent
  written-so e = ap (λ (r : ℕ). left_over_by (answered_by r next (next_free l next) (length_for issue payload)).answer out bytes-sent) e

  pub output_kept : (number_given (sent_for issue next l kind id payload (length out)).answer ≡ 0 → ⊥) → output_sent_for issue own next l kind id payload out ≡ out
  unfolding bytes-sent
  output_kept d = go (send_refusal_for issue l kind id payload (length out)) (λ e. d (given_is issue l kind id payload (length out) next ∙ e))
    where
      go : (r : ℕ) → (r ≡ 0 → ⊥) → left_over_by (answered_by r next (next_free l next) (length_for issue payload)).answer out bytes-sent ≡ out
      go zero h = absurd (h refl)
      go (suc r) h = refl
