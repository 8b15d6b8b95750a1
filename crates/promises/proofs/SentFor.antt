-- What sending a request comes to, whichever issue its target speaks: the order of its checks, and the message at the output's start.
-- Assumes nothing.
use Prim.Native.Nat.{ℕ, ◌+◌, ◌%◌, ◌^◌, ◌≤◌, ◌<◌}
use Rattle.std.specs.Prelude.{Option, Some, None}
use mathlib.Core.Path.{◌≡◌, refl, sym, ap, ◌∙◌}
use mathlib.Core.Bool.{not, cond}
use mathlib.Core.List.{List, [], ◌∷◌, ◌++◌}
use native.Mathlib.Omega.{arith}
use lib.Dec.{eqb, leb, ltb}
use lib.ListN.{length, take, drop}
use lib.Seq.{take_at, drop_at}
use Rattle.pending.specs.Places.{number_at, free_place}
use Rattle.pending.specs.Free.{is_pending, next_free, IsNextFree}
use Rattle.pending.proofs.Looking.{is-first, none-bears-it}
use Rattle.pending.proofs.Drawing.{next-is-free}
use Rattle.requests.specs.declared.Issue.{Issue}
use Rattle.requests.specs.declared.Issue.TheVariants.{Six, Three}
use Rattle.requests.specs.declared.Sending.{Sending}
use Rattle.requests.specs.declared.Sent.TheVariants.{Under}
use Rattle.requests.specs.Sending.{length_for, bytes_for, unless_full, send_refusal_for, answered_by, sent_for, output_sent_for, number_given}
use Rattle.requests.proofs.Sends.{Sendable, sendable, given_is, written-so}
use Rattle.promises.specs.Checks.{Check, ◌when◌, Answers, none, this, next}
use Rattle.promises.specs.Requests.{not_sent}
use Rattle.promises.proofs.Checks.{lt_decides, le_decides, eq_decides, not_decides, by_number}

-- 62, then 60, then 01's writing numbers, of which 10 is by the header's length
module _ (header from kind : ℕ) (l payload : List ℕ) (room : ℕ) where
  abbrev pub checksAt : List Check
  checksAt =
      62 when (¬ (kind ≡ 2))
      ∷ 60 when ((k : ℕ) → k < 64 → ¬ (number_at l k ≡ 0))
      ∷ 5 when (2 ^ 32 ≤ length payload)
      ∷ 10 when (room < header + length payload)
      ∷ []

  abbrev pub sentAt : Sending
  sentAt = record { next = (next_free l from + 1) % 2 ^ 32; answer = Under (next_free l from) (header + length payload) }

  abbrev pub refusalAt : ℕ
  refusalAt =
      cond (not (eqb kind 2)) 62
      (unless_full (free_place l) (cond (leb (2 ^ 32) (length payload)) 5 (cond (ltb room (header + length payload)) 10 0)))

  pub order-at : Answers (not_sent from) sentAt checksAt (answered_by refusalAt from (next_free l from) (header + length payload))
  order-at =
      by_number (not_sent from) sentAt whole (λ k. refl) (not (eqb kind 2)) 61 (unless_full (free_place l) rest)
      (not_decides (eqb kind 2) (eq_decides kind 2)) (full (free_place l) refl)
    where
      whole : ℕ → Sending
      whole r = answered_by r from (next_free l from) (header + length payload)

      rest : ℕ
      rest = cond (leb (2 ^ 32) (length payload)) 5 (cond (ltb room (header + length payload)) 10 0)

      full : (s : Option ℕ) → free_place l ≡ s
          → Answers (not_sent from) sentAt
          (60 when ((k : ℕ) → k < 64 → ¬ (number_at l k ≡ 0)) ∷ 5 when (2 ^ 32 ≤ length payload) ∷ 10 when (room < header + length payload) ∷ [])
          (whole (unless_full s rest))
      full None p = this {c = 60 when ((k : ℕ) → k < 64 → ¬ (number_at l k ≡ 0))} (λ k h. none-bears-it l 0 64 0 k p (omega arith) h)
      full (Some k) p =
          next {c = 60 when ((k : ℕ) → k < 64 → ¬ (number_at l k ≡ 0))} (λ f. f k (is-first l 0 64 0 k p).below (is-first l 0 64 0 k p).named)
          (by_number (not_sent from) sentAt whole (λ k. refl) (leb (2 ^ 32) (length payload)) 4 _ (le_decides (2 ^ 32) (length payload))
          (by_number (not_sent from) sentAt whole (λ k. refl) (ltb room (header + length payload)) 9 0 (lt_decides room (header + length payload)) none))

-- a request's number has 32 bits
pub number_small : (l : List ℕ) (from : ℕ) → from < 2 ^ 32 → next_free l from < 2 ^ 32
number_small l from f =
    let n : IsNextFree (is_pending l) from (next_free l from) = next-is-free l from f in
    let r : next_free l from ≡ (from + n.draws) % 2 ^ 32 = n.reached in
    omega arith

its_length : (issue : Issue) (own id n : ℕ) (payload : List ℕ) → length (bytes_for issue own id n payload) ≡ length_for issue payload
its_length Six own id n payload = omega arith
its_length (Three t) own id n payload = omega arith

-- what is sent
module _ (issue : Issue) (own from kind id : ℕ) (l payload out : List ℕ)
    (e : number_given (sent_for issue from l kind id payload (length out)).answer ≡ 0) where
  pub accepted : send_refusal_for issue l kind id payload (length out) ≡ 0
  accepted = sym (given_is issue l kind id payload (length out) from) ∙ e

  pub can : Sendable issue l kind id payload (length out)
  can = sendable issue l kind id payload (length out) accepted

  bytes : List ℕ
  bytes = bytes_for issue own id (next_free l from) payload

  long : length bytes ≡ length_for issue payload
  unfolding bytes
  long = its_length issue own id (next_free l from) payload

  laid : output_sent_for issue own from l kind id payload out ≡ bytes ++ drop (length_for issue payload) out
  unfolding bytes
  laid =
      let whole : 0 + length bytes ≡ length_for issue payload = omega (arith, long) in
      written-so issue own from kind id l payload out accepted ∙ ap (λ (n : ℕ). bytes ++ drop n out) whole

  pub in_front : take (length_for issue payload) (output_sent_for issue own from l kind id payload out) ≡ bytes_for issue own id (next_free l from) payload
  unfolding bytes
  in_front =
      ap (take (length_for issue payload)) laid ∙ take_at bytes (drop (length_for issue payload) out) (length_for issue payload) long

  pub behind : drop (length_for issue payload) (output_sent_for issue own from l kind id payload out) ≡ drop (length_for issue payload) out
  behind =
      ap (drop (length_for issue payload)) laid ∙ drop_at bytes (drop (length_for issue payload) out) (length_for issue payload) long
