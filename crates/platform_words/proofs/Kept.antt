-- A refusal leaves the platform's words as they were, and with a request all else that was lent too; so does a cancel of a number
-- that is not pending.
-- Assumes nothing.
use Prim.Native.Nat.{ℕ}
use Rattle.std.specs.Prelude.{Option, Some, None}
use mathlib.Core.Path.{◌≡◌, refl, ap, ap₂, ◌∙◌}
use mathlib.Core.Bool.{false}
use mathlib.Core.List.{List, ◌++◌}
use lib.ListN.{length, take, take-append-drop}
use Rattle.wire.specs.Bytes.{over}
use Rattle.pending.specs.Places.{place_of}
use Rattle.pending.specs.Free.{is_at, is_pending}
use Rattle.pending.specs.Answers.{cleared_at}
use Rattle.requests.specs.declared.Issue.{Issue}
use Rattle.requests.specs.declared.Sent.{Sent}
use Rattle.requests.specs.declared.Sent.TheVariants as sent
use Rattle.requests.specs.Sending as sending
use Rattle.table.specs.Words.{sections_in, index_in}
use Rattle.platform.specs.declared.reactions.Standing.{Standing}
use Rattle.platform.specs.declared.Noting.{Noting}
use Rattle.platform.specs.declared.Noting.TheVariants as noting
use Rattle.platform.specs.Noting.{number_given}
use Rattle.platform.proofs.Unchanged.{refusal-changes-nothing, sections-refusal-changes-nothing}
use Rattle.platform_words.specs.Words.{standing_length, standing_in, pending_in}
use Rattle.platform_words.specs.HeardWords.{noted_words}
use Rattle.platform_words.specs.TableCalls as table
use Rattle.platform_words.specs.SectionCalls as section
use Rattle.platform_words.specs.SendCalls.{outcome_sent_for, request_bytes, entered_words, sent_words, send_number_for, send_words_for, send_output_for, send_sent_for}
use Rattle.platform_words.specs.PendingCalls.{cancel_words}

-- words with the list that was there before
same_words : (ws l : List ℕ) (p : Standing) (a : Noting) (n : ℕ) → a ≡ noting.Refused n → l ≡ pending_in ws → noted_words a p ws l ≡ ws
same_words ws l p a n e k = ap₂ (λ (x : Noting) (y : List ℕ). noted_words x p ws y) e k ∙ take-append-drop standing_length ws

-- what is not 0 refuses
refusing : {A : Type 0} (a : Noting) → (number_given a ≡ 0 → ⊥) → ((n : ℕ) → a ≡ noting.Refused n → A) → A
refusing (noting.Refused n) d go = go n refl
refusing (noting.Noted h x n) d go = absurd (d refl)
refusing (noting.Response h i start len) d go = absurd (d refl)

pub receive_keeps : (own : ℕ) (ws t m out : List ℕ) → (table.receive_number own ws t m out ≡ 0 → ⊥) → table.receive_words own ws t m out ≡ ws
receive_keeps own ws t m out d =
    let o = table.outcome_with own ws t m out in
    refusing o.answer d
    (λ n e. same_words ws _ o.standing o.answer n e (refusal-changes-nothing own (standing_in ws) n out (pending_in ws) t m e).list)

pub receive_in_keeps : (own : ℕ) (ws t ss m out : List ℕ) → (section.receive_in_number own ws t ss m out ≡ 0 → ⊥)
    → section.receive_in_words own ws t ss m out ≡ ws
receive_in_keeps own ws t ss m out d =
    let o = section.outcome_with own ws t ss m out in
    refusing o.answer d
    (λ n e. same_words ws _ o.standing o.answer n e
    (sections-refusal-changes-nothing own (standing_in ws) n out (pending_in ws) t (sections_in ss) (index_in ss) m e).list)

-- a request
stays : {A : Type 0} (a : Sent) (was new : A) → (sending.number_given a ≡ 0 → ⊥) → sending.left_over_by a was new ≡ was
stays (sent.Refused n) was new d = refl
stays (sent.Under n written) was new d = absurd (d refl)

untold : (a : Sent) (was : List ℕ) → (sending.number_given a ≡ 0 → ⊥) → sent_words a was ≡ was
untold (sent.Refused n) was d = refl
untold (sent.Under n written) was d = absurd (d refl)

module _ (issue : Issue) (ws t ss : List ℕ) (id : ℕ) (payload out : List ℕ) (d : send_number_for issue ws t ss id payload out ≡ 0 → ⊥) where
  pub send-keeps-words : (target : ℕ) → send_words_for issue ws t ss id target payload out ≡ ws
  send-keeps-words target =
      let o = outcome_sent_for issue ws t ss id payload (length out) in
      stays o.answer ws (entered_words ws o.next id target) d

  pub send-keeps-output : (own : ℕ) → send_output_for issue own ws t ss id payload out ≡ out
  send-keeps-output own = stays (outcome_sent_for issue ws t ss id payload (length out)).answer out (over out 0 (request_bytes issue own ws id payload)) d

  pub send-keeps-sent : (was : List ℕ) → send_sent_for issue ws t ss id payload out was ≡ was
  send-keeps-sent was = untold (outcome_sent_for issue ws t ss id payload (length out)).answer was d

-- a number that is not pending
not_cleared : (l : List ℕ) (s : Option ℕ) → is_at s ≡ false → cleared_at l s ≡ l
not_cleared l None e = refl
not_cleared l (Some k) e = cc

pub cancel_keeps : (ws : List ℕ) (n : ℕ) → is_pending (pending_in ws) n ≡ false → cancel_words ws n ≡ ws
cancel_keeps ws n e =
    ap (λ (l : List ℕ). take standing_length ws ++ l) (not_cleared (pending_in ws) (place_of (pending_in ws) n) e) ∙ take-append-drop standing_length ws
