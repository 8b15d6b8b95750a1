-- What sending a request shows at its returns.
-- Assumes nothing.
use Prim.Native.Nat.{ℕ, ◌-◌}
use Rattle.std.specs.Prelude.{Option, Some, None}
use mathlib.Core.Path.{◌≡◌, sym, ap, ap₂, ◌∙◌}
use mathlib.Core.Bool.{Bool, true, false}
use mathlib.Core.List.{List}
use lib.ListN.{length, take, drop}
use Rattle.wire.specs.Bytes.{over}
use Rattle.wire.proofs.Cond.{yes-if, no-if}
use Rattle.table.specs.declared.Sections.{Sections}
use Rattle.table.specs.Layout.{cut_short, within}
use Rattle.table.specs.Words.{bounds_words, sections_in}
use Rattle.operations.specs.Entries.{event_kind, kind_at}
use Rattle.operations.specs.Search.{sought_in}
use Rattle.requests.specs.declared.Issue.{Issue}
use Rattle.requests.specs.declared.Sending.{Sending}
use Rattle.requests.specs.Sending.{refused_with, sent_for, number_given, left_over_by, output_sent_for}
use Rattle.platform_words.specs.Words.{next_in, pending_in}
use Rattle.platform_words.specs.SendCalls.{kind_found, kind_of, outcome_sent_for, request_bytes, words_sent, sent_words}
use Rattle.platform_words.specs.SendCalls.{send_number_for, send_words_for, send_output_for, send_sent_for}
use Rattle.platform_words.proofs.Behind.{lent-behind}

-- `kind_found`
module _ {f : Option (ℕ × ℕ)} (t : List ℕ) where
  pub kind-there : {k : ℕ} (i p : ℕ) → f ≡ Some (i, p) → k ≡ kind_at t p → k ≡ kind_found t f
  unfolding kind_found
  kind-there i p ef ek = ek ∙ ap (kind_found t) (sym ef)

  pub no_kind : f ≡ None → event_kind ≡ kind_found t f
  unfolding kind_found
  no_kind ef = ap (kind_found t) (sym ef)

-- `send`: the sections lie in the table, or not
module _ {s : Sections} {b : Bool} (issue : Issue) (ws t ss payload : List ℕ) (id : ℕ) (es : s ≡ sections_in ss) (eb : b ≡ within t s) where
  is_within : within t (sections_in ss) ≡ b
  is_within = ap (within t) (sym es) ∙ sym eb

  module _ {f : Option (ℕ × ℕ)} {k : ℕ} (yes : b ≡ true) (ef : f ≡ sought_in t (take (length ss - 8) (drop 8 ss)) s.operations.count id)
      (ek : k ≡ kind_found t f) where
    kind-is : k ≡ kind_of t ss id
    kind-is =
        ek ∙ ap (kind_found t) (ef ∙ ap₂ (λ (i : List ℕ) (x : Sections). sought_in t i x.operations.count id) (lent-behind bounds_words ss) es)

    is_meant : (room : ℕ) → sent_for issue (next_in ws) (pending_in ws) k id payload room ≡ outcome_sent_for issue ws t ss id payload room
    unfolding outcome_sent_for
    is_meant room =
        ap (λ (x : ℕ). sent_for issue (next_in ws) (pending_in ws) x id payload room) kind-is
        ∙ sym (yes-if {A = Sending} (sent_for issue (next_in ws) (pending_in ws) (kind_of t ss id) id payload room) (refused_with (next_in ws) cut_short)
        (is_within ∙ yes))

    pub inside-number : {n : ℕ} (out : List ℕ) → n ≡ number_given (sent_for issue (next_in ws) (pending_in ws) k id payload (length out)).answer
        → n ≡ send_number_for issue ws t ss id payload out
    inside-number out e = e ∙ ap (λ (y : Sending). number_given y.answer) (is_meant (length out))

    pub inside-words : {x : List ℕ} (target : ℕ) (out : List ℕ)
        → x ≡ words_sent (sent_for issue (next_in ws) (pending_in ws) k id payload (length out)) ws id target
        → x ≡ send_words_for issue ws t ss id target payload out
    inside-words target out e = e ∙ ap (λ (y : Sending). words_sent y ws id target) (is_meant (length out))

    pub inside-output : {x : List ℕ} (own : ℕ) (out : List ℕ) → x ≡ output_sent_for issue own (next_in ws) (pending_in ws) k id payload out
        → x ≡ send_output_for issue own ws t ss id payload out
    inside-output own out e = e ∙ ap (λ (y : Sending). left_over_by y.answer out (over out 0 (request_bytes issue own ws id payload))) (is_meant (length out))

    pub inside-sent : {x : List ℕ} (out was : List ℕ) → x ≡ sent_words (sent_for issue (next_in ws) (pending_in ws) k id payload (length out)).answer was
        → x ≡ send_sent_for issue ws t ss id payload out was
    inside-sent out was e = e ∙ ap (λ (y : Sending). sent_words y.answer was) (is_meant (length out))

  module _ (no : b ≡ false) where
    is-refused : (room : ℕ) → refused_with (next_in ws) cut_short ≡ outcome_sent_for issue ws t ss id payload room
    unfolding outcome_sent_for
    is-refused room =
        sym (no-if {A = Sending} (sent_for issue (next_in ws) (pending_in ws) (kind_of t ss id) id payload room) (refused_with (next_in ws) cut_short)
        (is_within ∙ no))

    pub outside-number : (out : List ℕ) → cut_short ≡ send_number_for issue ws t ss id payload out
    outside-number out = ap (λ (y : Sending). number_given y.answer) (is-refused (length out))

    pub outside-words : (target : ℕ) (out : List ℕ) → ws ≡ send_words_for issue ws t ss id target payload out
    outside-words target out = ap (λ (y : Sending). words_sent y ws id target) (is-refused (length out))

    pub outside-output : (own : ℕ) (out : List ℕ) → out ≡ send_output_for issue own ws t ss id payload out
    outside-output own out = ap (λ (y : Sending). left_over_by y.answer out (over out 0 (request_bytes issue own ws id payload))) (is-refused (length out))

    pub outside-sent : (out was : List ℕ) → was ≡ send_sent_for issue ws t ss id payload out was
    outside-sent out was = ap (λ (y : Sending). sent_words y.answer was) (is-refused (length out))
