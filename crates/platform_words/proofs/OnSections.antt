-- What the call for one message on sections shows at its returns: these lie in the table, or not.
-- Assumes nothing.
use Prim.Native.Nat.{ℕ, ◌-◌}
use mathlib.Core.Path.{◌≡◌, sym, ap, ap₂, ◌∙◌}
use mathlib.Core.Bool.{Bool, true, false}
use mathlib.Core.List.{List}
use lib.ListN.{length, take, drop, take-append-drop}
use Rattle.wire.proofs.Cond.{yes-if, no-if}
use Rattle.table.specs.declared.Sections.{Sections}
use Rattle.table.specs.Layout.{cut_short, within}
use Rattle.table.specs.Words.{bounds_words, sections_in, index_in}
use Rattle.platform.specs.declared.Received.{Received}
use Rattle.platform.specs.Receiving.{refused, list_in, sections_outcome, sections_output, sections_list}
use Rattle.platform.specs.Noting.{number_given}
use Rattle.platform_words.specs.Words.{standing_length, standing_in, pending_in}
use Rattle.platform_words.specs.HeardWords.{heard_after, platform_after}
use Rattle.platform_words.specs.Within.{outcome_within, number_within, words_within, output_within, heard_within}
use Rattle.platform_words.specs.SectionCalls.{outcome_with, receive_in_number, receive_in_words, receive_in_output, receive_in_heard}
use Rattle.platform_words.proofs.Behind.{lent-behind}

module _ {s : Sections} {b : Bool} (own : ℕ) (ws t ss m out : List ℕ) (es : s ≡ sections_in ss) (eb : b ≡ within t s) where
  is_within : within t (sections_in ss) ≡ b
  is_within = ap (within t) (sym es) ∙ sym eb

  -- the index is lent by itself
  module _ (yes : b ≡ true) where
    is_meant : outcome_within own ws t s (take (length ss - 8) (drop 8 ss)) m out ≡ outcome_with own ws t ss m out
    unfolding sections_outcome
    is_meant =
        ap₂ (λ (x : Sections) (i : List ℕ). outcome_within own ws t x i m out) es (lent-behind bounds_words ss)
        ∙ sym (yes-if {A = Received} (outcome_within own ws t (sections_in ss) (index_in ss) m out) (refused (standing_in ws) cut_short) (is_within ∙ yes))

    its-list : list_in own t s (take (length ss - 8) (drop 8 ss)) (pending_in ws) m ≡ sections_list own t (sections_in ss) (index_in ss) (pending_in ws) m
    unfolding sections_list
    its-list =
        ap₂ (λ (x : Sections) (i : List ℕ). list_in own t x i (pending_in ws) m) es (lent-behind bounds_words ss)
        ∙ sym (yes-if (list_in own t (sections_in ss) (index_in ss) (pending_in ws) m) (pending_in ws) (is_within ∙ yes))

    pub inside-number : {n : ℕ} → n ≡ number_within own ws t s (take (length ss - 8) (drop 8 ss)) m out → n ≡ receive_in_number own ws t ss m out
    inside-number f = f ∙ ap (λ (x : Received). number_given x.answer) is_meant

    pub inside-words : {x : List ℕ} → x ≡ words_within own ws t s (take (length ss - 8) (drop 8 ss)) m out → x ≡ receive_in_words own ws t ss m out
    inside-words f = f ∙ ap₂ (λ (y : Received) (l : List ℕ). platform_after y ws l) is_meant its-list

    pub inside-heard : {x : List ℕ} (heard : List ℕ) → x ≡ heard_within own ws t s (take (length ss - 8) (drop 8 ss)) m out heard
        → x ≡ receive_in_heard own ws t ss m out heard
    inside-heard heard f = f ∙ ap (λ (y : Received). heard_after y heard) is_meant

    pub inside-output : {x : List ℕ} → x ≡ output_within own ws t s (take (length ss - 8) (drop 8 ss)) m out → x ≡ receive_in_output own ws t ss m out
    unfolding sections_output
    inside-output f =
        f ∙ ap₂ (λ (x : Sections) (i : List ℕ). output_within own ws t x i m out) es (lent-behind bounds_words ss)
        ∙ sym (yes-if (output_within own ws t (sections_in ss) (index_in ss) m out) out (is_within ∙ yes))

  module _ (no : b ≡ false) where
    is-refused : refused (standing_in ws) cut_short ≡ outcome_with own ws t ss m out
    unfolding sections_outcome
    is-refused =
        sym (no-if {A = Received} (outcome_within own ws t (sections_in ss) (index_in ss) m out) (refused (standing_in ws) cut_short) (is_within ∙ no))

    pub outside-number : cut_short ≡ receive_in_number own ws t ss m out
    outside-number = ap (λ (x : Received). number_given x.answer) is-refused

    pub outside-words : ws ≡ receive_in_words own ws t ss m out
    unfolding sections_list
    outside-words =
        sym (take-append-drop standing_length ws)
        ∙ ap₂ (λ (y : Received) (l : List ℕ). platform_after y ws l) is-refused
        (sym (no-if (list_in own t (sections_in ss) (index_in ss) (pending_in ws) m) (pending_in ws) (is_within ∙ no)))

    pub outside-output : out ≡ receive_in_output own ws t ss m out
    unfolding sections_output
    outside-output = sym (no-if (output_within own ws t (sections_in ss) (index_in ss) m out) out (is_within ∙ no))

    pub outside-heard : (heard : List ℕ) → heard ≡ receive_in_heard own ws t ss m out heard
    outside-heard heard = ap (λ (y : Received). heard_after y heard) is-refused
