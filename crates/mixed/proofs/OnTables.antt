-- What the calls for one message on sections and on table bytes come to at their returns.
-- Assumes nothing.
use Prim.Native.Nat.{ℕ}
use mathlib.Core.Path.{◌≡◌, sym, ◌∙◌}
use mathlib.Core.Bool.{Bool, true, false}
use mathlib.Core.List.{List}
use Rattle.wire.proofs.Cond.{yes-if, no-if}
use Rattle.table.specs.declared.Sections.{Sections}
use Rattle.table.specs.Layout.{cut_short, within}
use Rattle.message3.specs.declared.Stamp.{Stamp}
use Rattle.platform.specs.declared.reactions.Standing.{Standing}
use Rattle.mixed.specs.declared.AnyReceived.{AnyReceived}
use Rattle.mixed.specs.Receiving.{refused_any, any_outcome, any_output, any_list, any_words}
use Rattle.mixed.specs.Tables.{sections_answer, sections_out, sections_pending, sections_words}

-- on sections
module _ (own : ℕ) (i ours t : List ℕ) (s : Sections) (index : List ℕ) (p : Standing) (ws m : List ℕ) (b : Bool) (e : b ≡ within t s) where
  module _ (y : b ≡ true) where
    pub inside : (l : List ℕ) (room : ℕ) (r : AnyReceived) → r ≡ any_outcome own i ours t s index p l ws m room
        → r ≡ sections_answer own i ours t s index p l ws m room
    unfolding sections_answer
    inside l room r d = d ∙ sym (yes-if {A = AnyReceived} (any_outcome own i ours t s index p l ws m room) (refused_any p cut_short) (sym e ∙ y))

    pub inside-output : (st : Stamp) (c : ℕ) (out o : List ℕ) → o ≡ any_output own st c i ours t s index p ws m out
        → o ≡ sections_out own st c i ours t s index p ws m out
    unfolding sections_out
    inside-output st c out o d = d ∙ sym (yes-if (any_output own st c i ours t s index p ws m out) out (sym e ∙ y))

    pub inside-list : (l a : List ℕ) → a ≡ any_list own i t s index l m → a ≡ sections_pending own i t s index l m
    unfolding sections_pending
    inside-list l a d = d ∙ sym (yes-if (any_list own i t s index l m) l (sym e ∙ y))

    pub inside-words : (room : ℕ) (a : List ℕ) → a ≡ any_words own i ours t s index p ws m room → a ≡ sections_words own i ours t s index p ws m room
    unfolding sections_words
    inside-words room a d = d ∙ sym (yes-if (any_words own i ours t s index p ws m room) ws (sym e ∙ y))

  module _ (n : b ≡ false) where
    pub outside : (l : List ℕ) (room : ℕ) (r : AnyReceived) → r ≡ refused_any p cut_short → r ≡ sections_answer own i ours t s index p l ws m room
    unfolding sections_answer
    outside l room r d = d ∙ sym (no-if {A = AnyReceived} (any_outcome own i ours t s index p l ws m room) (refused_any p cut_short) (sym e ∙ n))

    pub outside-output : (st : Stamp) (c : ℕ) (out : List ℕ) → out ≡ sections_out own st c i ours t s index p ws m out
    unfolding sections_out
    outside-output st c out = sym (no-if (any_output own st c i ours t s index p ws m out) out (sym e ∙ n))

    pub outside-list : (l : List ℕ) → l ≡ sections_pending own i t s index l m
    unfolding sections_pending
    outside-list l = sym (no-if (any_list own i t s index l m) l (sym e ∙ n))

    pub outside-words : (room : ℕ) → ws ≡ sections_words own i ours t s index p ws m room
    unfolding sections_words
    outside-words room = sym (no-if (any_words own i ours t s index p ws m room) ws (sym e ∙ n))
