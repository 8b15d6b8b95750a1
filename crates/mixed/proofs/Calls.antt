-- What the call for one message comes to at its returns, by the form that was found.
-- Assumes nothing.
use Prim.Native.Nat.{ℕ}
use mathlib.Core.Path.{◌≡◌, sym, ap, ◌∙◌}
use mathlib.Core.Bool.{false}
use mathlib.Core.List.{List}
use Rattle.table.specs.declared.Sections.{Sections}
use Rattle.message.specs.Header.{sender_in}
use Rattle.message3.specs.declared.Stamp.{Stamp}
use Rattle.message3.specs.Reading.{read_of3}
use Rattle.partners.specs.Threes.{is_three}
use Rattle.platform.specs.declared.reactions.Standing.{Standing}
use Rattle.platform.specs.declared.Received.{Received}
use Rattle.platform.specs.Receiving.{outcome_in, output_in, list_in}
use Rattle.mixed.specs.declared.Form.{Form}
use Rattle.mixed.specs.declared.Form.TheVariants as form
use Rattle.mixed.specs.declared.AnyReading.TheVariants.{Refused}
use Rattle.mixed.specs.declared.AnyReceived.{AnyReceived}
use Rattle.mixed.specs.Form.{three_form}
use Rattle.mixed.specs.Reading.{form_of, from_three, any_of}
use Rattle.mixed.specs.Receiving.{from_received, refused_any, any_outcome_of, any_output_of, any_list_of, any_words_of, any_outcome, any_output, any_list, any_words}
use Rattle.mixed.proofs.Issues.{six-tests}
use Rattle.mixed.proofs.Readings.{its-reading}
use Rattle.mixed.proofs.AsBefore.{outcome-before, output-before, list-before, words-before}

module _ (own : ℕ) (i ours t : List ℕ) (s : Sections) (index : List ℕ) (p : Standing) (ws m : List ℕ) where
  -- by its form
  module _ (x : Form) (e : x ≡ form_of i m) where
    -- a message in the form of the issue that its sender does not speak
    module _ (n : ℕ) (f : x ≡ form.Other n) where
      not_read : Refused n ≡ any_of i own m
      not_read = its-reading i own m x e (form.Other n) f

      pub unread : (l : List ℕ) (room : ℕ) (r : AnyReceived) → r ≡ refused_any p n → r ≡ any_outcome own i ours t s index p l ws m room
      unfolding any_outcome_of
      unread l room r d = d ∙ ap (any_outcome_of own i ours t s index p l ws m room) not_read

      pub unread-output : (st : Stamp) (c : ℕ) (out : List ℕ) → out ≡ any_output own st c i ours t s index p ws m out
      unfolding any_output_of
      unread-output st c out = ap (any_output_of own st c i ours t s index p ws m out) not_read

      pub unread-list : (l : List ℕ) → l ≡ any_list own i t s index l m
      unfolding any_list_of
      unread-list l = ap (any_list_of own t s index l m) not_read

      pub unread-words : (room : ℕ) → ws ≡ any_words own i ours t s index p ws m room
      unfolding any_words_of
      unread-words room = ap (any_words_of own i ours t s index p ws m room) not_read

    -- one in Issue 6's, refused or read
    module _ (f : x ≡ form.Six) where
      tests : (three_form i m ≡ false) × (is_three i (sender_in m) ≡ false)
      tests = six-tests i own m (sym f ∙ e)

      pub of-six : (l : List ℕ) (room : ℕ) (q : Received) (r : AnyReceived) → q ≡ outcome_in own t s index p l m room → r ≡ from_received q
          → r ≡ any_outcome own i ours t s index p l ws m room
      of-six l room q r g d = d ∙ ap from_received g ∙ sym (outcome-before own i ours t s index p ws m tests.0 tests.1 l room)

      pub of-six-output : (st : Stamp) (c : ℕ) (out o : List ℕ) → o ≡ output_in own t s index p m out → o ≡ any_output own st c i ours t s index p ws m out
      of-six-output st c out o d = d ∙ sym (output-before own i ours t s index p ws m tests.0 tests.1 st c out)

      pub of-six-list : (l a : List ℕ) → a ≡ list_in own t s index l m → a ≡ any_list own i t s index l m
      of-six-list l a d = d ∙ sym (list-before own i ours t s index p ws m tests.0 tests.1 l)

      pub of-six-words : (room : ℕ) → ws ≡ any_words own i ours t s index p ws m room
      of-six-words room = sym (words-before own i ours t s index p ws m tests.0 tests.1 room)

    -- one in Issue 3's
    module _ (f : x ≡ form.Three) where
      by-issue-3 : from_three (read_of3 own m) ≡ any_of i own m
      by-issue-3 = its-reading i own m x e form.Three f

      pub of_three : (l : List ℕ) (room : ℕ) (r : AnyReceived) → r ≡ any_outcome_of own i ours t s index p l ws m room (from_three (read_of3 own m))
          → r ≡ any_outcome own i ours t s index p l ws m room
      of_three l room r d = d ∙ ap (any_outcome_of own i ours t s index p l ws m room) by-issue-3

      pub of-three-output : (st : Stamp) (c : ℕ) (out o : List ℕ) → o ≡ any_output_of own st c i ours t s index p ws m out (from_three (read_of3 own m))
          → o ≡ any_output own st c i ours t s index p ws m out
      of-three-output st c out o d = d ∙ ap (any_output_of own st c i ours t s index p ws m out) by-issue-3

      pub of-three-list : (l a : List ℕ) → a ≡ any_list_of own t s index l m (from_three (read_of3 own m)) → a ≡ any_list own i t s index l m
      of-three-list l a d = d ∙ ap (any_list_of own t s index l m) by-issue-3

      pub of-three-words : (room : ℕ) (a : List ℕ) → a ≡ any_words_of own i ours t s index p ws m room (from_three (read_of3 own m))
          → a ≡ any_words own i ours t s index p ws m room
      of-three-words room a d = d ∙ ap (any_words_of own i ours t s index p ws m room) by-issue-3
