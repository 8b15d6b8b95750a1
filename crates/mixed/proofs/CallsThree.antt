-- What the call for one message in Issue 3's form comes to at its returns.
-- Assumes nothing.
use Prim.Native.Nat.{ℕ}
use Rattle.std.specs.Prelude.{Option}
use mathlib.Core.Path.{◌≡◌, refl, sym, ap, ◌∙◌}
use mathlib.Core.Bool.{Bool, true, false}
use mathlib.Core.List.{List}
use Rattle.wire.specs.Bytes.{part}
use Rattle.table.specs.declared.Sections.{Sections}
use Rattle.message3.specs.declared.Stamp.{Stamp}
use Rattle.message3.specs.declared.Header3.{Header3}
use Rattle.message3.specs.declared.Message3.{Message3}
use Rattle.message3.specs.declared.Reading3.{Reading3}
use Rattle.message3.specs.declared.Reading3.TheVariants as three
use Rattle.message3.specs.Reading.{read_of3}
use Rattle.platform.specs.declared.reactions.Standing.{Standing}
use Rattle.mixed.specs.declared.AnyReading.TheVariants as reading
use Rattle.mixed.specs.declared.AnyReceived.{AnyReceived}
use Rattle.mixed.specs.Reading.{from_three}
use Rattle.mixed.specs.Reaction.{operation_for3, reaction3}
use Rattle.mixed.specs.Receiving.{refused_any, is_answer3, response_to3, list_answered3, settled3, laid3, kept3}
use Rattle.mixed.specs.Receiving.{any_outcome_of, any_output_of, any_list_of, any_words_of}

module _ (own : ℕ) (i ours t : List ℕ) (s : Sections) (index : List ℕ) (p : Standing) (ws m : List ℕ) (x : Reading3) (e : x ≡ read_of3 own m) where
  was_read : {y : Reading3} → x ≡ y → from_three y ≡ from_three (read_of3 own m)
  was_read f = ap from_three (sym f ∙ e)

  -- a message that was refused
  module _ (n : ℕ) (f : x ≡ three.Refused n) where
    pub unread : (l : List ℕ) (room : ℕ) (r : AnyReceived) → r ≡ refused_any p n
        → r ≡ any_outcome_of own i ours t s index p l ws m room (from_three (read_of3 own m))
    unfolding any_outcome_of
    unread l room r d = d ∙ ap (any_outcome_of own i ours t s index p l ws m room) (was_read f)

    pub unread-output : (st : Stamp) (c : ℕ) (out : List ℕ) → out ≡ any_output_of own st c i ours t s index p ws m out (from_three (read_of3 own m))
    unfolding any_output_of
    unread-output st c out = ap (any_output_of own st c i ours t s index p ws m out) (was_read f)

    pub unread-list : (l : List ℕ) → l ≡ any_list_of own t s index l m (from_three (read_of3 own m))
    unfolding any_list_of
    unread-list l = ap (any_list_of own t s index l m) (was_read f)

    pub unread-words : (room : ℕ) → ws ≡ any_words_of own i ours t s index p ws m room (from_three (read_of3 own m))
    unfolding any_words_of
    unread-words room = ap (any_words_of own i ours t s index p ws m room) (was_read f)

  -- one that was read, with the operation that was looked up for it: a response, or another
  module _ (h : Header3) (k : Message3) (start len : ℕ) (f : x ≡ three.Read h k start len) (z : Option (ℕ × ℕ)) (g : z ≡ operation_for3 t s index h k)
      (b : Bool) (eb : b ≡ is_answer3 t z k) where
    module _ (y : b ≡ true) where
      pub response : (l : List ℕ) (room : ℕ) (r : AnyReceived) → r ≡ response_to3 l z p h start len
          → r ≡ any_outcome_of own i ours t s index p l ws m room (from_three (read_of3 own m))
      unfolding any_outcome_of
      response l room r d =
          let q : r ≡ any_outcome_of own i ours t s index p l ws m room (reading.Three h k start len) = rw (← g, ← eb, y) d in
          q ∙ ap (any_outcome_of own i ours t s index p l ws m room) (was_read f)

      pub response-output : (st : Stamp) (c : ℕ) (out : List ℕ) → out ≡ any_output_of own st c i ours t s index p ws m out (from_three (read_of3 own m))
      unfolding any_output_of
      response-output st c out =
          let q : out ≡ any_output_of own st c i ours t s index p ws m out (reading.Three h k start len) = rw (← g, ← eb, y) refl in
          q ∙ ap (any_output_of own st c i ours t s index p ws m out) (was_read f)

      pub response-list : (l a : List ℕ) → a ≡ list_answered3 l h → a ≡ any_list_of own t s index l m (from_three (read_of3 own m))
      unfolding any_list_of
      response-list l a d =
          let q : a ≡ any_list_of own t s index l m (reading.Three h k start len) = rw (← g, ← eb, y) d in
          q ∙ ap (any_list_of own t s index l m) (was_read f)

      pub response-words : (room : ℕ) → ws ≡ any_words_of own i ours t s index p ws m room (from_three (read_of3 own m))
      unfolding any_words_of
      response-words room =
          let q : ws ≡ any_words_of own i ours t s index p ws m room (reading.Three h k start len) = rw (← g, ← eb, y) refl in
          q ∙ ap (any_words_of own i ours t s index p ws m room) (was_read f)

    module _ (y : b ≡ false) where
      pub other-list : (l : List ℕ) → l ≡ any_list_of own t s index l m (from_three (read_of3 own m))
      unfolding any_list_of
      other-list l =
          let q : l ≡ any_list_of own t s index l m (reading.Three h k start len) = rw (← g, ← eb, y) refl in
          q ∙ ap (any_list_of own t s index l m) (was_read f)

      pub other : (l : List ℕ) (room : ℕ) (r : AnyReceived)
          → r ≡ settled3 i ours p h (reaction3 own ours t s z p h k start len) (part m start len) ws room
          → r ≡ any_outcome_of own i ours t s index p l ws m room (from_three (read_of3 own m))
      unfolding any_outcome_of
      other l room r d =
          let q : r ≡ any_outcome_of own i ours t s index p l ws m room (reading.Three h k start len) = rw (← g, ← eb, y) d in
          q ∙ ap (any_outcome_of own i ours t s index p l ws m room) (was_read f)

      pub other-output : (st : Stamp) (c : ℕ) (out o : List ℕ)
          → o ≡ laid3 own st c i ours h (reaction3 own ours t s z p h k start len) (part m start len) ws out
          → o ≡ any_output_of own st c i ours t s index p ws m out (from_three (read_of3 own m))
      unfolding any_output_of
      other-output st c out o d =
          let q : o ≡ any_output_of own st c i ours t s index p ws m out (reading.Three h k start len) = rw (← g, ← eb, y) d in
          q ∙ ap (any_output_of own st c i ours t s index p ws m out) (was_read f)

      pub other-words : (room : ℕ) (a : List ℕ) → a ≡ kept3 i ours h (reaction3 own ours t s z p h k start len) (part m start len) ws room
          → a ≡ any_words_of own i ours t s index p ws m room (from_three (read_of3 own m))
      unfolding any_words_of
      other-words room a d =
          let q : a ≡ any_words_of own i ours t s index p ws m room (reading.Three h k start len) = rw (← g, ← eb, y) d in
          q ∙ ap (any_words_of own i ours t s index p ws m room) (was_read f)
