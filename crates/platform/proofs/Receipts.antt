-- What the calls for one message come to at their returns.
-- Assumes nothing.
use Prim.Native.Nat.{ℕ}
use Rattle.std.specs.Prelude.{Option}
use mathlib.Core.Path.{◌≡◌, refl, sym, ◌∙◌}
use mathlib.Core.Bool.{Bool, true, false}
use mathlib.Core.List.{List}
use Rattle.wire.proofs.Cond.{yes-if, no-if}
use Rattle.table.specs.declared.Sections.{Sections}
use Rattle.table.specs.Layout.{cut_short, within}
use Rattle.message.specs.declared.Header.{Header}
use Rattle.message.specs.declared.Message.{Message}
use Rattle.message.specs.declared.Reading.{Reading}
use Rattle.message.specs.declared.Reading.TheVariants as reading
use Rattle.platform.specs.declared.reactions.Standing.{Standing}
use Rattle.platform.specs.declared.Received.{Received}
use Rattle.platform.specs.declared.reactions.Reaction.{Reaction}
use Rattle.platform.specs.Reaction.{reaction_to}
use Rattle.platform.specs.Receiving.{refused, answered, laid_out, is_answer, list_answered, response_to, outcome_of, output_of, list_of}
use Rattle.platform.specs.Receiving.{outcome_in, output_in, list_in}
use Rattle.platform.specs.Receiving.{sections_outcome, sections_output, sections_list}

-- the message was refused, answers a request, or has a reaction
module _ (own : ℕ) (t : List ℕ) (s : Sections) (f : Option (ℕ × ℕ)) (p : Standing) (l : List ℕ) (x : Reading) where
  module _ (n : ℕ) (e : x ≡ reading.Refused n) where
    pub unread : (room : ℕ) (r : Received) → r ≡ refused p n → r ≡ outcome_of own t s f p l x room
    unfolding outcome_of
    unread room r d = rw e d

    pub unread-output : (out : List ℕ) → out ≡ output_of own t s f p x out
    unfolding output_of
    unread-output out = rw e refl

    pub unread-list : l ≡ list_of t f l x
    unfolding list_of
    unread-list = rw e refl

  module _ (h : Header) (m : Message) (start len : ℕ) (e : x ≡ reading.Read h m start len) (b : Bool) (g : b ≡ is_answer t f m) where
    module _ (yes : b ≡ true) where
      pub is-response : (room : ℕ) (r : Received) → r ≡ response_to l f p h start len → r ≡ outcome_of own t s f p l x room
      unfolding outcome_of
      is-response room r d = rw (e, ← g, yes) d

      pub response-output : (out : List ℕ) → out ≡ output_of own t s f p x out
      unfolding output_of
      response-output out = rw (e, ← g, yes) refl

      pub response-list : (k : List ℕ) → k ≡ list_answered l h → k ≡ list_of t f l x
      unfolding list_of
      response-list k d = rw (e, ← g, yes) d

    module _ (no : b ≡ false) (a : Reaction) (k : a ≡ reaction_to own t s f p h m start len) where
      pub was_read : (room : ℕ) (r : Received) → r ≡ answered p h a room → r ≡ outcome_of own t s f p l x room
      unfolding outcome_of
      was_read room r d = rw (e, ← g, no, ← k) d

      pub read-output : (out o : List ℕ) → o ≡ laid_out own a out → o ≡ output_of own t s f p x out
      unfolding output_of
      read-output out o d = rw (e, ← g, no, ← k) d

    pub read-list : b ≡ false → l ≡ list_of t f l x
    unfolding list_of
    read-list z = rw (e, ← g, z) refl

-- on sections
module _ (own : ℕ) (t : List ℕ) (s : Sections) (index : List ℕ) (p : Standing) (l m : List ℕ) (b : Bool) (e : b ≡ within t s) where
  module _ (yes : b ≡ true) where
    pub inside : (room : ℕ) (r : Received) → r ≡ outcome_in own t s index p l m room → r ≡ sections_outcome own t s index p l m room
    unfolding sections_outcome
    inside room r d = d ∙ sym (yes-if {A = Received} (outcome_in own t s index p l m room) (refused p cut_short) (sym e ∙ yes))

    pub inside-output : (out o : List ℕ) → o ≡ output_in own t s index p m out → o ≡ sections_output own t s index p m out
    unfolding sections_output
    inside-output out o d = d ∙ sym (yes-if (output_in own t s index p m out) out (sym e ∙ yes))

    pub inside-list : (k : List ℕ) → k ≡ list_in own t s index l m → k ≡ sections_list own t s index l m
    unfolding sections_list
    inside-list k d = d ∙ sym (yes-if (list_in own t s index l m) l (sym e ∙ yes))

  module _ (no : b ≡ false) where
    pub outside : (room : ℕ) (r : Received) → r ≡ refused p cut_short → r ≡ sections_outcome own t s index p l m room
    unfolding sections_outcome
    outside room r d = d ∙ sym (no-if {A = Received} (outcome_in own t s index p l m room) (refused p cut_short) (sym e ∙ no))

    pub outside-output : (out : List ℕ) → out ≡ sections_output own t s index p m out
    unfolding sections_output
    outside-output out = sym (no-if (output_in own t s index p m out) out (sym e ∙ no))

    pub outside-list : l ≡ sections_list own t s index l m
    unfolding sections_list
    outside-list = sym (no-if (list_in own t s index l m) l (sym e ∙ no))
