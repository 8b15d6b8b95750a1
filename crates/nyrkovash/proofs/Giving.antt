-- What is given back, at the case that the code has met; the laws of calls on sections are one for unpacking and packing.
-- Assumes nothing.
use Prim.Native.Nat.{ℕ}
use mathlib.Core.Path.{◌≡◌, refl, ap, ◌∙◌}
use mathlib.Core.List.{List, [], ◌∷◌}
use lib.ListN.{get_or}
use Rattle.table.specs.declared.Sections.{Sections}
use Rattle.payload.specs.declared.Spot.{Spot}
use Rattle.payload.specs.declared.Answer.{Answer}
use Rattle.payload.specs.declared.Answer.TheVariants.{Stopped, Gave}
use Rattle.walk.specs.Walk.{Codec}
use Rattle.payload.specs.Calls.{number_given, answered_in, left_over_in}
use Rattle.nyrkovash.specs.PayloadCalls.{walked_left}

-- the end of a walk, at the case that the code has met
module _ (a : Answer) (was : List ℕ) where
  pub at-stop : (k : ℕ) (o : Spot) → a ≡ Stopped k o → (k ≡ number_given a) × (get_or was 0 0 ∷ o.at ∷ o.leaves ∷ [] ≡ walked_left was a)
  at-stop k o h = rw h (refl, refl)

  pub at_end : (k : ℕ) → a ≡ Gave k → (0 ≡ number_given a) × (k ∷ get_or was 1 0 ∷ get_or was 2 0 ∷ [] ≡ walked_left was a)
  at_end k h = rw h (refl, refl)

-- a call handed table bytes
module _ {g : Answer} (a : Answer) (e : g ≡ a) where
  pub given-number : {x : ℕ} → x ≡ number_given g → x ≡ number_given a
  given-number f = f ∙ ap number_given e

  pub given-words : {x : List ℕ} (was : List ℕ) → x ≡ walked_left was g → x ≡ walked_left was a
  given-words was f = f ∙ ap (walked_left was) e

-- a call on sections
module _ {z : Sections} (c : Codec) (n : ℕ) (t : List ℕ) (s : Sections) (i : ℕ) (es : z ≡ s) where
  module _ {g : Answer} (room : ℕ) (e : g ≡ answered_in c n t z i room) where
    answer-in : g ≡ answered_in c n t s i room
    answer-in = e ∙ ap (λ (y : Sections). answered_in c n t y i room) es

    pub number_in : {x : ℕ} → x ≡ number_given g → x ≡ number_given (answered_in c n t s i room)
    number_in f = given-number (answered_in c n t s i room) answer-in f

    pub words-in : {x : List ℕ} (was : List ℕ) → x ≡ walked_left was g → x ≡ walked_left was (answered_in c n t s i room)
    words-in was f = given-words (answered_in c n t s i room) answer-in was f

  pub left_in : {x : List ℕ} (before : List ℕ) → x ≡ left_over_in c n t z i before → x ≡ left_over_in c n t s i before
  left_in before e = e ∙ ap (λ (y : Sections). left_over_in c n t y i before) es
