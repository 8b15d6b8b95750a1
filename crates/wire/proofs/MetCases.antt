-- What an answer by cases comes to, at the case that the code has met.
-- Assumes nothing.
use mathlib.Core.Path.{◌≡◌, sym, ap, ◌∙◌}

-- what a definition by cases says of an answer, at the case that the code has met
pub met : {A B : Type 0} (F : A → B) {x : B} {r : A} (a v : A) → r ≡ a → r ≡ v → x ≡ F v → x ≡ F a
met F a v e f g = g ∙ ap F (sym f ∙ e)

-- and what it leaves of what was lent for the answer
pub met_left : {A B : Type 0} (F : B → A → B) {x : B} {r : A} (was : B) (a v : A) → r ≡ a → r ≡ v → x ≡ F was v → x ≡ F was a
met_left F was a v e f g = met (F was) a v e f g
