-- One of our services: the code goes over the words from the last, 02's sentence from the first.
-- Assumes nothing.
use Prim.Native.Nat.{ℕ, zero, suc}
use mathlib.Core.Path.{◌≡◌, refl, ap, ◌∙◌}
use mathlib.Core.Bool.{Bool, true, false, cond}
use mathlib.Core.List.{List, [], ◌∷◌}
use lib.ListN.{length, get_or}
use Rattle.services.specs.Word.{is_of}
use Rattle.mixed.specs.Ours.{is_available, said_by, ours_available}
use Rattle.mixed.specs.Replies.{state_told}
use Rattle.promises.specs.Owed3.{last_of, state_of_ours}

module _ (id : ℕ) where
  -- what the first i words say, where `before` was said before them
  abbrev saidOn : Bool → List ℕ → ℕ → Bool
  saidOn before ws zero = before
  saidOn before ws (suc i) = cond (is_of (get_or ws i 0) id) (is_available (get_or ws i 0)) (saidOn before ws i)

  from-none : (ws : List ℕ) (i : ℕ) → said_by ws id i ≡ saidOn false ws i
  unfolding said_by
  from-none ws zero = refl
  from-none ws (suc i) = ap (cond (is_of (get_or ws i 0) id) (is_available (get_or ws i 0))) (from-none ws i)

  one_on : (before : Bool) (w : ℕ) (ws : List ℕ) (i : ℕ) → saidOn before (w ∷ ws) (suc i) ≡ saidOn (cond (is_of w id) (is_available w) before) ws i
  one_on before w ws zero = refl
  one_on before w ws (suc i) = ap (cond (is_of (get_or ws i 0) id) (is_available (get_or ws i 0))) (one_on before w ws i)

  either-told : (b x y : Bool) → state_told (cond b x y) ≡ cond b (state_told x) (state_told y)
  either-told true x y = refl
  either-told false x y = refl

  all-on : (before : Bool) (ws : List ℕ) → state_told (saidOn before ws (length ws)) ≡ last_of id (state_told before) ws
  all-on before [] = refl
  all-on before (w ∷ ws) =
      ap state_told (one_on before w ws (length ws))
      ∙ all-on (cond (is_of w id) (is_available w) before) ws
      ∙ ap (λ (n : ℕ). last_of id n ws) (either-told (is_of w id) (is_available w) before)

  pub its-state : (ours : List ℕ) → state_told (ours_available ours id) ≡ state_of_ours ours id
  its-state ours = ap state_told (from-none ours (length ours)) ∙ all-on false ours
