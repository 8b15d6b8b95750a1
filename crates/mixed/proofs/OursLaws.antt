-- What the last of our words that has an ID says of that service.
-- Assumes nothing.
use Prim.Native.Nat.{ℕ, zero, suc, ◌≤◌}
use mathlib.Core.Path.{◌≡◌, refl, sym, ap, ◌∙◌}
use mathlib.Core.Bool.{Bool, true, false, cond}
use mathlib.Core.List.{List, [], ◌∷◌, ◌++◌, reverse}
use native.Mathlib.Omega.{arith}
use denote.Ref.{Bor}
use lib.ListN.{length, take, get_or}
use lib.Seq.{take_all, take-suc}
use Rattle.std.specs.Prelude.{Option, Some, None, MatchOption}
use Rattle.std.specs.Option.{option_map}
use Rattle.std.specs.List.{find}
use Rattle.std.proofs.lemmas.List.{reverse-append}
use Rattle.services.specs.Word.{is_of}
use Rattle.mixed.specs.Ours.{is_available, said_by, ours_available}

-- what a word that was found says, or none
abbrev says_found : Option ℕ → Bool
says_found None = false
says_found (Some w) = is_available w

module _ (ours : List ℕ) (id : ℕ) where
  abbrev found : List ℕ → Option ℕ
  found ws = find (λ (w : ℕ). is_of w id) (reverse ws)

  one_back : (w : ℕ) (ws : List ℕ) → cond (is_of w id) (is_available w) (says_found (found ws)) ≡ says_found (found (ws ++ (w ∷ [])))
  one_back w ws = go (is_of w id) ∙ ap (λ (x : List ℕ). says_found (find (λ (k : ℕ). is_of k id) x)) (sym (reverse-append ws (w ∷ [])))
    where
      go : (t : Bool) → cond t (is_available w) (says_found (found ws)) ≡ says_found (cond t (Some w) (found ws))
      go true = refl
      go false = refl

  by_first : (i : ℕ) → i ≤ length ours → said_by ours id i ≡ says_found (found (take i ours))
  unfolding said_by
  by_first zero h = refl
  by_first (suc i) h =
      let w : ℕ = get_or ours i 0 in
      ap (cond (is_of w id) (is_available w)) (by_first i (omega arith)) ∙ one_back w (take i ours)
      ∙ ap (λ (x : List ℕ). says_found (found x)) (sym (take-suc ours i 0 (omega arith)))

  by_all : ours_available ours id ≡ says_found (found ours)
  by_all = by_first (length ours) (omega arith) ∙ ap (λ (x : List ℕ). says_found (found x)) (take_all (length ours) ours (omega arith))

  pub said_last : (r : Option (Bor ℕ)) {b : Bool} → option_map (λ (y : Bor ℕ). y.now) r ≡ find (λ (w : ℕ). is_of w id) (reverse ours)
      → MatchOption r (b ≡ false) (λ x. b ≡ is_available x.now) → b ≡ ours_available ours id
  said_last None e h = h ∙ ap says_found e ∙ sym by_all
  said_last (Some x) e h = h ∙ ap says_found e ∙ sym by_all
