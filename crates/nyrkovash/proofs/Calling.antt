-- What laying the sections out and looking up an operation show at their returns.
-- Assumes nothing.
use Prim.Native.Nat.{ℕ, ◌-◌, ◌≤◌}
use Rattle.std.specs.Prelude.{Option, Some, None}
use mathlib.Core.Path.{◌≡◌, sym, ap, ap₂, ◌∙◌}
use mathlib.Core.Bool.{Bool, true, false}
use mathlib.Core.List.{List, [], ◌∷◌, ◌++◌}
use borrow.Rule.Slice.PartMut.{put_mid}
use lib.ListN.{length, get_or, set, take, drop}
use lib.Seq.{sets-eq}
use Rattle.wire.proofs.Cond.{yes-if, no-if}
use Rattle.table.specs.declared.Sections.{Sections}
use Rattle.table.specs.Layout.{cut_short, within}
use Rattle.table.specs.Words.{bounds_words, sections_in, index_in, words_of}
use Rattle.operations.specs.declared.Operation.{Operation}
use Rattle.operations.specs.Entries.{operation_at}
use Rattle.operations.specs.Search.{indexed, sought_in}
use Rattle.platform_words.proofs.Behind.{lent-behind, back_by}
use Rattle.nyrkovash.proofs.AsTheyLie.{operations-count}
use Rattle.nyrkovash.specs.TableCalls.{sections_words, operation_words, found_words, find_number, find_answer}

-- `put_bounds`: the first words, one by one
pub bounds_put : (ws : List ℕ) (a b c d e f g h : ℕ) → bounds_words ≤ length ws
    → set (set (set (set (set (set (set (set ws 0 a) 1 b) 2 c) 3 d) 4 e) 5 f) 6 g) 7 h ≡ a ∷ b ∷ c ∷ d ∷ e ∷ f ∷ g ∷ h ∷ index_in ws
bounds_put ws a b c d e f g h l = sets-eq (a ∷ b ∷ c ∷ d ∷ e ∷ f ∷ g ∷ h ∷ []) ws 0 l

-- `put_sections`: the index is lent by itself
pub index_laid : {x last : List ℕ} (t ws : List ℕ) (s : Sections) → x ≡ words_of s ++ index_in ws
    → last ≡ indexed t s.operations.at s.operations.count (take (length x - 8) (drop 8 x))
    → put_mid 8 (length x - 8) x last ≡ sections_words t ws s
index_laid {x} t ws s ex el =
    let lay : List ℕ → List ℕ = indexed t s.operations.at s.operations.count in
    back_by bounds_words x lay el ∙ ap (λ (y : List ℕ). take bounds_words y ++ lay (drop bounds_words y)) ex

-- `find`
module _ {b : Bool} (t ws : List ℕ) (e : b ≡ within t (sections_in ws)) where
  pub outside-number : b ≡ false → cut_short ≡ find_number t (sections_in ws)
  outside-number f = sym (no-if 0 cut_short (sym e ∙ f))

  pub outside-answer : (id : ℕ) (answer : List ℕ) → b ≡ false → answer ≡ find_answer t (sections_in ws) (index_in ws) id answer
  outside-answer id answer f = sym (no-if (found_words t (sought_in t (index_in ws) (sections_in ws).operations.count id)) answer (sym e ∙ f))

  module _ (f : b ≡ true) where
    pub inside-number : 0 ≡ find_number t (sections_in ws)
    inside-number = sym (yes-if 0 cut_short (sym e ∙ f))

    module _ {r : Option (ℕ × ℕ)} (id : ℕ) (answer : List ℕ) (el : r ≡ sought_in t (take (length ws - 8) (drop 8 ws)) (get_or ws 7 0) id) where
      told : found_words t r ≡ find_answer t (sections_in ws) (index_in ws) id answer
      told =
          ap (found_words t) (el ∙ ap₂ (λ (i : List ℕ) (n : ℕ). sought_in t i n id) (lent-behind bounds_words ws) (operations-count t ws e f))
          ∙ sym (yes-if (found_words t (sought_in t (index_in ws) (sections_in ws).operations.count id)) answer (sym e ∙ f))

      pub found-there : {o : Operation} (i p : ℕ) → r ≡ Some (i, p) → o ≡ operation_at t p
          → operation_words o ≡ find_answer t (sections_in ws) (index_in ws) id answer
      found-there i p er eo = ap operation_words eo ∙ ap (found_words t) (sym er) ∙ told

      pub found_none : r ≡ None → 0 ∷ 0 ∷ 0 ∷ 0 ∷ [] ≡ find_answer t (sections_in ws) (index_in ws) id answer
      found_none er = ap (found_words t) (sym er) ∙ told
