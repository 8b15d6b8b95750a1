-- Plans that are laid out, with anything behind them, are found: a type's word of the index leads to its runs.
-- Assumes nothing.
use Prim.Native.Nat.{ℕ, zero, suc, ◌+◌, ◌*◌, ◌≤◌, ◌<◌}
use mathlib.Core.Path.{◌≡◌, refl, sym, ap, ◌∙◌}
use mathlib.Core.Bool.{Bool, true, false, ◌&&◌, cond}
use mathlib.Core.Logic.{⊎_elim}
use mathlib.Core.List.{List, [], ◌∷◌, ◌++◌, append_assoc}
use native.Mathlib.Nat.{eq-or-lt_of_le}
use native.Mathlib.Numerals.{add-one}
use native.Mathlib.Omega.{arith}
use borrow.Author.Tests.{ltb-true, ltb-false, leb-true, lt-ltb, le-leb}
use lib.Dec.{ltb, leb}
use lib.ListN.{length, get_or, take, drop, length-append, get_or-append}
use lib.Seq.{take-append_seam, drop-append_seam, drop-append-add}
use Rattle.wire.proofs.Cond.{yes-if, yes_lt, no_lt, and_left, and_right}
use Rattle.table.specs.declared.Sections.{Sections}
use Rattle.table.specs.Layout.{section_end, within, lies_in}
use Rattle.walk.specs.declared.plans.Plan.{Plan}
use Rattle.walk.specs.Tree.{look}
use Rattle.walk.specs.Planned.{indexed, runs_in, first_in, lying, plan_of, is_planned, runs_of}
use Rattle.walk.proofs.WherePlans.{is-indexed, not-indexed}
use Rattle.plan.specs.Leaves.{sum_below, leaves}
use Rattle.plan.specs.Layout.{runs_met, runs_where, run_lists, runs, all_runs, index_word, index, front_words, plans, plans_length}
use Rattle.plan.proofs.Known.{length-made, made-known}
use Rattle.plan.proofs.FlatTypes.{leaves-most, runs-most, runs-some}

-- a word of the index
word_first : (first many n : ℕ) → many < 65536 → n < 65536 → first_in (4294967296 * first + 65536 * many + n) ≡ first
word_first first many n a b = omega arith

word_runs : (first many n : ℕ) → many < 65536 → n < 65536 → runs_in (4294967296 * first + 65536 * many + n) ≡ many
word_runs first many n a b = omega arith

lying_none : (n : ℕ) → lying n 0 0 ≡ record { first = 0; runs = 0 }
unfolding lying
lying_none n = go (leb 0 n)
  where
    go : (b : Bool) → ◌≡◌ {A = Plan} (cond b (record { first = 0; runs = 0 }) (record { first = 0; runs = 0 })) (record { first = 0; runs = 0 })
    go true = refl
    go false = refl

module _ (t : List ℕ) (s : Sections) where
  -- a type's runs among those of all
  module _ (i : ℕ) where
    runs-in : (n : ℕ) → i < n → length (all_runs t s i) + length (runs t s i) ≤ length (all_runs t s n)
    unfolding all_runs
    runs-in zero h = absurd (omega arith)
    runs-in (suc n) h =
        let l : i ≤ n = omega arith in
        let a : length (all_runs t s (suc n)) ≡ length (all_runs t s n) + length (runs t s n) = length-append (all_runs t s n) (runs t s n) in
        ⊎_elim
        (λ (e : i ≡ n). omega (arith, ap (λ (k : ℕ). length (all_runs t s k) + length (runs t s k)) e))
        (λ (g : i < n). omega (arith, runs-in n g))
        (eq-or-lt_of_le l)

    runs-there : (n : ℕ) → i < n → (rest : List ℕ) → take (length (runs t s i)) (drop (length (all_runs t s i)) (all_runs t s n ++ rest)) ≡ runs t s i
    unfolding all_runs
    runs-there zero h rest = absurd (omega arith)
    runs-there (suc n) h rest =
        let l : i ≤ n = omega arith in
        ap (λ (ws : List ℕ). take (length (runs t s i)) (drop (length (all_runs t s i)) ws)) (append_assoc (all_runs t s n) (runs t s n) rest)
        ∙ ⊎_elim
        (λ (e : i ≡ n).
        ap (λ (k : ℕ). take (length (runs t s i)) (drop (length (all_runs t s i)) (all_runs t s k ++ (runs t s k ++ rest)))) (sym e)
        ∙ ap (λ (ws : List ℕ). take (length (runs t s i)) ws) (drop-append_seam (all_runs t s i) (runs t s i ++ rest))
        ∙ take-append_seam (runs t s i) rest)
        (λ (g : i < n). runs-there n g (runs t s n ++ rest))
        (eq-or-lt_of_le l)

  pub no-runs : (i : ℕ) → leaves t s i ≤ 0 → runs t s i ≡ []
  unfolding runs runs_where
  no-runs i none = no_lt (runs_met t s (run_lists t s i) (look t s i)) [] 0 (leaves t s i) none

  length-index : (before n : ℕ) → length (index t s before n) ≡ n
  unfolding index
  length-index before =
      length-made (index t s before) (λ n. index_word (before + length (all_runs t s n)) (length (runs t s n)) (leaves t s n)) refl (λ n. refl)

  index-known : (before n i : ℕ) → i < n
      → get_or (index t s before n) i 0 ≡ index_word (before + length (all_runs t s i)) (length (runs t s i)) (leaves t s i)
  unfolding index
  index-known before =
      made-known (index t s before) (λ n. index_word (before + length (all_runs t s n)) (length (runs t s n)) (leaves t s n)) refl (λ n. refl) 0

  module _ (rest : List ℕ) where
    abbrev types : ℕ
    types = s.types.count

    abbrev laid : List ℕ
    laid = plans t s ++ rest

    abbrev first : ℕ → ℕ
    first i = front_words s + length (all_runs t s i)

    abbrev front : List ℕ
    front = types ∷ index t s (front_words s) types

    laid-is : laid ≡ front ++ (all_runs t s types ++ rest)
    unfolding plans
    laid-is = ap (λ (ws : List ℕ). types ∷ ws) (append_assoc (index t s (front_words s) types) (all_runs t s types) rest)

    front-words : front_words s ≡ length front
    front-words = omega (arith, length-index (front_words s) types)

    laid-types : get_or laid 0 0 ≡ types
    unfolding plans
    laid-types = refl

    -- the words of the index
    laid-indexed : (i : ℕ) → i < types → indexed laid i ≡ index_word (first i) (length (runs t s i)) (leaves t s i)
    laid-indexed i h =
        sym (is-indexed laid i (omega (arith, laid-types)))
        ∙ ap (λ (k : ℕ). get_or laid k 0) (add-one i)
        ∙ ap (λ (ws : List ℕ). get_or ws (suc i) 0) laid-is
        ∙ get_or-append (index t s (front_words s) types) (all_runs t s types ++ rest) 0 i (omega (arith, length-index (front_words s) types))
        ∙ index-known (front_words s) types i h

    beyond : (i : ℕ) → types ≤ i → indexed laid i ≡ 0
    beyond i h = sym (not-indexed laid i (omega (arith, laid-types)))

    -- no plan
    none_planned : (i : ℕ) → indexed laid i ≡ 0 → plan_of laid i ≡ record { first = 0; runs = 0 }
    unfolding plan_of
    none_planned i e = ap (λ (w : ℕ). lying (length laid) (first_in w) (runs_in w)) e ∙ lying_none (length laid)

    -- a plan, where it stands
    module _ (few : s.values.count < 65536) (i : ℕ) (h : i < types) (some : 0 < leaves t s i) where
      first-in : first i + length (runs t s i) ≤ length laid
      first-in =
          let a : length laid ≡ length front + length (all_runs t s types ++ rest) =
          ap (λ (ws : List ℕ). length ws) laid-is ∙ length-append front (all_runs t s types ++ rest) in
          let b : length (all_runs t s types ++ rest) ≡ length (all_runs t s types) + length rest = length-append (all_runs t s types) rest in
          omega (arith, runs-in i types h, length-index (front_words s) types)

      word-is : indexed laid i ≡ 4294967296 * first i + 65536 * length (runs t s i) + leaves t s i
      unfolding index_word
      word-is =
          laid-indexed i h ∙ yes_lt (4294967296 * first i + 65536 * length (runs t s i) + leaves t s i) 0 0 (leaves t s i) some

      plan-laid : plan_of laid i ≡ record { first = first i; runs = length (runs t s i) }
      unfolding plan_of lying
      plan-laid =
          let a : leaves t s i < 65536 = omega (arith, leaves-most t s i) in
          let b : length (runs t s i) < 65536 = omega (arith, runs-most t s few i some) in
          ap (λ (w : ℕ). lying (length laid) (first_in w) (runs_in w)) word-is
          ∙ rw (word_first (first i) (length (runs t s i)) (leaves t s i) b a, word_runs (first i) (length (runs t s i)) (leaves t s i) b a)
          (yes-if (record { first = first i; runs = length (runs t s i) }) (record { first = 0; runs = 0 })
          (le-leb (first i + length (runs t s i)) (length laid) first-in))

      laid_runs : runs_of laid i ≡ runs t s i
      unfolding runs_of
      laid_runs =
          ap (λ (p : Plan). take p.runs (drop p.first laid)) plan-laid
          ∙ ap (λ (ws : List ℕ). take (length (runs t s i)) (drop (first i) ws)) laid-is
          ∙ ap (λ (k : ℕ). take (length (runs t s i)) (drop (k + length (all_runs t s i)) (front ++ (all_runs t s types ++ rest)))) front-words
          ∙ ap (λ (ws : List ℕ). take (length (runs t s i)) ws) (drop-append-add front (all_runs t s types ++ rest) (length (all_runs t s i)))
          ∙ runs-there i types h rest

    -- a type that has no leaves has no word
    no_word : (i : ℕ) → leaves t s i ≤ 0 → i < types → indexed laid i ≡ 0
    unfolding index_word
    no_word i none h = laid-indexed i h ∙ no_lt (4294967296 * first i + 65536 * length (runs t s i) + leaves t s i) 0 0 (leaves t s i) none

    no-plan : (i : ℕ) → indexed laid i ≡ 0 → is_planned laid i ≡ false
    unfolding is_planned
    no-plan i e = ap (λ (p : Plan). ltb 0 p.runs) (none_planned i e)

    nothing-of : (i : ℕ) → indexed laid i ≡ 0 → ◌≡◌ {A = List ℕ} (runs_of laid i) []
    unfolding runs_of
    nothing-of i e = ap (λ (p : Plan). take p.runs (drop p.first laid)) (none_planned i e)

    pub not-planned : (i : ℕ) → types ≤ i → is_planned laid i ≡ false
    not-planned i h = no-plan i (beyond i h)

    module _ (few : s.values.count < 65536) (i : ℕ) (h : i < types) where
      pub runs-laid : runs_of laid i ≡ runs t s i
      runs-laid = go (ltb 0 (leaves t s i)) refl
        where
          go : (b : Bool) → ltb 0 (leaves t s i) ≡ b → runs_of laid i ≡ runs t s i
          go true e = laid_runs few i h (ltb-true 0 (leaves t s i) e)
          go false e = let l : leaves t s i ≤ 0 = ltb-false 0 (leaves t s i) e in nothing-of i (no_word i l h) ∙ sym (no-runs i l)

      pub planned-laid : is_planned laid i ≡ ltb 0 (leaves t s i)
      unfolding is_planned
      planned-laid = go (ltb 0 (leaves t s i)) refl
        where
          go : (b : Bool) → ltb 0 (leaves t s i) ≡ b → is_planned laid i ≡ ltb 0 (leaves t s i)
          go true e =
              let l : 0 < leaves t s i = ltb-true 0 (leaves t s i) e in
              ap (λ (p : Plan). ltb 0 p.runs) (plan-laid few i h l) ∙ lt-ltb 0 (length (runs t s i)) (runs-some t s few i l) ∙ sym e
          go false e = no-plan i (no_word i (ltb-false 0 (leaves t s i) e) h) ∙ sym e

-- no more words than a call says that they can take
module _ (t : List ℕ) (s : Sections) (few : s.values.count < 65536) where
  pub fewer-runs : (i : ℕ) → length (runs t s i) ≤ leaves t s i
  fewer-runs i = go (ltb 0 (leaves t s i)) refl
    where
      go : (b : Bool) → ltb 0 (leaves t s i) ≡ b → length (runs t s i) ≤ leaves t s i
      go true e = runs-most t s few i (ltb-true 0 (leaves t s i) e)
      go false e = omega (arith, ap (λ (ws : List ℕ). length ws) (no-runs t s i (ltb-false 0 (leaves t s i) e)))

  pub all-runs-most : (n : ℕ) → length (all_runs t s n) ≤ sum_below (leaves t s) n
  unfolding all_runs sum_below
  all-runs-most zero = omega arith
  all-runs-most (suc n) = omega (arith, length-append (all_runs t s n) (runs t s n), all-runs-most n, fewer-runs n)

  pub plans-fit : length (plans t s) ≤ plans_length t s
  unfolding plans plans_length
  plans-fit =
      let n = s.types.count in
      omega (arith, length-append (index t s (front_words s) n) (all_runs t s n), length-index t s (front_words s) n, all-runs-most n)

-- sections that lie in a table's bytes have few values
pub few_values : (t : List ℕ) (s : Sections) → within t s ≡ true → s.values.count < 65536
unfolding within lies_in
few_values t s h =
    let v = leb s.values.count 1024 in
    let e = leb (section_end 8 s.values) (length t) in
    let a : Bool = lies_in 8 256 (length t) s.types && lies_in 2 1024 (length t) s.members in
    let o : Bool = lies_in 8 1024 (length t) s.operations in
    omega (arith, leb-true s.values.count 1024 (and_left v e (and_right a (v && e) (and_left (a && (v && e)) o h))))
