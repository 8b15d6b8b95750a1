-- By the plans of its table that were laid out, with anything behind them, a walk is the walk without plans: of every type, reading
-- and writing.
-- Assumes nothing.
use Prim.Native.Nat.{ℕ, zero, suc, ◌+◌, ◌-◌, ◌≤◌, ◌<◌}
use mathlib.Core.Path.{◌≡◌, refl, sym, ap, ◌∙◌}
use mathlib.Core.Bool.{Bool, true, false, cond}
use mathlib.Core.List.{List, ◌++◌}
use native.Mathlib.Omega.{arith}
use borrow.Author.Tests.{ltb-true, ltb-false}
use lib.Dec.{ltb, eqb}
use lib.ListN.{length, get_or, drop, length-append, length-drop}
use Rattle.wire.specs.Bytes.{over}
use Rattle.wire.proofs.Cond.{clash, yes-eq}
use Rattle.table.specs.declared.Sections.{Sections}
use Rattle.table.specs.declared.Entry.{Entry}
use Rattle.table.specs.Layout.{within}
use Rattle.table.specs.Entries.{member_at}
use Rattle.walk.specs.declared.Place.{Place}
use Rattle.walk.specs.declared.Met.{Met}
use Rattle.walk.specs.declared.Met.TheVariants.{Leaf, Members, Elements, Broken}
use Rattle.walk.specs.Tree.{Tree, row, array, broken, look, elements_of, tree_of, trees, tree}
use Rattle.walk.specs.Runs.{runs_tree}
use Rattle.walk.specs.Walk.{through, Codec, counted, count_code, walk}
use Rattle.walk.specs.Planned.{is_planned, plan_tree, tree_by, trees_by, type_by}
use Rattle.walk.proofs.Trees.{known}
use Rattle.plan.specs.Leaves.{leaves}
use Rattle.plan.specs.Layout.{plans, plans_length, laid_number, laid_out}
use Rattle.plan.proofs.Known.{made-known, made-unknown}
use Rattle.plan.proofs.FlatWalk.{next_equal, through_equal}
use Rattle.plan.proofs.FlatTypes.{runs-walk}
use Rattle.plan.proofs.WhichHaveOne.{trees-unknown}
use Rattle.plan.proofs.WhereLaid.{not-planned, runs-laid, planned-laid, plans-fit, few_values}

-- trees over which every walk is the same
abbrev pub SameWalk : Tree → Tree → Type 0
SameWalk a b = (c : Codec) (p : Place) (x : List ℕ) → walk c a p x ≡ walk c b p x

row_same : (n : ℕ) (f g : ℕ → Tree) → ((k : ℕ) → k < n → SameWalk (f k) (g k)) → SameWalk (row n f) (row n g)
unfolding walk
row_same n f g h c p x = through_equal n (λ k q y. walk c (f k) q y) (λ k q y. walk c (g k) q y) (λ k l. h k l c) p x

array_same : (most : ℕ) (a b : Tree) → SameWalk a b → SameWalk (array most a) (array most b)
unfolding walk
array_same most a b h c p x =
    next_equal (counted c most p x) (λ q y. through (c.word count_code p) (λ k r z. walk c a r z) q y)
    (λ q y. through (c.word count_code p) (λ k r z. walk c b r z) q y)
    (λ q y. through_equal (c.word count_code p) (λ k r z. walk c a r z) (λ k r z. walk c b r z) (λ k l. h c) q y)

elements_same : (e : Entry) (a b : Tree) → SameWalk a b → SameWalk (elements_of e a) (elements_of e b)
unfolding elements_of
elements_same e a b h = go (eqb e.kind 3) refl
  where
    go : (u : Bool) → eqb e.kind 3 ≡ u → SameWalk (elements_of e a) (elements_of e b)
    go true k = rw k (row_same e.count (λ k. a) (λ k. b) (λ k l. h))
    go false k = rw k (array_same e.count a b h)

module _ (t : List ℕ) (s : Sections) (lie : within t s ≡ true) (rest : List ℕ) where
  abbrev laid : List ℕ
  laid = plans t s ++ rest

  -- a plan's tree
  pub plan-walk : (i : ℕ) → is_planned laid i ≡ true → SameWalk (plan_tree t laid i) (tree t s i)
  unfolding plan_tree
  plan-walk i h = go (ltb i s.types.count) refl
    where
      few : s.values.count < 65536
      few = few_values t s lie

      go : (b : Bool) → ltb i s.types.count ≡ b → SameWalk (plan_tree t laid i) (tree t s i)
      go true e =
          let l : i < s.types.count = ltb-true i s.types.count e in
          let m : 0 < leaves t s i = ltb-true 0 (leaves t s i) (sym (planned-laid t s rest few i l) ∙ h) in
          λ c p x. ap (λ (ws : List ℕ). walk c (runs_tree t ws) p x) (runs-laid t s rest few i l) ∙ runs-walk t s few i m c p x
      go false e = absurd (clash (not-planned t s rest i (ltb-false i s.types.count e)) h)

  by-known : (n c : ℕ) → c < n → get_or (trees_by laid t s n) c broken ≡ type_by laid t s c
  unfolding trees_by type_by
  by-known = made-known (trees_by laid t s) (type_by laid t s) refl (λ n. refl) broken

  by-unknown : (n c : ℕ) → n ≤ c → get_or (trees_by laid t s n) c broken ≡ broken
  unfolding trees_by type_by
  by-unknown = made-unknown (trees_by laid t s) (type_by laid t s) refl (λ n. refl) broken

  module _ (i : ℕ) (before : (c : ℕ) → c < i → SameWalk (type_by laid t s c) (tree t s c)) where
    child-same : (c : ℕ) → SameWalk (get_or (trees_by laid t s i) c broken) (get_or (trees t s i) c broken)
    child-same c = go (ltb c i) refl
      where
        go : (b : Bool) → ltb c i ≡ b → SameWalk (get_or (trees_by laid t s i) c broken) (get_or (trees t s i) c broken)
        go true e = let l : c < i = ltb-true c i e in rw (by-known i c l, known t s i c l) (before c l)
        go false e = let l : i ≤ c = ltb-false c i e in rw (by-unknown i c l, trees-unknown t s i c l) (λ d p x. refl)

    -- what was met, without a plan of its own
    met-same : (m : Met) → SameWalk (tree_of t s (trees_by laid t s i) m) (tree_of t s (trees t s i) m)
    unfolding tree_of
    met-same (Leaf e) = λ c p x. refl
    met-same (Members e) =
        row_same e.count (λ k. get_or (trees_by laid t s i) (member_at t s (e.first + k)) broken)
        (λ k. get_or (trees t s i) (member_at t s (e.first + k)) broken) (λ k l. child-same (member_at t s (e.first + k)))
    met-same (Elements e) =
        elements_same e (get_or (trees_by laid t s i) e.of broken) (get_or (trees t s i) e.of broken) (child-same e.of)
    met-same Broken = λ c p x. refl

    -- and with one
    or-plan : (m : Met) → look t s i ≡ m
        → SameWalk (cond (is_planned laid i) (plan_tree t laid i) (tree_of t s (trees_by laid t s i) m)) (tree_of t s (trees t s i) m)
    unfolding tree
    or-plan m e = go (is_planned laid i) refl
      where
        go : (b : Bool) → is_planned laid i ≡ b
            → SameWalk (cond (is_planned laid i) (plan_tree t laid i) (tree_of t s (trees_by laid t s i) m)) (tree_of t s (trees t s i) m)
        go true h = rw (h, ← e) (plan-walk i h)
        go false h = rw h (met-same m)

    by-same : (m : Met) → look t s i ≡ m → SameWalk (tree_by laid t s i (trees_by laid t s i) m) (tree_of t s (trees t s i) m)
    unfolding tree_by tree_of
    by-same (Leaf e) g = met-same (Leaf e)
    by-same (Members e) g = or-plan (Members e) g
    by-same (Elements e) g = or-plan (Elements e) g
    by-same Broken g = met-same Broken

    next-type : SameWalk (type_by laid t s i) (tree t s i)
    unfolding type_by tree
    next-type = by-same (look t s i) refl

  types-below : (n i : ℕ) → i < n → SameWalk (type_by laid t s i) (tree t s i)
  types-below zero i l = absurd (omega arith)
  types-below (suc n) i l = next-type i (λ c g. types-below n c (omega arith))

  -- the theorem
  pub type-walk : (i : ℕ) → SameWalk (type_by laid t s i) (tree t s i)
  type-walk i = types-below (suc i) i (omega arith)

-- the same by the words that a call has laid the plans out in
module _ (t : List ℕ) (s : Sections) (ws : List ℕ) (h : laid_number t s (length ws) ≡ 0) where
  pub words_are : laid_out t s ws ≡ plans t s ++ drop (length (plans t s)) ws
  unfolding laid_out
  words_are =
      let z : 0 + length (plans t s) ≡ length (plans t s) = omega arith in
      yes-eq (over ws 0 (plans t s)) ws (laid_number t s (length ws)) 0 h ∙ ap (λ (n : ℕ). plans t s ++ drop n ws) z

  pub lies_within : within t s ≡ true
  unfolding laid_number
  lies_within = go (within t s) refl
    where
      go : (b : Bool) → within t s ≡ b → within t s ≡ true
      go true e = e
      go false e = absurd (let z : 30 ≡ 0 = rw e at h in omega arith)

  pub words-walk : (i : ℕ) → SameWalk (type_by (laid_out t s ws) t s i) (tree t s i)
  words-walk i = rw words_are (type-walk t s lies_within (drop (length (plans t s)) ws) i)

  pub words-plan-walk : (i : ℕ) → is_planned (laid_out t s ws) i ≡ true → SameWalk (plan_tree t (laid_out t s ws) i) (tree t s i)
  words-plan-walk i g = rw words_are (plan-walk t s lies_within (drop (length (plans t s)) ws) i (rw words_are at g))

  -- the words are as many as before
  pub words_long : length (laid_out t s ws) ≡ length ws
  unfolding laid_number
  words_long = go (ltb (length ws) (plans_length t s)) refl
    where
      go : (b : Bool) → ltb (length ws) (plans_length t s) ≡ b → length (laid_out t s ws) ≡ length ws
      go true e = absurd (let z : 10 ≡ 0 = rw (lies_within, e) at h in omega arith)
      go false e =
          let a : length (laid_out t s ws) ≡ length (plans t s) + (length ws - length (plans t s)) =
          rw words_are (length-append (plans t s) (drop (length (plans t s)) ws)
          ∙ ap (λ (n : ℕ). length (plans t s) + n) (length-drop (length (plans t s)) ws)) in
          omega (arith, ltb-false (length ws) (plans_length t s) e, plans-fit t s (few_values t s lies_within))
