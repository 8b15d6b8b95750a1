-- The run of a leaf's entry: what its word says, and that its leaf takes what the entry takes.
-- Assumes nothing.
use Prim.Native.Nat.{ℕ, ◌+◌, ◌*◌, ◌≤◌, ◌<◌}
use mathlib.Core.Path.{◌≡◌, refl, sym, ap, ◌∙◌}
use mathlib.Core.Bool.{Bool, true, false, not, cond}
use mathlib.Core.List.{List, [], ◌∷◌}
use native.Mathlib.Omega.{arith}
use borrow.Author.Tests.{eqb-true, eqb-false}
use lib.Dec.{eqb}
use Rattle.wire.specs.Bytes.{number}
use Rattle.wire.proofs.Cond.{no_eq, yes-eq}
use Rattle.table.specs.declared.Sections.{Sections}
use Rattle.table.specs.declared.Entry.{Entry}
use Rattle.table.specs.Layout.{value_place}
use Rattle.table.specs.Entries.{value_at}
use Rattle.leaf.specs.Choice.{other, other_at, among, among_at, choice}
use Rattle.walk.specs.declared.Place.{Place}
use Rattle.walk.specs.Tree.{leaf}
use Rattle.walk.specs.Runs.{code_in, many_in, values_in, place_in, taken_by, run_tree, runs_tree}
use Rattle.walk.specs.Walk.{Step, next, through, Codec, item, walk}
use Rattle.plan.specs.Layout.{run_word, leaf_run}
use Rattle.plan.proofs.Known.{all_equal}
use Rattle.plan.proofs.FlatWalk.{item_equal, in_turn}
use Rattle.plan.proofs.WhatIsMet.{LeafOk}
use Rattle.plan.proofs.Spread.{spread, spread-walk}

module _ (code values place : ℕ) (a : code < 256) (b : values < 65536) where
  pub code_of : code_in (run_word code values place) ≡ code
  unfolding run_word
  code_of = omega arith

  pub many-of : many_in (run_word code values place) ≡ 1
  unfolding run_word
  many-of = omega arith

  pub values_of : values_in (run_word code values place) ≡ values
  unfolding run_word
  values_of = omega arith

  pub place_of : place_in (run_word code values place) ≡ place
  unfolding run_word
  place_of = omega arith

-- an enum's values by where the first stands
pub among-at : (t : List ℕ) (s : Sections) (e : Entry) (v : ℕ) → among_at t (value_place s e.first) e.count v ≡ among t s e v
unfolding among_at among other_at other value_at
among-at t s e v = ap not (all_equal e.count (other_at t (value_place s e.first) v) (other t s e v) each)
  where
    each : (k : ℕ) → k < e.count → other_at t (value_place s e.first) v k ≡ other t s e v k
    each k l =
        let q : value_place s e.first + 8 * k ≡ value_place s (e.first + k) = omega arith in
        ap (λ (n : ℕ). not (eqb (number 3 t n) v)) q

-- one step
through_one : (n : ℕ) (f : Place → List ℕ → Step) (p : Place) (x : List ℕ) → n ≡ 1 → through n (λ k. f) p x ≡ f p x
unfolding through next
through_one n f p x h = ap (λ (m : ℕ). through m (λ k. f) p x) h

module _ (t : List ℕ) (s : Sections) (e : Entry) (few : s.values.count < 65536) (ok : LeafOk s e) where
  abbrev valuesAt : ℕ
  valuesAt = cond (eqb e.kind 1) (value_place s e.first) 0

  values-few : e.count < 65536
  values-few = omega (arith, ok.values)

  leaf-code : code_in (leaf_run s e) ≡ e.of
  unfolding leaf_run
  leaf-code = code_of e.of e.count valuesAt ok.code values-few

  pub leaf-many : many_in (leaf_run s e) ≡ 1
  unfolding leaf_run
  leaf-many = many-of e.of e.count valuesAt ok.code values-few

  leaf-values : values_in (leaf_run s e) ≡ e.count
  unfolding leaf_run
  leaf-values = values_of e.of e.count valuesAt ok.code values-few

  leaf-place : place_in (leaf_run s e) ≡ valuesAt
  unfolding leaf_run
  leaf-place = place_of e.of e.count valuesAt ok.code values-few

  chosen : (v : ℕ) → cond (eqb e.count 0) true (among_at t valuesAt e.count v) ≡ choice t s e v
  unfolding choice
  chosen v = go (eqb e.kind 1) refl
    where
      go : (b : Bool) → eqb e.kind 1 ≡ b → cond (eqb e.count 0) true (among_at t valuesAt e.count v) ≡ choice t s e v
      go true k =
          let l : 1 ≤ e.count = ok.own (eqb-true e.kind 1 k) in
          rw k (no_eq true (among_at t (value_place s e.first) e.count v) e.count 0 (λ z. omega arith) ∙ among-at t s e v)
      go false k = rw k (yes-eq true (among_at t 0 e.count v) e.count 0 (ok.all (eqb-false e.kind 1 k)))

  pub leaf-taken : (v : ℕ) → taken_by t (leaf_run s e) v ≡ choice t s e v
  unfolding taken_by
  leaf-taken v = rw (leaf-values, leaf-place) (chosen v)

  -- the walk over the one is that over the other
  pub leaf-walk : (c : Codec) (p : Place) (x : List ℕ) → walk c (leaf e.of (choice t s e)) p x ≡ in_turn c t (spread (leaf_run s e ∷ [])) p x
  unfolding walk runs_tree run_tree through next
  leaf-walk c p x =
      sym (
      sym (spread-walk c t (leaf_run s e ∷ []) p x)
      ∙ through_one (many_in (leaf_run s e)) (λ q y. item c 42 (code_in (leaf_run s e)) (taken_by t (leaf_run s e)) q y) p x leaf-many
      ∙ ap (λ (n : ℕ). item c 42 n (taken_by t (leaf_run s e)) p x) leaf-code
      ∙ item_equal c 42 e.of (taken_by t (leaf_run s e)) (choice t s e) leaf-taken p x)
