-- What the last value alike says: the values of an enum are distinct exactly if for none it is the enum's too.
-- Assumes nothing.
use Rattle.std.proofs.Common.{◌≡◌, ℕ, zero, suc, ◌+◌, ◌-◌, ◌<◌, ◌≤◌, Bool, true, false, not, ◌&&◌, eqb, leb, List, length, get_or, sym, refl, ap, ◌∙◌, subst, arith, take, drop, length-take, length-drop, get_or-take, get_or-drop, eq-eqb, ne_eqb, le-leb}
use borrow.Author.Tests.{lt-leb}
use Rattle.table.specs.declared.Sections.{Sections}
use Rattle.table.specs.declared.Entry.{Entry}
use Rattle.wire.specs.All.{all_below}
use Rattle.table.specs.Layout.{most_values}
use Rattle.table.specs.Entries.{type_at, value_at}
use Rattle.types.specs.Values.{value_of, unlike, unlike_before, distinct}
use Rattle.types.specs.Alike.{last_equal, last_alike, Alikes, unlike_in, values_apart, enum_apart, all_apart}
use Rattle.std.specs.List.{list_all}
use Rattle.types.proofs.AllOf.{all_of_list}
pub use Rattle.types.proofs.AllOf.{same_below}

-- looking for the last one alike from behind
module _ (t : List ℕ) (s : Sections) (k word : ℕ) (is : word ≡ value_at t s k) where
  pub from-behind : last_equal (value_at t s) word k ≡ last_alike t s k
  unfolding last_alike
  from-behind = rw is refl

  module _ (j v : ℕ) (so_far : last_equal (value_at t s) word j ≡ last_alike t s k) where
    pub none_left : j ≤ 0 → 0 ≡ last_alike t s k
    unfolding last_equal
    none_left h = let e : j ≡ 0 = omega arith in subst (λ (n : ℕ). last_equal (value_at t s) word n ≡ last_alike t s k) e so_far

    stepped : 0 < j → last_equal (value_at t s) word (suc (j - 1)) ≡ last_alike t s k
    stepped h = let e : j ≡ suc (j - 1) = omega arith in subst (λ (n : ℕ). last_equal (value_at t s) word n ≡ last_alike t s k) e so_far

    pub alike-here : 0 < j → v ≡ value_at t s (j - 1) → v ≡ word → j - 1 + 1 ≡ last_alike t s k
    unfolding last_equal
    alike-here h p q =
        let a : eqb (value_at t s (j - 1)) word ≡ true = eq-eqb (value_at t s (j - 1)) word (sym p ∙ q) in
        let e : j - 1 + 1 ≡ suc (j - 1) = omega arith in
        e ∙ rw a at (stepped h)

    pub not-here : 0 < j → v ≡ value_at t s (j - 1) → (v ≡ word → ⊥) → last_equal (value_at t s) word (j - 1) ≡ last_alike t s k
    unfolding last_equal
    not-here h p d = rw (ne_eqb (value_at t s (j - 1)) word (λ q. d (p ∙ q))) at (stepped h)

-- the last one alike stands before first exactly if none is alike from first on
last_le : (f : ℕ → ℕ) (word n : ℕ) → last_equal f word n ≤ n
unfolding last_equal
last_le f word zero = omega arith
last_le f word (suc n) = go (eqb (f n) word) refl (last_le f word n)
  where
    go : (b : Bool) → eqb (f n) word ≡ b → last_equal f word n ≤ n → last_equal f word (suc n) ≤ suc n
    go true p h = rw p (omega arith)
    go false p h = rw p (omega arith)

unlike_since : (f : ℕ → ℕ) (word first k : ℕ) → all_below (λ (j : ℕ). not (eqb (f (first + j)) word)) k ≡ leb (last_equal f word (first + k)) first
unfolding all_below last_equal
unlike_since f word first zero =
    let e : first + 0 ≡ first = omega arith in
    sym (le-leb (last_equal f word (first + 0)) first (omega (arith, last_le f word (first + 0))))
unlike_since f word first (suc k) =
    let e : first + suc k ≡ suc (first + k) = omega arith in
    rw e (go (eqb (f (first + k)) word) refl (all_below (λ (j : ℕ). not (eqb (f (first + j)) word)) k) (unlike_since f word first k))
  where
    go : (b : Bool) → eqb (f (first + k)) word ≡ b → (a : Bool) → a ≡ leb (last_equal f word (first + k)) first
        → (a && not (eqb (f (first + k)) word)) ≡ leb (last_equal f word (suc (first + k))) first
    go true p true h = rw p (sym (lt-leb (suc (first + k)) first (omega arith)))
    go true p false h = rw p (sym (lt-leb (suc (first + k)) first (omega arith)))
    go false p true h = rw p h
    go false p false h = rw p h

-- an enum's values, one after the other
pub room_distinct : (t : List ℕ) (s : Sections) (e : Entry) (room : List ℕ) → Alikes t s s.values.count room
    → e.first + e.count ≤ s.values.count → all_below (unlike_in room e.first) e.count ≡ distinct t s e
unfolding distinct unlike_in unlike_before unlike last_alike
room_distinct t s e room a h =
    same_below (unlike_in room e.first) (unlike_before t s e) e.count
    (λ k l. ap (λ (n : ℕ). leb n e.first) (a (e.first + k) (omega arith)) ∙ sym (unlike_since (value_at t s) (value_of t s e k) e.first k))

module _ (t : List ℕ) (s : Sections) (i : ℕ) (e : Entry) (is : e ≡ type_at t s i) where
  pub enum-compared : (room : List ℕ) (r : Bool) → e.kind ≡ 1 → e.first + e.count ≤ s.values.count → Alikes t s s.values.count room
      → r ≡ all_below (unlike_in room e.first) e.count → r ≡ enum_apart t s i
  unfolding enum_apart values_apart
  enum-compared room r k h a q = rw (← is, eq-eqb e.kind 1 k, le-leb (e.first + e.count) s.values.count h) (q ∙ room_distinct t s e room a h)

  pub enum-outside : e.kind ≡ 1 → s.values.count < e.first + e.count → false ≡ enum_apart t s i
  unfolding enum_apart values_apart
  enum-outside k h = rw (← is, eq-eqb e.kind 1 k, lt-leb (e.first + e.count) s.values.count h) refl

  pub no-enum : (e.kind ≡ 1 → ⊥) → true ≡ enum_apart t s i
  unfolding enum_apart
  no-enum d = rw (← is, ne_eqb e.kind 1 d) refl

-- a section that is no longer than it may be, or longer
module _ (t : List ℕ) (s : Sections) where
  pub few_values : {r : Bool} → s.values.count ≤ most_values → r ≡ all_below (enum_apart t s) s.types.count → r ≡ all_apart t s
  unfolding all_apart
  few_values h q = rw (le-leb s.values.count most_values h) q

  pub many-values : most_values < s.values.count → false ≡ all_apart t s
  unfolding all_apart
  many-values h = rw (lt-leb s.values.count most_values h) refl

-- the room's numbers from first on
pub unlike_part : (room : List ℕ) (first n : ℕ) → first + n ≤ length room
    → list_all (λ (x : ℕ). leb x first) (take (first + n - first) (drop first room)) ≡ all_below (unlike_in room first) n
unfolding unlike_in
unlike_part room first n h =
    let part : List ℕ = take (first + n - first) (drop first room) in
    let many : length part ≡ n = simp (length-take, length-drop) (omega arith) in
    all_of_list (λ (x : ℕ). leb x first) part
    ∙ ap (all_below (λ (k : ℕ). leb (get_or part k 0) first)) many
    ∙ same_below (λ (k : ℕ). leb (get_or part k 0) first) (λ (k : ℕ). leb (get_or room (first + k) 0) first) n
    (λ k l. ap (λ (x : ℕ). leb x first) (at_part k l))
  where
    at_part : (k : ℕ) → k < n → get_or (take (first + n - first) (drop first room)) k 0 ≡ get_or room (first + k) 0
    at_part k l = let m : k < first + n - first = omega arith in rw (get_or-take, get_or-drop) refl
