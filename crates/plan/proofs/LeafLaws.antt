-- Laws of how many leaves the types have: what the returns come to, that nothing wraps, and what filling the room does.
-- Assumes nothing.
use Prim.Native.Nat.{ℕ, ◌+◌, ◌*◌, ◌≤◌, ◌<◌}
use Rattle.std.specs.Prelude.{Ok}
use Rattle.refusal.specs.Refusal.{refused}
use mathlib.Core.Path.{◌≡◌, refl, sym, ap, subst, ◌∙◌}
use mathlib.Core.Bool.{Bool, true, false}
use mathlib.Core.List.{List, [], ◌∷◌, ◌++◌}
use native.Mathlib.Nat.{mul-le-mul}
use native.Mathlib.Numerals.{add-one}
use native.Mathlib.Omega.{arith}
use borrow.Author.Tests.{leb-true, lt-ltb, le-ltb}
use mir.Syntax.{w16, w64}
use mir.Val.{Fits}
use lib.ListN.{length, get_or, set, take, get_or-eq_default}
use lib.Seq.{take-suc-set}
use Rattle.table.specs.declared.Sections.{Sections}
use Rattle.table.specs.declared.Entry.{Entry}
use Rattle.wire.specs.All.{all_below}
use Rattle.table.specs.Layout.{most_types, within, lies_in}
use Rattle.table.specs.Entries.{member_at}
use Rattle.walk.specs.declared.Met.{Met}
use Rattle.walk.specs.declared.Met.TheVariants.{Leaf, Members, Elements, Broken}
use Rattle.walk.specs.Tree.{look}
use Rattle.plan.specs.Leaves.{sum_below, capped, row_leaves, leaves_met, leaf_counts, leaves}
use Rattle.plan.specs.Members.{listed, member_leaves, has_leaves}
use Rattle.plan.specs.Layout.{plans_length, length_in}
use Rattle.wire.proofs.Cond.{yes_le, no_le, yes-if, no-if, yes-eq, no_eq, and_left}
use Rattle.wire.proofs.AllBelow.{next-below, stop-below}
use Rattle.plan.proofs.Known.{length-made, sum_equal}
use Rattle.plan.proofs.FlatTypes.{leaves-known}

pub times_fits : (n z : ℕ) → Fits w16 n → Fits w16 z → Fits w64 (n * z)
times_fits n z a b =
    let x : n ≤ 65535 = omega arith in
    let y : z ≤ 65535 = omega arith in
    record { fits = omega (arith, mul-le-mul x y) }

pub few : (n : ℕ) → n ≤ 512 → n ≡ capped n
unfolding capped
few n h = sym (yes_le n 0 n 512 h)

pub many : (n : ℕ) → 512 < n → 0 ≡ capped n
unfolding capped
many n h = sym (no_le n 0 n 512 h)

pub not_known : (l : List ℕ) (i : ℕ) → length l ≤ i → 0 ≡ get_or l i 0
not_known l i h = sym (get_or-eq_default l 0 h)

-- sums of what comes before a place
module _ (f : ℕ → ℕ) where
  pub sum-none : 0 ≡ sum_below f 0
  unfolding sum_below
  sum-none = refl

  pub sum_more : (k total : ℕ) → total ≡ sum_below f k → total + f k ≡ sum_below f (k + 1)
  unfolding sum_below
  sum_more k total h = rw (add-one k, ← h) refl

  pub sum_done : (k n total : ℕ) → total ≡ sum_below f k → k ≤ n → n ≤ k → total ≡ sum_below f n
  sum_done k n total h a b = h ∙ ap (sum_below f) (omega arith)

-- a record's members one by one
module _ (t : List ℕ) (s : Sections) (known : List ℕ) (first : ℕ) where
  module _ (k m z : ℕ) (member : m ≡ member_at t s (first + k)) (leaves : z ≡ get_or known m 0) where
    its-leaves : z ≡ member_leaves t s known first k
    unfolding member_leaves
    its-leaves = leaves ∙ ap (λ (i : ℕ). get_or known i 0) member

    pub row_more : (total : ℕ) → total ≡ sum_below (member_leaves t s known first) k → total + z ≡ sum_below (member_leaves t s known first) (k + 1)
    row_more total h = ap (λ (n : ℕ). total + n) its-leaves ∙ sum_more (member_leaves t s known first) k total h

    pub row-some : all_below (has_leaves (member_leaves t s known first)) k ≡ true → (z ≡ 0 → ⊥)
        → all_below (has_leaves (member_leaves t s known first)) (k + 1) ≡ true
    row-some a h =
        next-below (has_leaves (member_leaves t s known first)) k true a (sym (lt-ltb 0 _ (subst (λ (n : ℕ). 0 < n) its-leaves (omega arith)))) refl

    pub row-stop : (n : ℕ) → z ≡ 0 → k < n → 0 ≡ row_leaves (member_leaves t s known first) n
    unfolding row_leaves
    row-stop n h l =
        sym (no-if _ 0
        (sym (stop-below (has_leaves (member_leaves t s known first)) n k false
        (sym (le-ltb 0 _ (subst (λ (n : ℕ). n ≤ 0) its-leaves (omega arith)))) refl l)))

  pub row_done : (k n total r : ℕ) → total ≡ sum_below (member_leaves t s known first) k
      → all_below (has_leaves (member_leaves t s known first)) k ≡ true → k ≤ n → n ≤ k → r ≡ capped total
      → r ≡ row_leaves (member_leaves t s known first) n
  unfolding row_leaves
  row_done k n total r h a l m e =
      let i : k ≡ n = omega arith in
      e ∙ ap capped (h ∙ ap (sum_below (member_leaves t s known first)) i)
      ∙ sym (yes-if _ 0 (subst (λ (n : ℕ). all_below (has_leaves (member_leaves t s known first)) n ≡ true) i a))

-- by what was met
module _ (t : List ℕ) (s : Sections) (known : List ℕ) (m : Met) where
  pub met-leaf : (e : Entry) → m ≡ Leaf e → 1 ≡ leaves_met t s (listed known) m
  unfolding leaves_met listed
  met-leaf e h = rw h refl

  pub met-members : (e : Entry) (r : ℕ) → m ≡ Members e → r ≡ row_leaves (member_leaves t s known e.first) e.count
      → r ≡ leaves_met t s (listed known) m
  unfolding leaves_met listed member_leaves
  met-members e r h q = rw h q

  pub met-fixed : (e : Entry) (z p r : ℕ) → m ≡ Elements e → e.kind ≡ 3 → z ≡ get_or known e.of 0 → p ≡ e.count * z → r ≡ capped p
      → r ≡ leaves_met t s (listed known) m
  unfolding leaves_met listed
  met-fixed e z p r h k a b q =
      rw h (q ∙ ap capped (b ∙ ap (λ (n : ℕ). e.count * n) a) ∙ sym (yes-eq _ 0 e.kind 3 k))

  pub met-array : (e : Entry) → m ≡ Elements e → (e.kind ≡ 3 → ⊥) → 0 ≡ leaves_met t s (listed known) m
  unfolding leaves_met listed
  met-array e h k = rw h (sym (no_eq _ 0 e.kind 3 k))

  pub met-broken : m ≡ Broken → 0 ≡ leaves_met t s (listed known) m
  unfolding leaves_met listed
  met-broken h = rw h refl

-- filling the room: what it holds below i is the leaves of the types below i
module _ (t : List ℕ) (s : Sections) where
  pub fill_none : (room : List ℕ) → take 0 room ≡ leaf_counts t s 0
  unfolding leaf_counts
  fill_none room = refl

  pub fill_more : (room : List ℕ) (i n z : ℕ) (m : Met) (before : List ℕ) → take i room ≡ leaf_counts t s i → m ≡ look t s i
      → z ≡ leaves_met t s (listed (take i room)) m → length room ≡ length before → n ≤ length before → i < n
      → take (i + 1) (set room i z) ≡ leaf_counts t s (i + 1)
  unfolding leaf_counts listed
  fill_more room i n z m before so_far here is l b h =
      ap (λ (n : ℕ). take n (set room i z)) (add-one i) ∙ take-suc-set room i z (omega arith)
      ∙ ap (λ (l : List ℕ). l ++ (z ∷ [])) so_far
      ∙ rw (add-one i, is, so_far, here) refl

  pub filled : (room : List ℕ) (i n : ℕ) → take i room ≡ leaf_counts t s i → i ≤ n → n ≤ i → take n room ≡ leaf_counts t s n
  filled room i n h a b = let e : i ≡ n = omega arith in subst (λ (k : ℕ). take k room ≡ leaf_counts t s k) e h

-- those below n are the leaves of each
module _ (t : List ℕ) (s : Sections) where
  pub length-counts : (n : ℕ) → length (leaf_counts t s n) ≡ n
  unfolding leaf_counts leaves
  length-counts = length-made (leaf_counts t s) (leaves t s) refl (λ n. refl)

  pub all_counted : (room : List ℕ) (n total : ℕ) → take n room ≡ leaf_counts t s n
      → total ≡ sum_below (λ k. get_or (take n room) k 0) (length (take n room)) → total ≡ sum_below (leaves t s) n
  all_counted room n total f h =
      h ∙ ap (λ (l : List ℕ). sum_below (λ k. get_or l k 0) (length l)) f ∙ ap (sum_below (λ k. get_or (leaf_counts t s n) k 0)) (length-counts n)
      ∙ sum_equal n (λ k. get_or (leaf_counts t s n) k 0) (leaves t s) (leaves-known t s n)

  pub in_all : (room : List ℕ) (total : ℕ) → take s.types.count room ≡ leaf_counts t s s.types.count
      → total ≡ sum_below (λ k. get_or (take s.types.count room) k 0) (length (take s.types.count room))
      → 1 + s.types.count + total ≡ plans_length t s
  unfolding plans_length
  in_all room total f h = ap (λ (n : ℕ). 1 + s.types.count + n) (all_counted room s.types.count total f h)

  pub few_types : (b : Bool) → b ≡ within t s → b ≡ true → s.types.count ≤ most_types
  unfolding within lies_in
  few_types b e h =
      leb-true _ _ (and_left _ _ (and_left _ _ (and_left _ _ (and_left _ _ (sym e ∙ h)))))

  pub length_is : (b : Bool) (n : ℕ) → b ≡ within t s → b ≡ true → n ≡ plans_length t s → Ok n ≡ length_in t s
  unfolding length_in
  length_is b n e h q = rw (← e, h, q) refl

  pub no_length : (b : Bool) → b ≡ within t s → b ≡ false → refused 30 ≡ length_in t s
  unfolding length_in
  no_length b e h = rw (← e, h) refl
