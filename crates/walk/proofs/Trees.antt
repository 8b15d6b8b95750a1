-- Laws of a type's tree: what a walk meets at an entry is the tree of the type there.
-- Assumes nothing.
use Prim.Native.Nat.{ℕ, zero, suc, ◌+◌, ◌*◌, ◌/◌, ◌%◌, ◌≤◌, ◌<◌}
use mathlib.Core.Path.{◌≡◌, refl, sym, ap, ◌∙◌}
use mathlib.Core.Bool.{Bool, true, false, cond, true≢false}
use mathlib.Core.Logic.{⊎_elim}
use mathlib.Core.List.{List, [], ◌∷◌}
use native.Mathlib.Nat.{eq-or-lt_of_le}
use native.Mathlib.Numerals.{add-one}
use native.Mathlib.Omega.{arith}
use borrow.Author.Tests.{ltb-true, ltb-false, leb-true, leb-false, ne_eqb}
use lib.Dec.{ltb, leb, eqb}
use lib.ListN.{length, get_or, length-append, get_or-eq_default, get_or-append}
use lib.Seq.{get_or_at}
use Rattle.wire.proofs.Cond.{yes-if, no-if, yes_lt, no_lt, yes_le, no_le, yes-eq, no_eq}
use Rattle.table.specs.declared.Sections.{Sections}
use Rattle.table.specs.declared.Entry.{Entry}
use Rattle.table.specs.Entries.{type_at}
use Rattle.table.specs.Fields.{fields_ok}
use Rattle.walk.specs.declared.Met.{Met}
use Rattle.walk.specs.declared.Met.TheVariants.{Leaf, Members, Elements, Broken}
use Rattle.walk.specs.Tree.{Tree, broken, by_kind, entry_in, met_in, look, meet, trees, tree, tree_of}
use Rattle.walk.specs.Planned.{is_planned, plan_tree, tree_by, trees_by, type_by, child_by}
use Rattle.walk.proofs.ByPlans.{trees-same, type-same}

-- by the kind
pub a_leaf : (e : Entry) → e.kind ≤ 1 → Leaf e ≡ by_kind e
unfolding by_kind
a_leaf e h = sym (yes_le (Leaf e) (cond (eqb e.kind 2) (Members e) (Elements e)) e.kind 1 h)

pub a_record : (e : Entry) → 1 < e.kind → e.kind ≡ 2 → Members e ≡ by_kind e
unfolding by_kind
a_record e h k = sym (no_le (Leaf e) (cond (eqb e.kind 2) (Members e) (Elements e)) e.kind 1 h ∙ yes-eq (Members e) (Elements e) e.kind 2 k)

pub an_array : (e : Entry) → 1 < e.kind → (e.kind ≡ 2 → ⊥) → Elements e ≡ by_kind e
unfolding by_kind
an_array e h k = sym (no_le (Leaf e) (cond (eqb e.kind 2) (Members e) (Elements e)) e.kind 1 h ∙ no_eq (Members e) (Elements e) e.kind 2 k)

-- an entry as one number
pub packed_in : (e : Entry) → e.kind < 65536 → e.of < 65536 → e.first < 65536 → e.count < 65536
    → entry_in (e.kind * 281474976710656 + e.of * 4294967296 + e.first * 65536 + e.count) ≡ e
unfolding entry_in
packed_in e a b c d = go e.kind e.of e.first e.count a b c d
  where
    go : (k o f n : ℕ) → k < 65536 → o < 65536 → f < 65536 → n < 65536
        → ◌≡◌ {A = Entry} (entry_in (k * 281474976710656 + o * 4294967296 + f * 65536 + n)) (record { kind = k; of = o; first = f; count = n })
    go k o f n a b c d =
        let w = k * 281474976710656 + o * 4294967296 + f * 65536 + n in
        let q0 : w / 281474976710656 ≡ k = omega arith in
        let q1 : w / 4294967296 % 65536 ≡ o = omega arith in
        let q2 : w / 65536 % 65536 ≡ f = omega arith in
        let q3 : w % 65536 ≡ n = omega arith in
        rw (q0, q1, q2, q3) refl

kind_few : (s : Sections) (i : ℕ) (e : Entry) → fields_ok s i e ≡ true → e.kind ≤ 4
unfolding fields_ok
kind_few s i e h = go (leb e.kind 4) refl
  where
    go : (b : Bool) → leb e.kind 4 ≡ b → e.kind ≤ 4
    go true t = leb-true e.kind 4 t
    go false t =
        let l : 4 < e.kind = leb-false e.kind 4 t in
        let f : fields_ok s i e ≡ false =
        rw (
          ne_eqb e.kind 0 (λ q. omega arith),
          ne_eqb e.kind 1 (λ q. omega arith),
          ne_eqb e.kind 2 (λ q. omega arith),
          ne_eqb e.kind 3 (λ q. omega arith),
          ne_eqb e.kind 4 (λ q. omega arith),
        ) refl in
        absurd (true≢false (sym h ∙ f))

pub met_good : (w : ℕ) → w / 281474976710656 ≤ 4 → {m : Met} → m ≡ by_kind (entry_in w) → m ≡ met_in w
unfolding met_in
met_good w h p = p ∙ sym (no_lt Broken (by_kind (entry_in w)) 4 (w / 281474976710656) h)

pub met_entry : (w : ℕ) (e : Entry) → w / 281474976710656 ≤ 4 → e ≡ entry_in w → {m : Met} → m ≡ by_kind e → m ≡ met_in w
met_entry w e h q p = met_good w h (p ∙ ap by_kind q)

pub met_none : (w : ℕ) → 4 < w / 281474976710656 → Broken ≡ met_in w
unfolding met_in
met_none w h = sym (yes_lt Broken (by_kind (entry_in w)) 4 (w / 281474976710656) h)

kind_of : (w : ℕ) (e : Entry) → entry_in w ≡ e → w / 281474976710656 ≡ e.kind
unfolding entry_in
kind_of w e r = ap (λ (x : Entry). x.kind) r

pub an_entry : (w : ℕ) → ◌≡◌ {A = Entry}
    (record { kind = w / 281474976710656; of = w / 4294967296 % 65536; first = w / 65536 % 65536; count = w % 65536 }) (entry_in w)
unfolding entry_in
an_entry w = refl

module _ (t : List ℕ) (s : Sections) where
  pub good-word : (i : ℕ) (e : Entry) (b : Bool) (w : ℕ) → e ≡ type_at t s i → b ≡ fields_ok s i e → b ≡ true → entry_in w ≡ e → met_in w ≡ look t s i
  unfolding look
  good-word i e b w h p q r =
      let l : e.kind ≤ 4 = kind_few s i e (sym p ∙ q) in
      let k : w / 281474976710656 ≡ e.kind = kind_of w e r in
      sym (met_good w (omega arith) refl) ∙ ap by_kind r ∙ rw (← h, ← p, q) refl

  pub no_word : (i : ℕ) (e : Entry) (b : Bool) → e ≡ type_at t s i → b ≡ fields_ok s i e → b ≡ false → met_in 18446744073709551615 ≡ look t s i
  unfolding look
  no_word i e b h p q = sym (met_none 18446744073709551615 (omega arith)) ∙ rw (← h, ← p, q) refl

  pub looked : (i : ℕ) (e : Entry) (b : Bool) (m : Met) → e ≡ type_at t s i → b ≡ fields_ok s i e → b ≡ true → m ≡ by_kind e → m ≡ look t s i
  unfolding look
  looked i e b m h p q r = r ∙ rw (← h, ← p, q) refl

  pub not-looked : (i : ℕ) (e : Entry) (b : Bool) → e ≡ type_at t s i → b ≡ fields_ok s i e → b ≡ false → Broken ≡ look t s i
  unfolding look
  not-looked i e b h p q = rw (← h, ← p, q) refl

  pub met : (i c : ℕ) (m : Met) → c < i → m ≡ look t s c → m ≡ meet t s i c
  unfolding meet
  met i c m h p = p ∙ sym (yes_lt (look t s c) Broken c i h)

  pub met-by-word : (i c : ℕ) (m : Met) (w : ℕ) → c < i → m ≡ met_in w → met_in w ≡ look t s c → m ≡ meet t s i c
  met-by-word i c m w h p q = met i c m h (p ∙ q)

  pub not-met : (i c : ℕ) → i ≤ c → Broken ≡ meet t s i c
  unfolding meet
  not-met i c h = sym (no_lt (look t s c) Broken c i h)

  -- the trees below n are those of the types below n
  module _ (ps : List ℕ) where
    length-trees : (n : ℕ) → length (trees_by ps t s n) ≡ n
    unfolding trees_by
    length-trees zero = refl
    length-trees (suc n) =
        length-append (trees_by ps t s n) (tree_by ps t s n (trees_by ps t s n) (look t s n) ∷ []) ∙ ap (λ (k : ℕ). k + 1) (length-trees n) ∙ add-one n

    pub known_by : (n c : ℕ) → c < n → get_or (trees_by ps t s n) c broken ≡ type_by ps t s c
    unfolding trees_by type_by
    known_by zero c h = absurd (omega arith)
    known_by (suc n) c h =
        let l : c ≤ n = omega arith in
        ⊎_elim
        (λ (e : c ≡ n). ap (λ (k : ℕ). get_or (trees_by ps t s (suc n)) k broken) e
        ∙ get_or_at (trees_by ps t s n) (type_by ps t s n) [] broken n (length-trees n)
        ∙ ap (type_by ps t s) (sym e))
        (λ (g : c < n). get_or-append (trees_by ps t s n) (type_by ps t s n ∷ []) broken c (omega (arith, length-trees n)) ∙ known_by n c g)
        (eq-or-lt_of_le l)

  pub known : (n c : ℕ) → c < n → get_or (trees t s n) c broken ≡ tree t s c
  known n c h = ap (λ (ts : List Tree). get_or ts c broken) (sym (trees-same t s n)) ∙ known_by [] n c h ∙ type-same t s c

  -- a type that was met from type i, whose number is n, has a smaller one
  met-smaller : (i c : ℕ) (m : Met) → m ≡ meet t s i c → (m ≡ Broken → ⊥) → c < i
  unfolding meet
  met-smaller i c m h d = go (ltb c i) refl
    where
      go : (b : Bool) → ltb c i ≡ b → c < i
      go true e = ltb-true c i e
      go false e = absurd (d (h ∙ no-if (look t s c) Broken e))

  module _ (i n c : ℕ) (is : i ≡ n) (m : Met) (e : Entry) (h : m ≡ meet t s i c) where
    pub members-smaller : m ≡ Members e → c < n
    members-smaller g = let l : c < i = met-smaller i c m h (λ b. let z : ◌≡◌ {A = ℕ} 0 1 = cc in omega arith) in omega (arith, is)

    pub elements-smaller : m ≡ Elements e → c < n
    elements-smaller g = let l : c < i = met-smaller i c m h (λ b. let z : ◌≡◌ {A = ℕ} 0 1 = cc in omega arith) in omega (arith, is)

-- a child by what was met there
pub child_met : (ps t : List ℕ) (s : Sections) (i c : ℕ) (m : Met) → m ≡ meet t s i c → child_by ps t s i c ≡ tree_by ps t s c (trees_by ps t s c) m
unfolding child_by meet type_by tree_by
child_met ps t s i c m h = go (ltb c i) refl ∙ ap (tree_by ps t s c (trees_by ps t s c)) (sym h)
  where
    go : (b : Bool) → ltb c i ≡ b → child_by ps t s i c ≡ tree_by ps t s c (trees_by ps t s c) (meet t s i c)
    go true e = known_by t s ps i c (ltb-true c i e) ∙ ap (tree_by ps t s c (trees_by ps t s c)) (sym (yes-if (look t s c) Broken e))
    go false e =
        get_or-eq_default (trees_by ps t s i) broken (omega (arith, length-trees t s ps i, ltb-false c i e))
        ∙ ap (tree_by ps t s c (trees_by ps t s c)) (sym (no-if (look t s c) Broken e))

-- a record or an array goes by its plan, where it has one
module _ (ps t : List ℕ) (s : Sections) (i c : ℕ) (m : Met) (e : Entry) (meets : m ≡ meet t s i c) where
  pub members-by : m ≡ Members e → is_planned ps c ≡ true → child_by ps t s i c ≡ plan_tree t ps c
  unfolding tree_by
  members-by h so =
      child_met ps t s i c m meets ∙ ap (tree_by ps t s c (trees_by ps t s c)) h
      ∙ yes-if (plan_tree t ps c) (tree_of t s (trees_by ps t s c) (Members e)) so

  pub elements-by : m ≡ Elements e → is_planned ps c ≡ true → child_by ps t s i c ≡ plan_tree t ps c
  unfolding tree_by
  elements-by h so =
      child_met ps t s i c m meets ∙ ap (tree_by ps t s c (trees_by ps t s c)) h
      ∙ yes-if (plan_tree t ps c) (tree_of t s (trees_by ps t s c) (Elements e)) so
