-- A table that `check` accepts: what the walk's and the platform's proofs may count on.
-- Assumes nothing.
use Rattle.std.proofs.Common.{◌≡◌, ℕ, ◌+◌, ◌<◌, ◌≤◌, Bool, true, false, cond, eqb, ltb, leb, List, refl, ◌∙◌, subst, arith, ltb-true, lt-ltb, le-leb, leb-false, leb-true}
use Rattle.std.specs.Prelude.{Some, Result, Ok, Err}
use Rattle.refusal.specs.declared.Refusal.{Refusal}
use Rattle.refusal.specs.declared.Refusal.TheVariants.{TableEntry, TableSize}
use borrow.Author.Tests.{eqb-false, not-true}
use Rattle.table.specs.declared.Sections.{Sections}
use Rattle.table.specs.declared.Entry.{Entry}
use Rattle.wire.specs.All.{all_below}
use Rattle.table.specs.Leaf.{is_base, is_enum_base, allowed}
use Rattle.table.specs.Layout.{most_types, sections_of, within}
use Rattle.table.specs.Entries.{type_at, member_at, value_at}
use Rattle.table.specs.Fields.{base_fields, enum_fields, record_fields, element_fields, fields_ok}
use Rattle.types.specs.Rules.{member_ok, members_ok, pointed_ok, type_ok}
use Rattle.types.specs.Values.{value_of, value_ok, unlike, unlike_before, distinct, values_ok}
use Rattle.operations.specs.Rules.{ids_rise}
use Rattle.operations.proofs.Passing.{good-rise}
use Rattle.types.specs.Sizes.{most_bytes, largest, fits_in_size, bytes_up_to, largest_below, largest_of}
use Rattle.types.specs.Table.{operations_keep, entries_ok, sizes_ok, judged, judging, checked}
use Rattle.wire.proofs.Cond.{and_left, and_right}
use Rattle.wire.proofs.AllBelow.{at-below, all-below}
use Rattle.table.proofs.Fields.{three, base-entry, enum-entry, record-entry, fixed-entry, array-entry, no_entry}
use Rattle.types.proofs.TypeRules.{points-to-values, points-to-members}
use Rattle.table.proofs.Chain.{Chain, chain, finished, chain_within}

-- a table that `check` accepts
pub record Accepted (t : List ℕ) (s : Sections) : Type 0 where
  pub lie : Chain t s
  pub keep : entries_ok t s ≡ true
  pub fit : sizes_ok t s ≡ true

twice : (a b : Bool) (m n : Refusal) (x s : Sections) → cond a (cond b (Ok x) (Err m)) (Err n) ≡ Ok s → (a ≡ true) × ((b ≡ true) × (x ≡ s))
twice true b m n x s e = (refl, finished b m x s e)
twice false b m n x s e = absurd (let z : ◌≡◌ {A = ℕ} 0 1 = cc in omega arith)

pub accepted : (t : List ℕ) (s : Sections) → checked t ≡ Ok s → Accepted t s
unfolding checked judging judged
accepted t s e = go (sections_of t) refl e
  where
    go : (x : Result Sections Refusal) → sections_of t ≡ x → judging t x ≡ Ok s → Accepted t s
    go (Err n) p h = absurd (let z : ◌≡◌ {A = ℕ} 0 1 = cc in omega arith)
    go (Ok y) p h =
        let k = twice (entries_ok t y) (sizes_ok t y) TableSize TableEntry y s h in
        subst (Accepted t) {x = y} k.1.1 (record { lie = chain t y p; keep = k.0; fit = k.1.0 })

-- what an entry of each kind is known to be
pub record IsBase (e : Entry) : Type 0 where
  pub code : is_base e.of ≡ true

pub record IsEnum (t : List ℕ) (s : Sections) (e : Entry) : Type 0 where
  pub code : is_enum_base e.of ≡ true
  pub some : 1 ≤ e.count
  pub inside : e.first + e.count ≤ s.values.count
  pub values : (k : ℕ) → k < e.count → allowed e.of (value_at t s (e.first + k)) ≡ true
  pub differ : (j k : ℕ) → j < k → k < e.count → value_at t s (e.first + j) ≡ value_at t s (e.first + k) → ⊥

pub record IsRecord (t : List ℕ) (s : Sections) (i : ℕ) (e : Entry) : Type 0 where
  pub some : 1 ≤ e.count
  pub inside : e.first + e.count ≤ s.members.count
  pub smaller : (k : ℕ) → k < e.count → member_at t s (e.first + k) < i

pub record IsArray (i : ℕ) (e : Entry) : Type 0 where
  pub smaller : e.of < i
  pub some : 1 ≤ e.count

module _ (t : List ℕ) (s : Sections) (a : Accepted t s) where
  pub is_within : within t s ≡ true
  is_within = chain_within t s a.lie

  types-keep : all_below (type_ok t s) s.types.count ≡ true
  unfolding entries_ok
  types-keep = and_left (all_below (type_ok t s) s.types.count) (operations_keep t s) a.keep

  pub operations-keep : operations_keep t s ≡ true
  unfolding entries_ok
  operations-keep = and_right (all_below (type_ok t s) s.types.count) (operations_keep t s) a.keep

  module _ (i : ℕ) (h : i < s.types.count) where
    pub fields_keep : fields_ok s i (type_at t s i) ≡ true
    unfolding type_ok
    fields_keep = and_left (fields_ok s i (type_at t s i)) (pointed_ok t s i (type_at t s i)) (at-below (type_ok t s) s.types.count i types-keep h)

    pointed-keep : pointed_ok t s i (type_at t s i) ≡ true
    unfolding type_ok
    pointed-keep = and_right (fields_ok s i (type_at t s i)) (pointed_ok t s i (type_at t s i)) (at-below (type_ok t s) s.types.count i types-keep h)

    -- there are five kinds
    pub kind-known : (type_at t s i).kind ≤ 4
    kind-known = go (leb (type_at t s i).kind 4) refl
      where
        go : (b : Bool) → leb (type_at t s i).kind 4 ≡ b → (type_at t s i).kind ≤ 4
        go true p = leb-true (type_at t s i).kind 4 p
        go false p =
            let l : 4 < (type_at t s i).kind = leb-false (type_at t s i).kind 4 p in
            let n : false ≡ fields_ok s i (type_at t s i) = no_entry s i (type_at t s i) (omega arith) (omega arith) (omega arith) (omega arith) (omega arith) in
            absurd (let z : ◌≡◌ {A = ℕ} 0 1 = cc fields_keep in omega arith)

    pub base-is : (type_at t s i).kind ≡ 0 → IsBase (type_at t s i)
    base-is k =
        let x : Entry = type_at t s i in
        let f : base_fields x ≡ true = base-entry s i x (base_fields x) k refl ∙ fields_keep in
        record { code = (three (is_base x.of) (eqb x.first 0) (eqb x.count 0) f).0 }

    pub enum_is : (type_at t s i).kind ≡ 1 → IsEnum t s (type_at t s i)
    unfolding values_ok value_ok distinct unlike_before unlike
    enum_is k =
        let x : Entry = type_at t s i in
        let f : enum_fields s x ≡ true = enum-entry s i x (enum_fields s x) k refl ∙ fields_keep in
        let g = three (is_enum_base x.of) (leb 1 x.count) (leb (x.first + x.count) s.values.count) f in
        let v : values_ok t s x ≡ true = points-to-values t s i x (values_ok t s x) k refl ∙ pointed-keep in
        let ok : all_below (value_ok t s x) x.count ≡ true = and_left (all_below (value_ok t s x) x.count) (distinct t s x) v in
        let apart : distinct t s x ≡ true = and_right (all_below (value_ok t s x) x.count) (distinct t s x) v in
        record {
          code = g.0;
          some = leb-true 1 x.count g.1.0;
          inside = leb-true (x.first + x.count) s.values.count g.1.1;
          values = λ n l. at-below (value_ok t s x) x.count n ok l;
          differ = λ j n l m.
              eqb-false (value_at t s (x.first + j)) (value_at t s (x.first + n))
              (not-true (eqb (value_at t s (x.first + j)) (value_at t s (x.first + n)))
              (at-below (unlike t s x (value_of t s x n)) n j (at-below (unlike_before t s x) x.count n apart m) l));
        }

    pub record_is : (type_at t s i).kind ≡ 2 → IsRecord t s i (type_at t s i)
    unfolding members_ok member_ok
    record_is k =
        let x : Entry = type_at t s i in
        let f : record_fields s x ≡ true = record-entry s i x (record_fields s x) k refl ∙ fields_keep in
        let g = three (eqb x.of 0) (leb 1 x.count) (leb (x.first + x.count) s.members.count) f in
        let m : members_ok t s i x ≡ true = points-to-members t s i x (members_ok t s i x) k refl ∙ pointed-keep in
        record {
          some = leb-true 1 x.count g.1.0;
          inside = leb-true (x.first + x.count) s.members.count g.1.1;
          smaller = λ n l. ltb-true (member_at t s (x.first + n)) i (at-below (member_ok t s i x) x.count n m l);
        }

    elements : element_fields i (type_at t s i) ≡ true → IsArray i (type_at t s i)
    elements f =
        let x : Entry = type_at t s i in
        let g = three (ltb x.of i) (eqb x.first 0) (leb 1 x.count) f in
        record { smaller = ltb-true x.of i g.0; some = leb-true 1 x.count g.1.1 }

    pub fixed-is : (type_at t s i).kind ≡ 3 → IsArray i (type_at t s i)
    fixed-is k = elements (fixed-entry s i (type_at t s i) (element_fields i (type_at t s i)) k refl ∙ fields_keep)

    pub array-is : (type_at t s i).kind ≡ 4 → IsArray i (type_at t s i)
    array-is k = elements (array-entry s i (type_at t s i) (element_fields i (type_at t s i)) k refl ∙ fields_keep)

    -- no type is too large
    pub size_fits : largest t s i ≤ most_bytes
    unfolding sizes_ok fits_in_size
    size_fits = leb-true (largest t s i) most_bytes (at-below (fits_in_size t s) s.types.count i a.fit h)

    pub largest-is : largest_of t s i ≡ Some (largest t s i)
    unfolding largest_of largest_below bytes_up_to sizes_ok
    largest-is =
        let few : s.types.count ≤ most_types = a.lie.types.few in
        let b : all_below (fits_in_size t s) i ≡ true = all-below (fits_in_size t s) i (λ j l. at-below (fits_in_size t s) s.types.count j a.fit (omega arith)) in
        rw (lt-ltb i s.types.count h, lt-ltb i most_types (omega arith), b, le-leb (largest t s i) most_bytes size_fits) refl

  pub ids-rise : ids_rise t s.operations.at s.operations.count ≡ true
  ids-rise = good-rise t s.operations.at s.types.count s.operations.count operations-keep
