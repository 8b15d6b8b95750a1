-- Elements that are records of bases, read by the codes of their members.
-- Assumes nothing.
use Prim.Native.Nat.{ℕ, ◌+◌, ◌≤◌, ◌<◌}
use mathlib.Core.Path.{◌≡◌, refl, sym, ap, ◌∙◌}
use mathlib.Core.Bool.{Bool, true, false, cond}
use mathlib.Core.List.{List}
use native.Mathlib.Nat.{zero-add}
use native.Mathlib.Omega.{arith}
use borrow.Author.Tests.{eqb-false}
use lib.Dec.{ltb, leb, eqb}
use lib.ListN.{length, take}
use lib.Seq.{take-length}
use Rattle.wire.specs.Bytes.{over}
use Rattle.wire.proofs.Cond.{yes-if, no-if}
use Rattle.table.specs.declared.Sections.{Sections}
use Rattle.table.specs.declared.Entry.{Entry}
use Rattle.table.specs.Entries.{type_at}
use Rattle.table.specs.Fields.{fields_ok}
use Rattle.walk.specs.declared.Met.{Met}
use Rattle.walk.specs.declared.Met.TheVariants.{Leaf, Members, Elements, Broken}
use Rattle.walk.specs.declared.Place.{Place}
use Rattle.walk.specs.Tree.{by_kind, look, meet, tree_of}
use Rattle.walk.specs.Codes.{code_count, codes_of}
use Rattle.walk.specs.Planned.{plan_tree, tree_by, trees_by, child_by}
use Rattle.walk.specs.Walk.{Step, on, through, walk, Going}
use Rattle.walk.proofs.Trees.{child_met, members-by, elements-by}
use Rattle.walk.proofs.Walks.{through-none, through-more}
use Rattle.unpack_leaves.specs.Leaves.{ends, laid, there_count, whole_count}
use Rattle.unpack_leaves.specs.Steps.{ReadsCodes}
use Rattle.unpack_leaves.proofs.Counts.{length-laid}
use Rattle.unpack.specs.Reading.{Reading, tree_read, member_read, record_of, Alike, row_read, Coded}
use Rattle.unpack.proofs.ReadBases.{part_in, part-reading, part-goes}
use Rattle.unpack.proofs.ReadCodes.{codes-read, all-given}

pub coded_none : {b codes : List ℕ} {n : ℕ} {p : Place} {x : List ℕ} → Reading b p → Coded b codes n p x 0 p x
coded_none h = record { most = omega arith; here = h; as_long = refl; goes = λ f reads p₀ x₀ so_far. so_far }

-- one more, of which all leaves are there
module _ (b codes : List ℕ) (q : Place) (c e : ℕ) (counts : c ≡ there_count b codes q.from)
    (end : e ≡ ends (take (there_count b codes q.from) codes) q.from) (all : length codes ≤ c) where
  as_many : c ≡ length codes
  as_many = omega (arith, part_in b codes q.from c counts)

  pub coded-here : Reading b q → Reading b (record { from = e; to = q.to + length codes })
  coded-here h = rw (← as_many) (part-reading b codes q c e counts end h)

  whole_part : take c codes ≡ codes
  whole_part = ap (λ (k : ℕ). take k codes) as_many ∙ take-length codes

  one-coded : (y z : List ℕ) → z ≡ laid b (take (whole_count b codes q.from) codes) q y → (f : ℕ → Place → List ℕ → Step) → ReadsCodes b codes 0 f
      → through (length codes) f q y ≡ on (record { from = e; to = q.to + length codes }) z
  one-coded y z put f reads =
      ap (λ (k : ℕ). through k f q y) (sym (zero-add c ∙ as_many))
      ∙ part-goes b codes q c e counts end y z (put ∙ ap (λ (u : List ℕ). laid b (take (whole_count b u q.from) u) q y) (sym whole_part)) 0 f reads
      q y (through-none f q y)
      ∙ ap (λ (k : ℕ). on (record { from = e; to = q.to + k }) z) as_many

  pub coded-next : {n k : ℕ} {p : Place} {x y z : List ℕ} → Coded b codes n p x k q y → k < n
      → z ≡ laid b (take (whole_count b codes q.from) codes) q y → Coded b codes n p x (k + 1) (record { from = e; to = q.to + length codes }) z
  coded-next {n} {k} {p} {x} {y} {z} g less put =
      record {
        most = omega arith;
        here = coded-here g.here;
        as_long = ap length put ∙ length-laid b (take (whole_count b codes q.from) codes) q y ∙ g.as_long;
        goes = λ f reads p₀ x₀ so_far.
            through-more (row_read (length codes) f) p₀ x₀ k q y (g.goes f reads p₀ x₀ so_far) ∙ one-coded y z put f reads;
      }

-- what reads leaves of these codes, each time as many
pub coded_as : {b codes : List ℕ} {n : ℕ} {p : Place} {x : List ℕ} {k : ℕ} {q : Place} {y : List ℕ} → Coded b codes n p x k q y → (m : ℕ)
    (f : ℕ → Place → List ℕ → Step) → length codes ≡ m → ReadsCodes b codes 0 f → Going (Reading b) (row_read m f) n 0 p x k q y
coded_as {b} {codes} {n} {p} {x} {k} {q} {y} g m f all reads =
    record {
      onward = omega arith;
      most = g.most;
      here = g.here;
      as_long = g.as_long;
      goes = λ p₀ x₀ so_far.
          ap (λ (j : ℕ). through k (row_read j f) p₀ x₀) (sym all)
          ∙ g.goes f reads p₀ x₀ (ap (λ (j : ℕ). through 0 (row_read j f) p₀ x₀) all ∙ so_far);
    }

-- the codes of all members of a record
pub coded_going : (t : List ℕ) (s : Sections) (i : ℕ) (e : Entry) (r : ℕ) (u v : List ℕ) (counts : r ≡ code_count t s i e 0 (length u))
    (given : v ≡ over u 0 (codes_of t s i e 0 (length u))) (all : r ≡ e.count) (b ps : List ℕ) {n : ℕ} {p : Place} {x : List ℕ} {k : ℕ} {q : Place}
    {y : List ℕ} → Coded b (take r v) n p x k q y → Going (Reading b) (tree_read b (record_of ps t s i e)) n 0 p x k q y
unfolding walk
coded_going t s i e r u v counts given all b ps g =
    coded_as g e.count (member_read b ps t s i e) (all-given t s i e 0 r u v counts given ∙ all) (codes-read t s i e 0 r u v counts given b ps)

-- a record, and an array, that was met
by_kind_array : (x e : Entry) → by_kind x ≡ Elements e → e.kind ≡ 2 → ⊥
unfolding by_kind
by_kind_array x e h k = go (leb x.kind 1) (eqb x.kind 2) refl refl
  where
    go : (a b : Bool) → leb x.kind 1 ≡ a → eqb x.kind 2 ≡ b → ⊥
    go true b p q =
        let m : Leaf x ≡ Elements e = sym (yes-if (Leaf x) (cond (eqb x.kind 2) (Members x) (Elements x)) p) ∙ h in
        let z : ◌≡◌ {A = ℕ} 0 1 = cc in
        omega arith
    go false true p q =
        let m : Members x ≡ Elements e = sym (no-if (Leaf x) (cond (eqb x.kind 2) (Members x) (Elements x)) p ∙ yes-if (Members x) (Elements x) q) ∙ h in
        let z : ◌≡◌ {A = ℕ} 0 1 = cc in
        omega arith
    go false false p q =
        let m : Elements x ≡ Elements e = sym (no-if (Leaf x) (cond (eqb x.kind 2) (Members x) (Elements x)) p ∙ no-if (Members x) (Elements x) q) ∙ h in
        let i : x ≡ e = cc in
        eqb-false x.kind 2 q (ap (λ (o : Entry). o.kind) i ∙ k)

module _ (ps t : List ℕ) (s : Sections) (i c : ℕ) (m : Met) (e : Entry) (meets : m ≡ meet t s i c) where
  not-record : m ≡ Elements e → e.kind ≡ 2 → ⊥
  unfolding meet look
  not-record h k = go (ltb c i) (fields_ok s c (type_at t s c)) refl refl
    where
      go : (a b : Bool) → ltb c i ≡ a → fields_ok s c (type_at t s c) ≡ b → ⊥
      go true true p q =
          by_kind_array (type_at t s c) e (sym (yes-if (by_kind (type_at t s c)) Broken q) ∙ sym (yes-if (look t s c) Broken p) ∙ sym meets ∙ h) k
      go true false p q =
          let n : Broken ≡ Elements e = sym (no-if (by_kind (type_at t s c)) Broken q) ∙ sym (yes-if (look t s c) Broken p) ∙ sym meets ∙ h in
          let z : ◌≡◌ {A = ℕ} 0 1 = cc in
          omega arith
      go false b p q =
          let n : Broken ≡ Elements e = sym (no-if (look t s c) Broken p) ∙ sym meets ∙ h in
          let z : ◌≡◌ {A = ℕ} 0 1 = cc in
          omega arith

  pub alike-members : m ≡ Members e → Alike ps t s c e (child_by ps t s i c)
  unfolding tree_by tree_of child_by
  alike-members h =
      record {
        planned = members-by ps t s i c m e meets h;
        members = λ no kind.
            child_met ps t s i c m meets ∙ ap (tree_by ps t s c (trees_by ps t s c)) h
            ∙ no-if (plan_tree t ps c) (tree_of t s (trees_by ps t s c) (Members e)) no;
      }

  pub alike-elements : m ≡ Elements e → Alike ps t s c e (child_by ps t s i c)
  alike-elements h = record { planned = elements-by ps t s i c m e meets h; members = λ no kind. absurd (not-record h kind) }
