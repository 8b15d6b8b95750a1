-- A word that a leaf of a base code takes: what a run of such leaves comes to.
-- Assumes nothing.
use Prim.Native.Nat.{ℕ, zero, suc, ◌+◌, ◌-◌, ◌*◌, ◌^◌, ◌≤◌, ◌<◌}
use mathlib.Core.Path.{◌≡◌, refl, sym, ap, ◌∙◌}
use mathlib.Core.Bool.{true}
use mathlib.Core.List.{List, [], ◌∷◌}
use native.Mathlib.Omega.{arith}
use mir.Syntax.{w32, w64}
use mir.Val.{Fits}
use lib.Dec.{ltb}
use lib.ListN.{length, get_or, take, drop}
use lib.Seq.{length-take-le, take_all, take-take, take_at, get_or-take}
use Rattle.wire.specs.Bytes.{over}
use Rattle.wire.proofs.Cond.{both, yes-if}
use Rattle.table.specs.declared.Sections.{Sections}
use Rattle.table.specs.declared.Entry.{Entry}
use Rattle.table.specs.Entries.{member_at}
use Rattle.table.specs.Leaf.{allowed}
use Rattle.walk.specs.declared.Place.{Place}
use Rattle.walk.specs.Tree.{base_at}
use Rattle.walk.specs.Planned.{child_by}
use Rattle.walk.specs.Walk.{on, through, walk, Goes, Going}
use Rattle.walk.specs.Codes.{code_count, codes_of}
use Rattle.walk.proofs.Bases.{base_on}
use Rattle.walk.proofs.Codes.{length-codes, codes-fit, codes-as-long, code-member, code_is}
use Rattle.pack_leaves.specs.Stored.{is_there, behind, stored, taken_count, all_taken, ends, laid, WritesEach}
use Rattle.pack_leaves.proofs.Behind.{ends_near, ends_from, laid-length, laid-outside, count-codes, count-words, count-taken, written_over, fewer-written}
use Rattle.pack.specs.Writing.{writer, Writing, Writes, member_written}

-- a base among a record's members, and as an array's element
module _ (ws t : List ℕ) (s : Sections) (i c code : ℕ) (is : code ≡ base_at t s i c) (p : Place) (x : List ℕ) (there : is_there ws code p.from ≡ true) where
  pub base-writes : (ps : List ℕ) → walk (writer ws) (child_by ps t s i c) p x ≡ on (behind code p) (stored ws code p x)
  unfolding is_there writer
  base-writes ps =
      let h : (ltb p.from (length ws) ≡ true)
      × (allowed code (get_or ws p.from 0) ≡ true) = both (ltb p.from (length ws)) (allowed code (get_or ws p.from 0)) there in
      base_on t s i c (writer ws) ps code p x is h.0 h.1

-- the codes that were got of a record's members from the m-th on
module _ (ws t : List ℕ) (s : Sections) (i : ℕ) (e : Entry) (m r : ℕ) (u v : List ℕ) (counts : r ≡ code_count t s i e m (length u))
    (got : v ≡ over u 0 (codes_of t s i e m (length u))) where
  pub codes-in : r ≤ length v
  codes-in = omega (arith, codes-fit t s i e m r u counts, codes-as-long t s i e m r u counts v got)

  so-many : length (take r v) ≡ r
  so-many = length-take-le r v codes-in

  pub codes-end : m ≤ e.count → m + r ≤ e.count
  codes-end h = go r refl
    where
      go : (k : ℕ) → r ≡ k → m + r ≤ e.count
      go zero q = omega arith
      go (suc k) q = omega (arith, code-member t s i e m r u counts k (omega arith))

  pub codes-written : (ps : List ℕ) → WritesEach ws (take r v) m (member_written ws ps t s i e)
  codes-written ps k q y inside there =
      let l : k < r = omega (arith, so-many) in
      base-writes ws t s i (member_at t s (e.first + (m + k))) (get_or (take r v) k 0)
      (code_is t s i e m r u counts v got k (get_or (take r v) k 0) l (get_or-take r v k 0 l)) q y there ps

  -- the first j of them take their words, and have b bytes
  module _ (p : Place) (j b : ℕ) (many : j ≡ taken_count ws (take r v) p.from)
      (bytes : b ≡ ends (take (taken_count ws (take r v) p.from) (take r v)) 0) where
    abbrev count : ℕ
    count = taken_count ws (take r v) p.from

    abbrev taken : List ℕ
    taken = take count (take r v)

    few : (j ≤ r) × (p.from ≤ length ws → p.from + j ≤ length ws)
    few = (omega (arith, so-many, count-codes ws (take r v) p.from), λ h. omega (arith, count-words ws (take r v) p.from))

    as_many : length taken ≡ j
    as_many = length-take-le count (take r v) (count-codes ws (take r v) p.from) ∙ sym many

    pub taken_in : j ≤ length v
    taken_in = omega (arith, few.0, codes-in)

    taken-end : m ≤ e.count → m + j ≤ e.count
    taken-end h = omega (arith, few.0, codes-end h)

    module _ (l : e.count < 2 ^ 16) (h : m ≤ e.count) where
      pub count_fits : Fits w32 j
      count_fits = record { fits = omega (arith, taken-end h) }

      pub upto-fits : Fits w32 (m + j)
      upto-fits = record { fits = omega (arith, taken-end h) }

    module _ (so_far : Writing ws p) where
      pub writing-taken : Writing ws (record { from = p.from + j; to = p.to + b })
      writing-taken = (omega (arith, so_far.0, ends_near taken 0, as_many), few.1 so_far.1)

      pub from-fits : length ws * 8 < 2 ^ 63 → Fits w64 (p.from + j)
      from-fits l = record { fits = omega (arith, writing-taken.1) }

      pub to-fits : length ws * 8 < 2 ^ 63 → Fits w64 (p.to + b)
      to-fits l = record { fits = omega (arith, writing-taken.0, writing-taken.1) }

    -- and they were stored
    module _ (x y : List ℕ) (put : y ≡ laid ws (take (length ws - p.from) (take j v)) p x) where
      taken-long : length y ≡ length x
      taken-long = ap length put ∙ laid-length ws (take (length ws - p.from) (take j v)) p x

      all_there : take (length ws - p.from) (take j v) ≡ taken
      all_there =
          let a : take j v ≡ taken = ap (λ (n : ℕ). take n v) many ∙ sym (take-take count r v (omega (arith, many, few.0))) in
          ap (take (length ws - p.from)) a ∙ take_all (length ws - p.from) taken (omega (arith, as_many, many, count-words ws (take r v) p.from))

      taken-written : (ps : List ℕ) → Goes (member_written ws ps t s i e) m p x (m + j) (record { from = p.from + j; to = p.to + b }) y
      taken-written ps p₀ x₀ h =
          let f = member_written ws ps t s i e in
          let w : through (m + length taken) f p₀ x₀
          ≡ on (record { from = p.from + length taken; to = ends taken p.to }) (laid ws taken p x) = written_over ws taken m f
          (fewer-written ws (take r v) m f count (codes-written ps)) p (count-taken ws (take r v) p.from) x p₀ x₀ h in
          let o : ends taken p.to ≡ p.to + b = ends_from taken p.to ∙ ap (λ (n : ℕ). p.to + n) (sym bytes) in
          let q : laid ws taken p x ≡ y = sym (put ∙ ap (λ (cs : List ℕ). laid ws cs p x) all_there) in
          rw (as_many, o, q) at w

      pub taken-going : m ≤ e.count → Writing ws p → (ps : List ℕ)
          → Going (Writing ws) (member_written ws ps t s i e) e.count m p x (m + j) (record { from = p.from + j; to = p.to + b }) y
      taken-going h so_far ps =
          record { onward = omega arith; most = taken-end h; here = writing-taken so_far; as_long = taken-long; goes = taken-written ps }

-- all of them, where it is known that each takes its word
all_counted : (ws cs : List ℕ) (from : ℕ) → all_taken ws cs from ≡ true → taken_count ws cs from ≡ length cs
unfolding all_taken taken_count
all_counted ws [] from h = refl
all_counted ws (c ∷ cs) from h =
    let d : (is_there ws c from ≡ true) × (all_taken ws cs (from + 1) ≡ true) = both (is_there ws c from) (all_taken ws cs (from + 1)) h in
    yes-if (suc (taken_count ws cs (from + 1))) 0 d.0 ∙ ap suc (all_counted ws cs (from + 1) d.1)

module _ (ws t : List ℕ) (s : Sections) (i : ℕ) (e : Entry) (m r : ℕ) (u v : List ℕ) (counts : r ≡ code_count t s i e m (length u))
    (got : v ≡ over u 0 (codes_of t s i e m (length u))) (p : Place) (known : all_taken ws (codes_of t s i e m (length u)) p.from ≡ true) where
  codes-are : take r v ≡ codes_of t s i e m (length u)
  codes-are =
      ap (take r) got
      ∙ take_at (codes_of t s i e m (length u)) (drop (0 + length (codes_of t s i e m (length u))) u) r (length-codes t s i e m (length u) ∙ sym counts)

  so-many-taken : length (take r v) ≡ r
  so-many-taken = length-take-le r v (codes-in ws t s i e m r u v counts got)

  many-all : r ≡ taken_count ws (take r v) p.from
  many-all = sym (all_counted ws (take r v) p.from (ap (λ (cs : List ℕ). all_taken ws cs p.from) codes-are ∙ known) ∙ so-many-taken)

  bytes-all : ends (take r v) 0 ≡ ends (take (taken_count ws (take r v) p.from) (take r v)) 0
  bytes-all =
      ap (λ (cs : List ℕ). ends cs 0) (sym (take_all (taken_count ws (take r v) p.from) (take r v) (omega (arith, many-all, so-many-taken))))

  pub all_words : Writing ws p → p.from + length (take r v) ≤ length ws
  all_words h = omega (arith, h.1, so-many-taken, many-all, count-words ws (take r v) p.from)

  pub all-count-fits : e.count < 2 ^ 16 → m ≤ e.count → Fits w32 r
  all-count-fits = count_fits ws t s i e m r u v counts got p r (ends (take r v) 0) many-all bytes-all

  pub all-upto-fits : e.count < 2 ^ 16 → m ≤ e.count → Fits w32 (m + r)
  all-upto-fits = upto-fits ws t s i e m r u v counts got p r (ends (take r v) 0) many-all bytes-all

  pub all-from-fits : Writing ws p → length ws * 8 < 2 ^ 63 → Fits w64 (p.from + r)
  all-from-fits = from-fits ws t s i e m r u v counts got p r (ends (take r v) 0) many-all bytes-all

  pub all-going : (q : ℕ) (x y : List ℕ) → q ≡ ends (take r v) p.to → y ≡ laid ws (take r v) p x → m ≤ e.count → Writing ws p → (ps : List ℕ)
      → Going (Writing ws) (member_written ws ps t s i e) e.count m p x (m + r) (record { from = p.from + r; to = q }) y
  all-going q x y is put h so_far ps =
      let there : take (length ws - p.from) (take r v)
      ≡ take r v = take_all (length ws - p.from) (take r v) (omega (arith, all_words so_far)) in
      let g = taken-going ws t s i e m r u v counts got p r (ends (take r v) 0) many-all bytes-all x y
      (put ∙ ap (λ (cs : List ℕ). laid ws cs p x) (sym there)) h so_far ps in
      let o : p.to + ends (take r v) 0 ≡ q = sym (is ∙ ends_from (take r v) p.to) in
      rw o at g

-- where there is no room nothing is stored
pub none_laid : (ws cs : List ℕ) (p : Place) (x : List ℕ) → length x ≡ 0 → x ≡ laid ws cs p x
none_laid ws cs p x h = sym (laid-outside ws cs p x (omega arith))

pub element_writes : (ws ps t : List ℕ) (s : Sections) (i c code : ℕ) → code ≡ base_at t s i c
    → Writes ws code (λ k q y. walk (writer ws) (child_by ps t s i c) q y)
element_writes ws ps t s i c code is k q y there = base-writes ws t s i c code is q y there ps
