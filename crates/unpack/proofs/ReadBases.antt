-- A base that is met, and what the leaves of base codes come to in a walk.
-- Assumes nothing.
use Prim.Native.Nat.{ℕ, zero, suc, ◌+◌, ◌*◌, ◌^◌, ◌≤◌, ◌<◌}
use mathlib.Core.Path.{◌≡◌, refl, sym, ap, ◌∙◌}
use mathlib.Core.Bool.{Bool, true, false, cond}
use mathlib.Core.List.{List}
use native.Mathlib.Nat.{mul-le-mul_left, zero-mul, add-zero}
use native.Mathlib.Omega.{arith}
use mir.Syntax.{w32, w64}
use mir.Val.{Fits}
use lib.Dec.{leb}
use lib.ListN.{length, take}
use lib.Seq.{length-take-le}
use Rattle.wire.proofs.Cond.{both}
use Rattle.table.specs.declared.Sections.{Sections}
use Rattle.table.specs.Leaf.{width, allowed}
use Rattle.wire.proofs.AllBelow.{at-below}
use Rattle.leaf.specs.Forms.{word_at}
use Rattle.walk.specs.declared.Place.{Place}
use Rattle.walk.specs.Tree.{base_at}
use Rattle.walk.specs.Planned.{child_by}
use Rattle.walk.specs.Walk.{Step, on, through, walk, Goes, Going}
use Rattle.walk.proofs.Walks.{some_bytes}
use Rattle.walk.proofs.Bases.{base_on}
use Rattle.walk.proofs.Turns.{from_first}
use Rattle.unpack_leaves.specs.Leaves.{is_there, behind, stored, ends, all_there, laid, there_count, whole_count}
use Rattle.unpack_leaves.specs.OneCode.{along, is_good, filled, run_there}
use Rattle.unpack_leaves.specs.Steps.{Reads, ReadsCodes}
use Rattle.unpack_leaves.proofs.InTurn.{codes-on, fewer_read}
use Rattle.unpack_leaves.proofs.Counts.{there-few, there-all, there-ends, ends-far, laid-whole}
use Rattle.unpack_leaves.proofs.OneCode.{same-many}
use Rattle.unpack_leaves.proofs.WholeRuns.{run_room, run-good, run-walked}
use Rattle.unpack.specs.Reading.{reader, Reading}

-- a base that is met, among a record's members or as an array's element
module _ (b ps t : List ℕ) (s : Sections) (i c code : ℕ) (is : code ≡ base_at t s i c) (p : Place) (x : List ℕ) (there : is_there b code p.from ≡ true) where
  pub base-reads : walk (reader b) (child_by ps t s i c) p x ≡ on (behind code p) (stored b code p x)
  unfolding is_there reader
  base-reads =
      let h : (leb (p.from + width code) (length b) ≡ true)
      × (allowed code (word_at code b p.from) ≡ true) = both (leb (p.from + width code) (length b)) (allowed code (word_at code b p.from)) there in
      base_on t s i c (reader b) ps code p x is h.0 h.1

pub element_reads : (b ps t : List ℕ) (s : Sections) (i c code : ℕ) → code ≡ base_at t s i c → Reads b code (λ k q y. walk (reader b) (child_by ps t s i c) q y)
element_reads b ps t s i c code is k q y there = base-reads b ps t s i c code is q y there

-- the leaves of a list of codes, as they were judged and stored
module _ (b codes : List ℕ) (first c : ℕ) (counts : c ≡ there_count b codes first) where
  pub part_in : c ≤ length codes
  part_in = omega (arith, counts, there-few b codes first)

  pub part_length : c ≡ length (take c codes)
  part_length = sym (length-take-le c codes part_in)

  all-of-part : all_there b (take c codes) first ≡ true
  all-of-part = ap (λ (n : ℕ). all_there b (take n codes) first) counts ∙ there-all b codes first

  module _ (m : ℕ) (few : m + length codes ≤ 65535) where
    pub part_small : Fits w32 c
    part_small = record { fits = omega (arith, part_in) }

    pub upto-small : Fits w32 (m + c)
    upto-small = record { fits = omega (arith, part_in) }

    pub upto-most : m + c ≤ m + length codes
    upto-most = omega (arith, part_in)

module _ (b codes : List ℕ) (p : Place) (c e : ℕ) (counts : c ≡ there_count b codes p.from)
    (end : e ≡ ends (take (there_count b codes p.from) codes) p.from) where
  length_is : c ≡ length (take c codes)
  length_is = part_length b codes p.from c counts

  there : all_there b (take c codes) p.from ≡ true
  there = all-of-part b codes p.from c counts

  end-taken : e ≡ ends (take c codes) p.from
  end-taken = end ∙ ap (λ (n : ℕ). ends (take n codes) p.from) (sym counts)

  module _ (here : Reading b p) where
    pub part-reading : Reading b (record { from = e; to = p.to + c })
    part-reading =
        (omega (arith, here.0, end-taken, length_is, ends-far b (take c codes) p.from there), omega (arith, end, there-ends b codes p.from here.1))

    pub part-fits : length b * 1 < 2 ^ 63 → Fits w64 (p.to + c)
    part-fits few = record { fits = omega (arith, part-reading.0, part-reading.1) }

  module _ (x y : List ℕ) (put : y ≡ laid b (take (whole_count b (take c codes) p.from) (take c codes)) p x) where
    pub part-goes : (m : ℕ) (f : ℕ → Place → List ℕ → Step) → ReadsCodes b codes m f → Goes f m p x (m + c) (record { from = e; to = p.to + c }) y
    part-goes m f reads p₀ x₀ so_far =
        ap (λ (n : ℕ). through (m + n) f p₀ x₀) length_is
        ∙ codes-on b f p₀ x₀ (take c codes) m p x (fewer_read b codes m c f (part_in b codes p.from c counts) reads) there so_far
        ∙ ap (λ (n : ℕ). on (record { from = ends (take c codes) p.from; to = p.to + n }) (laid b (take c codes) p x)) (sym length_is)
        ∙ ap (λ (n : ℕ). on (record { from = n; to = p.to + c }) (laid b (take c codes) p x)) (sym end-taken)
        ∙ ap (on (record { from = e; to = p.to + c })) (sym (put ∙ laid-whole b (take c codes) p x there))

-- and the leaves of one code
module _ (b : List ℕ) (code : ℕ) (p : Place) (r : Bool) (here : Reading b p) where
  along-reading : (n : ℕ) → r ≡ run_there b code p.from n → r ≡ true → Reading b (along code p n)
  along-reading zero judged found = rw (zero-mul (width code), add-zero p.from, add-zero p.to) here
  along-reading (suc n) judged found =
      let good : is_good b code p.from 0
      ≡ true = at-below (is_good b code p.from) (suc n) 0 (run-good b code p.from (suc n) (sym judged ∙ found)) (omega arith) in
      let some : 1 ≤ width code = some_bytes code (word_at code b (p.from + 0 * width code)) good in
      let much : suc n * 1 ≤ suc n * width code = mul-le-mul_left (suc n) some in
      (omega (arith, here.0), run_room b code p.from (suc n) (sym judged ∙ found))

  module _ (n w : ℕ) (is : w ≡ width code) (judged : r ≡ run_there b code p.from n) (found : r ≡ true) where
    run-reading : Reading b (record { from = p.from + n * w; to = p.to + n })
    run-reading = rw is (along-reading n judged found)

    pub run-from-fits : length b * 1 < 2 ^ 63 → Fits w64 (p.from + n * w)
    run-from-fits few = record { fits = omega (arith, run-reading.1) }

pub run_many : (b : List ℕ) (code n : ℕ) (p : Place) (x y : List ℕ) → y
    ≡ cond (leb (p.from + n * width code) (length b)) (filled b code p n x) x → length y ≡ length x
run_many b code n p x y put = go (leb (p.from + n * width code) (length b)) put
  where
    go : (t : Bool) → y ≡ cond t (filled b code p n x) x → length y ≡ length x
    go true e = same-many b code p x n y e
    go false e = ap length e

pub run_going : (b : List ℕ) (code : ℕ) (p : Place) (r : Bool) (here : Reading b p) (n w : ℕ) (is : w ≡ width code)
    (judged : r ≡ run_there b code p.from n) (found : r ≡ true) (x y : List ℕ)
    → y ≡ cond (leb (p.from + n * width code) (length b)) (filled b code p n x) x → (f : ℕ → Place → List ℕ → Step) → Reads b code f
    → Going (Reading b) f n 0 p x n (record { from = p.from + n * w; to = p.to + n }) y
run_going b code p r here n w is judged found x y put f reads =
    from_first
    (omega arith)
    (run-reading b code p r here n w is judged found)
    (run_many b code n p x y put)
    (run-walked b code n p x y (sym judged ∙ found) put f reads ∙ rw is refl)
