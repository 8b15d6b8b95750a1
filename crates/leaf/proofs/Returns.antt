-- What the returns of writing a leaf come to, and those of an enum's values.
-- Assumes nothing.
use Rattle.std.proofs.Common.{◌≡◌, ℕ, zero, suc, ◌+◌, ◌-◌, ◌*◌, ◌%◌, ◌^◌, ◌<◌, ◌≤◌, Bool, true, false, cond, not, ◌&&◌, eqb, leb, List, [], length, take, drop, sym, refl, ap, ◌∙◌, subst, ap₂, mod-eq_of_lt, arith, w64, Fits, eq-eqb, ne_eqb, leb-true}
use Rattle.wire.specs.Bytes.{span, number, whole, bytes, written, Octets}
use Rattle.wire.specs.LowFirst.{swapped}
use Rattle.wire.proofs.Cond.{yes-eq, no_eq, yes-if, no-if}
use Rattle.wire.proofs.Numbers.{number_lt, read_in}
use Rattle.wire.proofs.Runs.{over_none}
use Rattle.wire.proofs.Swaps.{swapped_eqb}
use Rattle.table.specs.declared.Sections.{Sections}
use Rattle.table.specs.declared.Entry.{Entry}
use Rattle.wire.specs.All.{all_below}
use Rattle.table.specs.Leaf.{width, allowed}
use Rattle.table.specs.Entries.{value_at}
use Rattle.leaf.specs.Forms.{truth, form_of}
use Rattle.leaf.proofs.Leaves.{Other, form_is, no_bytes}
use Rattle.leaf.specs.Choice.{other, other_at, among_at, among, choice, takes}

-- nothing written changes nothing
nothing : (s : List ℕ) (p : ℕ) → s ≡ written s p []
nothing s p = go (leb (p + 0) (length s)) refl
  where
    go : (b : Bool) → leb (p + 0) (length s) ≡ b → s ≡ written s p []
    go true e = rw e (over_none s p [])
    go false e = rw e refl

-- writing: the arm of 2 ^ k bytes
pub put_form : (k : ℕ) (s : List ℕ) (p x w n : ℕ) {e : List ℕ} → n ≡ width x → n ≡ 2 ^ k → e ≡ written s p (bytes k (w % span k)) → e ≡ written s p (form_of x w)
put_form k s p x w n h q r = r ∙ ap (written s p) (sym (form_is k x w (sym h ∙ q)))

pub put_whole : (s : List ℕ) (p x w n : ℕ) {e : List ℕ} → n ≡ width x → n ≡ 8 → Fits w64 w → e ≡ written s p (bytes 3 w) → e ≡ written s p (form_of x w)
put_whole s p x w n h q f r = put_form 3 s p x w n h q (r ∙ ap (λ (m : ℕ). written s p (bytes 3 m)) (sym (mod-eq_of_lt {n = w} {m = span 3} (omega arith))))

pub no_form : (s : List ℕ) (p x w n : ℕ) → n ≡ width x → (n ≡ 1 → ⊥) → (n ≡ 2 → ⊥) → (n ≡ 4 → ⊥) → (n ≡ 8 → ⊥) → s ≡ written s p (form_of x w)
no_form s p x w n h a b c d = nothing s p ∙ ap (written s p) (sym (no_bytes x w (subst Other h (a, b, c, d))))

pub is_false : (x : ℕ) → x ≡ 0 → 0 ≡ truth x
unfolding truth
is_false x h = sym (yes-eq 0 1 x 0 h)

pub is_true : (x : ℕ) → (x ≡ 0 → ⊥) → 1 ≡ truth x
unfolding truth
is_true x h = sym (no_eq 0 1 x 0 h)

-- values by their place: one that may not be there, and one that is there and is compared as it lies
module _ (t : List ℕ) (p w : ℕ) where
  pub compared-cut : (k v : ℕ) → v ≡ number 3 t (p + 8 * k) → not (eqb v w) ≡ other_at t p w k
  unfolding other_at
  compared-cut k v h = ap (λ (n : ℕ). not (eqb n w)) h

  pub compared-lying : (k v : ℕ) → Octets t → w < span 3 → p + 8 * k + 8 ≤ length t
      → v ≡ swapped 3 (whole 3 (take (p + 8 * k + 8 - (p + 8 * k)) (drop (p + 8 * k) t)) 0) → not (eqb v w) ≡ other_at t p (swapped 3 w) k
  unfolding other_at
  compared-lying k v o l i h =
      let q : ℕ = p + 8 * k in
      let e : whole 3 (take (q + 8 - q) (drop q t)) 0 ≡ number 3 t q = read_in 3 t q (whole 3 (take (q + 8 - q) (drop q t)) 0) i refl in
      ap not (ap (λ (n : ℕ). eqb n w) (h ∙ ap (swapped 3) e) ∙ swapped_eqb 3 (number 3 t q) w (number_lt 3 t q o) l)

  -- one of them is the word, or none is
  pub hit : (n : ℕ) → false ≡ all_below (other_at t p w) n → true ≡ among_at t p n w
  unfolding among_at
  hit n h = ap not h

  pub missed : (n : ℕ) → true ≡ all_below (other_at t p w) n → false ≡ among_at t p n w
  unfolding among_at
  missed n h = ap not h

  -- what a value adds to the number of those that are the word
  pub no_hit : (k : ℕ) (r : Bool) → r ≡ other_at t p w k → r ≡ true → ◌≡◌ {A = ℕ} 0 (cond (other_at t p w k) 0 1)
  no_hit k r e h = sym (yes-if 0 1 (sym e ∙ h))

  pub one_hit : (k : ℕ) (r : Bool) → r ≡ other_at t p w k → r ≡ false → ◌≡◌ {A = ℕ} 1 (cond (other_at t p w k) 0 1)
  one_hit k r e h = sym (no-if 0 1 (sym e ∙ h))

pub values_there : {r : Bool} (n m : ℕ) → r ≡ leb n m → r ≡ true → n ≤ m
values_there n m e t = leb-true n m (sym e ∙ t)

-- the values of an enum
module _ (t : List ℕ) (s : Sections) (e : Entry) (w : ℕ) where
  same-other : (k : ℕ) → other_at t (s.values.at + 8 * e.first) w k ≡ other t s e w k
  unfolding other other_at value_at
  same-other k = ap (λ (n : ℕ). not (eqb (number 3 t n) w)) (omega arith)

  all_same : (n : ℕ) → all_below (other_at t (s.values.at + 8 * e.first) w) n ≡ all_below (other t s e w) n
  unfolding all_below
  all_same zero = refl
  all_same (suc n) = ap₂ ◌&&◌ (all_same n) (same-other n)

  pub by_place : {r : Bool} → r ≡ among_at t (s.values.at + 8 * e.first) e.count w → r ≡ among t s e w
  unfolding among among_at
  by_place h = h ∙ ap not (all_same e.count)

module _ (t : List ℕ) (s : Sections) (e : Entry) (w : ℕ) {a : Bool} (p : a ≡ allowed e.of w) where
  pub outside : a ≡ false → false ≡ takes t s e w
  unfolding takes
  outside h = rw (← p, h) refl

  pub of-enum : {r : Bool} → a ≡ true → e.kind ≡ 1 → r ≡ among t s e w → r ≡ takes t s e w
  unfolding takes choice
  of-enum h k q = rw (← p, h, eq-eqb e.kind 1 k) q

  pub of-base : a ≡ true → (e.kind ≡ 1 → ⊥) → true ≡ takes t s e w
  unfolding takes choice
  of-base h k = rw (← p, h, ne_eqb e.kind 1 k) refl
