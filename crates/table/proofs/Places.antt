-- Laws of the sections' places: no place wraps, and what a section that was found says.
-- Assumes nothing.
use Prim.Native.Nat.{ℕ, ◌+◌, ◌*◌, ◌^◌, ◌≤◌, ◌<◌}
use Rattle.std.specs.Prelude.{Result, Ok, Err}
use Rattle.refusal.specs.declared.Refusal.{Refusal}
use Rattle.refusal.specs.declared.Refusal.TheVariants.{TableCount, TableLength}
use mathlib.Core.Path.{◌≡◌, refl, sym, ap, subst, ◌∙◌}
use mathlib.Core.Bool.{Bool, true, false, ◌&&◌, ◌||◌, cond}
use mathlib.Core.List.{List}
use native.Mathlib.Nat.{mul-le-mul, mul-le-mul_left}
use native.Mathlib.Omega.{arith}
use borrow.Author.Tests.{lt-ltb, le-ltb, eq-eqb, ne_eqb, ltb-false}
use lib.Dec.{ltb, leb}
use lib.ListN.{length}
use mir.Syntax.{w16, w32, w64}
use mir.Val.{Fits}
use Rattle.wire.specs.Bytes.{number}
use Rattle.wire.proofs.Cond.{neither}
use Rattle.table.specs.declared.Section.{Section}
use Rattle.table.specs.declared.Sections.{Sections}
use Rattle.table.specs.Layout.{type_width, member_width, value_width, operation_width, most_types}
use Rattle.table.specs.Layout.{most_members, most_values, most_operations}
use Rattle.table.specs.Layout.{section_at, section_end, operations_end, ended, lies_in, within}

-- a 16-bit width times a 32-bit index
product : (w i : ℕ) → Fits w16 w → Fits w32 i → w * i ≤ 65535 * 4294967295
product w i a b =
    let x : w ≤ 65535 = omega arith in
    let y : i ≤ 4294967295 = omega arith in
    mul-le-mul x y

pub product_fits : (w i : ℕ) → Fits w16 w → Fits w32 i → Fits w64 (w * i)
product_fits w i a b = record { fits = omega (arith, product w i a b) }

pub place_fits : (p w i : ℕ) → p < 2 ^ 16 → Fits w16 w → Fits w32 i → Fits w64 (p + w * i)
place_fits p w i h a b = record { fits = omega (arith, product w i a b) }

-- what reading a section finds, return by return
module _ (w least most : ℕ) (t : List ℕ) (p : ℕ) where
  pub cut-count : length t < p + 2 → Err TableLength ≡ section_at w least most t p
  unfolding section_at
  cut-count h = simp (lt-ltb (length t) (p + 2) h)

  module _ (n : ℕ) (there : p + 2 ≤ length t) (is : n ≡ number 1 t p) where
    pub outside : (ltb n least || ltb most n) ≡ true → Err TableCount ≡ section_at w least most t p
    unfolding section_at
    outside o = rw (le-ltb (length t) (p + 2) there, ← is, o) refl

    module _ (o : (ltb n least || ltb most n) ≡ false) (e : ℕ) (ends : e ≡ p + 2 + w * n) where
      pub cut-entries : length t < e → Err TableLength ≡ section_at w least most t p
      unfolding section_at
      cut-entries h = rw (le-ltb (length t) (p + 2) there, ← is, o, ← ends, lt-ltb (length t) e h) refl

      pub found : e ≤ length t → Ok (record { at = p + 2; count = n }) ≡ section_at w least most t p
      unfolding section_at
      found h = rw (le-ltb (length t) (p + 2) there, ← is, o, ← ends, le-ltb (length t) e h) refl

pub at_end : (t : List ℕ) (s : Sections) (e : ℕ) → e ≡ operations_end t s → e ≡ length t → Ok s ≡ ended t s
unfolding ended
at_end t s e is h = rw (← is, eq-eqb e (length t) h) refl

pub not_at_end : (t : List ℕ) (s : Sections) (e : ℕ) → e ≡ operations_end t s → (e ≡ length t → ⊥) → Err TableLength ≡ ended t s
unfolding ended
not_at_end t s e is h = rw (← is, ne_eqb e (length t) h) refl

-- a section that was found has as many entries as its limit allows, and ends within the bytes
pub record Holds (w most : ℕ) (t : List ℕ) (p : ℕ) (s : Section) : Type 0 where
  pub starts : s.at ≡ p + 2
  pub few : s.count ≤ most
  pub ends : section_end w s ≤ length t

-- a test that did not refuse
passed : (b : Bool) (n : Refusal) (y : Result Section Refusal) (s : Section) → cond b (Err n) y ≡ Ok s → (b ≡ false) × (y ≡ Ok s)
passed true n y s e = absurd (let z : ◌≡◌ {A = ℕ} 0 1 = cc in omega arith)
passed false n y s e = (refl, e)

pub holds : (w least most : ℕ) (t : List ℕ) (p : ℕ) (s : Section) → section_at w least most t p ≡ Ok s → Holds w most t p s
unfolding section_at
holds w least most t p s f =
    let n : ℕ = number 1 t p in
    let x : Section = record { at = p + 2; count = n } in
    let a = passed (ltb (length t) (p + 2)) TableLength
    (cond (ltb n least || ltb most n) (Err TableCount) (cond (ltb (length t) (p + 2 + w * n)) (Err TableLength) (Ok x))) s f in
    let b = passed (ltb n least || ltb most n) TableCount (cond (ltb (length t) (p + 2 + w * n)) (Err TableLength) (Ok x)) s a.1 in
    let d = passed (ltb (length t) (p + 2 + w * n)) TableLength (Ok x) s b.1 in
    let g : ◌≡◌ {A = Result Section Refusal} (Ok x) (Ok s) = d.1 in
    let q : x ≡ s = cc in
    record {
      starts = ap (λ (y : Section). y.at) (sym q);
      few = subst (λ (y : Section). y.count ≤ most) q (ltb-false most n (neither (ltb n least) (ltb most n) b.0).1);
      ends = subst (λ (y : Section). section_end w y ≤ length t) q (ltb-false (length t) (p + 2 + w * n) d.0);
    }

-- how far a section reaches that starts no further than b
pub reach : (w most b least : ℕ) (t : List ℕ) (p : ℕ) (s : Section) (r : Result Section Refusal) (q : ℕ) → r ≡ section_at w least most t p → r ≡ Ok s → p
    ≡ q → q ≤ b → section_end w s ≤ b + 2 + w * most
reach w most b least t p s r q is f e h =
    let k : Holds w most t p s = holds w least most t p s (sym is ∙ f) in
    omega (arith, k.starts, mul-le-mul_left w k.few)

pub reach_first : (w most least : ℕ) (t : List ℕ) (s : Section) (r : Result Section Refusal) → r ≡ section_at w least most t 0 → r ≡ Ok s
    → section_end w s ≤ 2 + w * most
reach_first w most least t s r is f = omega (arith, reach w most 0 least t 0 s r 0 is f refl (omega arith))

pub lies : (w most len : ℕ) (s : Section) (e : ℕ) → e ≡ section_end w s → (leb s.count most && leb e len) ≡ lies_in w most len s
unfolding lies_in
lies w most len s e is = rw is refl

-- the four sections one by one
pub all_lie : (t : List ℕ) (s : Sections) (a b c d : Bool) → a ≡ lies_in type_width most_types (length t) s.types → b
    ≡ lies_in member_width most_members (length t) s.members → c ≡ lies_in value_width most_values (length t) s.values → d
    ≡ lies_in operation_width most_operations (length t) s.operations → (a && b && c && d) ≡ within t s
unfolding within
all_lie t s a b c d p q r u = rw (p, q, r, u) refl
