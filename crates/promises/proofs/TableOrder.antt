-- The order of checks for a type table.
-- Assumes nothing.
use Prim.Native.Nat.{ℕ, zero, suc, ◌+◌, ◌*◌, ◌≤◌, ◌<◌}
use Rattle.std.specs.Prelude.{Result, Ok}
use Rattle.refusal.specs.Refusal.{refused}
use Rattle.refusal.specs.declared.Refusal.{Refusal}
use mathlib.Core.Path.{◌≡◌, refl, sym, ap, subst, ◌∙◌}
use mathlib.Core.Bool.{Bool, true, false, not, cond, ◌&&◌, ◌||◌}
use mathlib.Core.Logic.{◌⊎◌, inl, inr, ⊎_elim}
use mathlib.Core.List.{List, [], ◌∷◌, ◌++◌}
use native.Mathlib.Omega.{arith}
use borrow.Author.Tests.{leb-false, leb-true, ltb-true, ltb-false, eqb-true, eqb-false}
use lib.Dec.{eqb, ltb}
use lib.ListN.{length}
use Rattle.table.specs.declared.Section.{Section}
use Rattle.table.specs.declared.Sections.{Sections}
use Rattle.wire.specs.All.{all_below}
use Rattle.table.specs.Layout.{type_width, member_width, value_width, operation_width, most_types, most_members, most_values}
use Rattle.table.specs.Layout.{most_operations, section_end, operations_end, counted, section_at, after, ended, after_values, after_members}
use Rattle.table.specs.Layout.{after_types, sections_of}
use Rattle.types.specs.Rules.{type_ok}
use Rattle.operations.specs.Entries.{op_place, op_width, width_of, kind_at}
use Rattle.operations.specs.Rules.{operation_ok, operations_ok}
use Rattle.operations.proofs.Places.{width-least, entry-within}
use Rattle.types.specs.Sizes.{most_bytes, largest, fits_in_size}
use Rattle.types.specs.Table.{entries_ok, sizes_ok, judged, judging, checked}
use Rattle.wire.proofs.AllBelow.{at-below}
use Rattle.promises.specs.Checks.{Check, ◌when◌, Answers, Outside, none, this, next, below, above}
use Rattle.promises.specs.Rules32.{operation_place, operation_kind}
use Rattle.promises.specs.TableOrder.{sections_in, section_checks, IsCutShort, a_request, table_end, BreaksARule, IsTooLarge, table_checks, TableInOrder}
use Rattle.promises.proofs.Checks.{Decides, lt_decides, eq_decides, or_decides, decides_same, by, unless, then, EachMade}
use Rattle.promises.proofs.OperationRules.{place_is, operation-decides}
use Rattle.promises.proofs.Rules32.{some_below, type-decides}

-- a count outside its limit
outside_decides : (lo hi x : ℕ) → Decides (ltb x lo || ltb hi x) (Outside lo hi x)
outside_decides lo hi x = decides_same (or_decides (ltb x lo) (ltb hi x) (lt_decides x lo) (lt_decides hi x)) there back
  where
    there : (x < lo) ⊎ (hi < x) → Outside lo hi x
    there (inl l) = below l
    there (inr l) = above l

    back : Outside lo hi x → (x < lo) ⊎ (hi < x)
    back (below l) = inl l
    back (above l) = inr l

-- a section, and what comes after it
module _ (width least most : ℕ) (t : List ℕ) (p : ℕ) (go_on : Section → Result Sections Refusal) where
  section-shape : after (section_at width least most t p) go_on
      ≡ cond (ltb (length t) (p + 2)) (refused 30)
      (cond (ltb (counted t p).count least || ltb most (counted t p).count) (refused 31)
      (cond (ltb (length t) (section_end width (counted t p))) (refused 30) (go_on (counted t p))))
  unfolding section_at after
  section-shape = go (ltb (length t) (p + 2)) refl (ltb (counted t p).count least || ltb most (counted t p).count) refl
      (ltb (length t) (section_end width (counted t p))) refl
    where
      go : (a : Bool) → ltb (length t) (p + 2) ≡ a → (b : Bool) → (ltb (counted t p).count least || ltb most (counted t p).count) ≡ b
          → (c : Bool) → ltb (length t) (section_end width (counted t p)) ≡ c → after (section_at width least most t p) go_on
          ≡ cond a (refused 30) (cond b (refused 31) (cond c (refused 30) (go_on (counted t p))))
      go true ea b eb c ec = rw ea
      go false ea true eb c ec = rw (ea, eb)
      go false ea false eb true ec = rw (ea, eb, ec)
      go false ea false eb false ec = rw (ea, eb, ec)

  section-in-order : (good : Result Sections Refusal) (rest : List Check) → Answers refused good rest (go_on (counted t p))
      → Answers refused good (section_checks width least most t p ++ rest) (after (section_at width least most t p) go_on)
  section-in-order good rest a =
      subst (Answers refused good (section_checks width least most t p ++ rest)) (sym section-shape)
      (by refused good (ltb (length t) (p + 2)) 30 (lt_decides (length t) (p + 2))
      (by refused good (ltb (counted t p).count least || ltb most (counted t p).count) 31 (outside_decides least most (counted t p).count)
      (by refused good (ltb (length t) (section_end width (counted t p))) 30 (lt_decides (length t) (section_end width (counted t p))) a)))

module _ (t : List ℕ) (s : Sections) where
  abbrev operation-ok : ℕ → Bool
  operation-ok = operation_ok t s.operations.at s.types.count

  entries-decide : Decides (not (entries_ok t s)) (BreaksARule t s)
  unfolding entries_ok operations_ok
  entries-decide = go (all_below (type_ok t s) s.types.count) refl (all_below operation-ok s.operations.count) refl
    where
      typed : (i : ℕ) × (i < s.types.count) × (type_ok t s i ≡ false) → BreaksARule t s
      typed r = BreaksARule.a_type r.0 r.1 ((type-decides t s r.0).no_is r.2)

      operated : (i : ℕ) × (i < s.operations.count) × (operation-ok i ≡ false) → BreaksARule t s
      operated r = BreaksARule.an_operation r.0 r.1 ((operation-decides t s r.0).no_is r.2)

      kept : all_below (type_ok t s) s.types.count ≡ true → all_below operation-ok s.operations.count ≡ true → ¬ (BreaksARule t s)
      kept a b (BreaksARule.a_type i l n) = n ((type-decides t s i).yes_is (at-below (type_ok t s) s.types.count i a l))
      kept a b (BreaksARule.an_operation i l n) = n ((operation-decides t s i).yes_is (at-below operation-ok s.operations.count i b l))

      go : (a : Bool) → all_below (type_ok t s) s.types.count ≡ a → (b : Bool) → all_below operation-ok s.operations.count ≡ b
          → Decides (not (a && b)) (BreaksARule t s)
      go false ea b eb = record
          { yes_is = λ q. typed (some_below (type_ok t s) s.types.count ea); no_is = λ q. let z : ◌≡◌ {A = ℕ} 0 1 = cc in absurd (omega arith) }
      go true ea false eb = record
          { yes_is = λ q. operated (some_below operation-ok s.operations.count eb); no_is = λ q. let z : ◌≡◌ {A = ℕ} 0 1 = cc in absurd (omega arith) }
      go true ea true eb = record { yes_is = λ q. let z : ◌≡◌ {A = ℕ} 0 1 = cc in absurd (omega arith); no_is = λ q. kept ea eb }

  sizes-decide : Decides (not (sizes_ok t s)) (IsTooLarge t s)
  unfolding sizes_ok fits_in_size
  sizes-decide = go (all_below (fits_in_size t s) s.types.count) refl
    where
      typed : (i : ℕ) × (i < s.types.count) × (fits_in_size t s i ≡ false) → IsTooLarge t s
      typed r = IsTooLarge.a_type r.0 r.1 (leb-false (largest t s r.0) most_bytes r.2)

      kept : all_below (fits_in_size t s) s.types.count ≡ true → ¬ (IsTooLarge t s)
      kept a (IsTooLarge.a_type i l m) = omega (arith, leb-true (largest t s i) most_bytes (at-below (fits_in_size t s) s.types.count i a l))

      go : (a : Bool) → all_below (fits_in_size t s) s.types.count ≡ a → Decides (not a) (IsTooLarge t s)
      go false ea = record {
        yes_is = λ q. typed (some_below (fits_in_size t s) s.types.count ea);
        no_is = λ q. let z : ◌≡◌ {A = ℕ} 0 1 = cc in absurd (omega arith);
      }
      go true ea = record { yes_is = λ q. let z : ◌≡◌ {A = ℕ} 0 1 = cc in absurd (omega arith); no_is = λ q. kept ea }

  judged-in-order : Answers refused (Ok s) (32 when BreaksARule t s ∷ 33 when IsTooLarge t s ∷ []) (judged t s)
  unfolding judged
  judged-in-order = unless refused (Ok s) (entries_ok t s) 32 entries-decide (unless refused (Ok s) (sizes_ok t s) 33 sizes-decide none)

-- the operations: an entry is cut short just where the last one ends past the bytes
module _ (t : List ℕ) (s : Sections) where
  -- the n-th entry ends past the bytes: it lacks some of its 8 or, where its kind is 2 or 3, 10
  cut-here : (n : ℕ) → n < s.operations.count → length t < op_place t s.operations.at n + op_width t (op_place t s.operations.at n) → IsCutShort t s
  unfolding op_width width_of kind_at
  cut-here n l h = go (eqb (operation_kind t s n) 2 || eqb (operation_kind t s n) 3) refl
    where
      asked : (eqb (operation_kind t s n) 2 || eqb (operation_kind t s n) 3) ≡ true → (operation_kind t s n ≡ 2) ⊎ (operation_kind t s n ≡ 3)
      asked = (or_decides (eqb (operation_kind t s n) 2) (eqb (operation_kind t s n) 3) (eq_decides (operation_kind t s n) 2)
          (eq_decides (operation_kind t s n) 3)).yes_is

      at : length t < operation_place t s n + op_width t (operation_place t s n)
      at = subst (λ (p : ℕ). length t < p + op_width t p) (place_is t s n) h

      go : (b : Bool) → (eqb (operation_kind t s n) 2 || eqb (operation_kind t s n) 3) ≡ b → IsCutShort t s
      go true e = a_request n l (asked e) (subst (λ (b : Bool). length t < operation_place t s n + cond b 10 8) e at)
      go false e = IsCutShort.an_operation n l (subst (λ (b : Bool). length t < operation_place t s n + cond b 10 8) e at)

  some-cut : s.operations.at ≤ length t → (n : ℕ) → n ≤ s.operations.count → length t < op_place t s.operations.at n → IsCutShort t s
  unfolding op_place
  some-cut a zero l h = absurd (omega arith)
  some-cut a (suc n) l h = go (λ c. some-cut a n (omega arith) c) (ltb (length t) (op_place t s.operations.at n)) refl
    where
      go : (length t < op_place t s.operations.at n → IsCutShort t s) → (b : Bool) → ltb (length t) (op_place t s.operations.at n) ≡ b → IsCutShort t s
      go before true e = before (ltb-true (length t) (op_place t s.operations.at n) e)
      go before false e = cut-here n (omega arith) h

  has-ten : (i : ℕ) → (operation_kind t s i ≡ 2) ⊎ (operation_kind t s i ≡ 3) → op_width t (operation_place t s i) ≡ 10
  unfolding op_width width_of kind_at
  has-ten i k = ⊎_elim (λ (e : operation_kind t s i ≡ 2). rw e refl) (λ (e : operation_kind t s i ≡ 3). rw e refl) k

  none-cut : operations_end t s ≤ length t → ¬ (IsCutShort t s)
  none-cut h (IsCutShort.an_operation i l c) =
      omega (arith, h, c, place_is t s i, width-least t (op_place t s.operations.at i), entry-within t s.operations.at i s.operations.count l)
  none-cut h (a_request i l k c) =
      let w : op_width t (op_place t s.operations.at i) ≡ 10 = ap (op_width t) (place_is t s i) ∙ has-ten i k in
      omega (arith, h, c, place_is t s i, entry-within t s.operations.at i s.operations.count l)

  -- they have 8 bytes or more each
  least : (n : ℕ) → s.operations.at + 8 * n ≤ op_place t s.operations.at n
  unfolding op_place
  least zero = omega arith
  least (suc n) = omega (arith, least n, width-least t (op_place t s.operations.at n))

  -- what is answered behind their count
  ended-in-order : s.operations.at ≤ length t
      → Answers refused (Ok s) (30 when IsCutShort t s ∷ 30 when (table_end t s < length t) ∷ [])
      (cond (ltb (length t) (section_end operation_width s.operations)) (refused 30) (ended t s))
  unfolding ended
  ended-in-order a =
      go (ltb (length t) (section_end operation_width s.operations)) refl (eqb (operations_end t s) (length t)) refl (ltb (length t) (operations_end t s)) refl
    where
      cut : length t < operations_end t s → IsCutShort t s
      cut h = some-cut a s.operations.count (omega arith) h

      go : (b : Bool) → ltb (length t) (section_end operation_width s.operations) ≡ b → (c : Bool) → eqb (operations_end t s) (length t) ≡ c
          → (d : Bool) → ltb (length t) (operations_end t s) ≡ d
          → Answers refused (Ok s) (30 when IsCutShort t s ∷ 30 when (table_end t s < length t) ∷ [])
          (cond b (refused 30) (cond c (Ok s) (refused 30)))
      go true eb c ec d ed =
          this (cut (omega (arith, ltb-true (length t) (section_end operation_width s.operations) eb, least s.operations.count)))
      go false eb true ec d ed =
          let e : operations_end t s ≡ length t = eqb-true (operations_end t s) (length t) ec in
          let whole : ¬ (table_end t s < length t) = λ (l : table_end t s < length t). omega (arith, e, place_is t s s.operations.count) in
          next (none-cut (omega arith)) (next whole none)
      go false eb false ec true ed = this (cut (ltb-true (length t) (operations_end t s) ed))
      go false eb false ec false ed =
          let l : operations_end t s ≤ length t = ltb-false (length t) (operations_end t s) ed in
          let n : ¬ (operations_end t s ≡ length t) = eqb-false (operations_end t s) (length t) ec in
          let over : table_end t s < length t = omega (arith, l, n, place_is t s s.operations.count) in
          next (none-cut l) (this over)

-- the section of the operations, whose count stands at p
abbrev operation_checks : List ℕ → ℕ → Sections → List Check
operation_checks t p s =
    30 when (length t < p + 2) ∷ 31 when (1024 < s.operations.count) ∷ 30 when IsCutShort t s ∷ 30 when (table_end t s < length t) ∷ []

operations_in_order : (t : List ℕ) (p : ℕ) (types members values : Section)
    → let s : Sections = record { types = types; members = members; values = values; operations = counted t p } in
    Answers refused (Ok s) (operation_checks t p s)
    (after (section_at operation_width 0 most_operations t p)
    (λ (o : Section). ended t (record { types = types; members = members; values = values; operations = o })))
operations_in_order t p types members values =
    subst (Answers refused (Ok s) (operation_checks t p s)) (sym (section-shape operation_width 0 most_operations t p end)) (go (ltb (length t) (p + 2)) refl)
  where
    s : Sections
    s = record { types = types; members = members; values = values; operations = counted t p }

    end : Section → Result Sections Refusal
    end o = ended t (record { types = types; members = members; values = values; operations = o })

    too_many : Decides (ltb (counted t p).count 0 || ltb most_operations (counted t p).count) (1024 < (counted t p).count)
    too_many =
        decides_same (outside_decides 0 most_operations (counted t p).count) there above
      where
        there : Outside 0 1024 (counted t p).count → 1024 < (counted t p).count
        there (below l) = absurd (omega arith)
        there (above l) = l

    go : (b : Bool) → ltb (length t) (p + 2) ≡ b → Answers refused (Ok s) (operation_checks t p s)
        (cond b (refused 30)
        (cond (ltb (counted t p).count 0 || ltb most_operations (counted t p).count) (refused 31)
        (cond (ltb (length t) (section_end operation_width (counted t p))) (refused 30) (end (counted t p)))))
    go true e = this (ltb-true (length t) (p + 2) e)
    go false e =
        let l : p + 2 ≤ length t = ltb-false (length t) (p + 2) e in
        next (λ (h : length t < p + 2). omega arith)
        (by refused (Ok s) (ltb (counted t p).count 0 || ltb most_operations (counted t p).count) 31 too_many (ended-in-order t s l))

-- the sections, before what is in them is looked at
abbrev layout_checks : List ℕ → List Check
layout_checks t =
    section_checks type_width 1 most_types t 0
    ++ (section_checks member_width 0 most_members t (section_end type_width (sections_in t).types)
    ++ (section_checks value_width 0 most_values t (section_end member_width (sections_in t).members)
    ++ operation_checks t (section_end value_width (sections_in t).values) (sections_in t)))

sections_in_order : (t : List ℕ) → Answers refused (Ok (sections_in t)) (layout_checks t) (sections_of t)
unfolding sections_of after_types after_members after_values
sections_in_order t =
    let good : Result Sections Refusal = Ok (sections_in t) in
    let s : Sections = sections_in t in
    section-in-order type_width 1 most_types t 0 (after_types t) good _
    (section-in-order member_width 0 most_members t (section_end type_width s.types) (after_members t s.types) good _
    (section-in-order value_width 0 most_values t (section_end member_width s.members) (after_values t s.types s.members) good _
    (operations_in_order t (section_end value_width s.values) s.types s.members s.values)))

pub table_in_order : TableInOrder
unfolding checked judging table_checks
table_in_order t =
    then refused (Ok (sections_in t)) refused (Ok (sections_in t)) (judging t) (λ n. refl) (sections_in_order t) (λ e. judged-in-order t (sections_in t))

-- what is made of a table's refusal, by its four numbers
pub table_made : {B : Type 0} (f : Result Sections Refusal → B) (made : ℕ → B) (t : List ℕ)
    → f (refused 30) ≡ made 30 → f (refused 31) ≡ made 31 → f (refused 32) ≡ made 32 → f (refused 33) ≡ made 33
    → EachMade refused made f (table_checks t)
unfolding table_checks
table_made f made t a b c d = (a, (b, (a, (a, (b, (a, (a, (b, (a, (a, (b, (a, (a, (c, (d, tt)))))))))))))))
