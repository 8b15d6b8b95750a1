-- Wrong checks: each differs from ours on a small table, computed.
-- Assumes nothing.
use Prim.Native.Nat.{ℕ, ◌≤◌}
use Rattle.refusal.specs.Refusal.{number_of, numbered, refused}
use Rattle.std.specs.Prelude.{Result, Ok, Err}
use Rattle.refusal.specs.declared.Refusal.{Refusal}
use mathlib.Core.Path.{◌≡◌, refl, sym, ap, ◌∙◌}
use mathlib.Core.Bool.{Bool, false, cond}
use mathlib.Core.List.{List, [], ◌∷◌}
use native.Mathlib.Omega.{arith}
use Rattle.table.specs.declared.Sections.{Sections}
use Rattle.wire.specs.All.{all_below}
use Rattle.table.specs.Layout.{section_at, after, ended, after_values, after_members, after_types, sections_of}
use Rattle.table.specs.Entries.{type_at}
use Rattle.table.specs.Fields.{fields_ok}
use Rattle.operations.specs.Entries.{op_place}
use Rattle.types.specs.Rules.{pointed_ok, type_ok}
use Rattle.types.specs.Table.{entries_ok, judged, judging, checked}
use Rattle.promises.specs.Numbers.{whole_table, four_kinds}
use Rattle.promises.specs.TableOrder.{sections_in, table_checks, TableInOrderBy}
use Rattle.promises.specs.WrongChecks.{only_where, stricter, no_record, eight_each, no_request, requests_typed, nothing_judged, all_refused, NoWrongCheck}
use Rattle.promises.proofs.Numbers.{numbers}
use Rattle.promises.proofs.TableOrder.{table_in_order}
use Rattle.promises.proofs.Demand1.{demand_1}

only_ours : (C : List ℕ → Result Sections Refusal) → TableInOrderBy C → (t : List ℕ) → C t ≡ checked t
only_ours C f t = demand_1.one_answer refused (Ok (sections_in t)) (table_checks t) (C t) (checked t) (f t) (table_in_order t)

abbrev refusal : Result Sections Refusal → ℕ
refusal (Err e) = number_of e
refusal (Ok s) = 0

-- 01's table, and the one with operations of four kinds, are accepted
accepted : refusal (checked whole_table) ≡ 0
accepted = ap refusal numbers.0.accepted

-- a table that is accepted, and does not pass the further test
stricter_differs : (n : ℕ) (ok : List ℕ → Sections → Bool) (t : List ℕ) (s : Sections) → checked t ≡ Ok s → ok t s ≡ false → 1 ≤ number_of (numbered n)
    → TableInOrderBy (stricter n ok) → ⊥
stricter_differs n ok t s a e l f =
    let here : stricter n ok t ≡ refused n = ap (only_where n ok t) a ∙ ap (λ (b : Bool). cond b (Ok s) (refused n)) e in
    let both : number_of (numbered n) ≡ 0 = ap refusal (sym here ∙ only_ours (stricter n ok) f t ∙ a) in
    omega arith

records_refused : TableInOrderBy (stricter 32 no_record) → ⊥
unfolding all_below
records_refused = stricter_differs 32 no_record whole_table _ numbers.0.accepted refl (omega arith)

-- their second operation has 10 bytes, and no response type
eight_bytes_each : TableInOrderBy (stricter 30 eight_each) → ⊥
eight_bytes_each = stricter_differs 30 eight_each four_kinds _ numbers.2.accepted refl (omega arith)

requests_refused : TableInOrderBy (stricter 32 no_request) → ⊥
unfolding all_below
requests_refused = stricter_differs 32 no_request four_kinds _ numbers.2.accepted refl (omega arith)

requests-typed : TableInOrderBy (stricter 32 requests_typed) → ⊥
unfolding all_below
requests-typed = stricter_differs 32 requests_typed four_kinds _ numbers.2.accepted refl (omega arith)

all-refused : TableInOrderBy all_refused → ⊥
all-refused f =
    let e : 32 ≡ refusal (checked whole_table) = ap refusal (only_ours all_refused f whole_table) in
    omega (arith, e, accepted)

-- one type, of kind 5
abbrev kind_five : List ℕ
kind_five = 0 ∷ 1 ∷ 0 ∷ 5 ∷ 0 ∷ 0 ∷ 0 ∷ 0 ∷ 0 ∷ 0 ∷ 0 ∷ 0 ∷ 0 ∷ 0 ∷ 0 ∷ 0 ∷ []

breaks : refusal (checked kind_five) ≡ 32
unfolding all_below section_at after ended after_values after_members after_types sections_of op_place type_at fields_ok pointed_ok type_ok entries_ok judged
    judging checked
breaks = refl

passes : refusal (nothing_judged kind_five) ≡ 0
unfolding section_at after ended after_values after_members after_types sections_of op_place
passes = refl

nothing-judged : TableInOrderBy nothing_judged → ⊥
nothing-judged f =
    let e : refusal (nothing_judged kind_five) ≡ refusal (checked kind_five) = ap refusal (only_ours nothing_judged f kind_five) in
    omega (arith, e, breaks, passes)

pub no_wrong_check : NoWrongCheck
no_wrong_check =
    record {
      ours = table_in_order;
      only_ours = only_ours;
      records_refused = records_refused;
      eight_bytes_each = eight_bytes_each;
      requests_refused = requests_refused;
      requests-typed = requests-typed;
      nothing-judged = nothing-judged;
      all-refused = all-refused;
    }
