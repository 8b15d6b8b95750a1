-- Wrong checks of type tables: the order of checks with 01's rules (specs/TableOrder, Rules32) leaves one check, and none of these
-- meets it. The theorems are in proofs/WrongChecks.antt.
use Rattle.std.specs.Prelude.{ℕ, ◌+◌, ◌*◌, ◌≡◌, Bool, not, cond, ◌&&◌, ◌||◌, List, eqb, ltb, length}
use Rattle.std.specs.Prelude.{Result, Ok, Err}
use Rattle.refusal.specs.Refusal.{refused}
use Rattle.refusal.specs.declared.Refusal.{Refusal}
use Rattle.table.specs.declared.Sections.{Sections}
use Rattle.wire.specs.All.{all_below}
use Rattle.table.specs.Layout.{sections_of}
use Rattle.types.specs.Table.{checked}
use Rattle.promises.specs.TableOrder.{TableInOrderBy, TableInOrder}
use Rattle.promises.specs.Rules32.{kind_of, operation_kind, operation_type, response_type}

-- as ours, but a table that does not pass a further test gets n
abbrev pub only_where : ℕ → (List ℕ → Sections → Bool) → List ℕ → Result Sections Refusal → Result Sections Refusal
only_where n ok t (Err e) = Err e
only_where n ok t (Ok s) = cond (ok t s) (Ok s) (refused n)

abbrev pub stricter : ℕ → (List ℕ → Sections → Bool) → List ℕ → Result Sections Refusal
stricter n ok t = only_where n ok t (checked t)

-- every record is refused: no type may be of kind 2
abbrev pub no_record : List ℕ → Sections → Bool
no_record t s = all_below (λ i. not (eqb (kind_of t s i) 2)) s.types.count

-- every operation has 8 bytes, as before 02, 1: they must end where the table does
abbrev pub eight_each : List ℕ → Sections → Bool
eight_each t s = eqb (s.operations.at + 8 * s.operations.count) (length t)

-- every request is refused, as before 02, 1; or one for whose type or response type 0xFFFF stands
abbrev pub is_request : List ℕ → Sections → ℕ → Bool
is_request t s i = eqb (operation_kind t s i) 2 || eqb (operation_kind t s i) 3

abbrev pub no_request : List ℕ → Sections → Bool
no_request t s = all_below (λ i. not (is_request t s i)) s.operations.count

abbrev pub requests_typed : List ℕ → Sections → Bool
requests_typed t s =
    all_below (λ i. not (is_request t s i) || (ltb (operation_type t s i) s.types.count && ltb (response_type t s i) s.types.count))
    s.operations.count

-- the sections are looked at, and no entry is judged
abbrev pub nothing_judged : List ℕ → Result Sections Refusal
nothing_judged t = sections_of t

abbrev pub all_refused : List ℕ → Result Sections Refusal
all_refused t = refused 32

pub record NoWrongCheck : Type 1 where
  pub ours : TableInOrder
  pub only_ours : (C : List ℕ → Result Sections Refusal) → TableInOrderBy C → (t : List ℕ) → C t ≡ checked t
  pub records_refused : TableInOrderBy (stricter 32 no_record) → ⊥
  pub eight_bytes_each : TableInOrderBy (stricter 30 eight_each) → ⊥
  pub requests_refused : TableInOrderBy (stricter 32 no_request) → ⊥
  pub requests-typed : TableInOrderBy (stricter 32 requests_typed) → ⊥
  pub nothing-judged : TableInOrderBy nothing_judged → ⊥
  pub all-refused : TableInOrderBy all_refused → ⊥
