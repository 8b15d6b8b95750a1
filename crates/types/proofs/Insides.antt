-- What stands in the entries of sections that lie within the bytes, at the returns.
-- Assumes nothing.
use Rattle.std.proofs.Common.{◌≡◌, ℕ, ◌+◌, ◌-◌, ◌<◌, ◌≤◌, List, length, take, drop, sym, refl, ◌∙◌, arith}
use Rattle.std.specs.Prelude.{Result, Ok}
use Rattle.refusal.specs.declared.Refusal.{Refusal}
use Rattle.wire.specs.Bytes.{number, whole}
use Rattle.wire.proofs.Numbers.{read_in}
use Rattle.table.specs.declared.Sections.{Sections}
use Rattle.table.specs.declared.Entry.{Entry}
use Rattle.table.specs.Layout.{type_place, member_place, value_place, sections_of}
use Rattle.table.specs.Entries.{type_at, member_at, value_at}
use Rattle.types.specs.Inside.{Lying}
use Rattle.table.proofs.Chain.{chain}
use Rattle.table.proofs.Lookups.{type_read, member-read}

module _ (t : List ℕ) (s : Sections) (i : ℕ) where
  pub type-inside : {k o f n : ℕ} → k ≡ number 1 t (type_place s i) → o ≡ number 1 t (type_place s i + 2) → f ≡ number 1 t (type_place s i + 4)
      → n ≡ number 1 t (type_place s i + 6) → ◌≡◌ {A = Entry} (record { kind = k; of = o; first = f; count = n }) (type_at t s i)
  type-inside {k} {o} {f} {n} a b c d = type_read t s i (type_place s i) k o f n refl a b c d

  pub member-inside : {r : ℕ} → r ≡ number 1 t (member_place s i) → r ≡ member_at t s i
  member-inside {r} a = member-read t s i (member_place s i) r refl a

  pub value-inside : {r : ℕ} → Lying t s → i < s.values.count → r
      ≡ whole 3 (take (value_place s i + 8 - value_place s i) (drop (value_place s i) t)) 0 → r ≡ value_at t s i
  unfolding value_at
  value-inside {r} lie l a = let h : value_place s i + 8 ≤ length t = omega (arith, lie.values) in read_in 3 t (value_place s i) r h a

-- sections that were found lie within the bytes
pub found_lie : (t : List ℕ) (s : Sections) (r : Result Sections Refusal) → r ≡ sections_of t → r ≡ Ok s → Lying t s
found_lie t s r p h =
    let c = chain t s (sym p ∙ h) in
    record {
      types = c.types.ends;
      members = c.members.ends;
      values = c.values.ends;
      few_types = c.types.few;
      few_values = c.values.few;
    }
