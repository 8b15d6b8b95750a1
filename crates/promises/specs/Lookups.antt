-- 02, 4, "Nothing that callers were told changes": on a table that `check` accepts, an operation looked up by halving, over the index that
-- is laid for the table, is the one of that ID, whatever its kind, and none where there is none. The theorem is in proofs/Lookups.antt.
use Rattle.std.specs.Prelude.{ℕ, ◌+◌, ◌*◌, ◌^◌, ◌≤◌, ◌<◌, ◌≡◌, ◌⊎◌, ◌↔◌, List, length, get_or}
use Rattle.std.specs.Prelude.{Ok}
use Rattle.std.specs.Prelude.{Option, Some, None}
use Rattle.table.specs.declared.Sections.{Sections}
use Rattle.types.specs.Table.{checked}
use Rattle.operations.specs.declared.Operation.{Operation}
use Rattle.operations.specs.Entries.{operation_at}
use Rattle.operations.specs.Search.{indexed, sought_in, operation_of}
use Rattle.promises.specs.Rules32.{operation_place, id_of, operation_kind, operation_type, response_type}

-- the index in lent words; and an ID looked up by it
abbrev pub laid : List ℕ → Sections → List ℕ → List ℕ
laid t s words = indexed t s.operations.at s.operations.count words

abbrev pub looked_up : List ℕ → Sections → List ℕ → ℕ → Option (ℕ × ℕ)
looked_up t s words id = sought_in t (laid t s words) s.operations.count id

-- a word for each operation, its ID and the byte at which its entry stands; the words behind them stay
pub record IndexIs (t : List ℕ) (s : Sections) (words : List ℕ) : Type 0 where
  pub word : (i : ℕ) → i < s.operations.count → get_or (laid t s words) i 0 ≡ id_of t s i * 2 ^ 32 + operation_place t s i
  pub behind : (i : ℕ) → s.operations.count ≤ i → get_or (laid t s words) i 0 ≡ get_or words i 0
  pub long : length (laid t s words) ≡ length words

-- what an entry says: a response type where it has one, and 0xFFFF otherwise
pub record EntrySays (t : List ℕ) (s : Sections) (i : ℕ) (o : Operation) : Type 0 where
  pub id : o.id ≡ id_of t s i
  pub kind : o.kind ≡ operation_kind t s i
  pub carries : o.carries ≡ operation_type t s i
  pub responds : (o.kind ≡ 2) ⊎ (o.kind ≡ 3) → o.responds ≡ response_type t s i
  pub no_response : (o.kind ≡ 0) ⊎ (o.kind ≡ 1) → o.responds ≡ 0xFFFF

pub record LooksUp (t : List ℕ) (s : Sections) (words : List ℕ) (id : ℕ) : Type 0 where
  -- the first that a plain scan meets
  pub first : looked_up t s words id ≡ operation_of t s.operations.at s.operations.count id
  -- each entry is found by its ID, with its number and its place, and what is found bears the ID and is one of them
  pub each : (i : ℕ) → i < s.operations.count → id_of t s i ≡ id → looked_up t s words id ≡ Some (i, operation_place t s i)
  pub bears : (i p : ℕ) → looked_up t s words id ≡ Some (i, p) → (i < s.operations.count) × (p ≡ operation_place t s i) × (id_of t s i ≡ id)
  pub says : (i p : ℕ) → looked_up t s words id ≡ Some (i, p) → EntrySays t s i (operation_at t p)
  -- none exactly where no entry bears the ID
  pub none : (looked_up t s words id ≡ None) ↔ ((i : ℕ) → i < s.operations.count → ¬ (id_of t s i ≡ id))

-- 1,024 words have room for the index of any table
pub record Lookups : Type 0 where
  pub enough : (t : List ℕ) (s : Sections) → checked t ≡ Ok s → s.operations.count ≤ 1024
  pub index : (t : List ℕ) (s : Sections) (words : List ℕ) → s.operations.count ≤ length words → IndexIs t s words
  pub looks_up : (t : List ℕ) (s : Sections) (words : List ℕ) (id : ℕ) → checked t ≡ Ok s → s.operations.count ≤ length words
      → LooksUp t s words id
