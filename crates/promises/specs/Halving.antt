-- 02, 4, "IDs strictly rise in the table, yet we scan all 1,024. Look them up by halving. Nothing that callers were told changes." The
-- look-up is an equation with the halving itself (`sought_in`, operations/specs/Search), on all inputs. Here is how many looks it takes,
-- what an index that nobody laid can lead to, and what `nyr_find` tells of a table that was checked; what it comes to over the definitions
-- is specs/Lookups. That no other outcome is allowed is specs/UniqueOperations and UniqueCalls. The theorem is in proofs/Halving.antt.
use Rattle.std.specs.Prelude.{ℕ, ◌+◌, ◌*◌, ◌^◌, ◌≤◌, ◌<◌, ◌≡◌, cond, ◌||◌, List, [], ◌∷◌, eqb, length, replicate}
use Rattle.std.specs.Prelude.{Ok}
use Rattle.std.specs.Prelude.{Some, None}
use Rattle.wire.specs.Bytes.{number}
use Rattle.table.specs.declared.Sections.{Sections}
use Rattle.types.specs.Table.{checked}
use Rattle.operations.specs.Search.{halved, sought_in}
use Rattle.nyrkovash.proofs.nyr_find.Reads.{Post as nyr-find}
use Rattle.promises.specs.Rules32.{operation_bytes, id_of, operation_kind, operation_type, response_type}
use Rattle.promises.specs.Lookups.{Lookups}
use Rattle.promises.specs.LinkedPayloads.{Whenever}
use Rattle.promises.specs.LinkedReplies.{CheckLeft}

-- an event of ID 3 at the start of the bytes, and an index of 1,024 words: its own, and 1,023 of ID 5
abbrev pub an_event : List ℕ
an_event = 0 ∷ 0 ∷ 0 ∷ 3 ∷ 0 ∷ 0 ∷ 255 ∷ 255 ∷ []

abbrev pub first_of1024 : List ℕ
first_of1024 = (3 * 2 ^ 32) ∷ replicate 1023 (5 * 2 ^ 32)

-- what `nyr_find` tells of entry i: its kind, its type, and the type of its response, 0xFFFF for a kind that has none
abbrev pub told_of : List ℕ → Sections → ℕ → List ℕ
told_of t s i =
    1 ∷ operation_kind t s i ∷ operation_type t s i
    ∷ cond (eqb (operation_kind t s i) 2 || eqb (operation_kind t s i) 3) (response_type t s i) 0xFFFF ∷ []

pub record Halving : Type 0 where
  -- 11 looks are enough for the 1,024 operations that a table can have, and 10 are not: they miss the first
  pub eleven_looks : (t index : List ℕ) (count id : ℕ) → count ≤ 1024 → sought_in t index count id ≡ halved t index id 11 0 count
  pub found_by_eleven : halved an_event first_of1024 3 11 0 1024 ≡ Some (0, 0)
  pub missed_by_ten : halved an_event first_of1024 3 10 0 1024 ≡ None
  -- whatever the words of the index: what is found is below the count, lies whole within the bytes, and bears the ID
  pub forged : (t index : List ℕ) (count id i p : ℕ) → sought_in t index count id ≡ Some (i, p)
      → (i < count) × (p + operation_bytes (number 1 t (p + 4)) ≤ length t) × (number 2 t p ≡ id)
  -- so that an index that points past the bytes, or at an entry of another ID, leads nowhere
  pub past_the_bytes : sought_in an_event ((3 * 2 ^ 32 + 1) ∷ []) 1 3 ≡ None
  pub another_id : sought_in an_event ((4 * 2 ^ 32) ∷ []) 1 4 ≡ None
  -- on a table that `check` accepts, whatever the kinds of its operations
  pub on_accepted : Lookups
  -- and as it is linked, with the words that `nyr_check_table` left: every operation by its ID, and none where no entry bears it
  pub finds : (s : Sections) (words : List ℕ) (i : ℕ) → Whenever nyr-find (λ k a n e.
      checked a.0.now ≡ Ok s → CheckLeft a.0.now s words a.1.0.now →
      i < s.operations.count → id_of a.0.now s i ≡ a.1.1.0 → (n ≡ 0) × (e.1.1.1.0.now ≡ told_of a.0.now s i))
  pub finds_none : (s : Sections) (words : List ℕ) → Whenever nyr-find (λ k a n e.
      checked a.0.now ≡ Ok s → CheckLeft a.0.now s words a.1.0.now →
      ((i : ℕ) → i < s.operations.count → ¬ (id_of a.0.now s i ≡ a.1.1.0)) → (n ≡ 0) × (e.1.1.1.0.now ≡ 0 ∷ 0 ∷ 0 ∷ 0 ∷ []))
