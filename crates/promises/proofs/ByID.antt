-- On a table that `check` accepts, and the index that the call on its bytes lays: the operation that is looked up under an ID is the
-- entry that bears it, and one entry only does.
-- Assumes nothing.
use Prim.Native.Nat.{ℕ, ◌≤◌}
use Rattle.std.specs.Prelude.{Ok}
use Rattle.std.specs.Prelude.{Some, None}
use Rattle.std.proofs.lemmas.Option.{some_pair_parts}
use mathlib.Core.Path.{◌≡◌, sym, ◌∙◌}
use mathlib.Core.List.{List}
use native.Mathlib.Omega.{arith}
use lib.ListN.{length, replicate, length-replicate}
use Rattle.operations.specs.Search.{sought_in}
use Rattle.table.specs.declared.Sections.{Sections}
use Rattle.types.specs.Table.{checked}
use Rattle.types.proofs.Accepted.{accepted}
use Rattle.platform.specs.Receiving.{index_of}
use Rattle.promises.specs.Rules32.{operation_place}
use Rattle.promises.specs.Lookups.{LooksUp}
use Rattle.promises.specs.Reports.{HasID}
use Rattle.promises.specs.Platforms.{operation_with}
use Rattle.promises.proofs.Lookups.{lookups}

module _ (t : List ℕ) (s : Sections) (e : checked t ≡ Ok s) where
  room : s.operations.count ≤ length (replicate {A = ℕ} 1024 0)
  room =
      let few : s.operations.count ≤ 1024 = (accepted t s e).lie.operations.few in
      let n : length (replicate {A = ℕ} 1024 0) ≡ 1024 = length-replicate {A = ℕ} 1024 0 in
      omega arith

  module _ (id : ℕ) where
    looks : LooksUp t s (replicate 1024 0) id
    looks = lookups.looks_up t s (replicate 1024 0) id e room

    pub looked : sought_in t (index_of t s) s.operations.count id ≡ operation_with t s id
    looked = looks.first

    pub bears : (i q : ℕ) → operation_with t s id ≡ Some (i, q) → HasID t s id i × (q ≡ operation_place t s i)
    bears i q f = let b = looks.bears i q (looked ∙ f) in ((b.0, b.2), b.1)

    pub bears-not : operation_with t s id ≡ None → (i : ℕ) → ¬ (HasID t s id i)
    bears-not f i h = looks.none.0 (looked ∙ f) i h.0 h.1

    pub there : (i : ℕ) → HasID t s id i → operation_with t s id ≡ Some (i, operation_place t s i)
    there i h = sym looked ∙ looks.each i h.0 h.1

    pub same : (i j : ℕ) → HasID t s id i → HasID t s id j → i ≡ j
    same i j hi hj = (some_pair_parts i j _ _ (sym (there i hi) ∙ there j hj)).0
