-- What is reported of a message of each kind.
-- Assumes nothing.
use Prim.Native.Nat.{ℕ, ◌-◌, ◌≤◌, ◌<◌}
use Rattle.std.specs.Prelude.{Ok}
use Rattle.std.specs.Prelude.{Option, Some, None}
use mathlib.Core.Path.{◌≡◌, refl, sym, ap, ap₂, subst, ◌∙◌}
use mathlib.Core.Bool.{Bool, true, false, not}
use mathlib.Core.List.{List}
use native.Mathlib.Omega.{arith}
use borrow.Author.Tests.{eqb-true, eqb-false, not-true, not-false}
use lib.Dec.{eqb}
use lib.ListN.{length, drop, length-drop}
use lib.Seq.{take_all}
use Rattle.wire.specs.Bytes.{part}
use Rattle.wire.proofs.Runs.{part_in}
use Rattle.wire.specs.All.{all_below}
use Rattle.wire.proofs.AllBelow.{at-below}
use Rattle.operations.specs.Entries.{kind_at}
use Rattle.operations.specs.Rules.{not_data, has_data}
use Rattle.table.specs.declared.Sections.{Sections}
use Rattle.types.specs.Table.{checked}
use Rattle.message.specs.declared.Header.{Header}
use Rattle.message.specs.declared.Status.TheVariants.{Down, Up}
use Rattle.message.specs.declared.Message.{Message}
use Rattle.message.specs.declared.Message.TheVariants as message
use Rattle.platform.specs.declared.reactions.Standing.{Standing}
use Rattle.platform.specs.declared.reactions.Heard.TheVariants as heard
use Rattle.platform.specs.declared.reactions.Reaction.{Reaction}
use Rattle.platform.specs.Replies.{all_data}
use Rattle.platform.specs.Reaction.{operation_for, is_data, some_data, on_pull_all, on_pull_one, on_pull, on_operation, reaction_to}
use Rattle.platform.specs.Heard.{payload_heard}
use Rattle.platform.specs.Receiving.{index_of}
use Rattle.promises.specs.Reports.{HasID, IsVersioned, Pulled, Operated, Reports, all, none_of_all, one, not_versioned, in_table, not_in_table}
use Rattle.promises.specs.Platforms.{operation_with}
use Rattle.promises.specs.Rules32.{operation_place, operation_kind}
use Rattle.promises.proofs.OperationRules.{place_is}
use Rattle.promises.proofs.Rules32.{some_below}
use Rattle.promises.proofs.ByID.{looked, bears, bears-not, same}
use Rattle.promises.proofs.Reacting.{Finds, X, status-heard, Pull, all_of_none, all_of_some, one_entry, no_entry, pulled}

-- the payload part of a message is all of it behind its header
pub payload_part : (m : List ℕ) → 20 ≤ length m → part m 20 (length m - 20) ≡ drop 20 m
payload_part m long = part_in m 20 (length m - 20) (omega arith) ∙ take_all (length m - 20) (drop 20 m) (omega (arith, length-drop 20 m))

module _ (t : List ℕ) (s : Sections) where
  -- versioned data
  data_is : (i : ℕ) → is_data t (operation_place t s i) ≡ true → IsVersioned t s i
  unfolding is_data kind_at
  data_is i e = eqb-true (operation_kind t s i) 1 e

  not-data : (i : ℕ) → is_data t (operation_place t s i) ≡ false → ¬ (IsVersioned t s i)
  unfolding is_data kind_at
  not-data i e = eqb-false (operation_kind t s i) 1 e

  abbrev no : ℕ → Bool
  no = not_data t s.operations.at

  no_is : (i : ℕ) → no i ≡ not (is_data t (operation_place t s i))
  unfolding not_data is_data
  no_is i = ap (λ (p : ℕ). not (eqb (kind_at t p) 1)) (place_is t s i)

  no-data : some_data t s ≡ false → (i : ℕ) → i < s.operations.count → ¬ (IsVersioned t s i)
  unfolding has_data
  no-data e i l =
      let b : no i ≡ true = at-below no s.operations.count i (not-false (all_below no s.operations.count) e) l in
      not-data i (not-true (is_data t (operation_place t s i)) (sym (no_is i) ∙ b))

  some-data : some_data t s ≡ true → (i : ℕ) × (i < s.operations.count) × IsVersioned t s i
  unfolding has_data
  some-data e =
      let r : (i : ℕ) × (i < s.operations.count) × (no i ≡ false)
      = some_below no s.operations.count (not-true (all_below no s.operations.count) e) in
      (r.0, r.1, data_is r.0 (not-false (is_data t (operation_place t s r.0)) (sym (no_is r.0) ∙ r.2)))

  module _ (accepted : checked t ≡ Ok s) where
    -- the entry of an ID is versioned data, or is not
    one-data : (id i q : ℕ) → operation_with t s id ≡ Some (i, q) → is_data t q ≡ true → IsVersioned t s i
    one-data id i q f d = data_is i (ap (is_data t) (sym (bears t s accepted id i q f).1) ∙ d)

    one-event : (id i q : ℕ) → operation_with t s id ≡ Some (i, q) → is_data t q ≡ false → (j : ℕ) → HasID t s id j → ¬ (IsVersioned t s j)
    one-event id i q f d j k v =
        let b : HasID t s id i × (q ≡ operation_place t s i) = bears t s accepted id i q f in
        not-data i (ap (is_data t) (sym b.1) ∙ d) (subst (IsVersioned t s) (same t s accepted id j i k b.0) v)

    module _ (own : ℕ) (p : Standing) (h : Header) (start len : ℕ) (m : List ℕ) (long : 20 ≤ length m) (at : start ≡ 20) (rest : len ≡ length m - 20) where
      abbrev its : Message → Reaction
      its kind = X own t s (index_of t s) p h start len kind

      of-up : (its (message.PlatformStatus Up)).heard ≡ heard.Status Up
      of-up = status-heard own t s (index_of t s) p h start len Up

      of-down : (its (message.PlatformStatus Down)).heard ≡ heard.Status Down
      of-down = status-heard own t s (index_of t s) p h start len Down

      of-pull : (id : ℕ) → Pulled t s id (its (message.VersionedDataPull id)).heard
      unfolding reaction_to operation_for on_pull on_pull_all on_pull_one
      of-pull id = go (pulled t s (index_of t s) id (looked t s accepted id))
        where
          go : Pull t s (index_of t s) id → Pulled t s id (its (message.VersionedDataPull id)).heard
          go (all_of_none e d) =
              none_of_all (eqb-true id all_data e) (no-data d) (rw (e, d) (ap heard.NotVersionedData (sym (eqb-true id all_data e))))
          go (all_of_some e d) =
              let r : (i : ℕ) × (i < s.operations.count) × IsVersioned t s i = some-data d in
              all (eqb-true id all_data e) r.0 r.1 r.2 (rw (e, d))
          go (one_entry i q e f g true d) = one (eqb-false id all_data e) i (bears t s accepted id i q f).0 (one-data id i q f d) (rw (e, g, f, d))
          go (one_entry i q e f g false d) = not_versioned (eqb-false id all_data e) (one-event id i q f d) (rw (e, g, f, d))
          go (no_entry e f g) = not_versioned (eqb-false id all_data e) (λ i k v. bears-not t s accepted id f i k) (rw (e, g, f))

      of_operation : Operated t s h.id m (its message.Operation).heard
      unfolding reaction_to operation_for on_operation
      of_operation = go (operation_with t s h.id) refl (looked t s accepted h.id)
        where
          go : (x : Option (ℕ × ℕ)) → operation_with t s h.id ≡ x → Finds t s (index_of t s) h.id
              → Operated t s h.id m (its message.Operation).heard
          go (Some (i, q)) f g =
              let e : (its message.Operation).heard ≡ heard.Operation i 20 (length m - 20) = rw (g, f) (ap₂ (heard.Operation i) at rest) in
              in_table i (bears t s accepted h.id i q f).0 e (ap (payload_heard m) e ∙ payload_part m long)
          go None f g = not_in_table (bears-not t s accepted h.id f) (rw (g, f))

      pub reports : (kind : Message) → Reports t s h m kind (its kind).heard
      unfolding reaction_to
      reports (message.PlatformStatus Up) = of-up
      reports (message.PlatformStatus Down) = of-down
      reports message.PlatformStatusRequest = refl
      reports (message.UnknownOperation id) = refl
      reports (message.VersionedDataPull id) = of-pull id
      reports message.Operation = of_operation
