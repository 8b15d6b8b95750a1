-- docs/DECISIONS.md, 20: on a table that `check` accepts, the call on its sections and any index in which the words of its operations
-- stand gives what the call on its bytes gives.
-- Assumes nothing.
use Prim.Native.Nat.{ℕ, ◌≤◌, ◌<◌}
use Rattle.std.specs.Prelude.{Result, Ok}
use Rattle.refusal.specs.declared.Refusal.{Refusal}
use Rattle.std.specs.Prelude.{Option}
use mathlib.Core.Path.{◌≡◌, refl, sym, ap, ◌∙◌}
use mathlib.Core.List.{List}
use native.Mathlib.Omega.{arith}
use lib.ListN.{length, replicate, length-replicate}
use Rattle.wire.proofs.Cond.{yes-if}
use Rattle.operations.specs.Search.{indexed, sought_in, operation_of}
use Rattle.operations.proofs.WhereIDsRise.{laid-first}
use Rattle.table.specs.declared.Sections.{Sections}
use Rattle.table.specs.Layout.{cut_short}
use Rattle.types.specs.Table.{checked}
use Rattle.types.proofs.Accepted.{Accepted, accepted, is_within, ids-rise}
use Rattle.message.specs.declared.Header.{Header}
use Rattle.message.specs.declared.Message.{Message}
use Rattle.message.specs.declared.Message.TheVariants as message
use Rattle.message.specs.declared.Reading.{Reading}
use Rattle.message.specs.declared.Reading.TheVariants as reading
use Rattle.message.specs.Reading.{read_of}
use Rattle.platform.specs.declared.reactions.Standing.{Standing}
use Rattle.platform.specs.declared.Received.{Received}
use Rattle.platform.specs.Reaction.{operation_for, operation_in}
use Rattle.platform.specs.Receiving.{refused, outcome_of, output_of, list_of, outcome_in, output_in, list_in, index_of}
use Rattle.platform.specs.Receiving.{received_by, received_of, left_if, left_of, list_if, list_after, sections_outcome, sections_output, sections_list}

module _ (t : List ℕ) (s : Sections) (e : checked t ≡ Ok s) where
  a : Accepted t s
  a = accepted t s e

  -- the index as `check` leaves it in any words that have room for it
  module _ (words : List ℕ) (room : s.operations.count ≤ length words) where
    abbrev pub laid : List ℕ
    laid = indexed t s.operations.at s.operations.count words

    -- the operation of an ID is looked up: the first that a plain scan meets
    pub is-sought : (id : ℕ) → sought_in t laid s.operations.count id ≡ operation_of t s.operations.at s.operations.count id
    unfolding a
    is-sought id =
        let low : s.operations.at < 65536 = omega (
          arith,
          a.lie.operations.starts,
          a.lie.values.starts,
          a.lie.values.few,
          a.lie.members.starts,
          a.lie.members.few,
          a.lie.types.starts,
          a.lie.types.few,
        ) in
        laid-first t s.operations.at id s.operations.count (ids-rise t s a) words room (omega (arith, a.lie.end)) low
        (omega (arith, a.lie.operations.few))

  module _ (words : List ℕ) (room : s.operations.count ≤ length words) where
    there : s.operations.count ≤ length (replicate {A = ℕ} 1024 0)
    unfolding a
    there = let n : length (replicate {A = ℕ} 1024 0) ≡ 1024 = length-replicate {A = ℕ} 1024 0 in omega (arith, a.lie.operations.few)

    same-sought : (id : ℕ) → sought_in t (laid words room) s.operations.count id ≡ sought_in t (index_of t s) s.operations.count id
    same-sought id = is-sought words room id ∙ sym (is-sought (replicate 1024 0) there id)

    same-for : (h : Header) (m : Message) → operation_for t s (laid words room) h m ≡ operation_for t s (index_of t s) h m
    unfolding operation_for
    same-for h (message.PlatformStatus x) = refl
    same-for h message.PlatformStatusRequest = refl
    same-for h (message.UnknownOperation id) = refl
    same-for h (message.VersionedDataPull id) = same-sought id
    same-for h message.Operation = same-sought h.id

    same_operation : (x : Reading) → operation_in t s (laid words room) x ≡ operation_in t s (index_of t s) x
    unfolding operation_in
    same_operation (reading.Refused n) = refl
    same_operation (reading.Read h m start len) = same-for h m

    module _ (own : ℕ) (p : Standing) (l m : List ℕ) where
      pub same_outcome : (n : ℕ) → sections_outcome own t s (laid words room) p l m n ≡ received_of own t p l m n
      unfolding received_of received_by sections_outcome a
      same_outcome n =
          yes-if {A = Received} (outcome_in own t s (laid words room) p l m n) (refused p cut_short) (is_within t s a)
          ∙ ap (λ (f : Option (ℕ × ℕ)). outcome_of own t s f p l (read_of own m) n) (same_operation (read_of own m))
          ∙ ap (λ (x : Result Sections Refusal). received_by x own t p l m n) (sym e)

      pub same-output : (out : List ℕ) → sections_output own t s (laid words room) p m out ≡ left_of own t p m out
      unfolding left_of left_if sections_output a
      same-output out =
          yes-if (output_in own t s (laid words room) p m out) out (is_within t s a)
          ∙ ap (λ (f : Option (ℕ × ℕ)). output_of own t s f p (read_of own m) out) (same_operation (read_of own m))
          ∙ ap (λ (x : Result Sections Refusal). left_if x own t p m out) (sym e)

      pub same-list : sections_list own t s (laid words room) l m ≡ list_after own t l m
      unfolding list_after list_if sections_list a
      same-list =
          yes-if (list_in own t s (laid words room) l m) l (is_within t s a)
          ∙ ap (λ (f : Option (ℕ × ℕ)). list_of t f l (read_of own m)) (same_operation (read_of own m))
          ∙ ap (λ (x : Result Sections Refusal). list_if x own t l m) (sym e)
