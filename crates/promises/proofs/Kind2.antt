-- 02, 1: what is tested of a message with a kind 2 ID is what 02 says of it, on a table that `check` accepts.
-- Assumes nothing.
use Prim.Native.Nat.{ℕ, ◌<◌}
use Rattle.std.specs.Prelude.{Ok}
use Rattle.std.specs.Prelude.{Option, Some, None}
use Rattle.std.proofs.lemmas.Option.{none-some, some_pair_parts}
use mathlib.Core.Path.{◌≡◌, refl, sym, ap, ap₂, subst, ◌∙◌}
use mathlib.Core.Bool.{Bool, false}
use mathlib.Core.List.{List}
use native.Mathlib.Omega.{arith}
use lib.Dec.{eqb}
use Rattle.operations.specs.Entries.{kind_at}
use Rattle.operations.specs.Search.{sought_in}
use Rattle.pending.specs.Answers.{awaited_of, is_response}
use Rattle.pending.specs.PlainMap.{asks}
use Rattle.pending.proofs.AsMap.{response-by}
use Rattle.table.specs.declared.Sections.{Sections}
use Rattle.types.specs.Table.{checked}
use Rattle.message.specs.declared.Header.{Header}
use Rattle.message.specs.declared.Message.{Message}
use Rattle.message.specs.declared.Message.TheVariants as message
use Rattle.message.specs.Platform.{kind_in}
use Rattle.platform.specs.Reaction.{operation_for}
use Rattle.platform.specs.Receiving.{is_sent, is_answer, index_of}
use Rattle.promises.specs.Rules32.{operation_place}
use Rattle.promises.specs.Reports.{HasID, IsKind2}
use Rattle.promises.specs.Demand1.{FindsKind2}
use Rattle.promises.proofs.Checks.{Decides, eq_decides, and_decides, decides_same}
use Rattle.promises.proofs.ByID.{looked, bears, there}

-- what is pending under a number
module _ (id target : ℕ) where
  asks-decides : (x : Option (ℕ × ℕ)) → Decides (asks x id target) (x ≡ Some (id, target))
  asks-decides (Some (i, t)) =
      decides_same (and_decides (eqb i id) (eqb t target) (eq_decides i id) (eq_decides t target))
      (λ e. ap₂ (λ (a b : ℕ). Some (a, b)) e.0 e.1) (some_pair_parts i id t target)
  asks-decides None =
      record {
        yes_is = λ e. let z : ◌≡◌ {A = ℕ} 0 1 = cc in absurd (omega arith);
        no_is = λ e. none-some _;
      }

  pub awaited-decides : (l : List ℕ) (n : ℕ) → Decides (is_response l n id target) (awaited_of l n ≡ Some (id, target))
  awaited-decides l n =
      subst (λ (b : Bool). Decides b (awaited_of l n ≡ Some (id, target))) (sym (response-by l n id target)) (asks-decides (awaited_of l n))

-- what is looked up is of kind 2
sent_decides : (t : List ℕ) (x : Option (ℕ × ℕ)) → Decides (is_sent t x) ((i : ℕ) × (q : ℕ) × (x ≡ Some (i, q)) × (kind_at t q ≡ 2))
unfolding is_sent
sent_decides t (Some (i, q)) =
    decides_same (eq_decides (kind_at t q) 2) (λ e. (i, q, refl, e))
    (λ p. ap (kind_at t) (some_pair_parts i p.0 q p.1 p.2).1 ∙ p.3)
sent_decides t None =
    record {
      yes_is = λ e. let z : ◌≡◌ {A = ℕ} 0 1 = cc in absurd (omega arith);
      no_is = λ e p. none-some _ p.2;
    }

-- a message of another kind than an operation, which is kind 5
pub not_operation : (k : Message) → kind_in k < 5 → ¬ (k ≡ message.Operation)
not_operation k l e = omega (arith, l, ap kind_in e)

pub never : {b : Bool} (k : Message) {A : Type 0} → b ≡ false → kind_in k < 5 → Decides b ((k ≡ message.Operation) × A)
never k f l = record { yes_is = λ e. let z : ◌≡◌ {A = ℕ} 0 1 = cc in absurd (omega arith); no_is = λ e p. not_operation k l p.0 }

-- by any index
pub found_decides : (t : List ℕ) (s : Sections) (index : List ℕ) (h : Header) (kind : Message)
    → Decides (is_answer t (operation_for t s index h kind) kind) ((kind ≡ message.Operation) × FindsKind2 t s index h.id)
unfolding is_answer operation_for
found_decides t s index h (message.PlatformStatus x) = never (message.PlatformStatus x) refl (omega arith)
found_decides t s index h message.PlatformStatusRequest = never message.PlatformStatusRequest refl (omega arith)
found_decides t s index h (message.UnknownOperation id) = never (message.UnknownOperation id) refl (omega arith)
found_decides t s index h (message.VersionedDataPull id) = never (message.VersionedDataPull id) refl (omega arith)
found_decides t s index h message.Operation =
    decides_same (sent_decides t (sought_in t index s.operations.count h.id)) (λ k. (refl, k)) (λ p. p.1)

-- by the index of a table that is accepted
module _ (t : List ℕ) (s : Sections) (e : checked t ≡ Ok s) (id : ℕ) where
  is-kind-2 : FindsKind2 t s (index_of t s) id → IsKind2 t s id
  unfolding kind_at
  is-kind-2 (i, q, f, k) =
      let b : HasID t s id i × (q ≡ operation_place t s i) = bears t s e id i q (sym (looked t s e id) ∙ f) in
      (i, b.0, ap (kind_at t) (sym b.1) ∙ k)

  finds-it : IsKind2 t s id → FindsKind2 t s (index_of t s) id
  unfolding kind_at
  finds-it (i, h, k) = (i, operation_place t s i, looked t s e id ∙ there t s e id i h, k)

pub answer_decides : (t : List ℕ) (s : Sections) → checked t ≡ Ok s → (h : Header) (kind : Message)
    → Decides (is_answer t (operation_for t s (index_of t s) h kind) kind) ((kind ≡ message.Operation) × IsKind2 t s h.id)
answer_decides t s e h kind =
    decides_same (found_decides t s (index_of t s) h kind) (λ p. (p.0, is-kind-2 t s e h.id p.1)) (λ p. (p.0, finds-it t s e h.id p.1))
