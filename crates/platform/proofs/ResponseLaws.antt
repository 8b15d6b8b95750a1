-- What the functions of `answering` come to at their returns.
-- Assumes nothing.
use Prim.Native.Nat.{ℕ}
use Rattle.std.specs.Prelude.{Option, Some, None}
use mathlib.Core.Path.{◌≡◌, refl, sym, ◌∙◌}
use mathlib.Core.Bool.{Bool, true, false}
use mathlib.Core.List.{List}
use lib.Dec.{eqb}
use Rattle.operations.specs.Entries.{kind_at}
use Rattle.message.specs.declared.Header.{Header}
use Rattle.message.specs.declared.Message.{Message}
use Rattle.message.specs.declared.Message.TheVariants as message
use Rattle.pending.specs.Answers.{is_response}
use Rattle.wire.proofs.Cond.{yes-if, no-if}
use Rattle.platform.specs.declared.reactions.Standing.{Standing}
use Rattle.platform.specs.declared.Received.{Received}
use Rattle.platform.specs.Receiving.{refused, not_awaited, is_sent, is_answer, entry_of, delivered, response_to}

module _ (t : List ℕ) (f : Option (ℕ × ℕ)) where
  pub sent_found : (i p k : ℕ) → f ≡ Some (i, p) → k ≡ kind_at t p → eqb k 2 ≡ is_sent t f
  unfolding is_sent
  sent_found i p k e a = rw (e, ← a) refl

  pub none_found : f ≡ None → false ≡ is_sent t f
  unfolding is_sent
  none_found e = rw e refl

  pub of_operation : (m : Message) (r : Bool) → m ≡ message.Operation → r ≡ is_sent t f → r ≡ is_answer t f m
  unfolding is_answer
  of_operation m r e a = rw e a

  pub of-another : (m : Message) → (m ≡ message.Operation → ⊥) → false ≡ is_answer t f m
  unfolding is_answer
  of-another (message.PlatformStatus x) h = refl
  of-another message.PlatformStatusRequest h = refl
  of-another (message.UnknownOperation id) h = refl
  of-another (message.VersionedDataPull id) h = refl
  of-another message.Operation h = absurd (h refl)

pub found_entry : (f : Option (ℕ × ℕ)) (i p : ℕ) → f ≡ Some (i, p) → i ≡ entry_of f
found_entry f i p e = rw e refl

pub no_entry : (f : Option (ℕ × ℕ)) → f ≡ None → 0 ≡ entry_of f
no_entry f e = rw e refl

module _ (l : List ℕ) (f : Option (ℕ × ℕ)) (p : Standing) (h : Header) (start len : ℕ) (b : Bool) (e : b ≡ is_response l h.sequence h.id h.platform)
    (r : Received) where
  pub is-awaited : b ≡ true → r ≡ delivered f p h start len → r ≡ response_to l f p h start len
  unfolding response_to
  is-awaited z d = d ∙ sym (yes-if {A = Received} (delivered f p h start len) (refused p not_awaited) (sym e ∙ z))

  pub not-awaited : b ≡ false → r ≡ refused p not_awaited → r ≡ response_to l f p h start len
  unfolding response_to
  not-awaited z d = d ∙ sym (no-if {A = Received} (delivered f p h start len) (refused p not_awaited) (sym e ∙ z))
