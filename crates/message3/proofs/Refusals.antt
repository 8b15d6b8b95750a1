-- Which refusal a return of `refusal::read_refusal` stands for: the first that is not 0.
-- Assumes nothing.
use Prim.Native.Nat.{ℕ}
use mathlib.Core.Path.{◌≡◌, sym, ◌∙◌}
use mathlib.Core.List.{List}
use Rattle.message.specs.Refusal.{first}
use Rattle.message.proofs.Accepted.{first_none, first_some}
use Rattle.message3.specs.Header.{domain_in3, id_in3, payload_in3}
use Rattle.message3.specs.Refusal.{frame_refusal3, address_refusal3, contents_refusal3, read_refusal3}

module _ (own : ℕ) (s : List ℕ) (frame : ℕ) (f : frame ≡ frame_refusal3 s) where
  pub frame-first : (frame ≡ 0 → ⊥) → frame ≡ read_refusal3 own s
  frame-first h = f ∙ sym (first_some (frame_refusal3 s) _ (λ e. h (f ∙ e)))

  module _ (framed : frame ≡ 0) (address : ℕ) (a : address ≡ address_refusal3 own s) where
    past-frame : read_refusal3 own s ≡ first (address_refusal3 own s) (contents_refusal3 (domain_in3 s) (id_in3 s) (payload_in3 s))
    past-frame = first_none (frame_refusal3 s) _ (sym f ∙ framed)

    pub address-first : (address ≡ 0 → ⊥) → address ≡ read_refusal3 own s
    address-first h = a ∙ sym (past-frame ∙ first_some (address_refusal3 own s) _ (λ e. h (a ∙ e)))
