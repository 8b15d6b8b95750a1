-- Which refusal each return of `write_refusal` stands for: the tests that led there say which case of the definition holds.
-- Assumes nothing.
use Prim.Native.Nat.{ℕ, ◌+◌, ◌≤◌, ◌<◌}
use mathlib.Core.Path.{◌≡◌, sym, ◌∙◌}
use mathlib.Core.Bool.{cond}
use mathlib.Core.List.{List}
use lib.Dec.{ltb}
use lib.ListN.{length}
use Rattle.message.specs.Header.{header_length, reserved_domains}
use Rattle.message.specs.Refusal.{first, contents_refusal, size_limit, write_refusal}
use Rattle.message.proofs.Accepted.{first_none, first_some}
use Rattle.wire.proofs.Cond.{yes_lt, no_lt, yes_le, no_le}

module _ (domain id : ℕ) (payload : List ℕ) (room : ℕ) where
  pub write_4 : reserved_domains ≤ domain → 4 ≡ write_refusal domain id payload room
  write_4 h = sym (yes_le 4 _ reserved_domains domain h)

  module _ (d : domain < reserved_domains) where
    pub write_5 : size_limit ≤ length payload → 5 ≡ write_refusal domain id payload room
    write_5 h = sym (no_le 4 _ reserved_domains domain d ∙ yes_le 5 _ size_limit (length payload) h)

    module _ (l : length payload < size_limit) (contents : ℕ) (c : contents ≡ contents_refusal domain id payload) where
      past-size-field : write_refusal domain id payload room
          ≡ first (contents_refusal domain id payload) (cond (ltb room (header_length + length payload)) 10 0)
      past-size-field = no_le 4 _ reserved_domains domain d ∙ no_le 5 _ size_limit (length payload) l

      pub write-contents : (contents ≡ 0 → ⊥) → contents ≡ write_refusal domain id payload room
      write-contents h = c ∙ sym (past-size-field ∙ first_some (contents_refusal domain id payload) _ (λ e. h (c ∙ e)))

      module _ (known : contents ≡ 0) where
        past-contents : write_refusal domain id payload room ≡ cond (ltb room (header_length + length payload)) 10 0
        past-contents = past-size-field ∙ first_none (contents_refusal domain id payload) _ (sym c ∙ known)

        pub write_10 : room < header_length + length payload → 10 ≡ write_refusal domain id payload room
        write_10 h = sym (past-contents ∙ yes_lt 10 0 room (header_length + length payload) h)

        pub write-0 : header_length + length payload ≤ room → 0 ≡ write_refusal domain id payload room
        write-0 h = sym (past-contents ∙ no_lt 10 0 room (header_length + length payload) h)
