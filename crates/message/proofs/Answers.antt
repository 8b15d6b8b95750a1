-- What `of_bytes` answers at its return.
-- Assumes nothing.
use Prim.Native.Nat.{ℕ}
use mathlib.Core.Path.{◌≡◌, ◌∙◌}
use mathlib.Core.List.{List}
use Rattle.message.specs.declared.Header.{Header}
use Rattle.message.specs.Header.{domain_in, sender_in, id_in, payload_size_in, sequence_in, header_in}

-- `of_bytes`: each field is the number at its place
pub fields_read : {h : Header} {a b c d e : ℕ} (s : List ℕ) → a ≡ domain_in s → b ≡ sender_in s → c ≡ id_in s → d ≡ payload_size_in s → e
    ≡ sequence_in s → h ≡ record { domain = a; platform = b; id = c; payload_size = d; sequence = e } → h ≡ header_in s
fields_read s p q r t u v = v ∙ rw (p, q, r, t, u)
