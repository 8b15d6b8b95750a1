-- What the answers of `read` and `payload` are at their returns.
-- Assumes nothing.
use Prim.Native.Nat.{ℕ, zero, suc}
use mathlib.Core.Path.{◌≡◌, refl, sym, ap, ap₂, ◌∙◌}
use mathlib.Core.List.{List}
use Rattle.wire.specs.Bytes.{number, part}
use Rattle.message.specs.declared.Header.{Header}
use Rattle.message.specs.declared.Message.{Message}
use Rattle.message.specs.declared.Reading.{Reading}
use Rattle.message.specs.declared.Reading.TheVariants as reading
use Rattle.message.specs.Header.{header_length, domain_in, id_in, header_in, payload_in}
use Rattle.message.specs.Platform.{message_of}
use Rattle.message.specs.Refusal.{read_refusal}
use Rattle.message.specs.Reading.{reading_out, read_of, payload_of}
use Rattle.message.specs.Reading as Reading

reading_refused : (n : ℕ) (r : Reading) → (n ≡ 0 → ⊥) → reading.Refused n ≡ Reading.answered n r
reading_refused zero r h = absurd (h refl)
reading_refused (suc n) r h = refl

module _ (own : ℕ) (s : List ℕ) (n : ℕ) (e : n ≡ read_refusal own s) where
  pub read_in : {r : Reading} → n ≡ 0 → r ≡ reading_out s → r ≡ read_of own s
  read_in z d = d ∙ ap (λ (k : ℕ). Reading.answered k (reading_out s)) (sym z ∙ e)

  pub read-not : (n ≡ 0 → ⊥) → reading.Refused n ≡ read_of own s
  read-not h = reading_refused n (reading_out s) h ∙ ap (λ (k : ℕ). Reading.answered k (reading_out s)) e

pub read_out : {b : List ℕ} {f : ℕ} {m : Message} (s : List ℕ) (h : Header) → h ≡ header_in s → b ≡ payload_in s → f ≡ number 2 b 0 → m
    ≡ message_of h.domain h.id f → reading.Read h m header_length h.payload_size ≡ reading_out s
read_out {b} {f} {m} s h e p q d =
    let k : m ≡ message_of (domain_in s) (id_in s) (number 2 (payload_in s) 0) = d
    ∙ ap₂ (λ (x : Header) (y : ℕ). message_of x.domain x.id y) e (q ∙ ap (λ (u : List ℕ). number 2 u 0) p) in
    ap₂ (λ (x : Header) (y : Message). reading.Read x y header_length x.payload_size) e k

pub payload_read : {u : List ℕ} {r : Reading} (s : List ℕ) (h : Header) (m : Message) (start len : ℕ) → r ≡ reading.Read h m start len → u
    ≡ part s start len → u ≡ payload_of s r
payload_read s h m start len e d = d ∙ ap (payload_of s) (sym e)
