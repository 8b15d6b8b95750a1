-- What the answers of `write` are at its returns, and the bytes that `put_header` and `write` leave.
-- Assumes nothing.
use Prim.Native.Nat.{ℕ, zero, suc, ◌+◌, ◌≤◌, ◌<◌}
use mathlib.Core.Path.{◌≡◌, refl, sym, ap, ◌∙◌}
use mathlib.Core.List.{List, ◌++◌}
use native.Mathlib.Omega.{arith}
use mir.Syntax.{w32}
use mir.Val.{Fits}
use lib.ListN.{length}
use Rattle.wire.specs.Bytes.{bytes, over, written}
use Rattle.wire.proofs.Runs.{written_in, written_out, written_behind}
use Rattle.message.specs.declared.Header.{Header}
use Rattle.message.specs.declared.Writing.{Writing}
use Rattle.message.specs.declared.Writing.TheVariants as writing
use Rattle.message.specs.Header.{header_length, the_mark, the_version, header_bytes}
use Rattle.message.specs.Refusal.{write_refusal}
use Rattle.message.specs.Writing.{header_for, message_bytes, write_of, left_over_by, output_after}
use Rattle.message.specs.Writing as Writing
use Rattle.message.proofs.Accepted.{Writable, writable}

pub header_laid : {a b c d e f g : List ℕ} (s : List ℕ) (h : Header) → header_length ≤ length s → a ≡ written s 0 (bytes 1 the_mark) → b
    ≡ written a 2 (bytes 0 the_version) → c ≡ written b 3 (bytes 0 h.domain) → d ≡ written c 4 (bytes 2 h.platform) → e
    ≡ written d 8 (bytes 2 h.id) → f ≡ written e 12 (bytes 2 h.payload_size) → g ≡ written f 16 (bytes 2 h.sequence) → g
    ≡ written s 0 (header_bytes h)
header_laid s h long a b c d e f g =
    let A : List ℕ = bytes 1 the_mark in
    let B : List ℕ = A ++ bytes 0 the_version in
    let C : List ℕ = B ++ bytes 0 h.domain in
    let D : List ℕ = C ++ bytes 2 h.platform in
    let E : List ℕ = D ++ bytes 2 h.id in
    let F : List ℕ = E ++ bytes 2 h.payload_size in
    let a' = a ∙ written_in s 0 A (omega arith) in
    let b' = written_behind s A (bytes 0 the_version) 2 a' refl (omega arith) b in
    let c' = written_behind s B (bytes 0 h.domain) 3 b' refl (omega arith) c in
    let d' = written_behind s C (bytes 2 h.platform) 4 c' refl (omega arith) d in
    let e' = written_behind s D (bytes 2 h.id) 8 d' refl (omega arith) e in
    let f' = written_behind s E (bytes 2 h.payload_size) 12 e' refl (omega arith) f in
    written_behind s F (bytes 2 h.sequence) 16 f' refl (omega arith) g ∙ sym (written_in s 0 (header_bytes h) (omega arith))

pub header_too_long : (s : List ℕ) (h : Header) → length s < header_length → s ≡ written s 0 (header_bytes h)
header_too_long s h l = sym (written_out s 0 (header_bytes h) (omega arith))

-- a payload that is written fits the size field and, with the header, a `usize`
pub size_fits : {n : ℕ} (domain id : ℕ) (payload : List ℕ) (room : ℕ) → n ≡ write_refusal domain id payload room → n ≡ 0 → Fits w32 (length payload)
size_fits domain id payload room e z = record { fits = (writable domain id payload room (sym e ∙ z)).size }

pub writing_refused : (n k : ℕ) → (n ≡ 0 → ⊥) → writing.Refused n ≡ Writing.answered n k
writing_refused zero k h = absurd (h refl)
writing_refused (suc n) k h = refl

pub left_as_it_was : (n k : ℕ) (w out : List ℕ) → (n ≡ 0 → ⊥) → out ≡ left_over_by (Writing.answered n k) out w
left_as_it_was zero k w out h = absurd (h refl)
left_as_it_was (suc n) k w out h = refl

module _ (domain id : ℕ) (payload : List ℕ) (room n : ℕ) (e : n ≡ write_refusal domain id payload room) where
  pub answer-in : n ≡ 0 → writing.Written (header_length + length payload) ≡ write_of domain id payload room
  answer-in z = ap (λ (r : ℕ). Writing.answered r (header_length + length payload)) (sym z ∙ e)

  pub answer-not : (n ≡ 0 → ⊥) → writing.Refused n ≡ write_of domain id payload room
  answer-not h = writing_refused n _ h ∙ ap (λ (r : ℕ). Writing.answered r (header_length + length payload)) e

module _ (own domain id seq : ℕ) (payload out : List ℕ) (n : ℕ) (e : n ≡ write_refusal domain id payload (length out)) where
  unfoldable laid : List ℕ
  laid = over out 0 (message_bytes own domain id seq payload)

  abbrev laid_by : ℕ → List ℕ
  laid_by r = left_over_by (Writing.answered r (header_length + length payload)) out laid

  pub output-in : {h : Header} {a b : List ℕ} → n ≡ 0 → h ≡ header_for own domain id seq payload → a ≡ written out 0 (header_bytes h) → b
      ≡ written a header_length payload → b ≡ output_after own domain id seq payload out
  unfolding laid
  output-in {h} {a} {b} z hd l w =
      let ok : Writable domain id payload (length out) = writable domain id payload (length out) (sym e ∙ z) in
      let header : List ℕ = header_bytes (header_for own domain id seq payload) in
      let k : a ≡ over out 0 header = l ∙ written_in out 0 (header_bytes h) (omega arith) ∙ ap (λ (x : Header). over out 0 (header_bytes x)) hd in
      written_behind out header payload header_length k refl (omega arith) w ∙ ap laid_by (sym z ∙ e)

  pub output-not : (n ≡ 0 → ⊥) → out ≡ output_after own domain id seq payload out
  unfolding laid
  output-not h = left_as_it_was n (header_length + length payload) laid out h ∙ ap laid_by e
