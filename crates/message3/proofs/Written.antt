-- The bytes of a header, over plain numbers, and those that `write` leaves where nothing refuses them.
-- Assumes nothing.
use Prim.Native.Nat.{ℕ, ◌+◌, ◌≤◌}
use mathlib.Core.Path.{◌≡◌, refl, sym, ap, ◌∙◌}
use mathlib.Core.List.{List, ◌++◌}
use native.Mathlib.Omega.{arith}
use lib.ListN.{length}
use Rattle.wire.specs.Bytes.{bytes, over, written}
use Rattle.wire.proofs.Runs.{written_in, written_behind}
use Rattle.message.specs.Header.{the_mark}
use Rattle.message.specs.Writing.{answered, left_over_by}
use Rattle.message3.specs.declared.Header3.{Header3}
use Rattle.message3.specs.declared.Stamp.{Stamp}
use Rattle.message3.specs.Header.{header_length3, header_bytes3}
use Rattle.message3.specs.Refusal.{write_refusal3}
use Rattle.message3.specs.Writing.{header_for3, message_bytes3, output_after3}
use Rattle.message3.proofs.Accepted.{Writable, writable}

-- eight fields, one behind the other: what stands in byte 2, and the fields' numbers
pub header_laid : {a b c d e f g k : List ℕ} (s : List ℕ) (x p i t u z q : ℕ) → header_length3 ≤ length s → a ≡ written s 0 (bytes 1 the_mark) → b
    ≡ written a 2 (bytes 0 x) → c ≡ written b 3 (bytes 0 p) → d ≡ written c 4 (bytes 2 i) → e ≡ written d 8 (bytes 2 t) → f
    ≡ written e 12 (bytes 2 u) → g ≡ written f 16 (bytes 2 z) → k ≡ written g 20 (bytes 2 q) → k
    ≡ over s 0 (bytes 1 the_mark ++ (bytes 0 x ++ (bytes 0 p ++ (bytes 2 i ++ (bytes 2 t ++ (bytes 2 u ++ (bytes 2 z ++ bytes 2 q)))))))
header_laid s x p i t u z q long a b c d e f g k =
    let A : List ℕ = bytes 1 the_mark in
    let B : List ℕ = A ++ bytes 0 x in
    let C : List ℕ = B ++ bytes 0 p in
    let D : List ℕ = C ++ bytes 2 i in
    let E : List ℕ = D ++ bytes 2 t in
    let F : List ℕ = E ++ bytes 2 u in
    let G : List ℕ = F ++ bytes 2 z in
    let a' = a ∙ written_in s 0 A (omega arith) in
    let b' = written_behind s A (bytes 0 x) 2 a' refl (omega arith) b in
    let c' = written_behind s B (bytes 0 p) 3 b' refl (omega arith) c in
    let d' = written_behind s C (bytes 2 i) 4 c' refl (omega arith) d in
    let e' = written_behind s D (bytes 2 t) 8 d' refl (omega arith) e in
    let f' = written_behind s E (bytes 2 u) 12 e' refl (omega arith) f in
    let g' = written_behind s F (bytes 2 z) 16 f' refl (omega arith) g in
    written_behind s G (bytes 2 q) 20 g' refl (omega arith) k

module _ (own : ℕ) (t : Stamp) (domain id seq : ℕ) (payload out : List ℕ) (n : ℕ) (e : n ≡ write_refusal3 domain id payload (length out)) where
  unfoldable laid : List ℕ
  laid = over out 0 (message_bytes3 own t domain id seq payload)

  abbrev laid_by : ℕ → List ℕ
  laid_by r = left_over_by (answered r (header_length3 + length payload)) out laid

  pub output-in : {h : Header3} {a b : List ℕ} → n ≡ 0 → h ≡ header_for3 own t domain id seq payload → a ≡ over out 0 (header_bytes3 h) → b
      ≡ written a header_length3 payload → b ≡ output_after3 own t domain id seq payload out
  unfolding laid
  output-in {h} {a} {b} z hd l w =
      let ok : Writable domain id payload (length out) = writable domain id payload (length out) (sym e ∙ z) in
      let header : List ℕ = header_bytes3 (header_for3 own t domain id seq payload) in
      let k : a ≡ over out 0 header = l ∙ ap (λ (x : Header3). over out 0 (header_bytes3 x)) hd in
      written_behind out header payload header_length3 k refl (omega arith) w ∙ ap laid_by (sym z ∙ e)
