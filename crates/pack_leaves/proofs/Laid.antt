-- A leaf that is written into a part of the bytes as long as it is.
-- Assumes nothing.
use Prim.Native.Nat.{ℕ, ◌+◌, ◌-◌, ◌%◌, ◌^◌, ◌≤◌, ◌<◌}
use mathlib.Core.Path.{◌≡◌, refl, sym, ap, ap₂, ◌∙◌}
use mathlib.Core.Bool.{Bool, true, false}
use mathlib.Core.List.{List, [], ◌∷◌, ◌++◌, append-nil}
use native.Mathlib.Nat.{add-sub_cancel_left}
use native.Mathlib.Omega.{arith}
use borrow.Rule.Slice.PartMut.{put_mid}
use mir.Syntax.{w64}
use mir.Val.{Fits}
use lib.Dec.{leb}
use lib.ListN.{length, set, take, drop, length-drop}
use lib.Seq.{length-take-le, drop-length, drop-drop}
use Rattle.wire.specs.Bytes.{span, bytes, written}
use Rattle.wire.proofs.Numbers.{length_bytes}
use Rattle.wire.proofs.Runs.{written_in, written_out, over_none, set_over}
use Rattle.table.specs.Leaf.{base, width}
use Rattle.leaf.specs.Forms.{form_of}
use Rattle.leaf.proofs.Leaves.{length_form}
use Rattle.leaf.proofs.Returns.{put_form, put_whole}

pub length_of : (code w : ℕ) → length (form_of code w) ≡ width code
unfolding form_of width
length_of code w = length_form (base code) w

laid : {last : List ℕ} (out : List ℕ) (p n : ℕ) (b : List ℕ) → length b ≡ n → p + n ≤ length out → last
    ≡ written (take (p + n - p) (drop p out)) 0 b → put_mid p (p + n - p) out last ≡ written out p b
laid {last} out p n b e h w =
    let k : p + n - p ≡ n = add-sub_cancel_left p n in
    let D : List ℕ = take n (drop p out) in
    let d : length (drop p out) ≡ length out - p = length-drop p out in
    let l : length D ≡ n = length-take-le n (drop p out) (omega arith) in
    let t : 0 + length b ≡ length D = omega arith in
    let g : drop (0 + length b) D ≡ [] = ap (λ (m : ℕ). drop m D) t ∙ drop-length D in
    let v : last ≡ b =
    w ∙ ap (λ (m : ℕ). written (take m (drop p out)) 0 b) k ∙ written_in D 0 b (omega arith) ∙ ap (λ (u : List ℕ). b ++ u) g ∙ append-nil b in
    let f : p + (p + n - p) ≡ p + length b = omega arith in
    let q : drop (p + n - p) (drop p out) ≡ drop (p + length b) out = drop-drop (p + n - p) p out ∙ ap (λ (m : ℕ). drop m out) f in
    ap₂ (λ (u v : List ℕ). take p out ++ (u ++ v)) v q ∙ sym (written_in out p b (omega arith))

-- the arm of one byte, of 2 ^ k bytes, and of a whole word
pub set-byte : (out : List ℕ) (p x w n : ℕ) → n ≡ width x → p + width x ≤ length out → n ≡ 1 → set out p (w % 256) ≡ written out p (form_of x w)
set-byte out p x w n is room q =
    put_form 0 out p x w n is q (set_over out p (w % 256) (omega arith) ∙ sym (written_in out p (w % 256 ∷ []) (omega arith)))

pub set_form : (k : ℕ) {last : List ℕ} (out : List ℕ) (p x w n : ℕ) → n ≡ width x → p + width x ≤ length out → n ≡ 2 ^ k → last
    ≡ written (take (p + 2 ^ k - p) (drop p out)) 0 (bytes k (w % span k)) → put_mid p (p + 2 ^ k - p) out last ≡ written out p (form_of x w)
set_form k out p x w n is room q e =
    put_form k out p x w n is q (laid out p (2 ^ k) (bytes k (w % span k)) (length_bytes k (w % span k)) (omega arith) e)

pub set_whole : {last : List ℕ} (out : List ℕ) (p x w n : ℕ) → n ≡ width x → p + width x ≤ length out → n ≡ 8 → Fits w64 w → last
    ≡ written (take (p + 8 - p) (drop p out)) 0 (bytes 3 w) → put_mid p (p + 8 - p) out last ≡ written out p (form_of x w)
set_whole out p x w n is room q f e = put_whole out p x w n is q f (laid out p 8 (bytes 3 w) (length_bytes 3 w) (omega arith) e)

-- no room for it
pub put_behind : (s : List ℕ) (p : ℕ) (b : List ℕ) → length s ≤ p → s ≡ written s p b
put_behind s p [] h = go (leb (p + 0) (length s)) refl
  where
    go : (t : Bool) → leb (p + 0) (length s) ≡ t → s ≡ written s p []
    go true e = rw e (over_none s p [])
    go false e = rw e refl
put_behind s p (a ∷ b) h = sym (written_out s p (a ∷ b) (omega arith))

pub put_short : (s : List ℕ) (p x w n : ℕ) → n ≡ width x → length s - p < n → s ≡ written s p (form_of x w)
put_short s p x w n is h = sym (written_out s p (form_of x w) (omega (arith, length_of x w)))
