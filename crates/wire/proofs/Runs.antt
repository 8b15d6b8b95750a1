-- Laws of `over`, `written` and `part`: a run of bytes in a list.
-- Assumes nothing.
use Prim.Native.Nat.{ℕ, ◌+◌, ◌^◌, ◌≤◌, ◌<◌}
use mathlib.Core.Path.{◌≡◌, refl, sym, ap, ◌∙◌}
use mathlib.Core.Bool.{Bool, true, false}
use mathlib.Core.List.{List, [], ◌∷◌, ◌++◌, append_assoc}
use native.Mathlib.Nat.{add_assoc, add-zero, zero-add}
use native.Mathlib.Numerals.{add-one}
use native.Mathlib.Omega.{arith}
use borrow.Author.Tests.{le-leb, lt-leb, leb-true, leb-false}
use mir.Syntax.{w64}
use mir.Val.{Fits}
use lib.Dec.{leb}
use lib.ListN.{length, get_or, set, take, drop, length-append, length-drop, take-append-drop}
use lib.Seq.{length-take-le, take_all, take_at, take-suc, drop_at, drop-drop, set_split}
use Rattle.wire.specs.Bytes.{over, written, part}

-- what a test that held, or failed, says
pub held : {r : Bool} (a b : ℕ) → r ≡ leb a b → r ≡ true → a ≤ b
held a b e t = leb-true a b (sym e ∙ t)

pub failed : {r : Bool} (a b : ℕ) → r ≡ leb a b → r ≡ false → b < a
failed a b e t = leb-false a b (sym e ∙ t)

pub written_in : (s : List ℕ) (p : ℕ) (b : List ℕ) → p + length b ≤ length s → written s p b ≡ over s p b
written_in s p b h = simp (le-leb (p + length b) (length s) h)

pub written_out : (s : List ℕ) (p : ℕ) (b : List ℕ) → length s < p + length b → written s p b ≡ s
written_out s p b h = simp (lt-leb (p + length b) (length s) h)

pub part_in : (s : List ℕ) (p n : ℕ) → p + n ≤ length s → part s p n ≡ take n (drop p s)
part_in s p n h = simp (le-leb (p + n) (length s) h)

pub part_out : (s : List ℕ) (p n : ℕ) → length s < p + n → part s p n ≡ []
part_out s p n h = simp (lt-leb (p + n) (length s) h)

pub length_over : (s : List ℕ) (p : ℕ) (b : List ℕ) → p + length b ≤ length s → length (over s p b) ≡ length s
length_over s p b h =
    let t : length (take p s) ≡ p = length-take-le p s (omega arith) in
    simp (length-append, length-drop) (omega arith)

pub length_written : (s : List ℕ) (p : ℕ) (b : List ℕ) → length (written s p b) ≡ length s
length_written s p b = go (leb (p + length b) (length s)) refl
  where
    go : (t : Bool) → leb (p + length b) (length s) ≡ t → length (written s p b) ≡ length s
    go true e = rw e (length_over s p b (leb-true (p + length b) (length s) e))
    go false e = rw e refl

-- two runs, one behind the other, are one
pub over_over : (s : List ℕ) (p : ℕ) (a b : List ℕ) → p + length (a ++ b) ≤ length s → over (over s p a) (p + length a) b ≡ over s p (a ++ b)
over_over s p a b h =
    let l : length (a ++ b) ≡ length a + length b = length-append a b in
    let t : length (take p s) ≡ p = length-take-le p s (omega arith) in
    let x : List ℕ = take p s ++ a in
    let d : List ℕ = drop (p + length a) s in
    let n : length x ≡ p + length a = simp length-append (omega arith) in
    let e : over s p a ≡ x ++ d = sym (append_assoc (take p s) a d) in
    let g : drop (p + length a + length b) (x ++ d) ≡ drop (p + length a + length b) s =
    sym (drop-drop (length b) (p + length a) (x ++ d)) ∙ ap (drop (length b)) (drop_at x d (p + length a) n) ∙ drop-drop (length b) (p + length a) s in
    rw (e, take_at x d (p + length a) n, g, l) (simp (append_assoc, add_assoc))

-- a run written behind what was written at the start
pub written_behind : {m e : List ℕ} (s a b : List ℕ) (p : ℕ) → m ≡ over s 0 a → p ≡ length a → length a + length b ≤ length s → e
    ≡ written m p b → e ≡ over s 0 (a ++ b)
written_behind {m} s a b p i q h w =
    let l : length (a ++ b) ≡ length a + length b = length-append a b in
    let n : length m ≡ length s = ap length i ∙ length_over s 0 a (omega arith) in
    w
    ∙ written_in m p b (omega arith)
    ∙ ap (λ (u : List ℕ). over u p b) i
    ∙ ap (λ (k : ℕ). over (over s 0 a) k b) (q ∙ sym (zero-add (length a)))
    ∙ over_over s 0 a b (omega arith)

-- what stands before the run, the run, and what stands behind it
pub take_over : (s : List ℕ) (p : ℕ) (b : List ℕ) → p ≤ length s → take p (over s p b) ≡ take p s
take_over s p b h = take_at (take p s) (b ++ drop (p + length b) s) p (length-take-le p s h)

pub drop_over : (s : List ℕ) (p : ℕ) (b : List ℕ) → p ≤ length s → drop p (over s p b) ≡ b ++ drop (p + length b) s
drop_over s p b h = drop_at (take p s) (b ++ drop (p + length b) s) p (length-take-le p s h)

pub part_over : (s : List ℕ) (p : ℕ) (b : List ℕ) → p + length b ≤ length s → part (over s p b) p (length b) ≡ b
part_over s p b h =
    let l : length (over s p b) ≡ length s = length_over s p b h in
    part_in (over s p b) p (length b) (omega arith) ∙ ap (take (length b)) (drop_over s p b (omega arith)) ∙ take_at b (drop (p + length b) s) (length b) refl

-- the copy's loop: what the list is after j of the run's bytes, and after one more
pub over_none : (s : List ℕ) (p : ℕ) (r : List ℕ) → s ≡ over s p (take 0 r)
over_none s p r = sym (ap (λ (k : ℕ). take p s ++ drop k s) (add-zero p) ∙ take-append-drop p s)

pub set_over : (s : List ℕ) (p x : ℕ) → p < length s → set s p x ≡ over s p (x ∷ [])
set_over s p x h = set_split s p x h ∙ ap (λ (k : ℕ). take p s ++ (x ∷ drop k s)) (sym (add-one p))

pub over_more : {u : List ℕ} (s : List ℕ) (p : ℕ) (r : List ℕ) (j : ℕ) → u ≡ over s p (take j r) → p + length r ≤ length s → j < length r
    → set u (p + j) (get_or r j 0) ≡ over s p (take (j + 1) r)
over_more s p r j e h i =
    let l : length (take j r) ≡ j = length-take-le j r (omega arith) in
    let m : length (over s p (take j r)) ≡ length s = length_over s p (take j r) (omega arith) in
    ap (λ (u : List ℕ). set u (p + j) (get_or r j 0)) e ∙ set_over (over s p (take j r)) (p + j) (get_or r j 0) (omega arith)
    ∙ ap (λ (n : ℕ). over (over s p (take j r)) (p + n) (get_or r j 0 ∷ [])) (sym l)
    ∙ over_over s p (take j r) (get_or r j 0 ∷ []) (simp length-append (omega arith))
    ∙ ap (over s p) (sym (take-suc r j 0 i) ∙ ap (λ (n : ℕ). take n r) (sym (add-one j)))

pub no_room : (n p k : ℕ) → n < p → false ≡ leb (p + k) n
no_room n p k h = sym (lt-leb (p + k) n (omega arith))

-- a place within a room that was found is a `usize`, and lies within the slice
pub in_room : {r : Bool} (n p k j : ℕ) → r ≡ leb (p + k) n → r ≡ true → n < 2 ^ 64 → j ≤ k → Fits w64 (p + j)
in_room n p k j e t h l = record { fits = omega (arith, held (p + k) n e t) }

pub over_whole : {u : List ℕ} (s : List ℕ) (p : ℕ) (r : List ℕ) (j : ℕ) → u ≡ over s p (take j r) → length r ≤ j → u ≡ over s p r
over_whole s p r j e l = e ∙ ap (over s p) (take_all j r l)

pub over_all : {u : List ℕ} (s : List ℕ) (p : ℕ) (r : List ℕ) (j : ℕ) → u ≡ over s p (take j r) → length r ≤ j → p + length r ≤ length s → u ≡ written s p r
over_all s p r j e l h = over_whole s p r j e l ∙ sym (written_in s p r h)

-- what was written at the start of one list is what its beginning writes to another
pub over_through : {b e : List ℕ} (z s : List ℕ) (p : ℕ) (r : List ℕ) → b ≡ over z 0 r → e ≡ over s p (take (length r) b) → e ≡ over s p r
over_through z s p r b e = e ∙ ap (over s p) (ap (take (length r)) b ∙ take_at r (drop (0 + length r) z) (length r) refl)

pub run_in : {t : Bool} {e : List ℕ} (s : List ℕ) (p : ℕ) (r : List ℕ) → t ≡ leb (p + length r) (length s) → t ≡ true → e ≡ over s p r → e ≡ written s p r
run_in s p r f t e = e ∙ sym (written_in s p r (held (p + length r) (length s) f t))

pub no_run : {t : Bool} (s : List ℕ) (p : ℕ) (r : List ℕ) → t ≡ leb (p + length r) (length s) → t ≡ false → s ≡ written s p r
no_run s p r e t = sym (written_out s p r (failed (p + length r) (length s) e t))
