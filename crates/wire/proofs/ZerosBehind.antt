-- A number that is read of its bytes with zeros behind them: of all its bytes, or of those that are there.
-- Assumes nothing.
use Prim.Native.Nat.{ℕ, zero, suc, ◌+◌, ◌-◌, ◌^◌}
use mathlib.Core.Path.{◌≡◌, refl, sym, ap, ◌∙◌}
use mathlib.Core.Bool.{Bool, true, false}
use mathlib.Core.List.{List, [], ◌++◌}
use native.Mathlib.Nat.{add-zero, add-sub_cancel_left}
use native.Mathlib.Omega.{arith}
use borrow.Author.Tests.{ltb-true, ltb-false}
use lib.Dec.{ltb, leb}
use lib.ListN.{length, get_or, take, drop, replicate, length-drop, get_or-eq_default, get_or-append}
use lib.Seq.{take_all, take_at, get_or-append-add, get_or-drop}
use Rattle.std.specs.Prelude.{min}
use Rattle.std.proofs.lemmas.List.{get_or-replicate}
use Rattle.std.proofs.Math.Nat.{min-eq_left, min-eq_right}
use Rattle.wire.specs.Bytes.{number, whole, bytes, written, padded}
use Rattle.wire.proofs.Numbers.{number_take, number_drop, past_end, whole_out, length_bytes}
use Rattle.wire.proofs.Runs.{failed}

abbrev zeros : List ℕ
zeros = replicate 8 0

all_zero : (i : ℕ) → get_or zeros i 0 ≡ 0
all_zero i = go (ltb i 8) refl
  where
    go : (b : Bool) → ltb i 8 ≡ b → get_or zeros i 0 ≡ 0
    go true e = get_or-replicate 8 i 0 0 (ltb-true i 8 e)
    go false e = get_or-eq_default zeros 0 (ltb-false i 8 e)

-- where nothing but zeros follows, they change no number
zeros_behind : (k : ℕ) (xs zs : List ℕ) (n : ℕ) → ((i : ℕ) → get_or zs i 0 ≡ 0) → number k (xs ++ zs) n ≡ number k xs n
zeros_behind zero xs zs n z = go (ltb n (length xs)) refl
  where
    go : (b : Bool) → ltb n (length xs) ≡ b → get_or (xs ++ zs) n 0 ≡ get_or xs n 0
    go true e = get_or-append xs zs 0 n (ltb-true n (length xs) e)
    go false e =
        let m : ℕ = n - length xs in
        let q : n ≡ length xs + m = omega (arith, ltb-false n (length xs) e) in
        ap (λ (i : ℕ). get_or (xs ++ zs) i 0) q
        ∙ get_or-append-add xs zs m 0
        ∙ z m
        ∙ sym (get_or-eq_default xs 0 (ltb-false n (length xs) e))
zeros_behind (suc k) xs zs n z = rw (zeros_behind k xs zs n z, zeros_behind k xs zs (n + 2 ^ k) z)

number_padded : (k : ℕ) (b : List ℕ) → number k (padded b) 0 ≡ number k b 0
number_padded k b = zeros_behind k b (drop (length b) zeros) 0 (λ i. get_or-drop (length b) zeros i 0 ∙ all_zero (length b + i))

-- all of its bytes
pub read_whole : (k : ℕ) {r w : ℕ} {b : List ℕ} (s : List ℕ) (p : ℕ) → w ≡ 2 ^ k → b ≡ padded (take (p + w - p) (drop p s)) → r ≡ number k b 0
    → r ≡ number k s p
read_whole k {r} {w} {b} s p h e f =
    f
    ∙ ap (λ (u : List ℕ). number k u 0) e
    ∙ number_padded k (take (p + w - p) (drop p s))
    ∙ ap (λ (n : ℕ). number k (take n (drop p s)) 0) (add-sub_cancel_left p w ∙ h)
    ∙ number_take k (2 ^ k) (drop p s) 0 (omega arith)
    ∙ number_drop k p s 0
    ∙ ap (number k s) (add-zero p)

-- those that are there
pub read_cut : (k : ℕ) {r q : ℕ} {b : List ℕ} (s : List ℕ) (p : ℕ) → q ≡ min p (length s) → b ≡ padded (take (length s - q) (drop q s)) → r ≡ number k b 0
    → r ≡ number k s p
read_cut k {r} {q} {b} s p h e f =
    f
    ∙ ap (λ (u : List ℕ). number k u 0) e
    ∙ number_padded k (take (length s - q) (drop q s))
    ∙ ap (λ (u : List ℕ). number k u 0) (take_all (length s - q) (drop q s) (simp length-drop (omega arith)))
    ∙ number_drop k q s 0
    ∙ ap (number k s) (add-zero q)
    ∙ go (ltb p (length s)) refl
  where
    go : (c : Bool) → ltb p (length s) ≡ c → number k s q ≡ number k s p
    go true g = ap (number k s) (h ∙ min-eq_left (omega (arith, ltb-true p (length s) g)))
    go false g = past_end k s q (omega (arith, h ∙ min-eq_right (ltb-false p (length s) g))) ∙ sym (past_end k s p (ltb-false p (length s) g))

-- and none of them
pub read_none : (k : ℕ) {r : ℕ} {t : Bool} (s : List ℕ) (p : ℕ) → t ≡ leb (p + 2 ^ k) (length s) → t ≡ false → r ≡ number k zeros 0 → r ≡ whole k s p
read_none k s p e t f = f ∙ number_padded k [] ∙ past_end k [] 0 (omega arith) ∙ sym (whole_out k s p (failed (p + 2 ^ k) (length s) e t))

-- a number's bytes are the first of them
pub put_whole : (k : ℕ) {w : ℕ} {b e : List ℕ} (s : List ℕ) (p x : ℕ) → w ≡ 2 ^ k → b ≡ padded (bytes k x) → e ≡ written s p (take w b)
    → e ≡ written s p (bytes k x)
put_whole k {w} {b} {e} s p x h f g =
    g ∙ ap (λ (u : List ℕ). written s p (take w u)) f
    ∙ ap (written s p) (take_at (bytes k x) (drop (length (bytes k x)) zeros) w (length_bytes k x ∙ sym h))
