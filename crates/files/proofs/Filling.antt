-- What a read asks at its returns: what came lies behind what was filled, and nothing else is touched.
-- Assumes nothing.
use Prim.Native.Nat.{ℕ, ◌+◌, ◌-◌, ◌≤◌}
use mathlib.Core.Path.{◌≡◌, refl, sym, ap, ◌∙◌, subst}
use mathlib.Core.Bool.{Bool, true, false}
use mathlib.Core.List.{List}
use native.Mathlib.Omega.{arith}
use borrow.Author.Tests.{leb-true, leb-false}
use lib.Dec.{leb}
use lib.ListN.{length, take, drop, length-take}
use lib.Seq.{length-take-le, drop-drop, drop_at}
use Rattle.wire.specs.Bytes.{written, part}
use Rattle.wire.proofs.Runs.{written_in, written_out, part_in, part_out, take_over, drop_over}
use Rattle.files.specs.Reading.{Brought}
use Rattle.files.specs.declared.Came.{Came}
use Rattle.files.specs.declared.Came.TheVariants.{More, Failed}

-- a part of the chunk is lent
pub chunk_part : (t : List ℕ) (room : ℕ) → room ≤ length t → room ≡ length (take room t)
chunk_part t room h = sym (length-take-le room t h)

-- what stands before a run stays, and so does what stands behind it
module _ {u : List ℕ} (s run : List ℕ) (p : ℕ) (e : u ≡ written s p run) where
  pub before-kept : take p u ≡ take p s
  before-kept = go (leb (p + length run) (length s)) refl
    where
      go : (t : Bool) → leb (p + length run) (length s) ≡ t → take p u ≡ take p s
      go true h =
          let f : p + length run ≤ length s = leb-true (p + length run) (length s) h in
          ap (take p) (e ∙ written_in s p run f) ∙ take_over s p run (omega arith)
      go false h = ap (take p) (e ∙ written_out s p run (leb-false (p + length run) (length s) h))

  pub behind-kept : drop (p + length run) u ≡ drop (p + length run) s
  behind-kept = go (leb (p + length run) (length s)) refl
    where
      go : (t : Bool) → leb (p + length run) (length s) ≡ t → drop (p + length run) u ≡ drop (p + length run) s
      go true h =
          let f : p + length run ≤ length s = leb-true (p + length run) (length s) h in
          ap (drop (p + length run)) (e ∙ written_in s p run f)
          ∙ sym (drop-drop (length run) p _)
          ∙ ap (drop (length run)) (drop_over s p run (omega arith))
          ∙ drop_at run (drop (p + length run) s) (length run) refl
      go false h = ap (drop (p + length run)) (e ∙ written_out s p run (leb-false (p + length run) (length s) h))

module _ {came : Came} (s t : List ℕ) (filled room : ℕ) (f : room ≤ length s - filled) (b : Brought 0 (length (take room t)) came) where
  pub more-fits : (n : ℕ) → came ≡ More n → Brought filled (length s) (More n)
  more-fits n e =
      let w : Brought 0 (length (take room t)) (More n) = subst (Brought 0 (length (take room t))) e b in
      (omega arith, omega (arith, w.0, w.1, length-take room t))

  pub failed-within : (error : _) → came ≡ Failed error → Brought filled (length s) (Failed error)
  failed-within error e =
      let w : Brought 0 (length (take room t)) (Failed error) = subst (Brought 0 (length (take room t))) e b in
      omega (arith, length-take room t)

-- so many bytes from the chunk, or none where it is shorter
pub more_behind : {u run : List ℕ} (s t : List ℕ) (filled n : ℕ) → u ≡ written s filled run → run ≡ part t 0 n → drop (filled + n) u ≡ drop (filled + n) s
more_behind {u} {run} s t filled n e p = go (leb (0 + n) (length t)) refl
  where
    kept : drop (filled + length run) u ≡ drop (filled + length run) s
    kept = behind-kept s run filled e

    go : (b : Bool) → leb (0 + n) (length t) ≡ b → drop (filled + n) u ≡ drop (filled + n) s
    go true h =
        let i : 0 + n ≤ length t = leb-true (0 + n) (length t) h in
        let k : length run ≡ n = ap length (p ∙ part_in t 0 n i) ∙ length-take-le n t (omega arith) in
        rw k at kept
    go false h =
        let k : length run ≡ 0 = ap length (p ∙ part_out t 0 n (leb-false (0 + n) (length t) h)) in
        let q : filled + length run ≡ filled = omega arith in
        let z : drop filled u ≡ drop filled s = rw q at kept in
        sym (drop-drop n filled u) ∙ ap (drop n) z ∙ drop-drop n filled s
