-- Storing runs: a turn of the loop over them.
-- Assumes nothing.
use Prim.Native.Nat.{ℕ, min, ◌+◌, ◌-◌, ◌*◌, ◌^◌, ◌≤◌, ◌<◌}
use mathlib.Core.Path.{◌≡◌, refl, ap, ◌∙◌}
use mathlib.Core.List.{List}
use native.Mathlib.Nat.{zero-mul, add-zero}
use native.Mathlib.Numerals.{add-one}
use native.Mathlib.Omega.{arith}
use mir.Syntax.{w64}
use mir.Val.{Fits}
use lib.ListN.{length, get_or, set}
use Rattle.table.specs.Leaf.{width}
use Rattle.leaf.specs.Forms.{word_at}
use Rattle.walk.specs.declared.Place.{Place}
use Rattle.walk.specs.Runs.{code_in, many_in}
use Rattle.unpack_leaves.specs.OneCode.{along, filled}
use Rattle.unpack.specs.RunByRun.{place_at, stored_upto, Within}
use Rattle.unpack_leaves.proofs.OneLeaf.{stored_word}
use Rattle.unpack_leaves.proofs.WholeRuns.{bytes_fit}

-- one leaf of a code that has its bytes
module _ (b : List ℕ) (code : ℕ) (p : Place) (x : List ℕ) where
  pub leaf-stored : (at w : ℕ) → at ≡ p.to → at < length x → w ≡ word_at code b p.from → set x at w ≡ filled b code p 1 x
  unfolding filled
  leaf-stored at w e h r = stored_word x at w b p.from code h r ∙ rw (e, zero-mul (width code), add-zero p.from, add-zero p.to) refl

-- behind no run, and behind all
pub place_start : (runs : List ℕ) (p : Place) (upto : ℕ) → p ≡ place_at runs p upto 0
unfolding place_at
place_start runs p upto = refl

pub stored_start : (b runs : List ℕ) (p : Place) (upto : ℕ) (x : List ℕ) → x ≡ stored_upto b runs p upto 0 x
unfolding stored_upto
stored_start b runs p upto x = refl

-- the bytes of some leaves of a run are few
pub some_fit : (n many room w code : ℕ) → n ≡ min many room → many < 2 ^ 32 → w ≡ width code → Fits w64 (n * w)
some_fit n many room w code e few is = bytes_fit n w code is (omega arith)

-- so many leaves of the next
module _ (runs : List ℕ) (p : Place) (upto k from to : ℕ) (at : ◌≡◌ {A = Place} (record { from = from; to = to }) (place_at runs p upto k)) (code many n : ℕ)
    (code_is : code ≡ code_in (get_or runs k 0)) (many_is : many ≡ many_in (get_or runs k 0)) (least : n ≡ min many (upto - to)) where
  place_is : along code (record { from = from; to = to }) n ≡ place_at runs p upto (k + 1)
  unfolding place_at
  place_is = rw (add-one k, ← at, ← code_is, ← many_is, ← least) refl

  pub place-next : (w : ℕ) → w ≡ width code → ◌≡◌ {A = Place} (record { from = from + n * w; to = to + n }) (place_at runs p upto (k + 1))
  place-next w is = ap (λ (v : ℕ). record { from = from + n * v; to = to + n }) is ∙ place_is

  module _ (b : List ℕ) (within : Within b runs p upto) (less : k < length runs) where
    pub bytes-in : from + n * width code ≤ length b
    bytes-in = omega (arith, ap (λ (q : Place). q.from) place_is, within (k + 1) (omega arith))

    pub from-fits : (w : ℕ) → w ≡ width code → length b * 1 < 2 ^ 63 → Fits w64 (from + n * w)
    from-fits w is few = rw is (record { fits = omega (arith, bytes-in) })

    pub stored_next : (x y z : List ℕ) → y ≡ stored_upto b runs p upto k x
        → z ≡ filled b code (record { from = from; to = to }) n y → z ≡ stored_upto b runs p upto (k + 1) x
    unfolding stored_upto
    stored_next x y z h e =
        e ∙ rw (add-one k, ← at, ← code_is, ← many_is, ← least, ← h) refl
