-- What the look-ups read at their returns: each field at its place.
-- Assumes nothing.
use Prim.Native.Nat.{ℕ, ◌+◌, ◌*◌, ◌/◌, ◌%◌, ◌<◌}
use mathlib.Core.Path.{◌≡◌, refl, ap, ◌∙◌}
use mathlib.Core.Bool.{Bool, true}
use mathlib.Core.List.{List}
use native.Mathlib.Nat.{add_assoc}
use native.Mathlib.Omega.{arith}
use lib.Dec.{leb}
use lib.ListN.{length, get_or}
use mir.Syntax.{w8}
use mir.Val.{Fits}
use Rattle.wire.specs.Bytes.{number, whole}
use Rattle.wire.proofs.Numbers.{number_lt, whole_in}
use Rattle.wire.proofs.Runs.{held}
use Rattle.table.specs.declared.Sections.{Sections}
use Rattle.table.specs.declared.Entry.{Entry}
use Rattle.table.specs.Layout.{type_place, member_place, value_place}
use Rattle.table.specs.Entries.{type_at, member_at, value_at}

pub type_read : (t : List ℕ) (s : Sections) (i p k o f n : ℕ) → p ≡ type_place s i → k ≡ number 1 t p → o ≡ number 1 t (p + 2) → f
    ≡ number 1 t (p + 4) → n ≡ number 1 t (p + 6) → ◌≡◌ {A = Entry} (record { kind = k; of = o; first = f; count = n }) (type_at t s i)
unfolding type_at
type_read t s i p k o f n a b d e g = rw (b, d, e, g, a) refl

-- the four 16-bit numbers of which a 64-bit one is made
quarters : (a b c d w : ℕ) → a < 65536 → b < 65536 → c < 65536 → d < 65536 → w ≡ (a * 65536 + b) * 4294967296 + (c * 65536 + d)
    → (w / 281474976710656 ≡ a) × ((w / 4294967296 % 65536 ≡ b) × ((w / 65536 % 65536 ≡ c) × (w % 65536 ≡ d)))
quarters a b c d w ha hb hc hd e = (omega arith, (omega arith, (omega arith, omega arith)))

pub type_word : (t : List ℕ) (s : Sections) (i p w : ℕ) → ((k : ℕ) → Fits w8 (get_or t k 0)) → p ≡ type_place s i → w ≡ number 3 t p
    → ◌≡◌ {A = Entry} (record { kind = w / 281474976710656; of = w / 4294967296 % 65536; first = w / 65536 % 65536; count = w % 65536 }) (type_at t s i)
type_word t s i p w known a b =
    let below : (q : ℕ) → number 1 t q < 65536 = λ q. number_lt 1 t q (λ k. (known k).fits) in
    let e : w ≡ (number 1 t p * 65536 + number 1 t (p + 2)) * 4294967296 + (number 1 t (p + 4) * 65536 + number 1 t (p + 6)) = omega
    (arith, ap (number 1 t) (add_assoc p 4 2)) in
    let q = quarters (number 1 t p) (number 1 t (p + 2)) (number 1 t (p + 4)) (number 1 t (p + 6)) w (below p) (below (p + 2))
    (below (p + 4)) (below (p + 6)) e in
    type_read t s i p (w / 281474976710656) (w / 4294967296 % 65536) (w / 65536 % 65536) (w % 65536) a q.0 q.1.0 q.1.1.0 q.1.1.1

-- one number, at a place that was computed
module _ (t : List ℕ) (s : Sections) (i p r : ℕ) where
  pub member-read : p ≡ member_place s i → r ≡ number 1 t p → r ≡ member_at t s i
  unfolding member_at
  member-read a b = b ∙ ap (number 1 t) a

  pub value_read : p ≡ value_place s i → r ≡ number 3 t p → r ≡ value_at t s i
  unfolding value_at
  value_read a b = b ∙ ap (number 3 t) a
