-- That every part of a buffer that the program lends lies in the buffer.
-- Assumes nothing.
use Prim.Native.Nat.{ℕ, ◌+◌, ◌-◌, ◌≤◌, ◌<◌}
use Rattle.std.specs.Prelude.{Option, Result}
use Rattle.refusal.specs.Refusal.{number_of}
use Rattle.refusal.specs.declared.Refusal.{Refusal}
use mathlib.Core.Path.{◌≡◌, refl, sym, ap, subst}
use mathlib.Core.Bool.{Bool, true, false}
use mathlib.Core.List.{List}
use native.Mathlib.Omega.{arith}
use mir.Syntax.{w8, w64}
use mir.Val.{Fits}
use lib.Dec.{leb}
use lib.ListN.{length, get_or, take, drop, length-take}
use lib.Seq.{length-take-le}
use Rattle.wire.specs.Bytes.{part}
use Rattle.wire.proofs.Cond.{clash}
use Rattle.wire.proofs.Numbers.{octets_take}
use Rattle.recording.specs.Datagrams.{next_in}
use Rattle.recording.specs.Opening.{opened_in}
use Rattle.recording.specs.declared.Coming.{Coming}
use Rattle.recording.specs.declared.Coming.TheVariants.{Unfinished}
use Rattle.recording.specs.declared.start.Opened.{Opened}
use Rattle.recording.proofs.Finding.{left-starts, left-short}
use Rattle.recording.proofs.Starting.{open-rooms, refused-by-20}
use Rattle.files.specs.Reading.{Brought}
use Rattle.files.specs.declared.Came.{Came}
use Rattle.files.specs.declared.Came.TheVariants.{More}
use Rattle.replay.specs.Bounds.{input_length, rooms_length, RoomsFit}
use Rattle.recording.specs.declared.lines.Ending.{Ending}
use Rattle.replay.specs.Endings.{Says20, RefusalIs20, NextWithin}
use Rattle.replay.specs.declared.player.Next.{Next}
use Rattle.replay.specs.declared.player.Next.TheVariants.{Write, Filled, End}

-- a part is no longer than was asked for
length_part : (s : List ℕ) (p n : ℕ) → length (part s p n) ≤ n
length_part s p n = go (leb (p + n) (length s)) refl
  where
    go : (t : Bool) → leb (p + n) (length s) ≡ t → length (part s p n) ≤ n
    go true e = rw e (omega (arith, length-take n (drop p s)))
    go false e = rw e (omega arith)

-- what more came lies in the input too, and at least one byte did
module _ {came : Came} (all n m : ℕ) (l : all ≡ input_length) (b : Brought n all came) (e : came ≡ More m) where
  some_more : Brought n all (More m)
  some_more = subst (Brought n all) e b

  pub more-filled : n + m ≤ input_length
  more-filled = omega (arith, some_more.1)

  pub more_left : input_length - (n + m) < input_length - n
  more_left = omega (arith, some_more.0, some_more.1)

  pub more-counted : Fits w64 (n + m)
  more-counted = record { fits = omega (arith, some_more.1) }

module _ (s : List ℕ) (n : ℕ) (l : length s ≡ input_length) (h : n ≤ input_length) where
  pub filled-part : n ≡ length (take n s)
  filled-part = sym (length-take-le n s (omega arith))

  pub rooms-fit : {r : Result (Option Opened) Refusal} → r ≡ opened_in (take n s) → RoomsFit r
  rooms-fit e o g = open-rooms (take n s) e o g

  pub refusal-is-20 : {r : Result (Option Opened) Refusal} → r ≡ opened_in (take n s) → RefusalIs20 r
  refusal-is-20 e k g = ap number_of (refused-by-20 (take n s) e k g)

  -- what is left of a datagram leaves room for the rest
  pub left-within : {f : Coming} (at : ℕ) → f ≡ next_in (take n s) at → f ≡ Unfinished → at ≤ n
  left-within at e g = omega (arith, filled-part, left-starts (take n s) at e g)

  pub kept-room : {f : Coming} {k : ℕ} (at : ℕ) → ((i : ℕ) → Fits w8 (get_or s i 0)) → f ≡ next_in (take n s) at → f ≡ Unfinished → k
      ≡ length (part s at (n - at)) → k < input_length
  kept-room {f} {k} at o e g q =
      omega (arith, filled-part, left-short (take n s) at e g (octets_take n s (λ i. omega (arith, o i))), length_part s at (n - at))

-- the rooms of a recording are a part of the program's
pub rooms_part : (s : List ℕ) (n : ℕ) → rooms_length ≡ length s → n ≤ rooms_length → n ≡ length (take n s)
rooms_part s n l h = sym (length-take-le n s (omega arith))

-- what is to be done next, by what was met
module _ {next : Next} (h : NextWithin next) where
  pub next-filled : (n : ℕ) → next ≡ Filled n → n ≤ input_length
  next-filled n e = subst NextWithin e h

  pub next-ending : (e : Ending) → next ≡ End e → Says20 e
  next-ending e f = subst NextWithin f h

-- no line is owed, and anything may be next
pub not_owed : {owed : Bool} (next : Next) → owed ≡ false → owed ≡ true → next ≡ Write
not_owed next e f = absurd (clash e f)
