-- What reading a header shows at its returns.
-- Assumes nothing.
use Prim.Native.Nat.{ℕ, ◌*◌, ◌/◌, ◌%◌}
use Rattle.std.specs.Prelude.{Ok, Err}
use Rattle.refusal.specs.declared.Refusal.TheVariants.{DatagramLength, DatagramVersion}
use mathlib.Core.Path.{◌≡◌, sym, ◌∙◌}
use mathlib.Core.Bool.{true, false, ◌&&◌}
use mathlib.Core.List.{List}
use native.Mathlib.Omega.{arith}
use borrow.Author.Tests.{eq-eqb, ne_eqb}
use lib.Dec.{leb}
use lib.ListN.{length}
use Rattle.wire.specs.Bytes.{number, Octets}
use Rattle.wire.proofs.Numbers.{number_lt}
use Rattle.binding.specs.declared.MessagePart.{MessagePart}
use Rattle.binding.specs.declared.MessagePart.TheVariants.{Begin, Middle, End, Whole}
use Rattle.binding.specs.declared.BindingHeader.{BindingHeader}
use Rattle.binding.specs.Header.{the_version, senders, counters, smallest_datagram, largest_datagram, code_of, part_of_code}
use Rattle.binding.specs.Header.{header_of, version_in, sender_in, counter_in, heading_in}

pub has_code : (p : MessagePart) {x : ℕ} → x ≡ code_of p → p ≡ part_of_code x
has_code Begin e = rw e
has_code Middle e = rw e
has_code End e = rw e
has_code Whole e = rw e

pub no_other : {x : ℕ} → (x ≡ code_of Begin → ⊥) → (x ≡ code_of Middle → ⊥) → (x ≡ code_of End → ⊥) → Whole ≡ part_of_code x
no_other {x} a b c = simp (ne_eqb x (code_of Begin) a, ne_eqb x (code_of Middle) b, ne_eqb x (code_of End) c)

module _ (d : List ℕ) where
  pub not-so-long : (leb smallest_datagram (length d) && leb (length d) largest_datagram) ≡ false → Err DatagramLength ≡ heading_in d
  not-so-long e = rw e

  module _ (l : (leb smallest_datagram (length d) && leb (length d) largest_datagram) ≡ true) (o : Octets d) {w : ℕ} (e : w ≡ number 2 d 0) where
    -- the header as one number: version, part, sender and counter, from the most significant bit on
    version_of : w / (4 * senders * counters) ≡ version_in d
    version_of = omega (arith, o 1, number_lt 1 d 2 o)

    part_of : w / (senders * counters) % 4 ≡ number 0 d 0 / 16 % 4
    part_of = omega (arith, o 1, number_lt 1 d 2 o)

    sender-of : w / counters % senders ≡ sender_in d
    sender-of = omega (arith, o 1, number_lt 1 d 2 o)

    counter-of : w % counters ≡ counter_in d
    counter-of = omega (arith, number_lt 1 d 2 o)

    pub no-version : (w / (4 * senders * counters) ≡ the_version → ⊥) → Err DatagramVersion ≡ heading_in d
    no-version n = rw (l, ← version_of, ne_eqb (w / (4 * senders * counters)) the_version n)

    pub a-header : {p : MessagePart} {h : BindingHeader} → w / (4 * senders * counters) ≡ the_version → p
        ≡ part_of_code (w / (senders * counters) % 4) → h ≡ header_of p (w / counters % senders) (w % counters) → Ok h ≡ heading_in d
    a-header v ep eh = rw (l, eq-eqb (version_in d) the_version (sym version_of ∙ v), eh, ep, part_of, sender-of, counter-of)
