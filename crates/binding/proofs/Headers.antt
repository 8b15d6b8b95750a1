-- Laws of the binding header: what is written reads back, what is read writes back, and the ranges of what is read.
-- Assumes nothing.
use Prim.Native.Nat.{ℕ, zero, suc, ◌+◌, ◌-◌, ◌*◌, ◌/◌, ◌%◌, ◌≤◌, ◌<◌}
use Rattle.std.specs.Prelude.{Ok, Err}
use Rattle.refusal.specs.declared.Refusal.TheVariants.{DatagramLength, DatagramVersion}
use mathlib.Core.Path.{◌≡◌, refl, sym, ap, ◌∙◌}
use mathlib.Core.Bool.{Bool, true, false, ◌&&◌, cond}
use mathlib.Core.List.{List, ◌∷◌, ◌++◌}
use native.Mathlib.Omega.{arith}
use borrow.Author.Tests.{le-leb, lt-leb, leb-true, eq-eqb, ne_eqb, eqb-true}
use lib.Dec.{leb, eqb}
use lib.ListN.{length, get_or, drop, length-drop}
use lib.Seq.{drop-cons}
use Rattle.wire.specs.Bytes.{number, Octets}
use Rattle.wire.proofs.Numbers.{number_lt}
use Rattle.binding.specs.declared.MessagePart.{MessagePart}
use Rattle.binding.specs.declared.MessagePart.TheVariants.{Begin, Middle, End, Whole}
use Rattle.binding.specs.declared.BindingHeader.{BindingHeader}
use Rattle.binding.specs.Header.{header_length, the_version, senders, counters, largest_piece, smallest_datagram}
use Rattle.binding.specs.Header.{largest_datagram, code_of, part_of_code, version_in, part_carried, sender_in, counter_in, header_in}
use Rattle.binding.specs.Header.{piece_in, heading_in, header_bytes}
use Rattle.binding.proofs.Reading.{has_code}

pub code_lt : (p : MessagePart) → code_of p < 4
code_lt Begin = omega arith
code_lt Middle = omega arith
code_lt End = omega arith
code_lt Whole = omega arith

-- each part has its code, and each code its part
pub code_part : (p : MessagePart) → part_of_code (code_of p) ≡ p
code_part p = sym (has_code p refl)

pub part_code : (x : ℕ) → x < 4 → code_of (part_of_code x) ≡ x
part_code zero h = refl
part_code (suc zero) h = refl
part_code (suc (suc zero)) h = refl
part_code (suc (suc (suc zero))) h = refl
part_code (suc (suc (suc (suc x)))) h = absurd (omega arith)

-- a datagram that has a header: 01's 21 and 22 do not apply
pub record Headed (d : List ℕ) (h : BindingHeader) : Type 0 where
  pub long : smallest_datagram ≤ length d
  pub short : length d ≤ largest_datagram
  pub version : version_in d ≡ the_version
  pub fields : h ≡ header_in d

pub headed_heading : (d : List ℕ) (h : BindingHeader) → Headed d h → heading_in d ≡ Ok h
headed_heading d h w = rw (
  w.fields,
  le-leb smallest_datagram (length d) w.long,
  le-leb (length d) largest_datagram w.short,
  eq-eqb (version_in d) the_version w.version,
)

pub heading_headed : (d : List ℕ) (h : BindingHeader) → heading_in d ≡ Ok h → Headed d h
heading_headed d h e = go (leb smallest_datagram (length d)) (leb (length d) largest_datagram) (eqb (version_in d) the_version) refl refl refl e
  where
    go : (a b v : Bool) → leb smallest_datagram (length d) ≡ a → leb (length d) largest_datagram ≡ b → eqb (version_in d) the_version ≡ v →
        cond (a && b) (cond v (Ok (header_in d)) (Err DatagramVersion)) (Err DatagramLength) ≡ Ok h → Headed d h
    go true true true ea eb ev q = record {
      long = leb-true smallest_datagram (length d) ea;
      short = leb-true (length d) largest_datagram eb;
      version = eqb-true (version_in d) the_version ev;
      fields = cc;
    }
    go true true false ea eb ev q = let z : ◌≡◌ {A = ℕ} 0 1 = cc in absurd (omega arith)
    go true false v ea eb ev q = let z : ◌≡◌ {A = ℕ} 0 1 = cc in absurd (omega arith)
    go false b v ea eb ev q = let z : ◌≡◌ {A = ℕ} 0 1 = cc in absurd (omega arith)

-- where 21 and 22 apply
pub too_short : (d : List ℕ) → length d < smallest_datagram → heading_in d ≡ Err DatagramLength
too_short d h = rw (lt-leb smallest_datagram (length d) h)

pub too_long : (d : List ℕ) → largest_datagram < length d → heading_in d ≡ Err DatagramLength
too_long d h = rw (le-leb smallest_datagram (length d) (omega arith), lt-leb (length d) largest_datagram h)

pub other_version : (d : List ℕ) → smallest_datagram ≤ length d → length d ≤ largest_datagram → (version_in d ≡ the_version → ⊥)
    → heading_in d ≡ Err DatagramVersion
other_version d l m n = rw (le-leb smallest_datagram (length d) l, le-leb (length d) largest_datagram m, ne_eqb (version_in d) the_version n)

-- the ranges of what is read
pub sender_below : (d : List ℕ) → Octets d → sender_in d < senders
sender_below d o = omega (arith, o 1)

pub counter_below : (d : List ℕ) → Octets d → counter_in d < counters
counter_below d o = number_lt 1 d 2 o

pub piece_length : (d : List ℕ) → length (piece_in d) ≡ length d - header_length
piece_length d = length-drop header_length d

-- what is written is bytes
pub header_octets : (h : BindingHeader) (q : List ℕ) → h.sender < senders → h.counter < counters → Octets q → Octets (header_bytes h ++ q)
header_octets h q hs hc o zero = omega (arith, code_lt h.part)
header_octets h q hs hc o (suc zero) = omega arith
header_octets h q hs hc o (suc (suc zero)) = omega arith
header_octets h q hs hc o (suc (suc (suc zero))) = omega arith
header_octets h q hs hc o (suc (suc (suc (suc i)))) = o i

-- written, then read: the same header, and the piece behind it
pub header_back : (h : BindingHeader) (q : List ℕ) → h.sender < senders → h.counter < counters → 1 ≤ length q → length q ≤ largest_piece
    → heading_in (header_bytes h ++ q) ≡ Ok h
header_back h q hs hc l m =
    let d : List ℕ = header_bytes h ++ q in
    let k : code_of h.part < 4 = code_lt h.part in
    let e : number 0 d 0 / 16 % 4 ≡ code_of h.part = omega arith in
    let p : h.part ≡ part_carried d = has_code h.part e in
    let s : sender_in d ≡ h.sender = omega arith in
    let c : counter_in d ≡ h.counter = omega arith in
    headed_heading d h (record { long = omega arith; short = omega arith; version = omega arith; fields = rw (← p, s, c) })

pub piece_back : (h : BindingHeader) (q : List ℕ) → piece_in (header_bytes h ++ q) ≡ q
piece_back h q = refl

front_four : (d : List ℕ) → 5 ≤ length d → d ≡ get_or d 0 0 ∷ get_or d 1 0 ∷ get_or d 2 0 ∷ get_or d 3 0 ∷ drop 4 d
front_four d h =
    drop-cons d 0 0 (omega arith)
    ∙ ap (◌∷◌ (get_or d 0 0)) (drop-cons d 1 0 (omega arith)
    ∙ ap (◌∷◌ (get_or d 1 0)) (drop-cons d 2 0 (omega arith)
    ∙ ap (◌∷◌ (get_or d 2 0)) (drop-cons d 3 0 (omega arith))))

-- read, then written: the same bytes
pub bytes_back : (d : List ℕ) (h : BindingHeader) → Octets d → heading_in d ≡ Ok h → header_bytes h ++ piece_in d ≡ d
bytes_back d h o e =
    let w : Headed d h = heading_headed d h e in
    let b : get_or d 0 0 < 256 = o 0 in
    let k : code_of (part_carried d) ≡ number 0 d 0 / 16 % 4 = part_code (number 0 d 0 / 16 % 4) (omega arith) in
    let b0 : 0 + code_of (part_carried d) * 16 + sender_in d / 256 ≡ get_or d 0 0 = omega (arith, o 1, w.version) in
    let b1 : sender_in d % 256 ≡ get_or d 1 0 = omega (arith, o 1) in
    let b2 : counter_in d / 256 ≡ get_or d 2 0 = omega (arith, o 3) in
    let b3 : counter_in d % 256 ≡ get_or d 3 0 = omega (arith, o 3) in
    rw (w.fields, b0, b1, b2, b3) (sym (front_four d w.long))
