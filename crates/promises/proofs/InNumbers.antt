-- What the user grants in 01's numbers is what demand 3 is proved for.
-- Assumes nothing.
use Prim.Native.Nat.{ℕ, zero, suc, ◌+◌, ◌-◌, ◌*◌, ◌/◌, ◌%◌, ◌≤◌, ◌<◌}
use Rattle.promises.proofs.SetUps.{its_joiner, is_accepted}
use Rattle.std.specs.Prelude.{Ok, IsOk}
use mathlib.Core.Path.{◌≡◌, refl, sym, ap, ◌∙◌}
use mathlib.Core.Bool.{Bool, true, false, cond, not, ◌&&◌, ◌||◌, true≢false}
use mathlib.Core.Logic.{inl, inr, ⊎_elim}
use mathlib.Core.List.{List, [], ◌∷◌}
use native.Mathlib.Omega.{arith}
use borrow.Author.Tests.{le-leb, leb-true, eq-eqb, eqb-true, ltb-true, ltb-false}
use lib.Dec.{leb, eqb}
use lib.ListN.{length, get_or}
use Rattle.wire.proofs.Cond.{and_left, and_right, and_true, either}
use Rattle.binding.specs.declared.MessagePart.{MessagePart}
use Rattle.binding.specs.declared.MessagePart.TheVariants.{Begin, Middle, End, Whole}
use Rattle.binding.specs.Header.{header_of, header_bytes}
use Rattle.joiner.specs.Setup.{setup_of, Acceptable, fresh_of}
use Rattle.joiner.proofs.Accepted.{accepts, accepted}
use Rattle.promises.specs.Order.{CanSetUp}
use Rattle.promises.specs.Senders.{Piece, Message, Sender, Sent, Genuine, sent_by, arrived, losses_within, together, good_pieces, good_message, good_messages}
use Rattle.promises.specs.Traffic.{Datagram}
use Rattle.promises.specs.Demand3.{Granted}
use Rattle.promises.specs.InNumbers.{no_piece, Fits, copies_at, FewLost, GenuineIn, Given, part_number, InNumbers}

-- a set-up
pub acceptable : (ids : List ℕ) (R b : ℕ) → CanSetUp ids R b → Acceptable ids R b
acceptable ids R b s =
    record { some = s.some; few = s.few; wide = s.wide; narrow = s.narrow; whole = s.whole; range = s.range; once = s.once }

pub set_ups : (ids : List ℕ) (R b : ℕ) → CanSetUp ids R b → setup_of ids R b ≡ Ok (fresh_of ids R)
set_ups ids R b s = accepts ids R b (acceptable ids R b s)

set_ups_back : (ids : List ℕ) (R b : ℕ) → IsOk (setup_of ids R b) → CanSetUp ids R b
set_ups_back ids R b h =
    let a : Acceptable ids R b = accepted ids R b (its_joiner ids R b h) in
    record { some = a.some; few = a.few; wide = a.wide; narrow = a.narrow; whole = a.whole; range = a.range; once = a.once }

-- the pieces of a message
pieces_good : (m : Message) → ((i : ℕ) → i < length m → 1 ≤ length (get_or m i no_piece).bytes) →
    ((i : ℕ) → i < length m → length (get_or m i no_piece).bytes ≤ 65503) → good_pieces m ≡ true
pieces_good [] least most = refl
pieces_good (p ∷ ps) least most =
    let a : leb 1 (length p.bytes) ≡ true = le-leb 1 (length p.bytes) (least 0 (omega arith)) in
    let b : leb (length p.bytes) 65503 ≡ true = le-leb (length p.bytes) 65503 (most 0 (omega arith)) in
    let c : good_pieces ps ≡ true = pieces_good ps (λ i h. least (suc i) (omega arith)) (λ i h. most (suc i) (omega arith)) in
    rw (a, b, c)

module _ (p : Piece) (ps : Message) (e : good_pieces (p ∷ ps) ≡ true) where
  abbrev low : Bool
  low = leb 1 (length p.bytes)

  abbrev high : Bool
  high = leb (length p.bytes) 65503

  first-least : 1 ≤ length p.bytes
  first-least = leb-true 1 (length p.bytes) (and_left low high (and_left (low && high) (good_pieces ps) e))

  first-most : length p.bytes ≤ 65503
  first-most = leb-true (length p.bytes) 65503 (and_right low high (and_left (low && high) (good_pieces ps) e))

  others : good_pieces ps ≡ true
  others = and_right (low && high) (good_pieces ps) e

good_least : (m : Message) → good_pieces m ≡ true → (i : ℕ) → i < length m → 1 ≤ length (get_or m i no_piece).bytes
good_least [] e i h = absurd (omega arith)
good_least (p ∷ ps) e zero h = first-least p ps e
good_least (p ∷ ps) e (suc i) h = good_least ps (others p ps e) i (omega arith)

good_most : (m : Message) → good_pieces m ≡ true → (i : ℕ) → i < length m → length (get_or m i no_piece).bytes ≤ 65503
good_most [] e i h = absurd (omega arith)
good_most (p ∷ ps) e zero h = first-most p ps e
good_most (p ∷ ps) e (suc i) h = good_most ps (others p ps e) i (omega arith)

-- a message
or_left : (a b : Bool) → a ≡ true → (a || b) ≡ true
or_left true b e = refl
or_left false true e = refl
or_left false false e = e

or_right : (a b : Bool) → b ≡ true → (a || b) ≡ true
or_right true b e = refl
or_right false b e = e

module _ (R : ℕ) (m : Message) where
  abbrev one : Bool
  one = eqb (length m) 1

  abbrev short : Bool
  short = leb (length (together m)) R

  abbrev some : Bool
  some = leb 1 (length m)

  fits-good : Fits R m → good_message R m ≡ true
  fits-good f =
      and_true (some && good_pieces m) (one || short)
      (and_true some (good_pieces m) (le-leb 1 (length m) f.some) (pieces_good m f.least f.most))
      (⊎_elim (λ e. or_left one short (eq-eqb (length m) 1 e)) (λ h. or_right one short (le-leb (length (together m)) R h)) f.room)

  good-fits : good_message R m ≡ true → Fits R m
  good-fits e =
      let a : (some && good_pieces m) ≡ true = and_left (some && good_pieces m) (one || short) e in
      let p : good_pieces m ≡ true = and_right some (good_pieces m) a in
      record {
        some = leb-true 1 (length m) (and_left some (good_pieces m) a);
        least = good_least m p;
        most = good_most m p;
        room = ⊎_elim (λ q. inl (eqb-true (length m) 1 q)) (λ q. inr (leb-true (length (together m)) R q))
            (either one short (and_right (some && good_pieces m) (one || short) e));
      }

all_good : (R : ℕ) (ms : List Message) → ((i : ℕ) → i < length ms → Fits R (get_or ms i [])) → good_messages R ms ≡ true
all_good R [] f = refl
all_good R (m ∷ ms) f =
    and_true (good_message R m) (good_messages R ms) (fits-good R m (f 0 (omega arith))) (all_good R ms (λ i h. f (suc i) (omega arith)))

all_fit : (R : ℕ) (ms : List Message) → good_messages R ms ≡ true → (i : ℕ) → i < length ms → Fits R (get_or ms i [])
all_fit R [] e i h = absurd (omega arith)
all_fit R (m ∷ ms) e zero h = good-fits R m (and_left (good_message R m) (good_messages R ms) e)
all_fit R (m ∷ ms) e (suc i) h = all_fit R ms (and_right (good_message R m) (good_messages R ms) e) i (omega arith)

-- losses: g are lost since the last that arrived
abbrev NextSoon : ℕ → List Sent → Type 0
NextSoon g ss = (b : ℕ) → 1 ≤ copies_at ss b → ((i : ℕ) → i < b → copies_at ss i ≡ 0) → g + b ≤ 65534

module _ (s : Sent) (ss : List Sent) where
  rest-few : FewLost (s ∷ ss) → FewLost ss
  rest-few f a b h p q z = let r : suc b - (suc a + 1) ≤ 65534 = f (suc a) (suc b) (omega arith) p q between in omega (arith, r)
    where
      between : (i : ℕ) → suc a < i → i < suc b → copies_at (s ∷ ss) i ≡ 0
      between zero l m = absurd (omega arith)
      between (suc i) l m = z i (omega arith) (omega arith)

  after_first : 1 ≤ s.piece.copies → FewLost (s ∷ ss) → NextSoon 0 ss
  after_first c f b p z = let r : suc b - (0 + 1) ≤ 65534 = f 0 (suc b) (omega arith) c p between in omega (arith, r)
    where
      between : (i : ℕ) → 0 < i → i < suc b → copies_at (s ∷ ss) i ≡ 0
      between zero l m = absurd (omega arith)
      between (suc i) l m = z i (omega arith)

  one_more : (g : ℕ) → s.piece.copies ≡ 0 → NextSoon g (s ∷ ss) → NextSoon (suc g) ss
  one_more g c f b p z = let r : g + suc b ≤ 65534 = f (suc b) p before in omega (arith, r)
    where
      before : (i : ℕ) → i < suc b → copies_at (s ∷ ss) i ≡ 0
      before zero l = c
      before (suc i) l = z i (omega arith)

few_within : (ss : List Sent) (seen : Bool) (g : ℕ) → (seen ≡ true → NextSoon g ss) → FewLost ss → losses_within seen g ss ≡ true
few_within [] seen g n f = refl
few_within (s ∷ ss) seen g n f = go (arrived s.piece) refl (λ v h m. few_within ss v h m (rest-few s ss f))
  where
    soon : (v : Bool) → (v ≡ true → NextSoon g (s ∷ ss)) → 1 ≤ s.piece.copies → (not v || leb g 65534) ≡ true
    soon false m c = refl
    soon true m c = let r : g + 0 ≤ 65534 = m refl 0 c (λ i h. absurd (omega arith)) in le-leb g 65534 (omega (arith, r))

    go : (t : Bool) → arrived s.piece ≡ t → ((v : Bool) (h : ℕ) → (v ≡ true → NextSoon h ss) → losses_within v h ss ≡ true)
        → cond t ((not seen || leb g 65534) && losses_within true 0 ss) (losses_within seen (suc g) ss) ≡ true
    go true e r =
        let c : 1 ≤ s.piece.copies = ltb-true 0 s.piece.copies e in
        and_true (not seen || leb g 65534) (losses_within true 0 ss) (soon seen n c) (r true 0 (λ z. after_first s ss c f))
    go false e r =
        let c : s.piece.copies ≡ 0 = omega (arith, ltb-false 0 s.piece.copies e) in
        r seen (suc g) (λ z. one_more s ss g c (n z))

-- and back
record Within (seen : Bool) (g : ℕ) (ss : List Sent) : Type 0 where
  few : FewLost ss
  soon : seen ≡ true → NextSoon g ss

module _ (s : Sent) (ss : List Sent) (seen : Bool) (g : ℕ) where
  arrives-now : 1 ≤ s.piece.copies → (not seen || leb g 65534) ≡ true → Within true 0 ss → Within seen g (s ∷ ss)
  arrives-now c e w = record { few = few; soon = soon }
    where
      few : FewLost (s ∷ ss)
      few a zero h p q z = absurd (omega arith)
      few zero (suc b) h p q z = let r : 0 + b ≤ 65534 = w.soon refl b q (λ i l. z (suc i) (omega arith) (omega arith)) in omega (arith, r)
      few (suc a) (suc b) h p q z =
          let r : b - (a + 1) ≤ 65534 = w.few a b (omega arith) p q (λ i l m. z (suc i) (omega arith) (omega arith)) in omega (arith, r)

      soon : seen ≡ true → NextSoon g (s ∷ ss)
      soon v zero p z = let r : g ≤ 65534 = leb-true g 65534 (ap (λ (t : Bool). not t || leb g 65534) (sym v) ∙ e) in omega (arith, r)
      soon v (suc b) p z = let r : s.piece.copies ≡ 0 = z 0 (omega arith) in absurd (omega (arith, c, r))

  lost-now : s.piece.copies ≡ 0 → Within seen (suc g) ss → Within seen g (s ∷ ss)
  lost-now c w = record { few = few; soon = soon }
    where
      few : FewLost (s ∷ ss)
      few a zero h p q z = absurd (omega arith)
      few zero (suc b) h p q z = absurd (omega (arith, c, p))
      few (suc a) (suc b) h p q z =
          let r : b - (a + 1) ≤ 65534 = w.few a b (omega arith) p q (λ i l m. z (suc i) (omega arith) (omega arith)) in omega (arith, r)

      soon : seen ≡ true → NextSoon g (s ∷ ss)
      soon v zero p z = absurd (omega (arith, c, p))
      soon v (suc b) p z = let r : suc g + b ≤ 65534 = w.soon v b p (λ i l. z (suc i) (omega arith)) in omega (arith, r)

within_few : (ss : List Sent) (seen : Bool) (g : ℕ) → losses_within seen g ss ≡ true → Within seen g ss
within_few [] seen g e = record { few = λ a b h p q z. absurd (omega (arith, p)); soon = λ v b p z. absurd (omega (arith, p)) }
within_few (s ∷ ss) seen g e = go (arrived s.piece) refl e (λ v h q. within_few ss v h q)
  where
    go : (t : Bool) → arrived s.piece ≡ t → cond t ((not seen || leb g 65534) && losses_within true 0 ss) (losses_within seen (suc g) ss) ≡ true
        → ((v : Bool) (h : ℕ) → losses_within v h ss ≡ true → Within v h ss) → Within seen g (s ∷ ss)
    go true a q r =
        arrives-now s ss seen g (ltb-true 0 s.piece.copies a) (and_left (not seen || leb g 65534) (losses_within true 0 ss) q)
        (r true 0 (and_right (not seen || leb g 65534) (losses_within true 0 ss) q))
    go false a q r = lost-now s ss seen g (omega (arith, ltb-false 0 s.piece.copies a)) (r seen (suc g) q)

-- a sender
pub genuine_is : (R : ℕ) (s : Sender) → GenuineIn R s → Genuine R s
genuine_is R s g =
    record {
      counter = g.counter;
      messages = all_good R s.messages g.messages;
      losses = few_within (sent_by s.messages) false 0 (λ z. absurd (true≢false (sym z))) g.losses;
    }

genuine_back : (R : ℕ) (s : Sender) → Genuine R s → GenuineIn R s
genuine_back R s g =
    record {
      counter = g.counter;
      messages = all_fit R s.messages g.messages;
      losses = (within_few (sent_by s.messages) false 0 g.losses).few;
    }

header_is : (p : MessagePart) (id c : ℕ) → header_bytes (header_of p id c) ≡ (part_number p * 16 + id / 256) ∷ id % 256 ∷ c / 256 ∷ c % 256 ∷ []
header_is Begin id c = refl
header_is Middle id c = refl
header_is End id c = refl
header_is Whole id c = refl

pub granted : (ids : List ℕ) (R : ℕ) (rooms : List ℕ) (sender : ℕ → Sender) (traffic : List Datagram) → Given ids R rooms sender traffic
    → Granted ids R rooms sender traffic
granted ids R rooms sender traffic g =
    record {
      set_up = is_accepted (setup_of ids R (length rooms)) (set_ups ids R (length rooms) g.set_up);
      genuine = λ k h. genuine_is R (sender k) (g.genuine k h);
      mixed = g.mixed;
      bytes = g.bytes;
    }

pub granted_back : (ids : List ℕ) (R : ℕ) (rooms : List ℕ) (sender : ℕ → Sender) (traffic : List Datagram) → Granted ids R rooms sender traffic
    → Given ids R rooms sender traffic
granted_back ids R rooms sender traffic g =
    record {
      set_up = set_ups_back ids R (length rooms) g.set_up;
      genuine = λ k h. genuine_back R (sender k) (g.genuine k h);
      mixed = g.mixed;
      bytes = g.bytes;
    }

pub in_numbers : InNumbers
in_numbers =
    record {
      set_ups = set_ups;
      set_ups_back = set_ups_back;
      genuine = genuine_is;
      genuine_back = genuine_back;
      granted = granted;
      granted_back = granted_back;
      next_counter = λ c. refl;
      header = header_is;
    }
