-- A genuine sender's arrivals, read as datagrams, are the events of what it sends.
-- Assumes nothing.
use Prim.Native.Nat.{ℕ, zero, suc, ◌≤◌, ◌<◌}
use mathlib.Core.Path.{◌≡◌, refl, sym, ap, ap₂, ◌∙◌}
use mathlib.Core.Bool.{Bool, true, false, ◌&&◌, ◌||◌}
use mathlib.Core.List.{List, [], ◌∷◌, ◌++◌, map}
use borrow.Author.Tests.{leb-true}
use lib.Dec.{leb, eqb}
use lib.ListN.{length, replicate}
use Rattle.wire.proofs.Cond.{both}
use Rattle.binding.specs.declared.BindingHeader.{BindingHeader}
use Rattle.binding.specs.Header.{senders, counters, largest_piece, header_of, header_bytes}
use Rattle.binding.proofs.Headers.{Headed, header_back, heading_headed, piece_back}
use Rattle.promises.specs.Senders.{Piece, Message, Sent, sent_from, sent_by, after, arriving, together, good_pieces, good_message, good_messages}
use Rattle.promises.specs.Traffic.{Datagram}
use Rattle.promises.proofs.Machine.{Event}
use Rattle.promises.proofs.OneChannel.{event_of, events_of, after_below}
use Rattle.promises.proofs.Agrees.{event_in}

-- pieces of 1 to 65,503 bytes
pub record Fitting (p : Piece) : Type 0 where
  pub some : 1 ≤ length p.bytes
  pub few : length p.bytes ≤ largest_piece

pub data Fit : List Sent → Type 0 where
  none : Fit []
  more : {s : Sent} {ss : List Sent} → Fitting s.piece → Fit ss → Fit (s ∷ ss)

fit_append : {a b : List Sent} → Fit a → Fit b → Fit (a ++ b)
fit_append none y = y
fit_append (more f x) y = more f (fit_append x y)

fit_message : (first : Bool) (m : Message) → good_pieces m ≡ true → Fit (sent_from first m)
fit_message first [] e = none
fit_message first (p ∷ ps) e =
    let a = both (leb 1 (length p.bytes) && leb (length p.bytes) largest_piece) (good_pieces ps) e in
    let b = both (leb 1 (length p.bytes)) (leb (length p.bytes) largest_piece) a.0 in
    more (record { some = leb-true 1 (length p.bytes) b.0; few = leb-true (length p.bytes) largest_piece b.1 }) (fit_message false ps a.1)

pub fit_messages : (R : ℕ) (ms : List Message) → good_messages R ms ≡ true → Fit (sent_by ms)
fit_messages R [] e = none
fit_messages R (m ∷ ms) e =
    let a = both (good_message R m) (good_messages R ms) e in
    let b = both (leb 1 (length m) && good_pieces m) (eqb (length m) 1 || leb (length (together m)) R) a.0 in
    let g = both (leb 1 (length m)) (good_pieces m) b.0 in
    fit_append (fit_message true m g.1) (fit_messages R ms a.1)

map_copies : (n : ℕ) (d : Datagram) (ds : List Datagram) → map event_in (replicate n d ++ ds) ≡ replicate n (event_in d) ++ map event_in ds
map_copies zero d ds = refl
map_copies (suc n) d ds = ap (λ (x : List Event). event_in d ∷ x) (map_copies n d ds)

module _ (id : ℕ) (i : id < senders) where
  one : (c : ℕ) (s : Sent) → c < counters → Fitting s.piece → event_in (header_bytes (header_of s.mark id c) ++ s.piece.bytes) ≡ event_of c s
  one c s b f =
      let h : BindingHeader = header_of s.mark id c in
      let d : Datagram = header_bytes h ++ s.piece.bytes in
      let w : Headed d h = heading_headed d h (header_back h s.piece.bytes i b f.some f.few) in
      ap₂ (λ (x : BindingHeader) (q : List ℕ). record { mark = x.part; counter = x.counter; bytes = q }) (sym w.fields) (piece_back h s.piece.bytes)

  pub events : (c : ℕ) (ss : List Sent) → c < counters → Fit ss → map event_in (arriving id c ss) ≡ events_of c ss
  events c [] b none = refl
  events c (s ∷ ss) b (more f x) =
      map_copies s.piece.copies (header_bytes (header_of s.mark id c) ++ s.piece.bytes) (arriving id (after c) ss)
      ∙ ap₂ (λ (e : Event) (es : List Event). replicate s.piece.copies e ++ es) (one c s b f) (events (after c) ss (after_below c) x)
