-- A message cut up is what a sender sends whose one message has all its pieces arrive once.
-- Assumes nothing.
use Prim.Native.Nat.{ℕ, zero, suc, ◌+◌, ◌-◌, ◌*◌, ◌≤◌, ◌<◌}
use Rattle.promises.proofs.SetUps.{its_joiner}
use mathlib.Core.Path.{◌≡◌, refl, sym, ap, ap₂, ◌∙◌}
use mathlib.Core.Bool.{Bool, true, false, cond, ◌&&◌, ◌||◌}
use mathlib.Core.List.{List, [], ◌∷◌, ◌++◌}
use mathlib.Core.Logic.{⊎_elim}
use native.Mathlib.Nat.{suc-mul, zero-mul}
use native.Mathlib.Omega.{arith}
use borrow.Author.Tests.{eq-eqb, le-leb}
use lib.Dec.{leb, eqb}
use lib.ListN.{length, get_or, take, drop}
use lib.Seq.{take-add, take_all, drop-drop}
use Rattle.wire.specs.Bytes.{Octets}
use Rattle.wire.proofs.Numbers.{octets_drop, octets_take}
use Rattle.wire.proofs.Cond.{yes-eq, no_eq}
use Rattle.binding.specs.declared.MessagePart.{MessagePart}
use Rattle.binding.specs.declared.MessagePart.TheVariants.{Begin, Middle, End, Whole}
use Rattle.binding.specs.Header.{senders, counters, largest_piece, header_of, header_bytes}
use Rattle.binding.specs.declared.BindingHeader.{BindingHeader}
use Rattle.binding.specs.Cutting.{piece_count, piece_at, part_of_piece, counter_of, header_of_piece, datagram_of}
use Rattle.binding.proofs.Headers.{Headed, heading_headed, header_octets}
use Rattle.binding.proofs.Cutting.{Cuttable, covered, count-some, one_piece, piece-some, piece-most, counter_lt, datagram-heading}
use Rattle.promises.specs.Senders.{Piece, Message, Sender, mark_of, sent_from, after, arriving, arrives, losses_within}
use Rattle.promises.specs.Senders.{together, all_arrived, good_pieces, good_message}
use Rattle.promises.specs.Traffic.{Datagram, is_of, of_channel, AreBytes, none, more}
use Rattle.joiner.proofs.Accepted.{accepted}
use Rattle.promises.proofs.Apart.{addressed_is}
use Rattle.promises.proofs.Demand3.{on_channel}
use Rattle.promises.specs.CutAndJoined.{datagrams_from, cut_up, CutAndJoined}

-- the pieces from piece i on, each arriving once
module _ (msg : List ℕ) (s : ℕ) where
  abbrev once : ℕ → Piece
  once i = record { bytes = piece_at msg s i; copies = 1 }

  abbrev piecesFrom : ℕ → ℕ → Message
  piecesFrom i zero = []
  piecesFrom i (suc n) = once i ∷ piecesFrom (suc i) n

  pieces-length : (i n : ℕ) → length (piecesFrom i n) ≡ n
  pieces-length i zero = refl
  pieces-length i (suc n) = ap suc (pieces-length (suc i) n)

  pieces-together : (i n : ℕ) → together (piecesFrom i n) ≡ take (n * s) (drop (i * s) msg)
  pieces-together i zero = sym (ap (λ (k : ℕ). take k (drop (i * s) msg)) (zero-mul s))
  pieces-together i (suc n) =
      let m : suc n * s ≡ s + n * s = omega (arith, suc-mul n s) in
      let d : i * s + s ≡ suc i * s = sym (suc-mul i s) in
      ap (λ (u : List ℕ). piece_at msg s i ++ u)
      (pieces-together (suc i) n ∙ ap (λ (k : ℕ). take (n * s) (drop k msg)) (sym d) ∙ ap (take (n * s)) (sym (drop-drop s (i * s) msg)))
      ∙ sym (take-add s (n * s) (drop (i * s) msg))
      ∙ ap (λ (k : ℕ). take k (drop (i * s) msg)) (sym m)

  pieces-arrived : (i n : ℕ) → all_arrived (piecesFrom i n) ≡ true
  pieces-arrived i zero = refl
  pieces-arrived i (suc n) = pieces-arrived (suc i) n

  pieces-losses : (seen first : Bool) (i n : ℕ) → losses_within seen 0 (sent_from first (piecesFrom i n) ++ []) ≡ true
  pieces-losses seen first i zero = refl
  pieces-losses true first i (suc n) = pieces-losses true false (suc i) n
  pieces-losses false first i (suc n) = pieces-losses true false (suc i) n

  -- the marks that a sender gives are those that cutting gives
  mark-first : (n : ℕ) → mark_of true (piecesFrom 1 n) ≡ part_of_piece (suc n) 0
  mark-first zero = refl
  mark-first (suc n) = sym (no_eq Whole _ (suc (suc n)) 1 (λ (z : suc (suc n) ≡ 1). omega arith))

  mark-later : (N i n : ℕ) → suc i + suc n ≡ N → mark_of false (piecesFrom (suc (suc i)) n) ≡ part_of_piece N (suc i)
  mark-later N i n e =
      go n e ∙ sym (no_eq Whole _ N 1 (λ (z : N ≡ 1). omega arith) ∙ no_eq Begin _ (suc i) 0 (λ (z : suc i ≡ 0). omega arith))
    where
      go : (n : ℕ) → suc i + suc n ≡ N → mark_of false (piecesFrom (suc (suc i)) n) ≡ cond (eqb (suc i + 1) N) End Middle
      go zero e = sym (yes-eq End Middle (suc i + 1) N e)
      go (suc n) e = sym (no_eq End Middle (suc i + 1) N (λ (z : suc i + 1 ≡ N). omega arith))

  module _ (id first : ℕ) where
    abbrev N : ℕ
    N = piece_count (length msg) s

    counter_next : (c i : ℕ) → c ≡ counter_of first i → after c ≡ counter_of first (suc i)
    counter_next c i e = ap after e ∙ omega arith

    arriving-later : (i n c : ℕ) → suc i + n ≡ N → c ≡ counter_of first (suc i) → arriving id c (sent_from false (piecesFrom (suc i) n) ++ [])
        ≡ datagrams_from msg s id first (suc i) n
    arriving-later i zero c e q = refl
    arriving-later i (suc n) c e q =
        ap₂ ◌∷◌
        (ap₂ (λ (p : MessagePart) (x : ℕ). header_bytes (header_of p id x) ++ piece_at msg s (suc i)) (mark-later N i n e) q)
        (arriving-later (suc i) n (after c) (omega arith) (counter_next c (suc i) q))

    arriving-all : (n c : ℕ) → suc n ≡ N → c ≡ counter_of first 0 → arriving id c (sent_from true (piecesFrom 0 (suc n)) ++ [])
        ≡ datagrams_from msg s id first 0 (suc n)
    arriving-all n c e q =
        ap₂ ◌∷◌
        (ap₂ (λ (p : MessagePart) (x : ℕ). header_bytes (header_of p id x) ++ piece_at msg s 0) (mark-first n ∙ ap (λ (k : ℕ). part_of_piece k 0) e) q)
        (arriving-later 0 n (after c) (omega arith) (counter_next c 0 q))

  pieces_good : (w : Cuttable (length msg) s) (i n : ℕ) → i + n ≤ piece_count (length msg) s → good_pieces (piecesFrom i n) ≡ true
  pieces_good w i zero h = refl
  pieces_good w i (suc n) h =
      rw (
        le-leb 1 (length (piece_at msg s i)) (piece-some msg s i w.size (omega arith)),
        le-leb (length (piece_at msg s i)) largest_piece (omega (arith, piece-most msg s i, w.piece)),
      )
      (pieces_good w (suc i) n (omega arith))

-- every datagram cut is channel k's, and a string of bytes
module _ (ids : List ℕ) (k : ℕ) (known : k < length ids) (range : get_or ids k 0 < senders) (msg : List ℕ) (s first : ℕ)
    (w : Cuttable (length msg) s) (o : Octets msg) where
  abbrev id : ℕ
  id = get_or ids k 0

  is-own : (i : ℕ) → i < piece_count (length msg) s → is_of ids k (datagram_of msg s id first i) ≡ true
  is-own i l =
      let d : Datagram = datagram_of msg s id first i in
      let h : Headed d (header_of_piece (length msg) s id first i) = heading_headed d (header_of_piece (length msg) s id first i)
      (datagram-heading msg s id first i w range l) in
      addressed_is ids k d (record
      { long = h.long; short = h.short; version = h.version; known = known; sender = ap (λ (x : BindingHeader). x.sender) h.fields })

  all_own : (i n : ℕ) → i + n ≤ piece_count (length msg) s → of_channel ids k (datagrams_from msg s id first i n) ≡ datagrams_from msg s id first i n
  all_own i zero h = refl
  all_own i (suc n) h =
      ap₂ (λ (b : Bool) (ds : List Datagram). cond b (datagram_of msg s id first i ∷ []) [] ++ ds) (is-own i (omega arith)) (all_own (suc i) n (omega arith))

  pub all-bytes : (i n : ℕ) → AreBytes (datagrams_from msg s id first i n)
  all-bytes i zero = none
  all-bytes i (suc n) =
      more
      (header_octets (header_of_piece (length msg) s id first i) (piece_at msg s i) range (counter_lt first i)
      (octets_take s (drop (i * s) msg) (octets_drop (i * s) msg o)))
      (all-bytes (suc i) n)

first_counter : (first : ℕ) → first < counters → first ≡ counter_of first 0
first_counter first h = omega arith

one_or : (n l R : ℕ) → n ≡ 1 → (eqb n 1 || leb l R) ≡ true
one_or n l R e = rw (eq-eqb n 1 e)

or_room : (n l R : ℕ) → l ≤ R → (eqb n 1 || leb l R) ≡ true
or_room n l R h = rw (le-leb l R h) (go (eqb n 1))
  where
    go : (b : Bool) → (b || true) ≡ true
    go true = refl
    go false = refl

pub cut_and_joined : CutAndJoined
cut_and_joined ids R rooms k msg s first g =
    let w : Cuttable (length msg) s = record { some = g.some; most = g.most; size = g.size; piece = g.piece } in
    let n : ℕ = piece_count (length msg) s in
    let some : 1 ≤ n = count-some (length msg) s w.size w.some in
    let e : suc (n - 1) ≡ n = omega arith in
    let range : get_or ids k 0 < senders = (accepted ids R (length rooms) (its_joiner ids R (length rooms) g.set_up)).range k g.known in
    let ps : Message = piecesFrom msg s 0 n in
    let all : together ps ≡ msg =
    pieces-together msg s 0 n ∙ ap (λ (i : ℕ). take (n * s) (drop i msg)) (zero-mul s) ∙ take_all (n * s) msg (covered (length msg) s w.size) in
    let sender : Sender = record { first = first; messages = ps ∷ [] } in
    let arriving-ps : arrives (get_or ids k 0) sender ≡ cut_up msg s (get_or ids k 0) first =
    ap (λ (i : ℕ). arriving (get_or ids k 0) first (sent_from true (piecesFrom msg s 0 i) ++ [])) (sym e)
    ∙ arriving-all msg s (get_or ids k 0) first (n - 1) first e (first_counter first g.counter)
    ∙ ap (datagrams_from msg s (get_or ids k 0) first 0) e in
    let fits : (eqb (length ps) 1 || leb (length (together ps)) R) ≡ true =
    ⊎_elim
    (λ l. one_or (length ps) (length (together ps)) R (pieces-length msg s 0 n ∙ (one_piece (length msg) s w.size w.some).1 l))
    (λ l. or_room (length ps) (length (together ps)) R (omega (arith, l, ap length all)))
    g.room in
    let good : good_message R ps ≡ true =
    rw (le-leb 1 (length ps) (omega (arith, pieces-length msg s 0 n, some)), pieces_good msg s w 0 n (omega arith)) fits in
    on_channel ids R rooms sender (cut_up msg s (get_or ids k 0) first) k g.known g.set_up
    (record { counter = g.counter; messages = ap (λ (b : Bool). b && true) good; losses = pieces-losses msg s false true 0 n })
    (all_own ids k g.known range msg s first w g.bytes 0 n (omega arith) ∙ sym arriving-ps)
    (all-bytes ids k g.known range msg s first w g.bytes 0 n)
    ∙ ap (λ (b : Bool). cond b (together ps ∷ []) [] ++ []) (pieces-arrived msg s 0 n)
    ∙ ap (λ (u : List ℕ). u ∷ []) all
