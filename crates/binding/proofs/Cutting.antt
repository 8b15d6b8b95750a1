-- Laws of cutting: the pieces one behind another are the message, each has 1 to s bytes, and each datagram reads back as
-- its header and its piece.
-- Assumes nothing.
use Prim.Native.Nat.{ℕ, zero, suc, min, ◌+◌, ◌-◌, ◌*◌, ◌≤◌, ◌<◌}
use Rattle.std.specs.Prelude.{Result, Ok, Err}
use Rattle.refusal.specs.declared.Refusal.{Refusal}
use Rattle.refusal.specs.declared.Refusal.TheVariants.{CannotCut, DatagramRoom, NoPiece}
use mathlib.Core.Path.{◌≡◌, refl, sym, ap, ◌∙◌}
use mathlib.Core.Logic.{◌↔◌}
use mathlib.Core.Bool.{Bool, true, false, ◌&&◌, and-eq-true_iff, cond}
use mathlib.Core.List.{List}
use native.Mathlib.Nat.{zero-mul, suc-mul, le-mul_of_pos_right, div-lt_iff_lt-mul, le-min, min-le_left, min-eq_left}
use native.Mathlib.Nat.{le-div_iff_mul-le, lt-div-mul-add, div-eq_of_lt-le}
use native.Mathlib.Omega.{arith}
use borrow.Author.Tests.{le-leb, leb-true, lt-ltb, ltb-true}
use lib.Dec.{ltb, leb}
use lib.ListN.{length, take, drop, length-take, length-drop}
use lib.Seq.{take_all, take-add, take_at, drop_at}
use Rattle.binding.specs.Header.{header_length, senders, counters, largest_piece, heading_in, piece_in}
use Rattle.binding.specs.Cutting.{piece_count, counted_of, piece_at, counter_of, header_of_piece, datagram_of, largest_message}
use Rattle.binding.specs.Cutting.{can_cut, can_head, made_of, cut_into, together}
use Rattle.binding.proofs.Headers.{header_back, piece_back}

-- what 50 leaves: a message of m bytes, cut at s
pub record Cuttable (m s : ℕ) : Type 0 where
  pub some : 1 ≤ m
  pub most : m ≤ largest_message
  pub size : 1 ≤ s
  pub piece : s ≤ largest_piece

pub cuttable : (m s : ℕ) → can_cut m s ≡ true → Cuttable m s
cuttable m s e =
    let a = (and-eq-true_iff ((leb 1 m && leb m largest_message) && leb 1 s) (leb s largest_piece)).0 e in
    let b = (and-eq-true_iff (leb 1 m && leb m largest_message) (leb 1 s)).0 a.0 in
    let c = (and-eq-true_iff (leb 1 m) (leb m largest_message)).0 b.0 in
    record { some = leb-true 1 m c.0; most = leb-true m largest_message c.1; size = leb-true 1 s b.1; piece = leb-true s largest_piece a.1 }

pub can-cut : (m s : ℕ) → Cuttable m s → can_cut m s ≡ true
can-cut m s w = rw (le-leb 1 m w.some, le-leb m largest_message w.most, le-leb 1 s w.size, le-leb s largest_piece w.piece)

pub headable : (sender first : ℕ) → can_head sender first ≡ true → (sender < senders) × (first < counters)
headable sender first e =
    let k = (and-eq-true_iff (ltb sender senders) (ltb first counters)).0 e in
    (ltb-true sender senders k.0, ltb-true first counters k.1)

-- how many pieces there are
module _ (m s : ℕ) (h : 1 ≤ s) where
  -- each piece starts within the message, what starts there is one, and they reach its end
  pub starts-in : (i : ℕ) → i < piece_count m s → i * s < m
  starts-in i l = omega (arith, suc-mul i s, (le-div_iff_mul-le {x = suc i} h).0 l)

  pub started : (i : ℕ) → i * s < m → i < piece_count m s
  started i l = (le-div_iff_mul-le {x = suc i} h).1 (omega (arith, suc-mul i s))

  pub covered : m ≤ piece_count m s * s
  covered =
      let a : m + (s - 1) < piece_count m s * s + s = lt-div-mul-add h in
      omega arith

  pub count-some : 1 ≤ m → 1 ≤ piece_count m s
  count-some k = (le-div_iff_mul-le h).1 (omega arith)

  pub count_most : piece_count m s ≤ m
  count_most =
      let a : m ≤ m * s = le-mul_of_pos_right m h in
      let b : piece_count m s < suc m = (div-lt_iff_lt-mul h).1 (omega (arith, suc-mul m s)) in
      omega arith

  -- one piece exactly where the message is no longer than a piece
  pub one_piece : 1 ≤ m → (piece_count m s ≡ 1) ↔ (m ≤ s)
  one_piece k = (λ e. omega (arith, rw e at covered), λ l. div-eq_of_lt-le s (omega arith) (omega arith))

-- the bytes of a piece
module _ (msg : List ℕ) (s i : ℕ) where
  pub piece_length : length (piece_at msg s i) ≡ min s (length msg - i * s)
  piece_length = simp (length-take, length-drop)

  pub piece-most : length (piece_at msg s i) ≤ s
  piece-most = rw piece_length (min-le_left s (length msg - i * s))

  module _ (h : 1 ≤ s) where
    pub piece-some : i < piece_count (length msg) s → 1 ≤ length (piece_at msg s i)
    piece-some l = rw piece_length (le-min h (omega (arith, starts-in (length msg) s h i l)))

    -- all of s bytes but perhaps the last
    pub piece-full : suc i < piece_count (length msg) s → length (piece_at msg s i) ≡ s
    piece-full l = piece_length ∙ min-eq_left (omega (arith, suc-mul i s, starts-in (length msg) s h (suc i) l))

-- the pieces, one behind another, are the message
pub together_take : (msg : List ℕ) (s n : ℕ) → together msg s n ≡ take (n * s) msg
together_take msg s zero = sym (ap (λ (k : ℕ). take k msg) (zero-mul s))
together_take msg s (suc n) = rw (together_take msg s n, suc-mul n s, take-add (n * s) s msg)

pub together_all : (msg : List ℕ) (s : ℕ) → 1 ≤ s → together msg s (piece_count (length msg) s) ≡ msg
together_all msg s h =
    together_take msg s (piece_count (length msg) s) ∙ take_all (piece_count (length msg) s * s) msg (covered (length msg) s h)

-- answers that differ
not_made : {e : Refusal} {k : ℕ} → Err e ≡ Ok k → ⊥
not_made e = let z : ◌≡◌ {A = ℕ} 0 1 = cc in omega arith

same_size : {n k : ℕ} → ◌≡◌ {A = Result ℕ Refusal} (Ok n) (Ok k) → k ≡ n
same_size e = cc

-- a datagram cut reads back
pub counter_lt : (first i : ℕ) → counter_of first i < counters
counter_lt first i = omega arith

module _ (msg : List ℕ) (s sender first i : ℕ) where
  pub datagram-heading : Cuttable (length msg) s → sender < senders → i < piece_count (length msg) s
      → heading_in (datagram_of msg s sender first i) ≡ Ok (header_of_piece (length msg) s sender first i)
  datagram-heading w k l =
      header_back (header_of_piece (length msg) s sender first i) (piece_at msg s i) k (counter_lt first i) (piece-some msg s i w.size l)
      (omega (arith, piece-most msg s i, w.piece))

  pub datagram-piece : piece_in (datagram_of msg s sender first i) ≡ piece_at msg s i
  datagram-piece = piece_back (header_of_piece (length msg) s sender first i) (piece_at msg s i)

  pub datagram-most : length (datagram_of msg s sender first i) ≤ header_length + s
  datagram-most = omega (arith, piece-most msg s i)

  -- what 50, 51 and 52 leave: the piece's datagram fits an output of so many bytes
  pub record Makes (room n : ℕ) : Type 0 where
    pub cut : Cuttable (length msg) s
    pub sends : sender < senders
    pub counts : first < counters
    pub piece : i < piece_count (length msg) s
    pub fits : length (datagram_of msg s sender first i) ≤ room
    pub size : n ≡ length (datagram_of msg s sender first i)

  pub makes-made : (room n : ℕ) → Makes room n → made_of msg s sender first i room ≡ Ok n
  makes-made room n w =
      rw (
        can-cut (length msg) s w.cut,
        lt-ltb sender senders w.sends,
        lt-ltb first counters w.counts,
        lt-ltb i (piece_count (length msg) s) w.piece,
        le-leb (length (datagram_of msg s sender first i)) room w.fits,
        w.size,
      )

  pub made-makes : (room n : ℕ) → made_of msg s sender first i room ≡ Ok n → Makes room n
  made-makes room n e = go (can_cut (length msg) s) (can_head sender first) (ltb i (piece_count (length msg) s)) (leb (length d) room) refl refl refl refl e
    where
      d : List ℕ
      d = datagram_of msg s sender first i

      go : (a b p f : Bool) → can_cut (length msg) s ≡ a → can_head sender first ≡ b → ltb i (piece_count (length msg) s) ≡ p → leb (length d) room ≡ f →
          cond (a && b) (cond p (cond f (Ok (length d)) (Err DatagramRoom)) (Err NoPiece)) (Err CannotCut)
          ≡ Ok n → Makes room n
      go true true true true ea eb ep ef q =
          let k : (sender < senders) × (first < counters) = headable sender first eb in
          record {
            cut = cuttable (length msg) s ea;
            sends = k.0;
            counts = k.1;
            piece = ltb-true i (piece_count (length msg) s) ep;
            fits = leb-true (length d) room ef;
            size = same_size q;
          }
      go true true true false ea eb ep ef q = absurd (not_made q)
      go true true false f ea eb ep ef q = absurd (not_made q)
      go true false p f ea eb ep ef q = absurd (not_made q)
      go false b p f ea eb ep ef q = absurd (not_made q)

  -- every piece that the count names can be cut, where there is room for it
  pub pieces-made : (room n : ℕ) → counted_of (length msg) s ≡ Ok n → sender < senders → first < counters → i < n
      → header_length + s ≤ room → made_of msg s sender first i room ≡ Ok (length (datagram_of msg s sender first i))
  pieces-made room n e k f l r = go (can_cut (length msg) s) refl e
    where
      go : (t : Bool) → can_cut (length msg) s ≡ t → cond t (Ok (piece_count (length msg) s)) (Err CannotCut) ≡ Ok n
          → made_of msg s sender first i room ≡ Ok (length (datagram_of msg s sender first i))
      go true t q =
          let c : piece_count (length msg) s ≡ n = sym (same_size q) in
          makes-made room (length (datagram_of msg s sender first i))
          (record { cut = cuttable (length msg) s t; sends = k; counts = f; piece = omega arith; fits = omega (arith, datagram-most); size = refl })
      go false t q = absurd (not_made q)

  module _ (out : List ℕ) where
    -- a refusal leaves the output as it was
    pub refused-same : {n : Refusal} → made_of msg s sender first i (length out) ≡ Err n → cut_into msg s sender first i out ≡ out
    refused-same e = rw e

    -- else the datagram stands at its start, and the rest is as it was
    pub made-front : {n : ℕ} → made_of msg s sender first i (length out) ≡ Ok n → take n (cut_into msg s sender first i out)
        ≡ datagram_of msg s sender first i
    made-front {n} e =
        let w : Makes (length out) n = made-makes (length out) n e in
        let d : List ℕ = datagram_of msg s sender first i in
        rw e (take_at d (drop (0 + length d) out) n (sym w.size))

    pub made-rest : {n : ℕ} → made_of msg s sender first i (length out) ≡ Ok n → drop n (cut_into msg s sender first i out) ≡ drop n out
    made-rest {n} e =
        let w : Makes (length out) n = made-makes (length out) n e in
        let d : List ℕ = datagram_of msg s sender first i in
        let k : 0 + length d ≡ n = omega (arith, w.size) in
        rw e (drop_at d (drop (0 + length d) out) n (sym w.size) ∙ ap (λ (j : ℕ). drop j out) k)
