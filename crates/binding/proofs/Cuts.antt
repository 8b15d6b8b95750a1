-- What cutting's functions show at their returns and of the numbers on the way.
-- Assumes nothing.
use Prim.Native.Nat.{ℕ, suc, min, ◌+◌, ◌-◌, ◌*◌, ◌/◌, ◌%◌, ◌≤◌, ◌<◌}
use Rattle.std.specs.Prelude.{Result, Ok, Err}
use Rattle.refusal.specs.declared.Refusal.{Refusal}
use Rattle.refusal.specs.declared.Refusal.TheVariants.{CannotCut, DatagramRoom, NoPiece}
use mathlib.Core.Path.{◌≡◌, refl, sym, ap, ◌∙◌}
use mathlib.Core.Bool.{Bool, true, false, ◌&&◌, and-eq-true_iff, cond}
use mathlib.Core.List.{List, ◌++◌}
use native.Mathlib.Nat.{suc-mul, mul-le-mul, min-le_right, min-eq_left, min-eq_right}
use native.Mathlib.Omega.{arith}
use borrow.Author.Tests.{eq-eqb, ne_eqb, eqb-true, eqb-false, le-leb, lt-leb, le-ltb, ltb-true, ltb-false, leb-true, leb-false}
use mir.Syntax.{w16, w64}
use mir.Val.{Fits}
use lib.Dec.{ltb, leb, eqb}
use lib.ListN.{length, take, drop, length-take, length-drop}
use lib.Seq.{take_all}
use Rattle.wire.specs.Bytes.{bytes, part, over, written}
use Rattle.wire.proofs.Runs.{written_in, written_out, written_behind, part_in}
use Rattle.binding.specs.declared.MessagePart.{MessagePart}
use Rattle.binding.specs.declared.MessagePart.TheVariants.{Begin, Middle, End, Whole}
use Rattle.binding.specs.declared.BindingHeader.{BindingHeader}
use Rattle.binding.specs.Header.{senders, counters, largest_piece, code_of, header_of, header_bytes}
use Rattle.binding.specs.Cutting.{piece_count, counted_of, part_of_piece, bytes_from, behind, datagram_of, largest_message, can_cut}
use Rattle.binding.specs.Cutting.{can_head, made_in, made_of, cut_into}
use Rattle.binding.specs.Made.{left_over_by}
use Rattle.binding.proofs.Cutting.{cuttable, headable, starts-in, started, covered, count_most}

-- piece i of a message that can be cut, by where it starts
module _ (m s i : ℕ) (w : can_cut m s ≡ true) where
  size-some : 1 ≤ s
  size-some = (cuttable m s w).size

  pub product_fits : i < m → Fits w64 (i * s)
  product_fits l =
      let k : i ≤ largest_message = omega (arith, (cuttable m s w).most) in
      record { fits = omega (arith, mul-le-mul k (cuttable m s w).piece) }

  pub there-is : ltb (i * s) m ≡ ltb i (piece_count m s)
  there-is = go (ltb (i * s) m) (ltb i (piece_count m s)) refl refl
    where
      go : (a b : Bool) → ltb (i * s) m ≡ a → ltb i (piece_count m s) ≡ b → ltb (i * s) m ≡ ltb i (piece_count m s)
      go true true ea eb = ea ∙ sym eb
      go false false ea eb = ea ∙ sym eb
      go true false ea eb = absurd (omega (arith, started m s size-some i (ltb-true (i * s) m ea), ltb-false i (piece_count m s) eb))
      go false true ea eb = absurd (omega (arith, starts-in m s size-some i (ltb-true i (piece_count m s) eb), ltb-false (i * s) m ea))

  pub there-is-none : m ≤ i → false ≡ ltb i (piece_count m s)
  there-is-none l = sym (le-ltb i (piece_count m s) (omega (arith, count_most m s size-some)))

  module _ (l : i < piece_count m s) where
    pub start-in : i * s ≤ m
    start-in = omega (arith, starts-in m s size-some i l)

    pub start_fits : Fits w64 (i * s)
    start_fits = record { fits = omega (arith, start-in, cuttable m s w) }

    -- which part it is, by what is left from there on
    is_last : leb (m - i * s) s ≡ eqb (i + 1) (piece_count m s)
    is_last = go (leb (m - i * s) s) (eqb (i + 1) (piece_count m s)) refl refl
      where
        go : (a b : Bool) → leb (m - i * s) s ≡ a → eqb (i + 1) (piece_count m s) ≡ b → leb (m - i * s) s ≡ eqb (i + 1) (piece_count m s)
        go true true ea eb = ea ∙ sym eb
        go false false ea eb = ea ∙ sym eb
        go true false ea eb =
            let n : suc i < piece_count m s = omega (arith, eqb-false (i + 1) (piece_count m s) eb) in
            absurd (omega (arith, leb-true (m - i * s) s ea, suc-mul i s, starts-in m s size-some (suc i) n))
        go false true ea eb =
            let n : piece_count m s ≡ suc i = omega (arith, eqb-true (i + 1) (piece_count m s) eb) in
            absurd (omega (arith, leb-false (m - i * s) s ea, suc-mul i s, rw n at (covered m s size-some)))

    pub first_part : {r : MessagePart} → i ≡ 0 → r ≡ cond (leb (m - i * s) s) Whole Begin → r ≡ part_of_piece (piece_count m s) i
    first_part e f =
        let k : eqb (i + 1) (piece_count m s) ≡ eqb (piece_count m s) 1 = same in
        f ∙ rw (is_last, k, eq-eqb i 0 e)
      where
        same : eqb (i + 1) (piece_count m s) ≡ eqb (piece_count m s) 1
        same = go (eqb (piece_count m s) 1) refl
          where
            go : (b : Bool) → eqb (piece_count m s) 1 ≡ b → eqb (i + 1) (piece_count m s) ≡ eqb (piece_count m s) 1
            go true eb = eq-eqb (i + 1) (piece_count m s) (omega (arith, eqb-true (piece_count m s) 1 eb)) ∙ sym eb
            go false eb = ne_eqb (i + 1) (piece_count m s) (λ q. eqb-false (piece_count m s) 1 eb (omega arith)) ∙ sym eb

    pub later-part : {r : MessagePart} → (i ≡ 0 → ⊥) → r ≡ cond (leb (m - i * s) s) End Middle → r ≡ part_of_piece (piece_count m s) i
    later-part z f = f ∙ rw (is_last, ne_eqb i 0 z, ne_eqb (piece_count m s) 1 (λ q. z (omega arith)))

-- the header's fields as one number: version, part, sender and counter, from the most significant bit on
one_number : (v k x y : ℕ) → y < counters → bytes 2 (((v * 4 + k) * senders + x) * counters + y) ≡ bytes 0 (v * 64 + k * 16 + x / 256)
    ++ (bytes 0 (x % 256) ++ bytes 1 y)
one_number v k x y h =
    let n : ℕ = (v * 4 + k) * senders + x in
    let a : (n * counters + y) / 65536 ≡ n = omega arith in
    let b : (n * counters + y) % 65536 ≡ y = omega arith in
    let c : n / 256 ≡ v * 64 + k * 16 + x / 256 = omega arith in
    let d : n % 256 ≡ x % 256 = omega arith in
    rw (a, b, c, d)

-- the number of pieces
pub said : {r t : Bool} → r ≡ t → r ≡ true → t ≡ true
said e f = sym e ∙ f

pub counted : {r : Bool} {n : ℕ} (m s : ℕ) → r ≡ can_cut m s → r ≡ true → n ≡ piece_count m s → Ok n ≡ counted_of m s
counted m s e t f = rw (← e, t, f)

pub not_counted : {r : Bool} (m s : ℕ) → r ≡ can_cut m s → r ≡ false → Err CannotCut ≡ counted_of m s
not_counted m s e t = rw (← e, t)

pub the_header : {e : List ℕ} {k : ℕ} (s : List ℕ) (h : BindingHeader) → k ≡ code_of h.part → h.counter < counters → e
    ≡ written s 0 (bytes 2 (((0 + k) * senders + h.sender) * counters + h.counter)) → 4 ≤ length s → e ≡ over s 0 (header_bytes h)
the_header s h f l a w =
    a ∙ ap (λ (j : ℕ). written s 0 (bytes 2 (((0 + j) * senders + h.sender) * counters + h.counter))) f
    ∙ ap (written s 0) (one_number 0 (code_of h.part) h.sender h.counter l) ∙ written_in s 0 (header_bytes h) w

-- the bytes behind the header: as many as are asked for, or as are left
module _ (msg : List ℕ) (start size : ℕ) {r : ℕ} (e : r ≡ min size (length msg - start)) (h : start ≤ length msg) where
  long : length (bytes_from msg start size) ≡ r
  long = simp (length-take, length-drop) (sym e)

  left : part msg start r ≡ bytes_from msg start size
  left = part_in msg start r (omega (arith, min-le_right size (length msg - start))) ∙ go (leb size (length msg - start)) refl
    where
      d : List ℕ
      d = drop start msg

      l : length d ≡ length msg - start
      l = length-drop start msg

      go : (t : Bool) → leb size (length msg - start) ≡ t → take r d ≡ take size d
      go true f = ap (λ (k : ℕ). take k d) (e ∙ min-eq_left (leb-true size (length msg - start) f))
      go false f =
          let k : length msg - start < size = leb-false size (length msg - start) f in
          let n : min size (length msg - start) ≡ length msg - start = min-eq_right (omega arith) in
          take_all r d (omega (arith, l)) ∙ sym (take_all size d (omega (arith, l)))

  module _ (header : BindingHeader) (out : List ℕ) where
    -- it does not fit: 52, and the output is as it was
    module _ (f : length out < 4 + r) where
      pub made_none : Err DatagramRoom ≡ made_in (behind header msg start size) (length out)
      made_none = rw (lt-leb (length (behind header msg start size)) (length out) (omega (arith, long)))

      pub wrote_none : out ≡ written out 0 (behind header msg start size)
      wrote_none = sym (written_out out 0 (behind header msg start size) (omega (arith, long)))

    -- it fits: the header, and the bytes behind it
    module _ (f : 4 + r ≤ length out) where
      pub made_one : Ok (4 + r) ≡ made_in (behind header msg start size) (length out)
      made_one =
          let n : length (behind header msg start size) ≡ 4 + r = omega (arith, long) in
          rw (le-leb (length (behind header msg start size)) (length out) (omega arith), n)

      pub wrote_one : {m o q : List ℕ} → m ≡ over out 0 (header_bytes header) → q ≡ part msg start r → o ≡ written m 4 q → o
          ≡ written out 0 (behind header msg start size)
      wrote_one {m} {o} {q} a b c =
          let l : length (header_bytes header) + length (bytes_from msg start size) ≤ length out = omega (arith, long) in
          written_behind out (header_bytes header) (bytes_from msg start size) 4 a refl l (c ∙ ap (written m 4) (b ∙ left))
          ∙ sym (written_in out 0 (behind header msg start size) (omega arith))

-- the output after a datagram that fits or does not
out_written : (d out : List ℕ) → left_over_by (made_in d (length out)) out (over out 0 d) ≡ written out 0 d
out_written d out = go (leb (length d) (length out)) refl
  where
    go : (t : Bool) → leb (length d) (length out) ≡ t → left_over_by (made_in d (length out)) out (over out 0 d) ≡ written out 0 d
    go true e = rw e (sym (written_in out 0 d (omega (arith, leb-true (length d) (length out) e))))
    go false e = rw e (sym (written_out out 0 d (omega (arith, leb-false (length d) (length out) e))))

pub here : {h : Bool} (i n : ℕ) → h ≡ ltb i n → h ≡ true → i < n
here i n e t = ltb-true i n (sym e ∙ t)

-- the first test: 50, or what it leaves
module _ (m s sender first : ℕ) {a b : Bool} (ea : a ≡ can_cut m s) (eb : b ≡ can_head sender first) (t : (a && b) ≡ true) where
  pub cut_in : can_cut m s ≡ true
  cut_in = sym ea ∙ ((and-eq-true_iff a b).0 t).0

  fields : (sender < senders) × (first < counters)
  fields = headable sender first (sym eb ∙ ((and-eq-true_iff a b).0 t).1)

  pub sender_fits : Fits w16 sender
  sender_fits = record { fits = omega (arith, fields) }

  pub header-in : {p : MessagePart} {k : ℕ} {h : BindingHeader} → h ≡ header_of p sender k → h.sender < senders
  header-in e = rw e fields.0

  pub size_in : s ≤ largest_piece
  size_in = (cuttable m s cut_in).piece

  module _ (i : ℕ) {h : Bool} (eh : h ≡ ltb i (piece_count m s)) (l : h ≡ true) where
    named : i < piece_count m s
    named = here i (piece_count m s) eh l

    pub cut-starts : i * s ≤ m
    cut-starts = start-in m s i cut_in named

    pub cut-start-fits : Fits w64 (i * s)
    cut-start-fits = start_fits m s i cut_in named

    pub counter_fits : Fits w64 (first + i)
    counter_fits = record { fits = omega (arith, named, fields, count_most m s (cuttable m s cut_in).size, cuttable m s cut_in) }

-- cutting's answers
module _ (msg : List ℕ) (s sender first i : ℕ) (out : List ℕ) {a b : Bool} (ea : a ≡ can_cut (length msg) s) (eb : b ≡ can_head sender first) where
  module _ (t : (a && b) ≡ false) where
    pub answer-50 : Err CannotCut ≡ made_of msg s sender first i (length out)
    answer-50 = rw (← ea, ← eb, t)

    pub output-50 : out ≡ cut_into msg s sender first i out
    output-50 = rw (← answer-50)

  module _ (t : (a && b) ≡ true) {h : Bool} (eh : h ≡ ltb i (piece_count (length msg) s)) where
    module _ (l : h ≡ false) where
      pub answer-51 : Err NoPiece ≡ made_of msg s sender first i (length out)
      answer-51 = rw (← ea, ← eb, t, ← eh, l)

      pub output-51 : out ≡ cut_into msg s sender first i out
      output-51 = rw (← answer-51)

    module _ (l : h ≡ true) {p : MessagePart} {head : BindingHeader} (ep : p ≡ part_of_piece (piece_count (length msg) s) i)
        (en : head ≡ header_of p sender ((first + i) % counters)) where
      same : behind head msg (i * s) s ≡ datagram_of msg s sender first i
      same = ap (λ (g : BindingHeader). behind g msg (i * s) s) (en ∙ ap (λ (q : MessagePart). header_of q sender ((first + i) % counters)) ep)

      good : made_of msg s sender first i (length out) ≡ made_in (datagram_of msg s sender first i) (length out)
      good = rw (← ea, ← eb, t, ← eh, l)

      pub answer-made : {r : Result ℕ Refusal} → r ≡ made_in (behind head msg (i * s) s) (length out) → r ≡ made_of msg s sender first i (length out)
      answer-made e = e ∙ ap (λ (d : List ℕ). made_in d (length out)) same ∙ sym good

      pub output-made : {o : List ℕ} → o ≡ written out 0 (behind head msg (i * s) s) → o ≡ cut_into msg s sender first i out
      output-made e =
          e ∙ ap (written out 0) same ∙ sym (out_written (datagram_of msg s sender first i) out)
          ∙ ap (λ (r : Result ℕ Refusal). left_over_by r out (over out 0 (datagram_of msg s sender first i))) (sym good)
