-- What the linked calls cut is what is taken: the datagrams of `cut_up`, each at the start of its output.
-- Assumes nothing.
use Prim.Native.Nat.{ℕ, zero, suc, ◌+◌, ◌≤◌, ◌<◌}
use Rattle.joiner.specs.Setup.{setup_of}
use Rattle.promises.proofs.SetUps.{is_accepted}
use Rattle.std.specs.Prelude.{Result, Ok}
use Rattle.refusal.specs.declared.Refusal.{Refusal}
use mathlib.Core.Path.{◌≡◌, refl, sym, ap, ap₂, ◌∙◌, subst}
use mathlib.Core.List.{List, [], ◌∷◌}
use native.Mathlib.Omega.{arith}
use denote.Ref.{Bor, MutBor}
use lib.ListN.{length, get_or, take, drop, replicate, length-replicate}
use lib.Seq.{take_at}
use Rattle.wire.specs.Bytes.{over as written_over}
use Rattle.binding.specs.Header.{senders, counters}
use Rattle.binding.specs.Cutting.{piece_count, datagram_of, counted_of, made_of, cut_into}
use Rattle.binding.specs.Counted as counting
use Rattle.binding.specs.Made as cutting
use Rattle.binding.proofs.Cutting.{Cuttable, can-cut, datagram-most, makes-made}
use Rattle.joiner.specs.declared.Joiner.{Joiner}
use Rattle.nyrkovash.specs.PieceCalls.{pieces_number, pieces_given, count_left, cut_number, cut_given, made_left}
use Rattle.promises.specs.Traffic.{Datagram, AreBytes, delivered_on}
use Rattle.promises.specs.CutAndJoined.{datagrams_from, cut_up}
use Rattle.promises.specs.Linked.{nyr, SetUpAndRun, delivered_in}
use Rattle.promises.specs.LinkedCut.{PiecesLent, Counts, CutLent, CutLeft, Cuts, CutCall, CutRun, over, next}
use Rattle.promises.specs.LinkedCut.{numbers_in, datagrams_in, CutThenTaken, SomeCutRun}
use Rattle.promises.proofs.CutAndJoined.{all-bytes, cut_and_joined}
use Rattle.promises.proofs.InNumbers.{set_ups}
use Rattle.promises.proofs.Linked.{answered, start, ran}

-- how many pieces
module _ {m s was n count : ℕ} (w : Cuttable m s) (p : Counts (record { total = m; size = s; given = was }) n count) where
  counted : counted_of m s ≡ Ok (piece_count m s)
  counted = rw (can-cut m s w)

  count-number : n ≡ 0
  count-number =
      p.1.1.1.0.0 ∙ ap (λ (y : PiecesLent). pieces_number y.total y.size) p.1.1.1.1.0 ∙ ap counting.number_given counted

  count_is : count ≡ piece_count m s
  count_is =
      sym p.1.1.1.1.1 ∙ p.1.1.1.0.1
      ∙ ap (λ (y : PiecesLent). pieces_given y.total y.size y.given) p.1.1.1.1.0
      ∙ ap (count_left was) counted

module _ (msg : List ℕ) (s id first : ℕ) (w : Cuttable (length msg) s) (range : id < senders) (c : first < counters) where
  -- one call
  module _ {i n : ℕ} {out : List ℕ} {l : CutLeft} (h : i < piece_count (length msg) s) (fits : 4 + s ≤ length out)
      (p : Cuts (record { message = msg; size = s; sender = id; first = first; piece = i; out = out }) n l) where
    abbrev d : Datagram
    d = datagram_of msg s id first i

    makes : made_of msg s id first i (length out) ≡ Ok (length d)
    makes =
        makes-made msg s id first i (length out) (length d)
        (record { cut = w; sends = range; counts = c; piece = h; fits = omega (arith, datagram-most msg s id first i); size = refl })

    cut-number : n ≡ 0
    cut-number =
        p.1.1.1.0.0
        ∙ ap (λ (y : CutLent). cut_number y.message y.size y.sender y.first y.piece y.out) p.1.1.1.1.0
        ∙ ap cutting.number_given makes

    cut_out : l.out ≡ written_over out 0 d
    cut_out =
        ap (λ (y : CutLeft). y.out) (sym p.1.1.1.1.1) ∙ p.1.1.1.0.1.0
        ∙ ap (λ (y : CutLent). cut_into y.message y.size y.sender y.first y.piece y.out) p.1.1.1.1.0
        ∙ ap (λ (x : Result ℕ Refusal). cutting.left_over_by x out (written_over out 0 d)) makes

    cut_written : l.written ≡ length d
    cut_written =
        let was : ℕ = p.1.0.1.1.1.1.1.1.0.now in
        ap (λ (y : CutLeft). y.written) (sym p.1.1.1.1.1) ∙ p.1.1.1.0.1.1
        ∙ ap (λ (y : CutLent). cut_given y.message y.size y.sender y.first y.piece y.out was) p.1.1.1.1.0
        ∙ ap (made_left was) makes

    cut-datagram : take l.written l.out ≡ d
    cut-datagram = ap₂ take cut_written cut_out ∙ take_at d (drop (0 + length d) out) (length d) refl

  -- all of them
  cut-numbers : {i m : ℕ} {cs : List CutCall} → i + m ≤ piece_count (length msg) s → CutRun msg s id first i m cs → numbers_in cs ≡ replicate m 0
  cut-numbers h over = refl
  cut-numbers h (next f p r) = ap₂ ◌∷◌ (cut-number (omega arith) f p) (cut-numbers (omega arith) r)

  cut-datagrams : {i m : ℕ} {cs : List CutCall} → i + m ≤ piece_count (length msg) s → CutRun msg s id first i m cs
      → datagrams_in cs ≡ datagrams_from msg s id first i m
  cut-datagrams h over = refl
  cut-datagrams h (next f p r) = ap₂ ◌∷◌ (cut-datagram (omega arith) f p) (cut-datagrams (omega arith) r)

pub cut_then_taken : CutThenTaken
cut_then_taken ids R rooms k msg s first g was n count p cuts r = (count-number w p, (cut-numbers msg s id first w range g.counter all r, taken))
  where
    id : ℕ
    id = get_or ids k 0

    w : Cuttable (length msg) s
    w = record { some = g.some; most = g.most; size = g.size; piece = g.piece }

    range : id < senders
    range = g.set_up.range k g.known

    all : 0 + count ≤ piece_count (length msg) s
    all = omega (arith, count_is w p)

    same : datagrams_in cuts ≡ cut_up msg s id first
    same = cut-datagrams msg s id first w range g.counter all r ∙ ap (datagrams_from msg s id first 0) (count_is w p)

    bytes : AreBytes (datagrams_in cuts)
    bytes = subst AreBytes (sym same) (all-bytes ids k g.known range msg s first w g.bytes 0 (piece_count (length msg) s))

    taken : (x : SetUpAndRun nyr ids R rooms (datagrams_in cuts)) → (x.number ≡ 0) × (delivered_in ids k x.calls ≡ msg ∷ [])
    taken x = (
      answered ids R rooms (datagrams_in cuts) g.set_up x,
      (ran ids R rooms (datagrams_in cuts) g.set_up x k g.known bytes).delivered
          ∙ ap₂ (λ (j : Joiner) (ds : List Datagram). delivered_on ids k j rooms ds) (start ids R rooms (datagrams_in cuts) g.set_up x) same
          ∙ cut_and_joined ids R rooms k msg s first
          (record {
            set_up = is_accepted (setup_of ids R (length rooms)) (set_ups ids R (length rooms) g.set_up);
            known = g.known;
            some = g.some;
            most = g.most;
            size = g.size;
            piece = g.piece;
            counter = g.counter;
            room = g.room;
            bytes = g.bytes;
          }),
    )

-- a run of cuts
abbrev pub lent : {X : Type 0} → X → Bor X
lent x = record { ref_ptr = (0, 0); now = x }

abbrev pub lent_mut : {X : Type 0} → X → MutBor X
lent_mut x = record { ref_ptr = (0, 0); ghost_name = 0; now = x }

counts : (m s was : ℕ) → Counts (record { total = m; size = s; given = was }) (pieces_number m s) (pieces_given m s was)
counts m s was = (([], tt), ((m, (s, (lent_mut was, tt))), ((m, (s, (lent_mut (pieces_given m s was), tt))), ((refl, refl), (refl, refl)))))

module _ (msg : List ℕ) (s id first : ℕ) where
  abbrev room : List ℕ
  room = replicate (4 + s) 0

  abbrev left_of : ℕ → CutLeft
  left_of i = record { out = cut_into msg s id first i room; written = cut_given msg s id first i room 0 }

  cuts : (i : ℕ) → Cuts (record { message = msg; size = s; sender = id; first = first; piece = i; out = room }) (cut_number msg s id first i room) (left_of i)
  cuts i = (
    ([], ([], ([], tt))),
    (
      (lent msg, (s, (id, (first, (i, (lent_mut room, (lent_mut 0, tt))))))),
      (
        (lent msg, (s, (id, (first, (i, (lent_mut (left_of i).out, (lent_mut (left_of i).written, tt))))))),
        ((refl, (refl, refl)), (refl, refl)),
      ),
    ),
  )

  abbrev cutsFrom : ℕ → ℕ → List CutCall
  cutsFrom i zero = []
  cutsFrom i (suc m) = record { number = cut_number msg s id first i room; left = left_of i } ∷ cutsFrom (suc i) m

  cut-runs : (i m : ℕ) → CutRun msg s id first i m (cutsFrom i m)
  cut-runs i zero = over
  cut-runs i (suc m) = next {out = room} (let e : length room ≡ 4 + s = length-replicate (4 + s) 0 in omega (arith, e)) (cuts i) (cut-runs (suc i) m)

pub some_cut_run : SomeCutRun
some_cut_run msg s id first =
    let m : ℕ = pieces_given (length msg) s 0 in
    (pieces_number (length msg) s, (m, (counts (length msg) s 0, (cutsFrom msg s id first 0 m, cut-runs msg s id first 0 m))))
