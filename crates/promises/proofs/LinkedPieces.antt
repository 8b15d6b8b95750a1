-- What is linked cuts messages, and joins what it cut, as demand 2 asks.
-- Assumes nothing.
use Prim.Native.Nat.{ℕ, suc}
use Rattle.std.specs.Prelude.{Ok}
use Rattle.refusal.specs.Refusal.{refused}
use mathlib.Core.Path.{◌≡◌, refl, sym, ap, ap₂, ◌∙◌}
use mathlib.Core.Bool.{Bool, true, false, cond, ◌&&◌}
use mathlib.Core.List.{List, [], ◌∷◌}
use native.Mathlib.Omega.{arith}
use lib.Dec.{leb, ltb}
use lib.ListN.{length, take, drop}
use Rattle.binding.specs.Header.{senders, counters}
use Rattle.binding.specs.Cutting.{can_cut, piece_count, datagram_of, counted_of, made_of, cut_into}
use Rattle.binding.specs.Counted.{number_given as countNumber}
use Rattle.binding.specs.Made.{number_given as cut_number}
use Rattle.binding.proofs.Cutting.{can-cut, pieces-made, made-front, made-rest}
use Rattle.nyrkovash.specs.PieceCalls.{count_left, made_left}
use Rattle.promises.specs.Traffic.{Datagram, delivered_on, fresh}
use Rattle.promises.specs.CutAndJoined.{datagrams_from}
use Rattle.promises.specs.LinkedMessages.{CanBeCut}
use Rattle.promises.specs.LinkedMessages.{IsCut, AreCut, CutsEach, CanJoin, CutThenJoined, call, none, more}
use Rattle.promises.proofs.CutAndJoined.{cut_and_joined}

-- a piece that was cut
module _ (msg : List ℕ) (s sender first i : ℕ) (out : List ℕ) where
  made-zero : cut_number (made_of msg s sender first i (length out)) ≡ 0
      → made_of msg s sender first i (length out) ≡ Ok (length (datagram_of msg s sender first i))
  made-zero e =
      go (can_cut (length msg) s && (ltb sender senders && ltb first counters)) (ltb i (piece_count (length msg) s))
      (leb (length (datagram_of msg s sender first i)) (length out)) e
    where
      l : ℕ
      l = length (datagram_of msg s sender first i)

      go : (a b c : Bool) →
          cut_number (cond a (cond b (cond c (Ok l) (refused 52)) (refused 51)) (refused 50)) ≡ 0
          → cond a (cond b (cond c (Ok l) (refused 52)) (refused 51)) (refused 50) ≡ Ok l
      go true true true z = refl
      go true true false z = absurd (omega arith)
      go true false c z = absurd (omega arith)
      go false b c z = absurd (omega arith)

  cut-front : (was written : ℕ) (left : List ℕ) → cut_number (made_of msg s sender first i (length out)) ≡ 0
      → written ≡ made_left was (made_of msg s sender first i (length out)) → left ≡ cut_into msg s sender first i out
      → take written left ≡ datagram_of msg s sender first i
  cut-front was written left z e f =
      let m = made-zero z in
      ap₂ (λ (n : ℕ) (b : List ℕ). take n b) (e ∙ ap (made_left was) m) f ∙ made-front msg s sender first i out m

is_cut : (msg : List ℕ) (s sender first i : ℕ) (d : Datagram) → IsCut msg s sender first i d → d ≡ datagram_of msg s sender first i
is_cut msg s sender first i d (call k a n e p q) =
    q.6 ∙ cut-front a.0.now a.1.0 a.1.1.0 a.1.1.1.0 a.1.1.1.1.0 a.1.1.1.1.1.0.now
    a.1.1.1.1.1.1.0.now _ _ (sym p.0 ∙ q.5) p.1.1 p.1.0
    ∙ rw (q.0, q.1, q.2, q.3, q.4) refl

pub are_cut : (msg : List ℕ) (s sender first i : ℕ) (ds : List Datagram) → AreCut msg s sender first i ds → ds ≡ datagrams_from msg s sender first i (length ds)
are_cut msg s sender first i [] none = refl
are_cut msg s sender first i (d ∷ ds) (more c r) = ap₂ ◌∷◌ (is_cut msg s sender first i d c) (are_cut msg s sender first (suc i) ds r)

module _ (msg : List ℕ) (s sender first : ℕ) (g : CanBeCut msg s sender first) where
  abbrev N : ℕ
  N = piece_count (length msg) s

  cuts : can_cut (length msg) s ≡ true
  cuts = can-cut (length msg) s (record { some = g.some; most = g.most; size = g.size; piece = g.largest })

  counts : counted_of (length msg) s ≡ Ok N
  counts = rw cuts

  cuts-each : (count : ℕ) → count ≡ N → CutsEach msg s sender first count
  cuts-each count c k a n e p em es ek ef l room =
      let out = a.1.1.1.1.1.0.now in
      let i : ℕ = a.1.1.1.1.0 in
      let m : made_of msg s sender first i (length out) ≡ Ok (length (datagram_of msg s sender first i)) =
      pieces-made msg s sender first i (length out) N counts g.sender_fits g.counter_fits (omega arith) room in
      let m' : made_of a.0.now a.1.0 a.1.1.0 a.1.1.1.0 i (length out)
      ≡ Ok (length (datagram_of msg s sender first i)) = rw (em, es, ek, ef) m in (
        p.0 ∙ ap cut_number m',
        ap₂ (λ (x : ℕ) (b : List ℕ). drop x b) (p.1.1 ∙ ap (made_left a.1.1.1.1.1.1.0.now) m') p.1.0
            ∙ made-rest a.0.now a.1.0 a.1.1.0 a.1.1.1.0 i out m'
            ∙ ap (λ (x : ℕ). drop x out) (sym (p.1.1 ∙ ap (made_left a.1.1.1.1.1.1.0.now) m')),
      )

  joined : (ids : List ℕ) (R : ℕ) (rooms : List ℕ) (c : ℕ) (ds : List Datagram) → CanJoin ids R rooms c msg s sender
      → length ds ≡ N → AreCut msg s sender first 0 ds → delivered_on ids c (fresh ids R rooms) rooms ds ≡ msg ∷ []
  joined ids R rooms c ds j l r =
      ap (delivered_on ids c (fresh ids R rooms) rooms)
      (are_cut msg s sender first 0 ds r
      ∙ ap₂ (λ (x n : ℕ). datagrams_from msg s x first 0 n) (sym j.its_id) l)
      ∙ cut_and_joined ids R rooms c msg s first
      (record {
        set_up = j.set_up;
        known = j.known;
        some = g.some;
        most = g.most;
        size = g.size;
        piece = g.largest;
        counter = g.counter_fits;
        room = j.room;
        bytes = j.bytes;
      })

pub cut_then_joined : CutThenJoined
cut_then_joined msg s sender first g k a n e p em es =
    let c : counted_of a.0 a.1.0 ≡ Ok (piece_count (length msg) s) = rw (em, es) (counts msg s sender first g) in
    let given : e.1.1.0.now ≡ piece_count (length msg) s = p.1 ∙ ap (count_left a.1.1.0.now) c in (
      p.0 ∙ ap countNumber c,
      cuts-each msg s sender first g e.1.1.0.now given,
      λ ids R rooms ch ds j l r. joined msg s sender first g ids R rooms ch ds j (l ∙ given) r,
    )
