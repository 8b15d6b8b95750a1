-- One channel by itself: what a datagram does to its view depends on the view and the datagram alone, the message handed
-- back is the view's, and the views and rooms of the other channels do not move.
-- Assumes nothing.
use Prim.Native.Nat.{ℕ, ◌+◌, ◌-◌, ◌≤◌, ◌<◌}
use Rattle.std.specs.Prelude.{Result, Ok, Err}
use Rattle.refusal.specs.declared.Refusal.{Refusal}
use mathlib.Core.Path.{◌≡◌, refl, sym, ap, ◌∙◌}
use mathlib.Core.Logic.{◌⊎◌, inl, inr, ⊎_elim}
use mathlib.Core.Bool.{Bool, true, false, cond}
use mathlib.Core.List.{List, [], ◌++◌, append_assoc}
use native.Mathlib.Omega.{arith}
use borrow.Author.Tests.{ltb-true, ltb-false}
use lib.Dec.{ltb, eqb}
use lib.ListN.{length, take, drop, length-append, length-drop, take-append-drop}
use lib.Seq.{length-take-le, take-length, take_at, take-append-le, drop-append-le, drop-drop, take-add, drop-append-add}
use Rattle.wire.specs.Bytes.{over, written}
use Rattle.wire.proofs.Runs.{written_in, part_in, drop_over, length_written}
use Rattle.binding.specs.Header.{header_length, part_carried, counter_in, piece_in}
use Rattle.binding.specs.declared.MessagePart.{MessagePart}
use Rattle.binding.proofs.Headers.{piece_length}
use Rattle.channel.specs.declared.Channel.{Channel}
use Rattle.channel.specs.declared.Room.{Room}
use Rattle.channel.specs.declared.Step.{Step}
use Rattle.channel.specs.Channel.{room_of, missed_of, keeping, noted_of}
use Rattle.channel.specs.Record.{room_start}
use Rattle.channel.proofs.Cases.{channel_says, Stepped, again, whole, begins, stray, long, goes_on, ends}
use Rattle.channel.proofs.Movable.{room_within}
use Rattle.joiner.specs.declared.Joiner.{Joiner}
use Rattle.joiner.specs.Setup.{senders_of, channel_at}
use Rattle.joiner.specs.Take.{judged_of, changed, taken_by, taken_of, put_by, rooms_by, rooms_after, message_of, Addressed, Foreign}
use Rattle.joiner.specs.View.{View, bytes_at, view_of, leading, held_by, given_by, view_step, view_after, view_given, delivered_of}
use Rattle.joiner.proofs.Judging.{Moved, judged-moved}
use Rattle.joiner.proofs.Standing.{Standing, standing_good, changed-here, changed-there, moved-cases}
use Rattle.joiner.proofs.Addressing.{addressed-moves, foreign-refused}

-- a run written at p, seen from n bytes at a
module _ (s : List ℕ) (p : ℕ) (q : List ℕ) (h : p + length q ≤ length s) where
  pub bytes-before : (a n : ℕ) → a + n ≤ p → bytes_at (over s p q) a n ≡ bytes_at s a n
  bytes-before a n l = go (q ++ drop (p + length q) s) ∙ sym (go (drop p s)) ∙ ap (λ (u : List ℕ). bytes_at u a n) (take-append-drop p s)
    where
      t : length (take p s) ≡ p
      t = length-take-le p s (omega arith)

      go : (y : List ℕ) → bytes_at (take p s ++ y) a n ≡ bytes_at (take p s) a n
      go y =
          ap (take n) (drop-append-le a (take p s) y (omega (arith, t)))
          ∙ take-append-le n (drop a (take p s)) y (omega (arith, t, length-drop a (take p s)))

  pub bytes-behind : (a n : ℕ) → p + length q ≤ a → bytes_at (over s p q) a n ≡ bytes_at s a n
  bytes-behind a n l =
      let x : List ℕ = take p s ++ q in
      let y : List ℕ = drop (p + length q) s in
      let m : length x ≡ p + length q = length-append (take p s) q ∙ ap (λ (k : ℕ). k + length q) (length-take-le p s (omega arith)) in
      let e : a ≡ length x + (a - (p + length q)) = omega arith in
      let f : p + length q + (a - (p + length q)) ≡ a = omega arith in
      ap (take n)
      (ap (drop a) (sym (append_assoc (take p s) q y))
      ∙ ap (λ (k : ℕ). drop k (x ++ y)) e
      ∙ drop-append-add x y (a - (p + length q))
      ∙ drop-drop (a - (p + length q)) (p + length q) s
      ∙ ap (λ (k : ℕ). drop k s) f)

-- a run written behind h bytes
pub bytes_joined : (s : List ℕ) (a h : ℕ) (q : List ℕ) → a + h + length q ≤ length s → bytes_at (over s (a + h) q) a (h + length q) ≡ bytes_at s a h ++ q
bytes_joined s a h q l =
    let u : List ℕ = over s (a + h) q in
    take-add h (length q) (drop a u)
    ∙ ap (λ (x : List ℕ). x ++ take (length q) (drop h (drop a u))) (bytes-before s (a + h) q l a h (omega arith))
    ∙ ap (λ (x : List ℕ). bytes_at s a h ++ take (length q) x) (drop-drop h a u ∙ drop_over s (a + h) q (omega arith))
    ∙ ap (λ (x : List ℕ). bytes_at s a h ++ x) (take_at q (drop (a + h + length q) s) (length q) refl)

-- one step in its room: `rooms` and `ch` before it, d the datagram
module _ (room : Room) (ch : Channel) (rooms d : List ℕ) (fits : room.start + room.size ≤ length rooms) where
  abbrev c : ℕ
  c = counter_in d

  abbrev q : List ℕ
  q = piece_in d

  abbrev v : View
  v = record { channel = ch; bytes = bytes_at rooms room.start ch.held }

  -- what is kept is what the piece is put behind
  kept : (keeping ch c ≡ 0 → ⊥) → bytes_at rooms room.start (keeping ch c) ≡ cond (eqb (missed_of ch c) 0) v.bytes []
  unfolding keeping
  kept n = go (eqb (missed_of ch c) 0) n
    where
      go : (t : Bool) → (cond t ch.held 0 ≡ 0 → ⊥) → bytes_at rooms room.start (cond t ch.held 0) ≡ cond t v.bytes []
      go true m = refl
      go false m = absurd (m refl)

  behind : (keeping ch c ≡ 0 → ⊥) → keeping ch c + length q ≤ room.size
      → bytes_at (written rooms (room.start + keeping ch c) q) room.start (keeping ch c + length q) ≡ cond (eqb (missed_of ch c) 0) v.bytes [] ++ q
  behind n f =
      ap (λ (u : List ℕ). bytes_at u room.start (keeping ch c + length q)) (written_in rooms (room.start + keeping ch c) q (omega arith))
      ∙ bytes_joined rooms room.start (keeping ch c) q (omega arith)
      ∙ ap (λ (u : List ℕ). u ++ q) (kept n)

  pub held_after : {p : MessagePart} {s : Step} → Stepped room ch c (length q) p s
      → bytes_at (put_by rooms s.put d) room.start s.channel.held ≡ held_by v.bytes (leading v p c ++ q) (Ok s.outcome)
  unfolding put_by noted_of
  held_after (again r) = refl
  held_after (whole r) = refl
  held_after (begins r f) =
      ap (λ (u : List ℕ). bytes_at u room.start (length q)) (written_in rooms room.start q (omega arith))
      ∙ ap (take (length q)) (drop_over rooms room.start q (omega arith))
      ∙ take_at q (drop (room.start + length q) rooms) (length q) refl
  held_after (stray r z) = ap (bytes_at rooms room.start) z
  held_after (long r) = refl
  held_after (goes_on r z f) = behind z f
  held_after (ends r z f) = refl

  pub given-after : {p : MessagePart} {s : Step} → header_length ≤ length d → Stepped room ch c (length q) p s
      → message_of {E = Refusal} (Ok s.outcome) d (put_by rooms s.put d) ≡ given_by q (leading v p c ++ q) (Ok s.outcome)
  unfolding message_of put_by
  given-after l (again r) = refl
  given-after l (whole r) = part_in d header_length (length q) (omega (arith, piece_length d)) ∙ take-length q
  given-after l (begins r f) = refl
  given-after l (stray r z) = refl
  given-after l (long r) = refl
  given-after l (goes_on r z f) = refl
  given-after l (ends r z f) =
      let w : length (written rooms (room.start + keeping ch c) q) ≡ length rooms = length_written rooms (room.start + keeping ch c) q in
      part_in (written rooms (room.start + keeping ch c) q) room.start (keeping ch c + length q) (omega arith) ∙ behind z f

  -- bytes that lie outside the room stay
  apart : (a n p : ℕ) → (a + n ≤ room.start) ⊎ (room.start + room.size ≤ a) → room.start ≤ p → p + length q ≤ room.start + room.size
      → bytes_at (written rooms p q) a n ≡ bytes_at rooms a n
  apart a n p o l m =
      ap (λ (u : List ℕ). bytes_at u a n) (written_in rooms p q (omega arith))
      ∙ ⊎_elim (λ h. bytes-before rooms p q (omega arith) a n (omega arith)) (λ h. bytes-behind rooms p q (omega arith) a n (omega arith)) o

  pub outside : {p : MessagePart} {s : Step} (a n : ℕ) → (a + n ≤ room.start) ⊎ (room.start + room.size ≤ a)
      → Stepped room ch c (length q) p s → bytes_at (put_by rooms s.put d) a n ≡ bytes_at rooms a n
  unfolding put_by
  outside a n o (again r) = refl
  outside a n o (whole r) = refl
  outside a n o (begins r f) = apart a n room.start o (omega arith) (omega arith)
  outside a n o (stray r z) = refl
  outside a n o (long r) = refl
  outside a n o (goes_on r z f) = apart a n (room.start + keeping ch c) o (omega arith) (omega arith)
  outside a n o (ends r z f) = apart a n (room.start + keeping ch c) o (omega arith) (omega arith)

-- the whole joiner
module _ (j : Joiner) (rooms d : List ℕ) (s : Standing j (length rooms)) where
  within : (k : ℕ) → k < j.count → room_start j.room k + j.room ≤ length rooms
  within k h = omega (arith, room_within j.room j.count k h, (standing_good s).sizes.whole)

  -- a datagram of channel k: its own view steps, and nothing else is asked of the joiner
  module _ (k : ℕ) (a : Addressed (senders_of j) k d) where
    abbrev room : Room
    room = room_of j.room k

    abbrev view : View
    view = view_of j rooms k

    moves : judged_of j (length rooms) d ≡ Ok (k, view_step room view d)
    moves = addressed-moves j (length rooms) d s k a

    moved : Moved j (length rooms) d k (view_step room view d)
    moved = judged-moved j (length rooms) d k (view_step room view d) moves

    steps : Stepped room (channel_at j k) (counter_in d) (length (piece_in d)) (part_carried d) (view_step room view d)
    steps = moved-cases j (length rooms) d k (view_step room view d) moved

    after : (taken_of j rooms d).joiner ≡ changed j k (view_step room view d).channel
    unfolding taken_of taken_by
    after = ap (λ (x : Result (ℕ × Step) Refusal). (taken_by j x).joiner) moves

    rooms-after : rooms_after j rooms d ≡ put_by rooms (view_step room view d).put d
    unfolding rooms_after rooms_by
    rooms-after = ap (rooms_by rooms d) moves

    pub own-outcome : (taken_of j rooms d).outcome ≡ Ok (view_step room view d).outcome
    unfolding taken_of taken_by
    own-outcome = ap (λ (x : Result (ℕ × Step) Refusal). (taken_by j x).outcome) moves

    pub own_view : view_of (taken_of j rooms d).joiner (rooms_after j rooms d) k ≡ view_after room view d
    unfolding view_after
    own_view =
        let l : k < length j.channels = omega (arith, moved.known, (standing_good s).sizes.few, s.width) in
        rw (after, rooms-after, changed-here j k (view_step room view d).channel l, held_after room (channel_at j k) rooms d (within k moved.known) steps)

    pub own-given : delivered_of j rooms d ≡ view_given room view d
    unfolding delivered_of view_given
    own-given = rw (own-outcome, rooms-after) (given-after room (channel_at j k) rooms d (within k moved.known) (omega (arith, moved.headed.long)) steps)

    -- the other channels do not move: neither record nor any byte of the room
    apart_from : (i : ℕ) → (i ≡ k → ⊥) → (room_start j.room i + j.room ≤ room_start j.room k) ⊎ (room_start j.room k + j.room ≤ room_start j.room i)
    apart_from i n = go (ltb i k) refl
      where
        go : (t : Bool) → ltb i k ≡ t → (room_start j.room i + j.room ≤ room_start j.room k) ⊎ (room_start j.room k + j.room ≤ room_start j.room i)
        go true e = inl (room_within j.room k i (ltb-true i k e))
        go false e = inr (room_within j.room i k (omega (arith, ltb-false i k e)))

    pub other-bytes : (i n : ℕ) → (i ≡ k → ⊥) → n ≤ j.room → bytes_at (rooms_after j rooms d) (room_start j.room i) n ≡ bytes_at rooms (room_start j.room i) n
    other-bytes i n x l =
        rw rooms-after
        (outside room (channel_at j k) rooms d (within k moved.known) (room_start j.room i) n
        (⊎_elim (λ h. inl (omega arith)) (λ h. inr h) (apart_from i x)) steps)

    pub other-view : (i : ℕ) → i < j.count → (i ≡ k → ⊥) → view_of (taken_of j rooms d).joiner (rooms_after j rooms d) i ≡ view_of j rooms i
    other-view i h x =
        let l : (channel_at j i).held ≤ j.room = (channel_says j.room (channel_at j i) ((standing_good s).each i h)).held in
        rw (after, changed-there j k (view_step room view d).channel i x, other-bytes i (channel_at j i).held x l)

  -- a foreign datagram moves no view and delivers nothing
  module _ (f : Foreign (senders_of j) d) where
    refuses : judged_of j (length rooms) d ≡ Err (foreign-refused j (length rooms) d s f).0
    refuses = (foreign-refused j (length rooms) d s f).1

    pub foreign-joiner : (taken_of j rooms d).joiner ≡ j
    unfolding taken_of taken_by
    foreign-joiner = ap (λ (x : Result (ℕ × Step) Refusal). (taken_by j x).joiner) refuses

    pub foreign-rooms : rooms_after j rooms d ≡ rooms
    unfolding rooms_after rooms_by
    foreign-rooms = ap (rooms_by rooms d) refuses

    pub foreign-given : delivered_of j rooms d ≡ []
    unfolding delivered_of message_of taken_of taken_by
    foreign-given = ap (λ (x : Result (ℕ × Step) Refusal). message_of (taken_by j x).outcome d (rooms_after j rooms d)) refuses
