-- A step is one of seven: the case analysis of 01's steps 1 to 5, made once. And what each record and place is then.
-- Assumes nothing.
use Prim.Native.Nat.{ℕ, ◌+◌, ◌≤◌, ◌<◌}
use Rattle.std.specs.Prelude.{Some, None}
use mathlib.Core.Path.{◌≡◌, refl}
use mathlib.Core.Bool.{Bool, true, false, ◌&&◌, cond}
use native.Mathlib.Omega.{arith}
use borrow.Author.Tests.{leb-true, ltb-true, eqb-true, eqb-false, lt-ltb, le-leb, lt-leb}
use lib.Dec.{leb, ltb, eqb}
use Rattle.wire.proofs.Cond.{and_true, and_left, and_right}
use Rattle.binding.specs.Header.{senders, counters}
use Rattle.binding.specs.declared.MessagePart.{MessagePart}
use Rattle.binding.specs.declared.MessagePart.TheVariants.{Begin, Middle, End, Whole}
use Rattle.channel.specs.declared.Channel.{Channel}
use Rattle.channel.specs.declared.Room.{Room}
use Rattle.channel.specs.declared.Step.{Step}
use Rattle.channel.specs.declared.Slice.TheVariants.{Rooms}
use Rattle.channel.specs.declared.Outcome.TheVariants.{Repeated, Delivered, Held, Stray, TooLong}
use Rattle.channel.specs.Channel.{missed_of, repeated, keeping, noted_of, holding, too_long, whole_of, begun_of, joined_of, followed_of, placed_of, stepped_of}
use Rattle.channel.specs.Record.{good_channel, new_channel}

-- what a good record is
pub record Sound (R : ℕ) (ch : Channel) : Type 0 where
  pub sender : ch.sender < senders
  pub held : ch.held ≤ R
  pub last : ch.last < counters

pub channel_says : (R : ℕ) (ch : Channel) → good_channel R ch ≡ true → Sound R ch
channel_says R ch e =
    let q : (leb ch.held R && ltb ch.last counters) ≡ true = and_right (ltb ch.sender senders) (leb ch.held R && ltb ch.last counters) e in
    record {
      sender = ltb-true ch.sender senders (and_left (ltb ch.sender senders) (leb ch.held R && ltb ch.last counters) e);
      held = leb-true ch.held R (and_left (leb ch.held R) (ltb ch.last counters) q);
      last = ltb-true ch.last counters (and_right (leb ch.held R) (ltb ch.last counters) q);
    }

-- the seven: what a step is, where ch is the record before it
pub data Stepped (room : Room) (ch : Channel) (c n : ℕ) : MessagePart → Step → Type 0 where
  again : {p : MessagePart} → repeated ch c ≡ true → Stepped room ch c n p (record { outcome = Repeated; channel = ch; put = None })
  whole : repeated ch c ≡ false → Stepped room ch c n Whole (whole_of (noted_of ch c) n (missed_of ch c))
  begins : repeated ch c ≡ false → n ≤ room.size
      → Stepped room ch c n Begin (record { outcome = Held (missed_of ch c) n; channel = holding (noted_of ch c) n; put = Some room.start })
  stray : {p : MessagePart} → repeated ch c ≡ false → keeping ch c ≡ 0
      → Stepped room ch c n p (record { outcome = Stray (missed_of ch c); channel = noted_of ch c; put = None })
  long : {p : MessagePart} → repeated ch c ≡ false → Stepped room ch c n p (too_long (noted_of ch c) (missed_of ch c))
  goes_on : repeated ch c ≡ false → (keeping ch c ≡ 0 → ⊥) → keeping ch c + n ≤ room.size
      → Stepped room ch c n Middle
      (record {
        outcome = Held (missed_of ch c) (keeping ch c + n);
        channel = holding (noted_of ch c) (keeping ch c + n);
        put = Some (room.start + keeping ch c);
      })
  ends : repeated ch c ≡ false → (keeping ch c ≡ 0 → ⊥) → keeping ch c + n ≤ room.size
      → Stepped room ch c n End
      (record {
        outcome = Delivered (missed_of ch c) (Rooms room.start (keeping ch c + n));
        channel = holding (noted_of ch c) 0;
        put = Some (room.start + keeping ch c);
      })

module _ (room : Room) (ch : Channel) (c n : ℕ) where
  follows : (p : MessagePart) (e : Bool) → repeated ch c ≡ false →
      ((keeping ch c ≡ 0 → ⊥) → keeping ch c + n ≤ room.size → Stepped room ch c n p (joined_of e room (noted_of ch c) n (missed_of ch c))) →
      Stepped room ch c n p (followed_of e room (noted_of ch c) n (missed_of ch c))
  unfolding followed_of noted_of
  follows p e r f = go (eqb (keeping ch c) 0) refl (leb (keeping ch c + n) room.size) refl
    where
      go : (z : Bool) → eqb (keeping ch c) 0 ≡ z → (t : Bool) → leb (keeping ch c + n) room.size ≡ t →
          Stepped room ch c n p (cond z (record { outcome = Stray (missed_of ch c); channel = noted_of ch c; put = None })
          (cond t (joined_of e room (noted_of ch c) n (missed_of ch c)) (too_long (noted_of ch c) (missed_of ch c))))
      go true x t q = stray r (eqb-true (keeping ch c) 0 x)
      go false x true q = f (eqb-false (keeping ch c) 0 x) (leb-true (keeping ch c + n) room.size q)
      go false x false q = long r

  places : repeated ch c ≡ false → (p : MessagePart) → Stepped room ch c n p (placed_of room (noted_of ch c) p n (missed_of ch c))
  unfolding placed_of begun_of noted_of
  places r Whole = whole r
  places r Begin = go (leb n room.size) refl
    where
      go : (t : Bool) → leb n room.size ≡ t
          → Stepped room ch c n Begin
          (cond t (record { outcome = Held (missed_of ch c) n; channel = holding (noted_of ch c) n; put = Some room.start })
          (too_long (noted_of ch c) (missed_of ch c)))
      go true e = begins r (leb-true n room.size e)
      go false e = long r
  places r Middle = follows Middle false r (goes_on r)
  places r End = follows End true r (ends r)

  pub step-cases : (p : MessagePart) → Stepped room ch c n p (stepped_of room ch p c n)
  unfolding stepped_of
  step-cases p = go (repeated ch c) refl
    where
      go : (t : Bool) → repeated ch c ≡ t
          → Stepped room ch c n p (cond t (record { outcome = Repeated; channel = ch; put = None }) (placed_of room (noted_of ch c) p n (missed_of ch c)))
      go true e = again e
      go false e = places e p

  -- no step changes the sender ID
  pub step-sender : {p : MessagePart} {s : Step} → Stepped room ch c n p s → s.channel.sender ≡ ch.sender
  unfolding noted_of
  step-sender (again r) = refl
  step-sender (whole r) = refl
  step-sender (begins r f) = refl
  step-sender (stray r z) = refl
  step-sender (long r) = refl
  step-sender (goes_on r z f) = refl
  step-sender (ends r z f) = refl

  pub keeping-le : keeping ch c ≤ ch.held
  unfolding keeping
  keeping-le = go (eqb (missed_of ch c) 0)
    where
      go : (t : Bool) → cond t ch.held 0 ≤ ch.held
      go true = omega arith
      go false = omega arith

  -- a good record stays good
  pub step-sound : {p : MessagePart} {s : Step} → c < counters → Sound room.size ch → Stepped room ch c n p s → Sound room.size s.channel
  unfolding noted_of
  step-sound l g (again r) = g
  step-sound l g (whole r) = record { sender = g.sender; held = omega arith; last = l }
  step-sound l g (begins r f) = record { sender = g.sender; held = f; last = l }
  step-sound l g (stray r z) = record { sender = g.sender; held = omega (arith, keeping-le, g.held); last = l }
  step-sound l g (long r) = record { sender = g.sender; held = omega arith; last = l }
  step-sound l g (goes_on r z f) = record { sender = g.sender; held = f; last = l }
  step-sound l g (ends r z f) = record { sender = g.sender; held = omega arith; last = l }

pub sound_good : (R : ℕ) (ch : Channel) → Sound R ch → good_channel R ch ≡ true
sound_good R ch g =
    and_true (ltb ch.sender senders) (leb ch.held R && ltb ch.last counters) (lt-ltb ch.sender senders g.sender)
    (and_true (leb ch.held R) (ltb ch.last counters) (le-leb ch.held R g.held) (lt-ltb ch.last counters g.last))

-- on a fresh record nothing is missed: a whole is delivered, a beginning is held where it fits, all else is stray
module _ (room : Room) (s c n : ℕ) where
  pub fresh-whole : stepped_of room (new_channel s) Whole c n ≡ whole_of (record { sender = s; seen = true; last = c; held = 0 }) n 0
  unfolding stepped_of placed_of noted_of keeping missed_of
  fresh-whole = refl

  pub fresh-begin : n ≤ room.size → stepped_of room (new_channel s) Begin c n
      ≡ record { outcome = Held 0 n; channel = record { sender = s; seen = true; last = c; held = n }; put = Some room.start }
  unfolding stepped_of placed_of begun_of noted_of keeping missed_of
  fresh-begin h = rw (le-leb n room.size h)

  pub fresh-long : room.size < n → stepped_of room (new_channel s) Begin c n
      ≡ record { outcome = TooLong 0; channel = record { sender = s; seen = true; last = c; held = 0 }; put = None }
  unfolding stepped_of placed_of begun_of noted_of keeping missed_of
  fresh-long h = rw (lt-leb n room.size h)

  pub fresh-middle : stepped_of room (new_channel s) Middle c n
      ≡ record { outcome = Stray 0; channel = record { sender = s; seen = true; last = c; held = 0 }; put = None }
  unfolding stepped_of placed_of followed_of noted_of keeping missed_of
  fresh-middle = refl

  pub fresh-end : stepped_of room (new_channel s) End c n
      ≡ record { outcome = Stray 0; channel = record { sender = s; seen = true; last = c; held = 0 }; put = None }
  unfolding stepped_of placed_of followed_of noted_of keeping missed_of
  fresh-end = refl
