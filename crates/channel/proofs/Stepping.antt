-- What the functions of one channel's step show at their returns: 01, Joining, steps 1 to 5.
-- Assumes nothing.
use Prim.Native.Nat.{ℕ, ◌+◌, ◌-◌, ◌%◌, ◌≤◌, ◌<◌}
use Rattle.std.specs.Prelude.{Option, Some, None}
use mathlib.Core.Path.{◌≡◌, sym, ◌∙◌}
use mathlib.Core.Bool.{Bool, true, false, cond}
use native.Mathlib.Omega.{arith}
use borrow.Author.Tests.{le-leb, lt-leb, eq-eqb, ne_eqb}
use lib.Dec.{eqb}
use Rattle.binding.specs.Header.{header_length, counters}
use Rattle.binding.specs.declared.MessagePart.{MessagePart}
use Rattle.binding.specs.declared.MessagePart.TheVariants.{Begin, Middle, End, Whole}
use Rattle.channel.specs.declared.Channel.{Channel}
use Rattle.channel.specs.declared.Room.{Room}
use Rattle.channel.specs.declared.Step.{Step}
use Rattle.channel.specs.declared.Slice.TheVariants.{Datagram, Rooms}
use Rattle.channel.specs.declared.Outcome.TheVariants.{Repeated, Delivered, Held, TooLong}
use Rattle.channel.specs.Channel.{Steppable, missed_of, repeated, keeping, noted_of, holding, stray_of, too_long, whole_of}
use Rattle.channel.specs.Channel.{begun_of, followed_of, joined_of, behind_of, placed_of, stepped_of}

module _ (ch : Channel) (c : ℕ) where
  pub some-missed : ch.seen ≡ true → (c + counters - (ch.last + 1)) % counters ≡ missed_of ch c
  unfolding missed_of
  some-missed e = rw e

  pub none-missed : ch.seen ≡ false → 0 ≡ missed_of ch c
  unfolding missed_of
  none-missed e = rw e

  pub is-noted : {m h : ℕ} → m ≡ missed_of ch c → h ≡ cond (eqb m 0) ch.held 0
      → record { sender = ch.sender; seen = true; last = c; held = h } ≡ noted_of ch c
  unfolding noted_of keeping
  is-noted e f = rw (f, e)

pub is_kept : (h m : ℕ) → m ≡ 0 → h ≡ cond (eqb m 0) h 0
is_kept h m e = rw (eq-eqb m 0 e)

pub is_dropped : (h m : ℕ) → (m ≡ 0 → ⊥) → 0 ≡ cond (eqb m 0) h 0
is_dropped h m n = rw (ne_eqb m 0 n)

pub whole_given : {h : Channel} (ch : Channel) (n m : ℕ) → h ≡ holding ch 0
    → record { outcome = Delivered m (Datagram header_length n); channel = h; put = None } ≡ whole_of ch n m
whole_given ch n m e = rw e

pub all_dropped : {h : Channel} (ch : Channel) (m : ℕ) → h ≡ holding ch 0 → record { outcome = TooLong m; channel = h; put = None } ≡ too_long ch m
all_dropped ch m e = rw e

module _ (room : Room) (ch : Channel) (n m : ℕ) where
  pub begun-held : {h : Channel} → n ≤ room.size → h ≡ holding ch n → record { outcome = Held m n; channel = h; put = Some room.start } ≡ begun_of room ch n m
  unfolding begun_of
  begun-held f e = rw (le-leb n room.size f, e)

  pub begun-too-long : {s : Step} → room.size < n → s ≡ too_long ch m → s ≡ begun_of room ch n m
  unfolding begun_of
  begun-too-long f e = rw (lt-leb n room.size f, e)

  pub nothing-held : {s : Step} (ends : Bool) → ch.held ≡ 0 → s ≡ stray_of ch m → s ≡ followed_of ends room ch n m
  unfolding followed_of
  nothing-held ends e q = rw (eq-eqb ch.held 0 e, q)

  pub fits-behind : {s : Step} (ends : Bool) → (ch.held ≡ 0 → ⊥) → ch.held + n ≤ room.size → s ≡ joined_of ends room ch n m → s ≡ followed_of ends room ch n m
  unfolding followed_of
  fits-behind ends e f q = rw (ne_eqb ch.held 0 e, le-leb (ch.held + n) room.size f, q)

  pub behind-too-long : {s : Step} (ends : Bool) → (ch.held ≡ 0 → ⊥) → room.size < ch.held + n → s ≡ too_long ch m → s ≡ followed_of ends room ch n m
  unfolding followed_of
  behind-too-long ends e f q = rw (ne_eqb ch.held 0 e, lt-leb (ch.held + n) room.size f, q)

  pub end-joined : {ends : Bool} {h : Channel} {p : Option ℕ} → ends ≡ true → h ≡ holding ch 0 → p ≡ behind_of room ch.held
      → record { outcome = Delivered m (Rooms room.start (ch.held + n)); channel = h; put = p } ≡ joined_of ends room ch n m
  end-joined e f g = rw (e, f, g)

  pub middle-joined : {ends : Bool} {h : Channel} {p : Option ℕ} → ends ≡ false → h ≡ holding ch (ch.held + n) → p ≡ behind_of room ch.held
      → record { outcome = Held m (ch.held + n); channel = h; put = p } ≡ joined_of ends room ch n m
  middle-joined e f g = rw (e, f, g)

  pub placed-whole : {p : MessagePart} {s : Step} → p ≡ Whole → s ≡ whole_of ch n m → s ≡ placed_of room ch p n m
  unfolding placed_of
  placed-whole w e = rw w e

  pub placed-begin : {p : MessagePart} {s : Step} → p ≡ Begin → s ≡ begun_of room ch n m → s ≡ placed_of room ch p n m
  unfolding placed_of
  placed-begin w e = rw w e

  pub placed-middle : {p : MessagePart} {s : Step} → p ≡ Middle → s ≡ followed_of false room ch n m → s ≡ placed_of room ch p n m
  unfolding placed_of
  placed-middle w e = rw w e

  pub placed_end : {p : MessagePart} {s : Step} → p ≡ End → s ≡ followed_of true room ch n m → s ≡ placed_of room ch p n m
  unfolding placed_of
  placed_end w e = rw w e

  pub stray-middle : {p : MessagePart} {s : Step} → p ≡ Middle → ch.held ≡ 0 → s ≡ stray_of ch m → s ≡ placed_of room ch p n m
  stray-middle w e q = placed-middle w (nothing-held false e q)

  pub stray-end : {p : MessagePart} {s : Step} → p ≡ End → ch.held ≡ 0 → s ≡ stray_of ch m → s ≡ placed_of room ch p n m
  stray-end w e q = placed_end w (nothing-held true e q)

module _ (room : Room) (ch : Channel) (p : MessagePart) (c n : ℕ) where
  pub noted-empty : {m : ℕ} {h : Channel} → m ≡ missed_of ch c → (m ≡ 0 → ⊥) → h ≡ noted_of ch c → h.held ≡ 0
  unfolding noted_of keeping
  noted-empty {m} em k e = rw (e, ← em, ne_eqb m 0 k)

  pub noted-steppable : {h : Channel} → Steppable room ch n → c < counters → h ≡ noted_of ch c → Steppable room h n
  unfolding noted_of keeping
  noted-steppable {h} s l e = rw e (go (eqb (missed_of ch c) 0))
    where
      go : (t : Bool) → Steppable room (record { sender = ch.sender; seen = true; last = c; held = cond t ch.held 0 }) n
      go true = record { size = s.size; ends = s.ends; last = l; held = s.held; piece = s.piece }
      go false = record { size = s.size; ends = s.ends; last = l; held = omega arith; piece = s.piece }

  pub stepped-repeated : {t : Bool} → t ≡ repeated ch c → t ≡ true → record { outcome = Repeated; channel = ch; put = None } ≡ stepped_of room ch p c n
  unfolding stepped_of
  stepped-repeated e t = rw (sym e ∙ t)

  pub stepped-placed : {t : Bool} {h : Channel} {m : ℕ} {s : Step} → t ≡ repeated ch c → t ≡ false → m ≡ missed_of ch c → h ≡ noted_of ch c
      → s ≡ placed_of room h p n m → s ≡ stepped_of room ch p c n
  unfolding stepped_of
  stepped-placed e t em eh es = rw (sym e ∙ t, es, eh, em)
