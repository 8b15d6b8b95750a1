-- A channel's view steps as the machine of `Machine` does.
-- Assumes nothing.
use Prim.Native.Nat.{ℕ, ◌+◌}
use Rattle.std.specs.Prelude.{Ok}
use mathlib.Core.Path.{◌≡◌, refl, sym, ap, ap₂, ◌∙◌}
use mathlib.Core.Bool.{Bool, true, false, cond}
use mathlib.Core.List.{List, [], ◌∷◌, ◌++◌, map}
use borrow.Author.Tests.{eqb-true}
use lib.Dec.{leb, eqb}
use lib.ListN.{length, length-append}
use Rattle.binding.specs.declared.MessagePart.{MessagePart}
use Rattle.binding.specs.declared.MessagePart.TheVariants.{Begin, Middle, End, Whole}
use Rattle.binding.specs.Header.{part_carried, counter_in, piece_in}
use Rattle.channel.specs.declared.Room.{Room}
use Rattle.channel.specs.declared.Step.{Step}
use Rattle.channel.specs.Channel.{missed_of, repeated, keeping, noted_of, begun_of, followed_of, placed_of, stepped_of}
use Rattle.joiner.specs.View.{View, leading, held_by, given_by, view_after, view_given}
use Rattle.promises.specs.Traffic.{Datagram}
use Rattle.promises.proofs.Machine.{Memory, Passage, Event, kept, moved, deliveries}
use Rattle.promises.proofs.Apart.{given, view_delivers}

abbrev pub machine : View → Memory
machine v = record { seen = v.channel.seen; last = v.channel.last; held = v.bytes }

abbrev pub event_in : Datagram → Event
event_in d = record { mark = part_carried d; counter = counter_in d; bytes = piece_in d }

-- the record counts the bytes that are held
abbrev pub Matched : View → Type 0
Matched v = v.channel.held ≡ length v.bytes

-- a step of the view, whose piece q goes behind `lead`, and a passage of the machine come to the same. Step and passage are arguments, so that
-- what is tested is rewritten once in both
module _ (v : View) (lead q : List ℕ) where
  abbrev heldAfter : Step → List ℕ
  heldAfter s = held_by v.bytes (lead ++ q) (Ok s.outcome)

  pub record Alike (s : Step) (x : Passage) : Type 0 where
    pub channel : machine (record { channel = s.channel; bytes = heldAfter s }) ≡ x.channel
    pub delivered : given (Ok s.outcome) (given_by q (lead ++ q) (Ok s.outcome)) ≡ x.delivered
    pub matched : s.channel.held ≡ length (heldAfter s)

abbrev pub Agrees : Room → View → MessagePart → ℕ → List ℕ → Type 0
Agrees room v p c q = Alike v (leading v p c) q (stepped_of room v.channel p c (length q)) (moved room.size (machine v) p c q)

module _ (room : Room) (v : View) (c : ℕ) (q : List ℕ) (m : Matched v) (r : repeated v.channel c ≡ false) where
  abbrev h : List ℕ
  h = kept (machine v) c

  counted : keeping v.channel c ≡ length h
  unfolding keeping missed_of
  counted = go (eqb (missed_of v.channel c) 0)
    where
      go : (z : Bool) → cond z v.channel.held 0 ≡ length (cond z v.bytes [])
      go true = m
      go false = refl

  whole : Agrees room v Whole c q
  unfolding stepped_of placed_of noted_of
  whole = rw r (record { channel = refl; delivered = refl; matched = refl })

  begins : Agrees room v Begin c q
  unfolding stepped_of placed_of begun_of noted_of
  begins = go (leb (length q) room.size) refl
    where
      go : (t : Bool) → leb (length q) room.size ≡ t → Agrees room v Begin c q
      go true e = rw (r, e) (record { channel = refl; delivered = refl; matched = refl })
      go false e = rw (r, e) (record { channel = refl; delivered = refl; matched = refl })

  middle : Agrees room v Middle c q
  unfolding stepped_of placed_of followed_of noted_of missed_of
  middle = go (eqb (length h) 0) refl (leb (length h + length q) room.size) refl
    where
      go : (a : Bool) → eqb (length h) 0 ≡ a → (b : Bool) → leb (length h + length q) room.size ≡ b → Agrees room v Middle c q
      go true e b f = rw (r, counted, e) (record { channel = refl; delivered = refl; matched = eqb-true (length h) 0 e })
      go false e true f = rw (r, counted, e, f) (record { channel = refl; delivered = refl; matched = sym (length-append h q) })
      go false e false f = rw (r, counted, e, f) (record { channel = refl; delivered = refl; matched = refl })

  ends : Agrees room v End c q
  unfolding stepped_of placed_of followed_of noted_of missed_of
  ends = go (eqb (length h) 0) refl (leb (length h + length q) room.size) refl
    where
      go : (a : Bool) → eqb (length h) 0 ≡ a → (b : Bool) → leb (length h + length q) room.size ≡ b → Agrees room v End c q
      go true e b f = rw (r, counted, e) (record { channel = refl; delivered = refl; matched = eqb-true (length h) 0 e })
      go false e true f = rw (r, counted, e, f) (record { channel = refl; delivered = refl; matched = refl })
      go false e false f = rw (r, counted, e, f) (record { channel = refl; delivered = refl; matched = refl })

agrees : (room : Room) (v : View) (p : MessagePart) (c : ℕ) (q : List ℕ) → Matched v → Agrees room v p c q
unfolding stepped_of
agrees room v p c q m = go (repeated v.channel c) refl p
  where
    go : (t : Bool) → repeated v.channel c ≡ t → (p : MessagePart) → Agrees room v p c q
    go true e p = rw e (record { channel = refl; delivered = refl; matched = m })
    go false e Whole = whole room v c q m e
    go false e Begin = begins room v c q m e
    go false e Middle = middle room v c q m e
    go false e End = ends room v c q m e

-- over a run of the channel's datagrams
pub same_deliveries : (room : Room) (v : View) (ds : List Datagram) → Matched v → view_delivers room v ds ≡ deliveries room.size (machine v) (map event_in ds)
unfolding view_after view_given
same_deliveries room v [] m = refl
same_deliveries room v (d ∷ ds) m =
    let a : Agrees room v (part_carried d) (counter_in d) (piece_in d) = agrees room v (part_carried d) (counter_in d) (piece_in d) m in
    ap₂ ◌++◌ a.delivered (same_deliveries room (view_after room v d) ds a.matched
    ∙ ap (λ (x : Memory). deliveries room.size x (map event_in ds)) a.channel)
