-- What the functions of `laying` come to at their returns.
-- Assumes nothing.
use Prim.Native.Nat.{ℕ, ◌+◌, ◌*◌, ◌≤◌, ◌<◌}
use mathlib.Core.Path.{◌≡◌, refl, sym, ap, ◌∙◌}
use mathlib.Core.Bool.{Bool, true, false, cond}
use mathlib.Core.List.{List, [], ◌∷◌}
use native.Mathlib.Omega.{arith}
use borrow.Author.Tests.{ltb-false, leb-false}
use denote.Enum.Declared.{tag_of}
use types.Run.{OneOf, miss}
use lib.Dec.{leb, ltb}
use lib.ListN.{length, take-append-drop}
use Rattle.wire.specs.Bytes.{over}
use Rattle.wire.proofs.Cond.{yes_lt, no_lt, yes_le, no_le}
use Rattle.message.specs.Refusal.{wrong_size, no_room}
use Rattle.message3.specs.declared.Stamp.{Stamp}
use Rattle.platform.specs.declared.reactions.Reply.{Reply}
use Rattle.mixed.specs.declared.reactions.Deed.{Deed}
use Rattle.mixed.specs.declared.reactions.Deed.TheVariants.{Nothing, One, StartUp, TellAll, TellOne, Note, MarkAll}
use Rattle.mixed.specs.declared.reactions.Room.{Room}
use Rattle.mixed.specs.declared.reactions.Room.TheVariants.{Short, Enough}
use Rattle.mixed.specs.Replies.{reply_length3, reply_bytes3, start_up_length, start_up_bytes, state_told, pairs_of, services_message}
use Rattle.mixed.specs.Replies.{head_length, pair_length, most_ours, deed_bytes, fitting, room_for}
use Rattle.mixed.specs.contracts.reactions.Deed.{the_type as deed-type}

pub fits_not : (n room : ℕ) → room < n → Short 10 ≡ fitting n room
fits_not n room h = sym (yes_lt {A = Room} (Short no_room) (Enough n) room n h)

pub fits : (n room : ℕ) → n ≤ room → Enough n ≡ fitting n room
fits n room h = sym (no_lt {A = Room} (Short no_room) (Enough n) room n h)

-- the room that each deed takes
abbrev unwritten : List ℕ
unwritten = 0 ∷ 5 ∷ 6 ∷ []

module _ (ours : List ℕ) (d : Deed) (room : ℕ) where
  pub room-one : {l : ℕ} {x : Room} (r : Reply) → d ≡ One r → l ≡ reply_length3 r → x ≡ fitting l room → x ≡ room_for ours d room
  unfolding room_for
  room-one r e el ex = rw e (ex ∙ ap (λ (n : ℕ). fitting n room) el)

  pub room-start-up : {x : Room} (n : ℕ) → d ≡ StartUp n → x ≡ fitting start_up_length room → x ≡ room_for ours d room
  unfolding room_for
  room-start-up n e ex = rw e ex

  pub room-all-not : (n : ℕ) → d ≡ TellAll n → most_ours ≤ length ours → Short 5 ≡ room_for ours d room
  unfolding room_for
  room-all-not n e h = rw e (sym (yes_le {A = Room} (Short wrong_size) _ most_ours (length ours) h))

  pub room-all : {x : Room} (n : ℕ) → d ≡ TellAll n → length ours < most_ours → x ≡ fitting (head_length + pair_length * length ours) room
      → x ≡ room_for ours d room
  unfolding room_for
  room-all n e h ex =
      rw e (ex ∙ sym (no_le {A = Room} (Short wrong_size) (fitting (head_length + pair_length * length ours) room) most_ours (length ours) h))

  pub room-tell-one : {x : Room} (n id : ℕ) (b : Bool) → d ≡ TellOne n id b → x ≡ fitting (head_length + pair_length) room → x ≡ room_for ours d room
  unfolding room_for
  room-tell-one n id b e ex = rw e ex

pub room_none : (ours : List ℕ) (d : Deed) (room : ℕ) → OneOf unwritten (tag_of deed-type d) → Enough 0 ≡ room_for ours d room
unfolding room_for
room_none ours Nothing room h = refl
room_none ours (One r) room h = absurd (miss unwritten 1 tt h)
room_none ours (StartUp n) room h = absurd (miss unwritten 2 tt h)
room_none ours (TellAll n) room h = absurd (miss unwritten 3 tt h)
room_none ours (TellOne n id b) room h = absurd (miss unwritten 4 tt h)
room_none ours Note room h = refl
room_none ours MarkAll room h = refl

-- and back: where there is enough
abbrev is_enough : Room → ℕ
is_enough (Short n) = 0
is_enough (Enough n) = 1

enough : (n room k : ℕ) → fitting n room ≡ Enough k → n ≤ room
enough n room k e = go (ltb room n) refl (ap is_enough e)
  where
    go : (b : Bool) → ltb room n ≡ b → is_enough (cond b (Short no_room) (Enough n)) ≡ 1 → n ≤ room
    go true q f = absurd (omega arith)
    go false q f = ltb-false room n q

module _ (ours : List ℕ) (d : Deed) (room k : ℕ) (e : room_for ours d room ≡ Enough k) where
  pub need-one : (r : Reply) → d ≡ One r → reply_length3 r ≤ room
  unfolding room_for
  need-one r q = enough (reply_length3 r) room k (rw q at e)

  pub need-start-up : (n : ℕ) → d ≡ StartUp n → start_up_length ≤ room
  unfolding room_for
  need-start-up n q = enough start_up_length room k (rw q at e)

  need-all : (n : ℕ) → d ≡ TellAll n → (length ours < most_ours) × (head_length + pair_length * length ours ≤ room)
  unfolding room_for
  need-all n q = go (leb most_ours (length ours)) refl (rw q at e)
    where
      L : ℕ
      L = head_length + pair_length * length ours

      go : (b : Bool) → leb most_ours (length ours) ≡ b → cond b (Short wrong_size) (fitting L room) ≡ Enough k → (length ours < most_ours) × (L ≤ room)
      go true z f = let o : ◌≡◌ {A = ℕ} 0 1 = ap is_enough f in absurd (omega arith)
      go false z f = (leb-false most_ours (length ours) z, enough L room k f)

  pub need-few : (n : ℕ) → d ≡ TellAll n → length ours < most_ours
  need-few n q = (need-all n q).0

  pub need-room : (n : ℕ) → d ≡ TellAll n → head_length + pair_length * length ours ≤ room
  need-room n q = (need-all n q).1

  pub need-one-told : (n id : ℕ) (b : Bool) → d ≡ TellOne n id b → head_length + pair_length ≤ room
  unfolding room_for
  need-one-told n id b q = enough (head_length + pair_length) room k (rw q at e)

-- what is laid
module _ (own : ℕ) (t : Stamp) (c : ℕ) (ours : List ℕ) (out : List ℕ) where
  module _ (a : List ℕ) (d : Deed) where
    pub lay-one : (r : Reply) → d ≡ One r → a ≡ over out 0 (reply_bytes3 own t c r) → a ≡ over out 0 (deed_bytes own t c ours d)
    unfolding deed_bytes
    lay-one r q e = rw q e

    pub lay-start-up : (n : ℕ) → d ≡ StartUp n → a ≡ over out 0 (start_up_bytes own t c n) → a ≡ over out 0 (deed_bytes own t c ours d)
    unfolding deed_bytes
    lay-start-up n q e = rw q e

    pub lay-all : (n : ℕ) → d ≡ TellAll n → a ≡ over out 0 (services_message own t n (pairs_of ours)) → a ≡ over out 0 (deed_bytes own t c ours d)
    unfolding deed_bytes
    lay-all n q e = rw q e

    pub lay-one-told : (n id : ℕ) (b : Bool) → d ≡ TellOne n id b → a ≡ over out 0 (services_message own t n ((id, state_told b) ∷ []))
        → a ≡ over out 0 (deed_bytes own t c ours d)
    unfolding deed_bytes
    lay-one-told n id b q e = rw q e

  pub lay-none : (d : Deed) → OneOf unwritten (tag_of deed-type d) → out ≡ over out 0 (deed_bytes own t c ours d)
  unfolding deed_bytes
  lay-none Nothing h = sym (take-append-drop 0 out)
  lay-none (One r) h = absurd (miss unwritten 1 tt h)
  lay-none (StartUp n) h = absurd (miss unwritten 2 tt h)
  lay-none (TellAll n) h = absurd (miss unwritten 3 tt h)
  lay-none (TellOne n id b) h = absurd (miss unwritten 4 tt h)
  lay-none Note h = sym (take-append-drop 0 out)
  lay-none MarkAll h = sym (take-append-drop 0 out)
