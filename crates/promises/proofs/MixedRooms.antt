-- Whether an output takes what is to be written for a deed, as a number: 0 where it does. What a message of Issue 3 comes to, the output and
-- the services' words after it, by that number and the one that keeping services gives.
-- Assumes nothing.
use Prim.Native.Nat.{ℕ, ◌+◌, ◌*◌, ◌^◌}
use mathlib.Core.Path.{◌≡◌, refl}
use mathlib.Core.Bool.{Bool, true, false, cond}
use mathlib.Core.List.{List}
use lib.Dec.{eqb, leb, ltb}
use lib.ListN.{length}
use Rattle.message3.specs.declared.Header3.{Header3}
use Rattle.platform.specs.declared.reactions.Standing.{Standing}
use Rattle.mixed.specs.declared.AnyReceived.{AnyReceived}
use Rattle.mixed.specs.declared.reactions.Deed.{Deed}
use Rattle.mixed.specs.declared.reactions.Deed.TheVariants.{Nothing, One, StartUp, TellAll, TellOne, Note, MarkAll}
use Rattle.mixed.specs.declared.reactions.Reaction3.{Reaction3}
use Rattle.mixed.specs.Replies.{reply_length3, most_ours, fitting, room_for}
use Rattle.mixed.specs.Receiving.{refused_any, taken3, settled_by, laid_out_by, kept_by}

-- how long it is, and the number that says why it does not fit
abbrev pub length_for : List ℕ → Deed → ℕ
length_for ours Nothing = 0
length_for ours (One r) = reply_length3 r
length_for ours (StartUp n) = 88
length_for ours (TellAll n) = 28 + 8 * length ours
length_for ours (TellOne n id available) = 36
length_for ours Note = 0
length_for ours MarkAll = 0

abbrev pub short_by : List ℕ → Deed → ℕ → ℕ
short_by ours Nothing room = 0
short_by ours (One r) room = cond (ltb room (reply_length3 r)) 10 0
short_by ours (StartUp n) room = cond (ltb room 88) 10 0
short_by ours (TellAll n) room = cond (leb (2 ^ 29) (length ours)) 5 (cond (ltb room (28 + 8 * length ours)) 10 0)
short_by ours (TellOne n id available) room = cond (ltb room 36) 10 0
short_by ours Note room = 0
short_by ours MarkAll room = 0

-- the answer, the output and the words by both numbers
module _ (k : ℕ) (p : Standing) (h : Header3) (x : Reaction3) where
  abbrev pub settledAs : ℕ → ℕ → AnyReceived
  settledAs short n = cond (eqb short 0) (cond (eqb k 0) (taken3 h x n) (refused_any p k)) (refused_any p short)

  fitting-settled : (n room : ℕ) → settled_by (fitting n room) k p h x ≡ settledAs (cond (ltb room n) 10 0) n
  fitting-settled n room = go (ltb room n) refl
    where
      go : (b : Bool) → ltb room n ≡ b → settled_by (fitting n room) k p h x ≡ settledAs (cond (ltb room n) 10 0) n
      go true e = rw e refl
      go false e = rw e refl

  pub settled-as : (ours : List ℕ) (d : Deed) (room : ℕ) → settled_by (room_for ours d room) k p h x ≡ settledAs (short_by ours d room) (length_for ours d)
  unfolding room_for
  settled-as ours Nothing room = refl
  settled-as ours (One r) room = fitting-settled (reply_length3 r) room
  settled-as ours (StartUp n) room = fitting-settled 88 room
  settled-as ours (TellAll n) room = go (leb most_ours (length ours)) refl
    where
      go : (b : Bool) → leb most_ours (length ours) ≡ b
          → settled_by (room_for ours (TellAll n) room) k p h x ≡ settledAs (short_by ours (TellAll n) room) (28 + 8 * length ours)
      go true e = rw e refl
      go false e = rw e (fitting-settled (28 + 8 * length ours) room)
  settled-as ours (TellOne n id available) room = fitting-settled 36 room
  settled-as ours Note room = refl
  settled-as ours MarkAll room = refl

module _ (k : ℕ) (new was : List ℕ) where
  abbrev pub laidAs : ℕ → List ℕ
  laidAs short = cond (eqb short 0) (cond (eqb k 0) new was) was

  fitting-laid : (n room : ℕ) → laid_out_by (fitting n room) k new was ≡ laidAs (cond (ltb room n) 10 0)
  fitting-laid n room = go (ltb room n) refl
    where
      go : (b : Bool) → ltb room n ≡ b → laid_out_by (fitting n room) k new was ≡ laidAs (cond (ltb room n) 10 0)
      go true e = rw e refl
      go false e = rw e refl

  pub laid_as : (ours : List ℕ) (d : Deed) (room : ℕ) → laid_out_by (room_for ours d room) k new was ≡ laidAs (short_by ours d room)
  unfolding room_for
  laid_as ours Nothing room = refl
  laid_as ours (One r) room = fitting-laid (reply_length3 r) room
  laid_as ours (StartUp n) room = fitting-laid 88 room
  laid_as ours (TellAll n) room = go (leb most_ours (length ours)) refl
    where
      go : (b : Bool) → leb most_ours (length ours) ≡ b → laid_out_by (room_for ours (TellAll n) room) k new was ≡ laidAs (short_by ours (TellAll n) room)
      go true e = rw e refl
      go false e = rw e (fitting-laid (28 + 8 * length ours) room)
  laid_as ours (TellOne n id available) room = fitting-laid 36 room
  laid_as ours Note room = refl
  laid_as ours MarkAll room = refl

module _ (new was : List ℕ) where
  abbrev pub keptAs : ℕ → List ℕ
  keptAs short = cond (eqb short 0) new was

  fitting-kept : (n room : ℕ) → kept_by (fitting n room) new was ≡ keptAs (cond (ltb room n) 10 0)
  fitting-kept n room = go (ltb room n) refl
    where
      go : (b : Bool) → ltb room n ≡ b → kept_by (fitting n room) new was ≡ keptAs (cond (ltb room n) 10 0)
      go true e = rw e refl
      go false e = rw e refl

  pub kept-as : (ours : List ℕ) (d : Deed) (room : ℕ) → kept_by (room_for ours d room) new was ≡ keptAs (short_by ours d room)
  unfolding room_for
  kept-as ours Nothing room = refl
  kept-as ours (One r) room = fitting-kept (reply_length3 r) room
  kept-as ours (StartUp n) room = fitting-kept 88 room
  kept-as ours (TellAll n) room = go (leb most_ours (length ours)) refl
    where
      go : (b : Bool) → leb most_ours (length ours) ≡ b → kept_by (room_for ours (TellAll n) room) new was ≡ keptAs (short_by ours (TellAll n) room)
      go true e = rw e refl
      go false e = rw e (fitting-kept (28 + 8 * length ours) room)
  kept-as ours (TellOne n id available) room = fitting-kept 36 room
  kept-as ours Note room = refl
  kept-as ours MarkAll room = refl
