-- The services' words after a message of Issue 3, by its ID and its first field: a status of services, or DOWN of a sender that is UP, changes
-- its sender's, and any other message none.
-- Assumes nothing.
use Prim.Native.Nat.{ℕ, ◌≤◌}
use Rattle.std.specs.Prelude.{Option}
use mathlib.Core.Path.{◌≡◌, refl}
use mathlib.Core.Bool.{Bool, true, false, cond, ◌&&◌}
use mathlib.Core.List.{List}
use lib.Dec.{eqb, ltb}
use Rattle.table.specs.declared.Sections.{Sections}
use Rattle.operations.specs.Search.{sought_in}
use Rattle.message.specs.declared.Status.TheVariants.{Down, Up}
use Rattle.message.specs.declared.Message.{Message}
use Rattle.message.specs.declared.Message.TheVariants as message
use Rattle.message3.specs.declared.Header3.{Header3}
use Rattle.message3.specs.declared.Message3.TheVariants as message3
use Rattle.message3.specs.Platform.{platform_message3}
use Rattle.states.specs.States.{stands_up}
use Rattle.platform.specs.declared.reactions.Standing.{Standing}
use Rattle.platform.specs.declared.reactions.Heard.{Heard}
use Rattle.platform.specs.declared.reactions.Heard.TheVariants as heard
use Rattle.platform.specs.Reaction.{reaction_to}
use Rattle.mixed.specs.declared.reactions.Deed.{Deed}
use Rattle.mixed.specs.declared.reactions.Deed.TheVariants.{TellAll, TellOne}
use Rattle.mixed.specs.declared.reactions.Reaction3.{Reaction3}
use Rattle.mixed.specs.Ours.{ours_available}
use Rattle.mixed.specs.Reaction.{operation_for3, in_six_words, deed_for, commonly, on_pull3, coming_up3, on_status3, on_services_request, reaction3}
use Rattle.mixed.specs.Keeping.{with_noted, with_marked, kept_words}
use Rattle.mixed.specs.Receiving.{kept3}
use Rattle.promises.proofs.Issue3Messages.{nine}
use Rattle.promises.proofs.MixedRooms.{short_by, kept-as}

-- by its ID and its first field, as `MixedChains` has the number
module _ (own : ℕ) (i ours t : List ℕ) (s : Sections) (index : List ℕ) (p : Standing) (h : Header3) (payload ws : List ℕ) (len room : ℕ) where
  pub wordsFor : Deed → List ℕ
  wordsFor d = cond (eqb (short_by ours d room) 0) (kept_words i h.platform d payload ws) ws

  pub kept-words : (x : Reaction3) → kept3 i ours h x payload ws room ≡ wordsFor x.deed
  unfolding kept3 wordsFor
  kept-words x = kept-as (kept_words i h.platform x.deed payload ws) ws ours x.deed room

  same : (b : Bool) → cond b ws ws ≡ ws
  same true = refl
  same false = refl

  abbrev up : Bool
  up = stands_up own p.states h.platform

  abbrev pub changed : ℕ → ℕ → List ℕ
  changed id field = cond (eqb id 3) (with_noted i h.platform payload ws) (cond (eqb id 1 && (eqb field 0 && up)) (with_marked i h.platform ws) ws)

  abbrev pub ItsWords : ℕ → Type 0
  ItsWords n = (field second : ℕ)
      → wordsFor (reaction3 own ours t s (operation_for3 t s index h (platform_message3 n field second)) p h (platform_message3 n field second) 24 len).deed
      ≡ changed n field

  -- what both issues have changes none
  commonly-same : (n : ℕ) (x : Heard) → wordsFor (deed_for n x) ≡ ws
  unfolding kept_words wordsFor
  commonly-same n (heard.Status x) = refl
  commonly-same n heard.Request = same (eqb (cond (ltb room 32) 10 0) 0)
  commonly-same n (heard.UnknownOperation id) = refl
  commonly-same n heard.PullOfAll = refl
  commonly-same n (heard.PullOfOne id j) = refl
  commonly-same n (heard.NotVersionedData id) = same (eqb (cond (ltb room 28) 10 0) 0)
  commonly-same n (heard.Operation j start size) = refl
  commonly-same n (heard.NotInTable id) = same (eqb (cond (ltb room 28) 10 0) 0)

  common : (f : Option (ℕ × ℕ)) (m : Message) → wordsFor (commonly own t s f p h m 24 len).deed ≡ ws
  unfolding commonly
  common f m = commonly-same h.sequence (reaction_to own t s f p (in_six_words h) m 24 len).heard

  of-status : ItsWords 1
  unfolding reaction3 on_status3 coming_up3 kept_words wordsFor
  of-status field second = go (eqb field 0) up refl
    where
      go : (a u : Bool) → up ≡ u → wordsFor (on_status3 own p h.platform (cond a Down Up) second).deed
          ≡ cond (a && up) (with_marked i h.platform ws) ws
      go true true e = rw e refl
      go true false e = rw e refl
      go false true e = rw e refl
      go false false e = rw e (same (eqb (cond (ltb room 88) 10 0) 0))

  of-request : ItsWords 2
  unfolding reaction3
  of-request field second = common (operation_for3 t s index h message3.PlatformStatusRequest) message.PlatformStatusRequest

  of-services : ItsWords 3
  unfolding reaction3 kept_words wordsFor
  of-services field second = refl

  of-services-request : ItsWords 4
  unfolding reaction3 on_services_request kept_words wordsFor
  of-services-request field second = go (eqb field 0xFFFFFFFF)
    where
      go : (a : Bool) → wordsFor (cond a (TellAll h.sequence) (TellOne h.sequence field (ours_available ours field))) ≡ ws
      go true = same (eqb (short_by ours (TellAll h.sequence) room) 0)
      go false = same (eqb (cond (ltb room 36) 10 0) 0)

  of-unknown : ItsWords 5
  unfolding reaction3
  of-unknown field second = common (operation_for3 t s index h (message3.UnknownOperation field)) (message.UnknownOperation field)

  of-not-available : ItsWords 6
  unfolding reaction3 kept_words wordsFor
  of-not-available field second = refl

  of-pull : ItsWords 7
  unfolding reaction3 operation_for3 on_pull3
  of-pull field second = go (eqb field 0xFFFFFFFF) refl
    where
      f : Option (ℕ × ℕ)
      f = sought_in t index s.operations.count field

      go : (a : Bool) → eqb field 0xFFFFFFFF ≡ a → wordsFor (on_pull3 own t s f p h field 24 len).deed ≡ ws
      go true e = rw e (commonly-same h.sequence heard.PullOfAll)
      go false e = rw e (common f (message.VersionedDataPull field))

  of-composite : ItsWords 8
  unfolding reaction3 kept_words wordsFor
  of-composite field second = refl

  of-ack : ItsWords 9
  unfolding reaction3 kept_words wordsFor
  of-ack field second = refl

  pub words-by-id : (id : ℕ) → 1 ≤ id → id ≤ 9 → ItsWords id
  words-by-id = nine ItsWords (of-status, of-request, of-services, of-services-request, of-unknown, of-not-available, of-pull, of-composite, of-ack)

  pub operation-words : (f : Option (ℕ × ℕ)) → wordsFor (reaction3 own ours t s f p h message3.Operation 24 len).deed ≡ ws
  unfolding reaction3
  operation-words f = common f message.Operation
