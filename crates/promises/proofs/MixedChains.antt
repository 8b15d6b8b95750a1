-- The number that the platform call gives back for a message of Issue 3 that was read, by its ID and its first field.
-- Assumes nothing.
use Prim.Native.Nat.{ℕ, ◌+◌, ◌*◌, ◌^◌, ◌≤◌}
use Rattle.std.specs.Prelude.{Option, Some, None}
use mathlib.Core.Path.{◌≡◌, refl, sym, ap, ◌∙◌}
use mathlib.Core.Bool.{Bool, true, false, not, cond, ◌&&◌, ◌||◌}
use mathlib.Core.List.{List}
use native.Mathlib.Omega.{arith}
use borrow.Author.Tests.{eqb-true}
use lib.Dec.{eqb, leb, ltb}
use lib.ListN.{length}
use Rattle.wire.proofs.Cond.{no_lt}
use Rattle.table.specs.declared.Sections.{Sections}
use Rattle.operations.specs.Search.{sought_in}
use Rattle.message.specs.declared.Status.TheVariants.{Down, Up}
use Rattle.message3.specs.declared.Header3.{Header3}
use Rattle.message3.specs.declared.Message3.TheVariants as message3
use Rattle.message3.specs.Platform.{platform_message3}
use Rattle.services.specs.Block.{note_refusal, status_fits}
use Rattle.states.specs.States.{stands_up}
use Rattle.platform.specs.declared.reactions.Standing.{Standing}
use Rattle.platform.specs.declared.reactions.Heard.TheVariants as heard
use Rattle.platform.specs.Reaction.{is_data, found_data, silent, not_versioned, reaction_to, on_pull, on_pull_one, on_operation}
use Rattle.mixed.specs.declared.AnyReceived.{AnyReceived}
use Rattle.mixed.specs.declared.reactions.Deed.{Deed}
use Rattle.mixed.specs.declared.reactions.Deed.TheVariants.{TellAll, TellOne}
use Rattle.mixed.specs.declared.reactions.Reaction3.{Reaction3}
use Rattle.mixed.specs.Ours.{ours_available}
use Rattle.mixed.specs.Reaction.{operation_for3, deed_for, commonly, on_pull3, coming_up3, on_status3, on_services_request, reaction3}
use Rattle.mixed.specs.Keeping.{is_there, block_of, note_number, mark_number, kept_number}
use Rattle.mixed.specs.Receiving.{number_given, refused_any, taken3, settled3}
use Rattle.promises.specs.Platforms.{is_there as isFound}
use Rattle.promises.proofs.Issue3Messages.{nine}
use Rattle.promises.proofs.MixedRooms.{length_for, short_by, settled-as}

-- a message of Issue 3 that asks for no response of ours: the number of its deed
module _ (own : ℕ) (i ours t : List ℕ) (s : Sections) (index : List ℕ) (p : Standing) (h : Header3) (payload ws : List ℕ) (len room : ℕ) where
  pub number_for : Deed → ℕ
  number_for d = cond (eqb (short_by ours d room) 0) (kept_number i h.platform d payload ws) (short_by ours d room)

  pub settled-number : (x : Reaction3) → number_given (settled3 i ours p h x payload ws room).answer ≡ number_for x.deed
  unfolding settled3 number_for
  settled-number x =
      ap (λ (y : AnyReceived). number_given y.answer) (settled-as kept p h x ours x.deed room) ∙ go (eqb (short_by ours x.deed room) 0) (eqb kept 0) refl
    where
      kept : ℕ
      kept = kept_number i h.platform x.deed payload ws

      go : (a b : Bool) → eqb kept 0 ≡ b
          → number_given (cond a (cond b (taken3 h x (length_for ours x.deed)) (refused_any p kept)) (refused_any p (short_by ours x.deed room))).answer
          ≡ cond a kept (short_by ours x.deed room)
      go true true e = sym (eqb-true kept 0 e)
      go true false e = refl
      go false b e = refl

  abbrev pub up : Bool
  up = stands_up own p.states h.platform

  abbrev pub there : Bool
  there = is_there i h.platform ws

  abbrev pub fits : Bool
  fits = status_fits (block_of i h.platform ws) payload

  abbrev pub look : ℕ → Option (ℕ × ℕ)
  look id = sought_in t index s.operations.count id

  -- by its ID and its first field
  abbrev pub needs : ℕ → ℕ → Bool
  needs id field = eqb id 3 || (eqb id 1 && (eqb field 0 && up))

  abbrev pub owedTo : ℕ → ℕ → ℕ
  owedTo id field =
      cond (eqb id 1) (cond (eqb field 0) 0 (cond up 0 88))
      (cond (eqb id 2) 32
      (cond (eqb id 4) (cond (eqb field 0xFFFFFFFF) (28 + 8 * length ours) 36)
      (cond (eqb id 7) (cond (eqb field 0xFFFFFFFF) 0 (cond (found_data t (look field)) 0 28))
      0)))

  abbrev pub chain : ℕ → ℕ → ℕ
  chain id field =
      cond (needs id field && not there) 10
      (cond (eqb id 3 && not fits) 63
      (cond (eqb id 4 && (eqb field 0xFFFFFFFF && leb (2 ^ 29) (length ours))) 5
      (cond (ltb room (owedTo id field)) 10 0)))

  abbrev pub ItsNumber : ℕ → Type 0
  ItsNumber n = (field second : ℕ)
      → number_for (reaction3 own ours t s (operation_for3 t s index h (platform_message3 n field second)) p h (platform_message3 n field second) 24 len).deed
      ≡ chain n field

  -- nothing owed, and one reply
  no-reply : ◌≡◌ {A = ℕ} 0 (cond (ltb room 0) 10 0)
  no-reply = sym (no_lt {A = ℕ} 10 0 room 0 (omega arith))

  one-reply : (b : Bool) → ◌≡◌ {A = ℕ} (cond (eqb (cond b 10 0) 0) 0 (cond b 10 0)) (cond b 10 0)
  one-reply true = refl
  one-reply false = refl

  of-status : ItsNumber 1
  unfolding reaction3 on_status3 coming_up3 kept_number mark_number number_for
  of-status field second = go (eqb field 0) up refl there refl (ltb room 88) refl
    where
      go : (a u : Bool) → up ≡ u → (b : Bool) → there ≡ b → (c : Bool) → ltb room 88 ≡ c
          → number_for (on_status3 own p h.platform (cond a Down Up) second).deed
          ≡ cond ((a && up) && not there) 10 (cond (ltb room (cond a 0 (cond up 0 88))) 10 0)
      go true true e true f c g = rw (e, f) no-reply
      go true true e false f c g = rw (e, f) refl
      go true false e b f c g = rw e no-reply
      go false true e b f c g = rw e no-reply
      go false false e b f true g = rw (e, g) refl
      go false false e b f false g = rw (e, g) refl

  of-request : ItsNumber 2
  unfolding reaction3 commonly reaction_to kept_number number_for
  of-request field second = one-reply (ltb room 32)

  of-services : ItsNumber 3
  unfolding reaction3 kept_number note_number note_refusal number_for
  of-services field second = go there fits
    where
      go : (a b : Bool) → ◌≡◌ {A = ℕ} (cond a (cond b 0 63) 10) (cond (not a) 10 (cond (not b) 63 (cond (ltb room 0) 10 0)))
      go true true = no-reply
      go true false = refl
      go false b = refl

  of-services-request : ItsNumber 4
  unfolding reaction3 on_services_request kept_number number_for
  of-services-request field second = go (eqb field 0xFFFFFFFF) (leb (2 ^ 29) (length ours)) refl
    where
      go : (a b : Bool) → leb (2 ^ 29) (length ours) ≡ b
          → number_for (cond a (TellAll h.sequence) (TellOne h.sequence field (ours_available ours field)))
          ≡ cond (a && leb (2 ^ 29) (length ours)) 5 (cond (ltb room (cond a (28 + 8 * length ours) 36)) 10 0)
      go true true e = rw e refl
      go true false e = rw e (one-reply (ltb room (28 + 8 * length ours)))
      go false b e = one-reply (ltb room 36)

  of-unknown : ItsNumber 5
  unfolding reaction3 commonly reaction_to kept_number number_for
  of-unknown field second = no-reply

  of-not-available : ItsNumber 6
  unfolding reaction3 kept_number number_for
  of-not-available field second = no-reply

  pulled_one : (field : ℕ) (f : Option (ℕ × ℕ)) → number_for (deed_for h.sequence (on_pull_one t f p h.sequence field).heard)
      ≡ cond (ltb room (cond (found_data t f) 0 28)) 10 0
  unfolding on_pull_one found_data kept_number number_for
  pulled_one field (Some (j, q)) = go (is_data t q)
    where
      go : (b : Bool) → number_for (deed_for h.sequence (cond b (silent p (heard.PullOfOne field j)) (not_versioned p h.sequence field)).heard)
          ≡ cond (ltb room (cond b 0 28)) 10 0
      go true = no-reply
      go false = one-reply (ltb room 28)
  pulled_one field None = one-reply (ltb room 28)

  of-pull : ItsNumber 7
  unfolding reaction3 operation_for3 on_pull3 commonly reaction_to on_pull kept_number number_for
  of-pull field second = go (eqb field 0xFFFFFFFF) refl
    where
      go : (a : Bool) → eqb field 0xFFFFFFFF ≡ a
          → number_for (on_pull3 own t s (look field) p h field 24 len).deed
          ≡ cond (ltb room (cond (eqb field 0xFFFFFFFF) 0 (cond (found_data t (look field)) 0 28))) 10 0
      go true e = rw e no-reply
      go false e = rw e (pulled_one field (look field))

  of-composite : ItsNumber 8
  unfolding reaction3 kept_number number_for
  of-composite field second = no-reply

  of-ack : ItsNumber 9
  unfolding reaction3 kept_number number_for
  of-ack field second = no-reply

  pub by-id : (id : ℕ) → 1 ≤ id → id ≤ 9 → ItsNumber id
  by-id = nine ItsNumber (of-status, of-request, of-services, of-services-request, of-unknown, of-not-available, of-pull, of-composite, of-ack)

  pub of_operation : (f : Option (ℕ × ℕ)) → number_for (reaction3 own ours t s f p h message3.Operation 24 len).deed ≡ cond (ltb room (cond (isFound f) 0 28)) 10 0
  unfolding reaction3 commonly reaction_to on_operation kept_number number_for
  of_operation (Some (j, q)) = no-reply
  of_operation None = one-reply (ltb room 28)
