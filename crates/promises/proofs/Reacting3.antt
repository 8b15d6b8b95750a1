-- What a message of Issue 3 comes to at a platform: the replies that are owed for it, the next own number and the states after it, and
-- whether it changes what is known of services.
-- Assumes nothing.
use Prim.Native.Nat.{ℕ, ◌^◌, ◌<◌}
use Rattle.std.specs.Prelude.{Option, Some, None}
use mathlib.Core.Path.{◌≡◌, refl, sym, ap, ◌∙◌}
use mathlib.Core.Bool.{Bool, true, false, true≢false}
use mathlib.Core.List.{List, [], ◌∷◌}
use borrow.Author.Tests.{lt-leb, eqb-true}
use lib.Dec.{eqb}
use lib.ListN.{length, drop}
use Rattle.wire.proofs.Cond.{yes_le}
use Rattle.table.specs.declared.Sections.{Sections}
use Rattle.message.specs.declared.Status.TheVariants.{Down, Up}
use Rattle.message.specs.Refusal.{platforms}
use Rattle.message3.specs.declared.Header3.{Header3}
use Rattle.message3.specs.declared.Message3.{Message3}
use Rattle.message3.specs.declared.Message3.TheVariants.{PlatformStatus, PlatformStatusRequest, AvailabilityStatus, AvailabilityStatusRequest}
use Rattle.message3.specs.declared.Message3.TheVariants.{UnknownOperation, ServiceNotAvailable, VersionedDataPull, CompositeChangeRequest}
use Rattle.message3.specs.declared.Message3.TheVariants.{CompositeChangeRequestAck, Operation}
use Rattle.states.specs.States.{stands_up}
use Rattle.platform.specs.Replies.{all_data}
use Rattle.platform.specs.Reaction.{found_data, on_pull, on_pull_one, on_operation, reaction_to}
use Rattle.mixed.specs.declared.reactions.Reaction3.{Reaction3}
use Rattle.mixed.specs.Keeping.{note_number, mark_number, kept_number, kept_words}
use Rattle.mixed.specs.Reaction.{all_services, operation_for3, commonly, on_pull3, coming_up3, on_status3, on_services_request, reaction3}
use Rattle.mixed.proofs.Deeds.{too_many}
use Rattle.promises.specs.Platforms.{operation_with}
use Rattle.promises.specs.Owed3.{MixedCall, OwedReply3, tells_these, up_before, owed_for3, state_after3, next_after3}
use Rattle.promises.specs.Replies3.{moves_services, BlockTakes, Countable}
use Rattle.promises.proofs.Reacting.{Finds, Pull, all_of_none, all_of_some, one_entry, no_entry, pulled, as_it_was, now-turned}
use Rattle.promises.proofs.OneOfOurs.{its-state}
use Rattle.promises.proofs.ReplyBytes3.{meant_by, WideDeed}

-- the field of a message's payload that a reply repeats
abbrev pub field_of3 : Message3 → ℕ
field_of3 (PlatformStatus x composite) = 0
field_of3 PlatformStatusRequest = 0
field_of3 (AvailabilityStatus n) = 0
field_of3 (AvailabilityStatusRequest id) = id
field_of3 (UnknownOperation id) = 0
field_of3 (ServiceNotAvailable id) = 0
field_of3 (VersionedDataPull id) = id
field_of3 (CompositeChangeRequest composite) = 0
field_of3 (CompositeChangeRequestAck a) = 0
field_of3 Operation = 0

module _ (c : MixedCall) (s : Sections) (index : List ℕ) (h : Header3) (start len : ℕ) where
  abbrev pub X3 : Message3 → Reaction3
  X3 kind = reaction3 c.own c.ours c.table s (operation_for3 c.table s index h kind) c.standing h kind start len

  -- a reaction, and the replies and the next own number that are wanted: arguments, so that what was tested is rewritten in all of them once
  pub record ReactsBy (kind : Message3) (x : Reaction3) (owed : List OwedReply3) (n : ℕ) : Type 0 where
    pub owed-is : meant_by c x.deed ≡ owed
    pub wide : WideDeed x.deed
    pub next : x.standing.next ≡ n
    pub states : (k : ℕ) → k < platforms → stands_up c.own x.standing.states k ≡ state_after3 c h kind k
    -- the words of services: no number where the block takes what is told, and as they were
    pub kept : BlockTakes c h kind → kept_number c.partners h.platform x.deed (drop 24 c.message) c.services ≡ 0
    pub stay : moves_services c h kind ≡ false → kept_words c.partners h.platform x.deed (drop 24 c.message) c.services ≡ c.services
    pub few : Countable c kind → too_many c.ours x.deed ≡ false

  abbrev pub Reacts3 : Message3 → Type 0
  Reacts3 kind = ReactsBy kind (X3 kind) (owed_for3 c s h kind) (next_after3 c h kind)

  module _ (hn : c.standing.next < 2 ^ 32) (hp : h.platform < platforms) (other : h.platform ≡ c.own → ⊥) where
    on-up3 : (composite : ℕ) → Reacts3 (PlatformStatus Up composite)
    unfolding reaction3 on_status3 coming_up3 kept_number kept_words
    on-up3 composite = go (up_before c h) refl
      where
        go : (b : Bool) → up_before c h ≡ b → Reacts3 (PlatformStatus Up composite)
        go true e = rw e (record {
          owed-is = refl;
          wide = tt;
          next = refl;
          states = λ k l. as_it_was c.own c.standing.states k h.platform true e;
          kept = λ z. refl;
          stay = λ z. refl;
          few = λ z. refl;
        })
        go false e = rw e (record {
          owed-is = refl;
          wide = hn;
          next = refl;
          states = λ k l. now-turned c.own c.standing.states k h.platform false e l hp other;
          kept = λ z. refl;
          stay = λ z. refl;
          few = λ z. refl;
        })

    on-down3 : (composite : ℕ) → Reacts3 (PlatformStatus Down composite)
    unfolding reaction3 on_status3 kept_number kept_words mark_number
    on-down3 composite = go (up_before c h) refl
      where
        go : (b : Bool) → up_before c h ≡ b → Reacts3 (PlatformStatus Down composite)
        go true e = rw e (record {
          owed-is = refl;
          wide = tt;
          next = refl;
          states = λ k l. now-turned c.own c.standing.states k h.platform true e l hp other;
          kept = λ z. yes_le 0 10 _ _ (z e);
          stay = λ z. absurd (true≢false (sym e ∙ z));
          few = λ z. refl;
        })
        go false e = rw e (record {
          owed-is = refl;
          wide = tt;
          next = refl;
          states = λ k l. as_it_was c.own c.standing.states k h.platform false e;
          kept = λ z. refl;
          stay = λ z. refl;
          few = λ z. refl;
        })

    module _ (hq : h.sequence < 2 ^ 32) (hi : h.id < 2 ^ 32) (scan : (id : ℕ) → Finds c.table s index id) where
      on-request3 : Reacts3 PlatformStatusRequest
      unfolding reaction3 commonly reaction_to kept_number kept_words
      on-request3 = record { owed-is = refl; wide = hq; next = refl; states = λ k l. refl; kept = λ z. refl; stay = λ z. refl; few = λ z. refl }

      on-services : (n : ℕ) → Reacts3 (AvailabilityStatus n)
      unfolding reaction3 kept_number kept_words note_number
      on-services n =
          record {
            owed-is = refl;
            wide = tt;
            next = refl;
            states = λ k l. refl;
            kept = λ z. yes_le _ 10 _ _ z.0 ∙ z.1;
            stay = λ z. absurd (true≢false z);
            few = λ z. refl;
          }

      on-services-request : (id : ℕ) → id < 2 ^ 32 → Reacts3 (AvailabilityStatusRequest id)
      unfolding reaction3 on_services_request kept_number kept_words
      on-services-request id l = go (eqb id all_services) refl
        where
          go : (b : Bool) → eqb id all_services ≡ b → Reacts3 (AvailabilityStatusRequest id)
          go true e = rw e (record {
            owed-is = refl;
            wide = hq;
            next = refl;
            states = λ k l. refl;
            kept = λ z. refl;
            stay = λ z. refl;
            few = λ z. lt-leb (2 ^ 29) (length c.ours) (z (ap AvailabilityStatusRequest (eqb-true id all_services e)));
          })
          go false e = rw e (record {
            owed-is = ap (λ (n : ℕ). tells_these h.sequence ((id, n) ∷ []) ∷ []) (its-state id c.ours);
            wide = (hq, l);
            next = refl;
            states = λ k l. refl;
            kept = λ z. refl;
            stay = λ z. refl;
            few = λ z. refl;
          })

      on-unknown3 : (id : ℕ) → Reacts3 (UnknownOperation id)
      unfolding reaction3 commonly reaction_to kept_number kept_words
      on-unknown3 id = record { owed-is = refl; wide = tt; next = refl; states = λ k l. refl; kept = λ z. refl; stay = λ z. refl; few = λ z. refl }

      on-not-available : (id : ℕ) → Reacts3 (ServiceNotAvailable id)
      unfolding reaction3 kept_number kept_words
      on-not-available id = record { owed-is = refl; wide = tt; next = refl; states = λ k l. refl; kept = λ z. refl; stay = λ z. refl; few = λ z. refl }

      on-change : (composite : ℕ) → Reacts3 (CompositeChangeRequest composite)
      unfolding reaction3 kept_number kept_words
      on-change composite = record { owed-is = refl; wide = tt; next = refl; states = λ k l. refl; kept = λ z. refl; stay = λ z. refl; few = λ z. refl }

      on-pull3 : (id : ℕ) → id < 2 ^ 32 → Reacts3 (VersionedDataPull id)
      unfolding reaction3 operation_for3 on_pull3 commonly reaction_to on_pull on_pull_one found_data kept_number kept_words
      on-pull3 id l = go (pulled c.table s index id (scan id))
        where
          of-all : eqb id all_data ≡ true → Reacts3 (VersionedDataPull id)
          of-all e = rw e (record { owed-is = refl; wide = tt; next = refl; states = λ k l. refl; kept = λ z. refl; stay = λ z. refl; few = λ z. refl })

          go : Pull c.table s index id → Reacts3 (VersionedDataPull id)
          go (all_of_none e d) = of-all e
          go (all_of_some e d) = of-all e
          go (one_entry i q e f g true d) = rw (e, g, f, d) (record {
            owed-is = refl;
            wide = tt;
            next = refl;
            states = λ k l. refl;
            kept = λ z. refl;
            stay = λ z. refl;
            few = λ z. refl;
          })
          go (one_entry i q e f g false d) = rw (e, g, f, d) (record {
            owed-is = refl;
            wide = (hq, l);
            next = refl;
            states = λ k l. refl;
            kept = λ z. refl;
            stay = λ z. refl;
            few = λ z. refl;
          })
          go (no_entry e f g) = rw (e, g, f) (record {
            owed-is = refl;
            wide = (hq, l);
            next = refl;
            states = λ k l. refl;
            kept = λ z. refl;
            stay = λ z. refl;
            few = λ z. refl;
          })

      on-operation3 : Reacts3 Operation
      unfolding reaction3 operation_for3 commonly reaction_to on_operation kept_number kept_words
      on-operation3 = go (operation_with c.table s h.id) refl (scan h.id)
        where
          go : (x : Option (ℕ × ℕ)) → operation_with c.table s h.id ≡ x → Finds c.table s index h.id → Reacts3 Operation
          go (Some (i, q)) f g = rw (g, f) (record {
            owed-is = refl;
            wide = tt;
            next = refl;
            states = λ k l. refl;
            kept = λ z. refl;
            stay = λ z. refl;
            few = λ z. refl;
          })
          go None f g = rw (g, f) (record {
            owed-is = refl;
            wide = (hq, hi);
            next = refl;
            states = λ k l. refl;
            kept = λ z. refl;
            stay = λ z. refl;
            few = λ z. refl;
          })

      pub reacts3 : (kind : Message3) → field_of3 kind < 2 ^ 32 → Reacts3 kind
      unfolding reaction3 kept_number kept_words
      reacts3 (PlatformStatus Up composite) l = on-up3 composite
      reacts3 (PlatformStatus Down composite) l = on-down3 composite
      reacts3 PlatformStatusRequest l = on-request3
      reacts3 (AvailabilityStatus n) l = on-services n
      reacts3 (AvailabilityStatusRequest id) l = on-services-request id l
      reacts3 (UnknownOperation id) l = on-unknown3 id
      reacts3 (ServiceNotAvailable id) l = on-not-available id
      reacts3 (VersionedDataPull id) l = on-pull3 id l
      reacts3 (CompositeChangeRequest composite) l = on-change composite
      reacts3 (CompositeChangeRequestAck a) l =
          record { owed-is = refl; wide = tt; next = refl; states = λ k l. refl; kept = λ z. refl; stay = λ z. refl; few = λ z. refl }
      reacts3 Operation l = on-operation3
