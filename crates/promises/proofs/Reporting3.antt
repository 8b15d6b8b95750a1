-- What is reported of a message of Issue 3 of each kind.
-- Assumes nothing.
use Prim.Native.Nat.{ℕ, ◌-◌, ◌≤◌}
use Rattle.std.specs.Prelude.{Ok}
use Rattle.std.specs.Prelude.{Option, Some, None}
use mathlib.Core.Path.{◌≡◌, refl, sym, ap, ap₂, subst, ◌∙◌}
use mathlib.Core.Bool.{Bool, true, false, cond}
use mathlib.Core.List.{List}
use native.Mathlib.Omega.{arith}
use borrow.Author.Tests.{eqb-true, eqb-false}
use lib.Dec.{eqb}
use lib.ListN.{length, drop, length-drop}
use lib.Seq.{take_all}
use Rattle.wire.specs.Bytes.{part}
use Rattle.wire.proofs.Runs.{part_in}
use Rattle.table.specs.declared.Sections.{Sections}
use Rattle.types.specs.Table.{checked}
use Rattle.message.specs.declared.Status.TheVariants.{Down, Up}
use Rattle.message.specs.declared.Message.TheVariants as message
use Rattle.message3.specs.declared.Header3.{Header3}
use Rattle.message3.specs.declared.Message3.{Message3}
use Rattle.message3.specs.declared.Message3.TheVariants.{PlatformStatus, PlatformStatusRequest, AvailabilityStatus, AvailabilityStatusRequest}
use Rattle.message3.specs.declared.Message3.TheVariants.{UnknownOperation, ServiceNotAvailable, VersionedDataPull, CompositeChangeRequest}
use Rattle.message3.specs.declared.Message3.TheVariants.{CompositeChangeRequestAck, Operation}
use Rattle.platform.specs.declared.reactions.Heard.{Heard}
use Rattle.platform.specs.declared.reactions.Heard.TheVariants as heard
use Rattle.platform.specs.Replies.{all_data}
use Rattle.platform.specs.Reaction.{operation_for, on_operation, reaction_to}
use Rattle.platform.specs.Receiving.{index_of}
use Rattle.mixed.specs.declared.reactions.Heard3.{Heard3}
use Rattle.mixed.specs.declared.reactions.Heard3.TheVariants as heard3
use Rattle.mixed.specs.Reaction.{operation_for3, silent3, in_six_words, commonly, on_pull3, coming_up3, went_down, on_status3}
use Rattle.mixed.specs.Reaction.{on_services_request, reaction3}
use Rattle.promises.specs.Platforms.{operation_with}
use Rattle.promises.specs.Reports.{Pulled, all, none_of_all, one, not_versioned}
use Rattle.promises.specs.Reports3 as three
use Rattle.promises.specs.Reports3.{Pulled3, Operated3, Reports3}
use Rattle.promises.specs.Owed3.{MixedCall, up_before}
use Rattle.promises.proofs.ByID.{looked, bears, bears-not}
use Rattle.promises.proofs.Reacting.{Finds, X}
use Rattle.promises.proofs.Reacting3.{X3}
use Rattle.promises.proofs.Reporting.{reports}

-- the payload part of a message is all of it behind its header
pub payload_part3 : (m : List ℕ) → 24 ≤ length m → part m 24 (length m - 24) ≡ drop 24 m
payload_part3 m long = part_in m 24 (length m - 24) (omega arith) ∙ take_all (length m - 24) (drop 24 m) (omega (arith, length-drop 24 m))

-- a pull of one, in Issue 6's words
pulled_one : (t : List ℕ) (s : Sections) (id : ℕ) (x : Heard) → ¬ (id ≡ 0xFFFFFFFF) → Pulled t s id x → Pulled3 t s id (heard3.Common x)
pulled_one t s id x n (all e i l v q) = absurd (n e)
pulled_one t s id x n (none_of_all e none q) = absurd (n e)
pulled_one t s id x n (one d i k v q) = three.one d i k v (ap heard3.Common q)
pulled_one t s id x n (not_versioned d none q) = three.not_versioned d none (ap heard3.Common q)

-- a status is heard as what it says
module _ (c : MixedCall) (s : Sections) (index : List ℕ) (h : Header3) (start len : ℕ) where
  pub up-heard : (composite : ℕ) → (X3 c s index h start len (PlatformStatus Up composite)).heard ≡ heard3.Status Up composite
  unfolding reaction3 on_status3 coming_up3
  up-heard composite = go (up_before c h)
    where
      go : (b : Bool) → (cond b (silent3 c.standing (heard3.Status Up composite)) (coming_up3 c.standing h.platform composite)).heard
          ≡ heard3.Status Up composite
      go true = refl
      go false = refl

  pub down-heard : (composite : ℕ) → (X3 c s index h start len (PlatformStatus Down composite)).heard ≡ heard3.Status Down composite
  unfolding reaction3 on_status3
  down-heard composite = go (up_before c h)
    where
      go : (b : Bool) → (cond b (went_down c.standing h.platform composite) (silent3 c.standing (heard3.Status Down composite))).heard
          ≡ heard3.Status Down composite
      go true = refl
      go false = refl

module _ (c : MixedCall) (s : Sections) (accepted : checked c.table ≡ Ok s) (h : Header3) (start len : ℕ) (long : 24 ≤ length c.message)
    (at : start ≡ 24) (rest : len ≡ length c.message - 24) where
  abbrev its : Message3 → Heard3
  its kind = (X3 c s (index_of c.table s) h start len kind).heard

  of-pull : (id : ℕ) → Pulled3 c.table s id (its (VersionedDataPull id))
  unfolding reaction3 operation_for3 operation_for on_pull3 commonly reaction_to
  of-pull id = go (eqb id all_data) refl
    where
      six : Pulled c.table s id (X c.own c.table s (index_of c.table s) c.standing (in_six_words h) 20 (length c.message - 20)
          (message.VersionedDataPull id)).heard
      six =
          reports c.table s accepted c.own c.standing (in_six_words h) 20 (length c.message - 20) c.message (omega arith) refl refl
          (message.VersionedDataPull id)

      one_of : Bool → Heard3
      one_of b =
          (cond b (silent3 c.standing (heard3.Common heard.PullOfAll))
          (commonly c.own c.table s (operation_for3 c.table s (index_of c.table s) h (VersionedDataPull id)) c.standing h
          (message.VersionedDataPull id) start len)).heard

      go : (b : Bool) → eqb id all_data ≡ b → Pulled3 c.table s id (one_of (eqb id all_data))
      go true e = three.all (eqb-true id all_data e) (ap one_of e)
      go false e =
          subst (λ (b : Bool). Pulled3 c.table s id (one_of b)) (sym e) (pulled_one c.table s id _ (eqb-false id all_data e) six)

  of_operation : Operated3 c.table s h.id c.message (its Operation)
  unfolding reaction3 operation_for3 commonly reaction_to on_operation
  of_operation = go (operation_with c.table s h.id) refl (looked c.table s accepted h.id)
    where
      go : (x : Option (ℕ × ℕ)) → operation_with c.table s h.id ≡ x → Finds c.table s (index_of c.table s) h.id
          → Operated3 c.table s h.id c.message (its Operation)
      go (Some (i, q)) f g =
          let e : its Operation ≡ heard3.Common (heard.Operation i 24 (length c.message - 24)) =
          rw (g, f) (ap₂ (λ (x y : ℕ). heard3.Common (heard.Operation i x y)) at rest) in
          three.in_table i (bears c.table s accepted h.id i q f).0 e (payload_part3 c.message long)
      go None f g = three.not_in_table (bears-not c.table s accepted h.id f) (rw (g, f))

  pub reports3 : (kind : Message3) → Reports3 c.table s h c.message kind (its kind)
  unfolding reaction3 commonly reaction_to on_services_request
  reports3 (PlatformStatus Up composite) = up-heard c s (index_of c.table s) h start len composite
  reports3 (PlatformStatus Down composite) = down-heard c s (index_of c.table s) h start len composite
  reports3 PlatformStatusRequest = refl
  reports3 (AvailabilityStatus n) = refl
  reports3 (AvailabilityStatusRequest id) = refl
  reports3 (UnknownOperation id) = refl
  reports3 (ServiceNotAvailable id) = refl
  reports3 (VersionedDataPull id) = of-pull id
  reports3 (CompositeChangeRequest composite) = refl
  reports3 (CompositeChangeRequestAck a) = refl
  reports3 Operation = of_operation
