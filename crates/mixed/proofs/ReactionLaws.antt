-- What the functions of `reacting` come to at their returns.
-- Assumes nothing.
use Prim.Native.Nat.{ℕ}
use Rattle.std.specs.Prelude.{Option, Some, None}
use mathlib.Core.Path.{◌≡◌, refl, sym, ap, ◌∙◌}
use mathlib.Core.Bool.{Bool, true, false, cond}
use mathlib.Core.List.{List}
use lib.Dec.{eqb}
use Rattle.wire.proofs.Cond.{yes-eq, no_eq}
use Rattle.table.specs.declared.Sections.{Sections}
use Rattle.operations.specs.Entries.{data_kind, kind_at}
use Rattle.operations.specs.Search.{sought_in}
use Rattle.pending.specs.Free.{drawn}
use Rattle.states.specs.States.{stands_up}
use Rattle.message.specs.declared.Status.{Status}
use Rattle.message.specs.declared.Status.TheVariants.{Down, Up}
use Rattle.message.specs.declared.Message.TheVariants as message
use Rattle.message3.specs.declared.Agreement.{Agreement}
use Rattle.message3.specs.declared.Header3.{Header3}
use Rattle.message3.specs.declared.Message3.{Message3}
use Rattle.message3.specs.declared.Message3.TheVariants as message3
use Rattle.platform.specs.declared.reactions.Standing.{Standing}
use Rattle.platform.specs.declared.reactions.Heard.{Heard}
use Rattle.platform.specs.declared.reactions.Heard.TheVariants as heard
use Rattle.platform.specs.Replies.{all_data}
use Rattle.platform.specs.Reaction.{is_data, silent, noted, not_versioned, on_pull_all, on_pull_one, on_pull, on_operation, reaction_to}
use Rattle.mixed.specs.declared.reactions.Heard3.TheVariants as heard3
use Rattle.mixed.specs.declared.reactions.Deed.{Deed}
use Rattle.mixed.specs.declared.reactions.Deed.TheVariants.{StartUp, TellAll, TellOne, Note, MarkAll}
use Rattle.mixed.specs.declared.reactions.Reaction3.{Reaction3}
use Rattle.mixed.specs.Ours.{ours_available}
use Rattle.mixed.specs.Reaction.{all_services, operation_for3, silent3, in_six_words, heard_as, one_heard, pull_heard, operation_heard, commonly}
use Rattle.mixed.specs.Reaction.{on_pull3, coming_up3, on_status3, on_services_request, reaction3}

-- what is looked up
module _ (t : List ℕ) (s : Sections) (index : List ℕ) (h : Header3) where
  pub for-pull : (m : Message3) (id : ℕ) (f : Option (ℕ × ℕ)) → m ≡ message3.VersionedDataPull id → f ≡ sought_in t index s.operations.count id
      → f ≡ operation_for3 t s index h m
  unfolding operation_for3
  for-pull m id f e a = rw e a

  pub for-operation : (m : Message3) (f : Option (ℕ × ℕ)) → m ≡ message3.Operation → f ≡ sought_in t index s.operations.count h.id
      → f ≡ operation_for3 t s index h m
  unfolding operation_for3
  for-operation m f e a = rw e a

  pub for-no-other : (m : Message3) → ((id : ℕ) → m ≡ message3.VersionedDataPull id → ⊥) → (m ≡ message3.Operation → ⊥)
      → None ≡ operation_for3 t s index h m
  unfolding operation_for3
  for-no-other (message3.PlatformStatus x c) k o = refl
  for-no-other message3.PlatformStatusRequest k o = refl
  for-no-other (message3.AvailabilityStatus n) k o = refl
  for-no-other (message3.AvailabilityStatusRequest id) k o = refl
  for-no-other (message3.UnknownOperation id) k o = refl
  for-no-other (message3.ServiceNotAvailable id) k o = refl
  for-no-other (message3.VersionedDataPull id) k o = absurd (k id refl)
  for-no-other (message3.CompositeChangeRequest c) k o = refl
  for-no-other (message3.CompositeChangeRequestAck a) k o = refl
  for-no-other message3.Operation k o = absurd (o refl)

-- a status
pub came_up_is : (p q : Standing) (sender c a b d : ℕ) → a ≡ drawn p.next → b ≡ drawn a → d ≡ drawn b → q ≡ noted p sender d
    → ◌≡◌ {A = Reaction3} (record { standing = q; heard = heard3.Status Up c; deed = StartUp p.next }) (coming_up3 p sender c)
unfolding coming_up3
came_up_is p q sender c a b d ea eb ed e =
    ap (λ (x : Standing). record { standing = x; heard = heard3.Status Up c; deed = StartUp p.next })
    (e ∙ ap (noted p sender) (ed ∙ ap drawn (eb ∙ ap drawn ea)))

module _ (own : ℕ) (p : Standing) (sender : ℕ) (x : Status) (c : ℕ) (u : Bool) (e : u ≡ stands_up own p.states sender) where
  pub still-up : (r : Reaction3) → x ≡ Up → u ≡ true → r ≡ silent3 p (heard3.Status Up c) → r ≡ on_status3 own p sender x c
  unfolding on_status3
  still-up r k t d = rw (k, ← e, t) d

  pub down-to-up : (r : Reaction3) → x ≡ Up → u ≡ false → r ≡ coming_up3 p sender c → r ≡ on_status3 own p sender x c
  unfolding on_status3
  down-to-up r k t d = rw (k, ← e, t) d

  pub up-to-down : (q : Standing) → x ≡ Down → u ≡ true → q ≡ noted p sender p.next
      → ◌≡◌ {A = Reaction3} (record { standing = q; heard = heard3.Status Down c; deed = MarkAll }) (on_status3 own p sender x c)
  unfolding on_status3
  up-to-down q k t n =
      rw (k, ← e, t) (ap (λ (z : Standing). record { standing = z; heard = heard3.Status Down c; deed = MarkAll }) n)

  pub still_down : (r : Reaction3) → x ≡ Down → u ≡ false → r ≡ silent3 p (heard3.Status Down c) → r ≡ on_status3 own p sender x c
  unfolding on_status3
  still_down r k t d = rw (k, ← e, t) d

-- our services
module _ (ours : List ℕ) (p : Standing) (n id : ℕ) where
  abbrev telling : Deed → Reaction3
  telling d = record { standing = p; heard = heard3.ServicesRequest id; deed = d }

  pub tells_all : id ≡ all_services → telling (TellAll n) ≡ on_services_request ours p n id
  unfolding on_services_request
  tells_all e = ap telling (sym (yes-eq {A = Deed} (TellAll n) (TellOne n id (ours_available ours id)) id all_services e))

  pub tells-one : (b : Bool) → (id ≡ all_services → ⊥) → b ≡ ours_available ours id → telling (TellOne n id b) ≡ on_services_request ours p n id
  unfolding on_services_request
  tells-one b e d =
      ap telling (ap (TellOne n id) d ∙ sym (no_eq {A = Deed} (TellAll n) (TellOne n id (ours_available ours id)) id all_services e))

-- `pull_heard`, `one_heard`, `operation_heard`
module _ (t : List ℕ) (f : Option (ℕ × ℕ)) (id : ℕ) where
  module _ (i q k : ℕ) (e : f ≡ Some (i, q)) (ek : k ≡ kind_at t q) where
    pub is-pulled : k ≡ data_kind → heard.PullOfOne id i ≡ one_heard t f id
    unfolding is_data
    is-pulled z =
        sym (ap (λ (x : Option (ℕ × ℕ)). one_heard t x id) e
        ∙ yes-eq {A = Heard} (heard.PullOfOne id i) (heard.NotVersionedData id) (kind_at t q) data_kind (sym ek ∙ z))

    pub no-pull : (k ≡ data_kind → ⊥) → heard.NotVersionedData id ≡ one_heard t f id
    unfolding is_data
    no-pull z =
        sym (ap (λ (x : Option (ℕ × ℕ)). one_heard t x id) e
        ∙ no_eq {A = Heard} (heard.PullOfOne id i) (heard.NotVersionedData id) (kind_at t q) data_kind (λ (y : kind_at t q ≡ data_kind). z (ek ∙ y)))

-- and that this is what Issue 6's words say
module _ (own : ℕ) (t : List ℕ) (s : Sections) (f : Option (ℕ × ℕ)) (p : Standing) (h : Header3) (start len : ℕ) where
  pulled_one : (g : Option (ℕ × ℕ)) (id n : ℕ) → one_heard t g id ≡ (on_pull_one t g p n id).heard
  unfolding on_pull_one
  pulled_one (Some (i, q)) id n = go (is_data t q)
    where
      go : (b : Bool) → cond b (heard.PullOfOne id i) (heard.NotVersionedData id)
          ≡ (cond b (silent p (heard.PullOfOne id i)) (not_versioned p n id)).heard
      go true = refl
      go false = refl
  pulled_one None id n = refl

  pub pulls : (id : ℕ) → heard_as p h.sequence (pull_heard t f id) ≡ on_pull3 own t s f p h id start len
  unfolding on_pull3 commonly reaction_to on_pull
  pulls id = go (eqb id all_data)
    where
      go : (b : Bool) → heard_as p h.sequence (cond b heard.PullOfAll (one_heard t f id))
          ≡ cond b (silent3 p (heard3.Common heard.PullOfAll))
          (heard_as p h.sequence (cond b (on_pull_all t s p h.sequence) (on_pull_one t f p h.sequence id)).heard)
      go true = refl
      go false = ap (heard_as p h.sequence) (pulled_one f id h.sequence)

  pub operates : heard_as p h.sequence (operation_heard f h.id start len) ≡ commonly own t s f p h message.Operation start len
  unfolding commonly reaction_to on_operation
  operates = go f
    where
      go : (g : Option (ℕ × ℕ)) → heard_as p h.sequence (operation_heard g h.id start len)
          ≡ heard_as p h.sequence (on_operation g p (in_six_words h) start len).heard
      go (Some (i, q)) = refl
      go None = refl

-- each message
module _ (own : ℕ) (ours t : List ℕ) (s : Sections) (f : Option (ℕ × ℕ)) (p : Standing) (h : Header3) (m : Message3) (start len : ℕ) where
  abbrev whole : Reaction3
  whole = reaction3 own ours t s f p h m start len

  module _ (r : Reaction3) where
    pub to-status : (x : Status) (c : ℕ) → m ≡ message3.PlatformStatus x c → r ≡ on_status3 own p h.platform x c → r ≡ whole
    unfolding reaction3
    to-status x c k d = rw k d

    pub to-request : m ≡ message3.PlatformStatusRequest → r ≡ heard_as p h.sequence heard.Request → r ≡ whole
    unfolding reaction3 commonly reaction_to
    to-request k d = rw k d

    pub to-services-request : (id : ℕ) → m ≡ message3.AvailabilityStatusRequest id → r ≡ on_services_request ours p h.sequence id → r ≡ whole
    unfolding reaction3
    to-services-request id k d = rw k d

    pub to-unknown : (id : ℕ) → m ≡ message3.UnknownOperation id → r ≡ heard_as p h.sequence (heard.UnknownOperation id) → r ≡ whole
    unfolding reaction3 commonly reaction_to
    to-unknown id k d = rw k d

    pub to-not-available : (id : ℕ) → m ≡ message3.ServiceNotAvailable id → r ≡ silent3 p (heard3.ServiceNotAvailable id) → r ≡ whole
    unfolding reaction3
    to-not-available id k d = rw k d

    pub to-pull : (id : ℕ) (x : Heard) → m ≡ message3.VersionedDataPull id → x ≡ pull_heard t f id → r ≡ heard_as p h.sequence x → r ≡ whole
    unfolding reaction3
    to-pull id x k e d = rw k (d ∙ ap (heard_as p h.sequence) e ∙ pulls own t s f p h start len id)

    pub to-change : (c : ℕ) → m ≡ message3.CompositeChangeRequest c → r ≡ silent3 p (heard3.CompositeChange c) → r ≡ whole
    unfolding reaction3
    to-change c k d = rw k d

    pub to-ack : (a : Agreement) → m ≡ message3.CompositeChangeRequestAck a → r ≡ silent3 p (heard3.CompositeAnswer a) → r ≡ whole
    unfolding reaction3
    to-ack a k d = rw k d

    pub to-operation : (x : Heard) → m ≡ message3.Operation → x ≡ operation_heard f h.id start len → r ≡ heard_as p h.sequence x → r ≡ whole
    unfolding reaction3
    to-operation x k e d = rw k (d ∙ ap (heard_as p h.sequence) e ∙ operates own t s f p h start len)

  pub to-services : (n : ℕ) → m ≡ message3.AvailabilityStatus n → ◌≡◌ {A = Reaction3} (record { standing = p; heard = heard3.Services n; deed = Note }) whole
  unfolding reaction3
  to-services n k = rw k refl
