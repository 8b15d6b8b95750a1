-- What the functions of `reacting` come to at their returns.
-- Assumes nothing.
use Prim.Native.Nat.{ℕ, ◌≤◌, ◌<◌}
use Rattle.std.specs.Prelude.{Option, Some, None}
use mathlib.Core.Path.{◌≡◌, refl, sym, ap, ap₂, ◌∙◌}
use mathlib.Core.Bool.{Bool, true, false}
use mathlib.Core.List.{List}
use lib.Dec.{eqb}
use Rattle.table.specs.declared.Sections.{Sections}
use Rattle.operations.specs.Entries.{kind_at}
use Rattle.operations.specs.Search.{sought_in}
use Rattle.pending.specs.Free.{drawn}
use Rattle.message.specs.declared.Header.{Header}
use Rattle.message.specs.declared.Status.{Status}
use Rattle.message.specs.declared.Status.TheVariants.{Down, Up}
use Rattle.message.specs.declared.Message.{Message}
use Rattle.message.specs.declared.Message.TheVariants as message
use Rattle.message.specs.Refusal.{platforms}
use Rattle.message.specs.declared.Reading.{Reading}
use Rattle.message.specs.declared.Reading.TheVariants as reading
use Rattle.wire.proofs.Cond.{yes_lt, no_lt, yes-eq, no_eq}
use Rattle.platform.specs.declared.reactions.Standing.{Standing}
use Rattle.platform.specs.declared.reactions.Heard.TheVariants as heard
use Rattle.platform.specs.declared.reactions.Reply.TheVariants.{StatusUp, PullAll, Unknown}
use Rattle.platform.specs.declared.reactions.Owed.TheVariants as owed
use Rattle.platform.specs.declared.reactions.Reaction.{Reaction}
use Rattle.states.specs.States.{stands_up}
use Rattle.platform.specs.Replies.{all_data}
use Rattle.platform.specs.Reaction.{operation_for, operation_in, is_data, some_data, silent, replied, noted, coming_up}
use Rattle.platform.specs.Reaction.{on_state, on_status, not_versioned, on_pull_all, on_pull_one, on_pull, on_operation, reaction_to}

-- what is looked up
module _ (t : List ℕ) (s : Sections) (index : List ℕ) (h : Header) (m : Message) where
  pub none-for-other : ((id : ℕ) → m ≡ message.VersionedDataPull id → ⊥) → (m ≡ message.Operation → ⊥) → None ≡ operation_for t s index h m
  unfolding operation_for
  none-for-other k o = go m k o
    where
      go : (m : Message) → ((id : ℕ) → m ≡ message.VersionedDataPull id → ⊥) → (m ≡ message.Operation → ⊥) → None ≡ operation_for t s index h m
      go (message.PlatformStatus x) k o = refl
      go message.PlatformStatusRequest k o = refl
      go (message.UnknownOperation id) k o = refl
      go (message.VersionedDataPull id) k o = absurd (k id refl)
      go message.Operation k o = absurd (o refl)

  pub for-pull : (id : ℕ) (f : Option (ℕ × ℕ)) → m ≡ message.VersionedDataPull id → f ≡ sought_in t index s.operations.count id
      → f ≡ operation_for t s index h m
  unfolding operation_for
  for-pull id f e a = rw e a

  pub for-operation : (f : Option (ℕ × ℕ)) → m ≡ message.Operation → f ≡ sought_in t index s.operations.count h.id
      → f ≡ operation_for t s index h m
  unfolding operation_for
  for-operation f e a = rw e a

module _ (t : List ℕ) (s : Sections) (index : List ℕ) (x : Reading) where
  pub none-looked : (n : ℕ) → x ≡ reading.Refused n → None ≡ operation_in t s index x
  unfolding operation_in
  none-looked n e = rw e refl

  pub is-looked : (h : Header) (m : Message) (start len : ℕ) (f : Option (ℕ × ℕ)) → x ≡ reading.Read h m start len → f ≡ operation_for t s index h m
      → f ≡ operation_in t s index x
  unfolding operation_in
  is-looked h m start len f e a = rw e a

-- versioned data
pub is-data : (t : List ℕ) (p k : ℕ) → k ≡ kind_at t p → eqb k 1 ≡ is_data t p
unfolding is_data
is-data t p k e = ap (λ (n : ℕ). eqb n 1) e

pub came_up_is : (p q : Standing) (sender b d : ℕ) → b ≡ drawn p.next → d ≡ drawn b → q ≡ noted p sender d
    → ◌≡◌ {A = Reaction} (record { standing = q; heard = heard.Status Up; owed = owed.Two (StatusUp p.next) (PullAll b) }) (coming_up p sender)
unfolding coming_up
came_up_is p q sender b d e f g =
    let k : q ≡ noted p sender (drawn (drawn p.next)) = g ∙ ap (noted p sender) (f ∙ ap drawn e) in
    ap₂ (λ (x : Standing) (y : ℕ). record { standing = x; heard = heard.Status Up; owed = owed.Two (StatusUp p.next) (PullAll y) }) k e

module _ (own : ℕ) (p : Standing) (sender : ℕ) (x : Status) (u : Bool) (e : u ≡ stands_up own p.states sender) (r : Reaction) where
  pub still-up : x ≡ Up → u ≡ true → r ≡ silent p (heard.Status Up) → r ≡ on_state own p sender x
  unfolding on_state
  still-up k t d = rw (k, ← e, t) d

  pub down-to-up : x ≡ Up → u ≡ false → r ≡ coming_up p sender → r ≡ on_state own p sender x
  unfolding on_state
  down-to-up k t d = rw (k, ← e, t) d

  pub up-to-down : (q : Standing) → x ≡ Down → u ≡ true → q ≡ noted p sender p.next → r ≡ silent q (heard.Status Down) → r ≡ on_state own p sender x
  unfolding on_state
  up-to-down q k t n d = rw (k, ← e, t) (d ∙ ap (λ (z : Standing). silent z (heard.Status Down)) n)

  pub still_down : x ≡ Down → u ≡ false → r ≡ silent p (heard.Status Down) → r ≡ on_state own p sender x
  unfolding on_state
  still_down k t d = rw (k, ← e, t) d

module _ (own : ℕ) (p : Standing) (sender : ℕ) (x : Status) (r : Reaction) where
  pub with-state : sender < platforms → r ≡ on_state own p sender x → r ≡ on_status own p sender x
  unfolding on_status
  with-state l d = d ∙ sym (yes_lt {A = Reaction} (on_state own p sender x) (silent p (heard.Status x)) sender platforms l)

  pub without-state : platforms ≤ sender → r ≡ silent p (heard.Status x) → r ≡ on_status own p sender x
  unfolding on_status
  without-state l d = d ∙ sym (no_lt {A = Reaction} (on_state own p sender x) (silent p (heard.Status x)) sender platforms l)

-- a pull
module _ (t : List ℕ) (s : Sections) (p : Standing) (n : ℕ) (r : Reaction) where
  module _ (b : Bool) (e : b ≡ some_data t s) where
    pub all_of_none : b ≡ false → r ≡ not_versioned p n all_data → r ≡ on_pull_all t s p n
    unfolding on_pull_all
    all_of_none f d = rw (← e, f) d

    pub all_of_some : b ≡ true → r ≡ silent p heard.PullOfAll → r ≡ on_pull_all t s p n
    unfolding on_pull_all
    all_of_some f d = rw (← e, f) d

  module _ (f : Option (ℕ × ℕ)) (id : ℕ) where
    module _ (i q : ℕ) (k : f ≡ Some (i, q)) (b : Bool) (e : b ≡ is_data t q) where
      pub one-data : b ≡ true → r ≡ silent p (heard.PullOfOne id i) → r ≡ on_pull_one t f p n id
      unfolding on_pull_one
      one-data z d = rw (k, ← e, z) d

      pub one-event : b ≡ false → r ≡ not_versioned p n id → r ≡ on_pull_one t f p n id
      unfolding on_pull_one
      one-event z d = rw (k, ← e, z) d

    pub one_missing : f ≡ None → r ≡ not_versioned p n id → r ≡ on_pull_one t f p n id
    unfolding on_pull_one
    one_missing k d = rw k d

    pub pulls-all : id ≡ all_data → r ≡ on_pull_all t s p n → r ≡ on_pull t s f p n id
    unfolding on_pull
    pulls-all h d = d ∙ sym (yes-eq {A = Reaction} (on_pull_all t s p n) (on_pull_one t f p n id) id all_data h)

    pub pulls-one : (id ≡ all_data → ⊥) → r ≡ on_pull_one t f p n id → r ≡ on_pull t s f p n id
    unfolding on_pull
    pulls-one h d = d ∙ sym (no_eq {A = Reaction} (on_pull_all t s p n) (on_pull_one t f p n id) id all_data h)

-- an operation
module _ (f : Option (ℕ × ℕ)) (p : Standing) (h : Header) (start len : ℕ) (r : Reaction) where
  pub operation-in : (i q : ℕ) → f ≡ Some (i, q) → r ≡ silent p (heard.Operation i start len) → r ≡ on_operation f p h start len
  unfolding on_operation
  operation-in i q k d = rw k d

  pub operation-not-in : f ≡ None → r ≡ replied p (heard.NotInTable h.id) (Unknown h.sequence h.id) → r ≡ on_operation f p h start len
  unfolding on_operation
  operation-not-in k d = rw k d

-- each message
module _ (own : ℕ) (t : List ℕ) (s : Sections) (f : Option (ℕ × ℕ)) (p : Standing) (h : Header) (m : Message) (start len : ℕ) (r : Reaction) where
  pub to-status : (x : Status) → m ≡ message.PlatformStatus x → r ≡ on_status own p h.platform x → r ≡ reaction_to own t s f p h m start len
  unfolding reaction_to
  to-status x k d = rw k d

  pub to-request : m ≡ message.PlatformStatusRequest → r ≡ replied p heard.Request (StatusUp h.sequence) → r ≡ reaction_to own t s f p h m start len
  unfolding reaction_to
  to-request k d = rw k d

  pub to-unknown : (id : ℕ) → m ≡ message.UnknownOperation id → r ≡ silent p (heard.UnknownOperation id) → r ≡ reaction_to own t s f p h m start len
  unfolding reaction_to
  to-unknown id k d = rw k d

  pub to-pull : (id : ℕ) → m ≡ message.VersionedDataPull id → r ≡ on_pull t s f p h.sequence id → r ≡ reaction_to own t s f p h m start len
  unfolding reaction_to
  to-pull id k d = rw k d

  pub to-operation : m ≡ message.Operation → r ≡ on_operation f p h start len → r ≡ reaction_to own t s f p h m start len
  unfolding reaction_to
  to-operation k d = rw k d
