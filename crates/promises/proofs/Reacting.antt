-- What a message comes to at a platform: the replies that are owed for it, the next own number and the states after it.
-- Assumes nothing.
use Prim.Native.Nat.{ℕ, ◌+◌, ◌*◌, ◌^◌, ◌≤◌, ◌<◌}
use Rattle.std.specs.Prelude.{Option, Some, None}
use mathlib.Core.Path.{◌≡◌, refl, sym, ap, ◌∙◌}
use mathlib.Core.Bool.{Bool, true, false, not, cond, ◌||◌}
use mathlib.Core.List.{List, [], ◌∷◌, map}
use native.Mathlib.Nat.{mod-lt}
use native.Mathlib.Omega.{arith}
use borrow.Author.Tests.{ne_eqb, le-leb, lt-leb, eqb-true, eqb-false, ltb-true, ltb-false}
use lib.Dec.{eqb, leb, ltb}
use lib.Pow.{pow_pos}
use lib.ListN.{length}
use Rattle.table.specs.declared.Sections.{Sections}
use Rattle.operations.specs.Search.{sought_in}
use Rattle.message.specs.declared.Header.{Header}
use Rattle.message.specs.declared.Status.{Status}
use Rattle.message.specs.declared.Status.TheVariants.{Down, Up}
use Rattle.message.specs.declared.Message.{Message}
use Rattle.message.specs.declared.Message.TheVariants as message
use Rattle.message.specs.Platform.{message_of}
use Rattle.message.specs.Refusal.{platforms}
use Rattle.states.specs.declared.States.{States}
use Rattle.platform.specs.declared.reactions.Standing.{Standing}
use Rattle.states.specs.States.{stands_up, turned}
use Rattle.platform.specs.Replies.{all_data, reply_number, meant, Wide, replies, Each, owed_length}
use Rattle.platform.specs.Reaction.{operation_for, is_data, found_data, some_data, silent, noted, coming_up, on_state, on_status}
use Rattle.platform.specs.Reaction.{on_pull_all, on_pull_one, on_pull, on_operation, reaction_to}
use Rattle.platform.specs.declared.reactions.Heard.TheVariants as heard
use Rattle.platform.specs.declared.reactions.Reply.{Reply}
use Rattle.platform.specs.declared.reactions.Reaction.{Reaction}
use Rattle.states.proofs.Ups.{noted-there, noted-elsewhere}
use Rattle.promises.specs.Platforms.{OwedReply, operation_with, no_news, owed_for, state_after, next_after, reply_length}

abbrev pub said : Reply → OwedReply
said r = record { number = reply_number r; means = meant r }

either_way : {a : Bool} (b : Bool) → a ≡ true → (b || a) ≡ true
either_way true e = refl
either_way false e = e

-- the index finds the operation of this ID
abbrev pub Finds : List ℕ → Sections → List ℕ → ℕ → Type 0
Finds t s index id = sought_in t index s.operations.count id ≡ operation_with t s id

-- what a pull can ask for, where the look-up finds the operation of each ID: all versioned data, of which there is none or some; an
-- entry, which is versioned data or not; an ID that no entry bears
pub data Pull (t : List ℕ) (s : Sections) (index : List ℕ) (id : ℕ) : Type 0 where
  all_of_none : eqb id all_data ≡ true → some_data t s ≡ false → Pull t s index id
  all_of_some : eqb id all_data ≡ true → some_data t s ≡ true → Pull t s index id
  one_entry : (i q : ℕ) → eqb id all_data ≡ false → operation_with t s id ≡ Some (i, q) → Finds t s index id → (b : Bool) → is_data t q ≡ b → Pull t s index id
  no_entry : eqb id all_data ≡ false → operation_with t s id ≡ None → Finds t s index id → Pull t s index id

pub pulled : (t : List ℕ) (s : Sections) (index : List ℕ) (id : ℕ) → Finds t s index id → Pull t s index id
pulled t s index id g = go (eqb id all_data) refl (some_data t s) refl (operation_with t s id) refl
  where
    go : (a : Bool) → eqb id all_data ≡ a → (b : Bool) → some_data t s ≡ b → (x : Option (ℕ × ℕ)) → operation_with t s id ≡ x → Pull t s index id
    go true e true d x f = all_of_some e d
    go true e false d x f = all_of_none e d
    go false e b d (Some (i, q)) f = one_entry i q e f g (is_data t q) refl
    go false e b d None f = no_entry e f g

-- a state that is as it was said already, and one that is turned
module _ (own : ℕ) (s : States) (k who : ℕ) where
  pub as_it_was : (b : Bool) → stands_up own s who ≡ b → stands_up own s k ≡ cond (eqb k who) b (stands_up own s k)
  as_it_was b e = go (eqb k who) refl
    where
      go : (c : Bool) → eqb k who ≡ c → stands_up own s k ≡ cond c b (stands_up own s k)
      go true q = ap (stands_up own s) (eqb-true k who q) ∙ e
      go false q = refl

  pub now-turned : (b : Bool) → stands_up own s who ≡ b → k < platforms → who < platforms → (who ≡ own → ⊥) → stands_up own (turned s who) k
      ≡ cond (eqb k who) (not b) (stands_up own s k)
  now-turned b e hk hw other = go (eqb k who) refl
    where
      go : (c : Bool) → eqb k who ≡ c → stands_up own (turned s who) k ≡ cond c (not b) (stands_up own s k)
      go true q = ap (stands_up own (turned s who)) (eqb-true k who q) ∙ noted-there own s who hw other ∙ ap not e
      go false q = noted-elsewhere own s who hw k hk (eqb-false k who q)

  none_there : (b : Bool) → k < platforms → platforms ≤ who → stands_up own s k ≡ cond (eqb k who) b (stands_up own s k)
  none_there b hk hw = let n : k ≡ who → ⊥ = λ e. omega arith in rw (ne_eqb k who n) refl

-- the 32-bit field of a message's payload, if it has one
abbrev pub field_of : Message → ℕ
field_of (message.PlatformStatus x) = 0
field_of message.PlatformStatusRequest = 0
field_of (message.UnknownOperation id) = id
field_of (message.VersionedDataPull id) = id
field_of message.Operation = 0

-- what is known of the message, and what is wanted of the reaction to it
module _ (own : ℕ) (t : List ℕ) (s : Sections) (index : List ℕ) (p : Standing) (h : Header) (start len : ℕ) where
  abbrev pub X : Message → Reaction
  X kind = reaction_to own t s (operation_for t s index h kind) p h kind start len

  -- a status is heard as what it says, whoever sends it
  pub status-heard : (x : Status) → (X (message.PlatformStatus x)).heard ≡ heard.Status x
  unfolding reaction_to on_status on_state coming_up
  status-heard Up = go (ltb h.platform platforms) (stands_up own p.states h.platform)
    where
      go : (a b : Bool) → (cond a (cond b (silent p (heard.Status Up)) (coming_up p h.platform)) (silent p (heard.Status Up))).heard ≡ heard.Status Up
      go true true = refl
      go true false = refl
      go false b = refl
  status-heard Down = go (ltb h.platform platforms) (stands_up own p.states h.platform)
    where
      go : (a b : Bool) → (cond a (cond b (silent (noted p h.platform p.next) (heard.Status Down)) (silent p (heard.Status Down)))
          (silent p (heard.Status Down))).heard ≡ heard.Status Down
      go true true = refl
      go true false = refl
      go false b = refl

  -- a reaction, and the replies and the next own number that are wanted: arguments, so that what was tested is rewritten in all of them once
  pub record ReactsBy (kind : Message) (x : Reaction) (owed : List OwedReply) (n : ℕ) : Type 0 where
    pub owed-is : map said (replies x.owed) ≡ owed
    pub long : owed_length x.owed ≡ reply_length * length (replies x.owed)
    pub wide : Each (λ r. Wide r) (replies x.owed)
    pub next : x.standing.next ≡ n
    pub states : (k : ℕ) → k < platforms → stands_up own x.standing.states k ≡ state_after own p h kind k

  abbrev pub Reacts : Message → Type 0
  Reacts kind = ReactsBy kind (X kind) (owed_for own t s p h kind) (next_after own p h kind)

  module _ (hn : p.next < 2 ^ 32) (other : h.platform ≡ own → ⊥) where
    on-up : Reacts (message.PlatformStatus Up)
    unfolding reaction_to on_status on_state coming_up
    on-up = go (ltb h.platform platforms) (stands_up own p.states h.platform) refl refl
      where
        go : (a b : Bool) → ltb h.platform platforms ≡ a → stands_up own p.states h.platform ≡ b → Reacts (message.PlatformStatus Up)
        go true true c e = rw (c, e) (record {
          owed-is = refl;
          long = refl;
          wide = tt;
          next = refl;
          states = λ k l. as_it_was own p.states k h.platform true e;
        })
        go true false c e =
            let hs : h.platform < platforms = ltb-true h.platform platforms c in
            let d : leb platforms h.platform ≡ false = lt-leb platforms h.platform hs in
            rw (c, e, d) (record {
              owed-is = refl;
              long = refl;
              wide = (record { number = hn; field = omega arith }, (record { number = mod-lt (p.next + 1) (pow_pos 32); field = omega arith }, tt));
              next = refl;
              states = λ k l. now-turned own p.states k h.platform false e l hs other;
            })
        go false b c e =
            let hs : platforms ≤ h.platform = ltb-false h.platform platforms c in
            let d : no_news own p h ≡ true = either_way (stands_up own p.states h.platform) (le-leb platforms h.platform hs) in
            rw (c, d) (record { owed-is = refl; long = refl; wide = tt; next = refl; states = λ k l. none_there own p.states k h.platform true l hs })

    on-down : Reacts (message.PlatformStatus Down)
    unfolding reaction_to on_status on_state
    on-down = go (ltb h.platform platforms) (stands_up own p.states h.platform) refl refl
      where
        go : (a b : Bool) → ltb h.platform platforms ≡ a → stands_up own p.states h.platform ≡ b → Reacts (message.PlatformStatus Down)
        go true true c e =
            let hs : h.platform < platforms = ltb-true h.platform platforms c in
            rw (c, e) (record {
              owed-is = refl;
              long = refl;
              wide = tt;
              next = refl;
              states = λ k l. now-turned own p.states k h.platform true e l hs other;
            })
        go true false c e = rw (c, e) (record {
          owed-is = refl;
          long = refl;
          wide = tt;
          next = refl;
          states = λ k l. as_it_was own p.states k h.platform false e;
        })
        go false b c e =
            let hs : platforms ≤ h.platform = ltb-false h.platform platforms c in
            rw c (record { owed-is = refl; long = refl; wide = tt; next = refl; states = λ k l. none_there own p.states k h.platform false l hs })

    module _ (hq : h.sequence < 2 ^ 32) (hi : h.id < 2 ^ 32) (scan : (id : ℕ) → Finds t s index id) where
      on-request : Reacts message.PlatformStatusRequest
      unfolding reaction_to
      on-request = record { owed-is = refl; long = refl; wide = (record { number = hq; field = omega arith }, tt); next = refl; states = λ k l. refl }

      on-unknown : (id : ℕ) → Reacts (message.UnknownOperation id)
      unfolding reaction_to
      on-unknown id = record { owed-is = refl; long = refl; wide = tt; next = refl; states = λ k l. refl }

      on-pull : (id : ℕ) → id < 2 ^ 32 → Reacts (message.VersionedDataPull id)
      unfolding reaction_to operation_for on_pull on_pull_all on_pull_one found_data
      on-pull id l = go (pulled t s index id (scan id))
        where
          go : Pull t s index id → Reacts (message.VersionedDataPull id)
          go (all_of_none e d) =
              let q : id ≡ all_data = eqb-true id all_data e in
              rw (e, d) (record {
                owed-is = ap (λ (n : ℕ). record { number = h.sequence; means = message.UnknownOperation n } ∷ []) (sym q);
                long = refl;
                wide = (record { number = hq; field = omega arith }, tt);
                next = refl;
                states = λ k l. refl;
              })
          go (all_of_some e d) = rw (e, d) (record { owed-is = refl; long = refl; wide = tt; next = refl; states = λ k l. refl })
          go (one_entry i q e f g true d) = rw (e, g, f, d) (record { owed-is = refl; long = refl; wide = tt; next = refl; states = λ k l. refl })
          go (one_entry i q e f g false d) = rw (e, g, f, d) (record {
            owed-is = refl;
            long = refl;
            wide = (record { number = hq; field = l }, tt);
            next = refl;
            states = λ k l. refl;
          })
          go (no_entry e f g) = rw (e, g, f) (record {
            owed-is = refl;
            long = refl;
            wide = (record { number = hq; field = l }, tt);
            next = refl;
            states = λ k l. refl;
          })

      on-operation : Reacts message.Operation
      unfolding reaction_to operation_for on_operation
      on-operation = go (operation_with t s h.id) refl (scan h.id)
        where
          go : (x : Option (ℕ × ℕ)) → operation_with t s h.id ≡ x → Finds t s index h.id → Reacts message.Operation
          go (Some (i, q)) f g = rw (g, f) (record { owed-is = refl; long = refl; wide = tt; next = refl; states = λ k l. refl })
          go None f g = rw (g, f) (record {
            owed-is = refl;
            long = refl;
            wide = (record { number = hq; field = hi }, tt);
            next = refl;
            states = λ k l. refl;
          })

      pub reacts : (kind : Message) → field_of kind < 2 ^ 32 → Reacts kind
      reacts (message.PlatformStatus Up) l = on-up
      reacts (message.PlatformStatus Down) l = on-down
      reacts message.PlatformStatusRequest l = on-request
      reacts (message.UnknownOperation id) l = on-unknown id
      reacts (message.VersionedDataPull id) l = on-pull id l
      reacts message.Operation l = on-operation

-- the field of a message that was read is 32 bits wide
pub field_le : (domain id field : ℕ) → field_of (message_of domain id field) ≤ field
field_le domain id field = go (eqb domain 0) (eqb id 1) (eqb id 2) (eqb id 3) refl refl refl refl
  where
    go : (a b c d : Bool) → eqb domain 0 ≡ a → eqb id 1 ≡ b → eqb id 2 ≡ c → eqb id 3 ≡ d → field_of (message_of domain id field) ≤ field
    go false b c d ea eb ec ed = rw ea (omega arith)
    go true true c d ea eb ec ed = rw (ea, eb) (omega arith)
    go true false true d ea eb ec ed = rw (ea, eb, ec) (omega arith)
    go true false false true ea eb ec ed = rw (ea, eb, ec, ed) (omega arith)
    go true false false false ea eb ec ed = rw (ea, eb, ec, ed) (omega arith)
