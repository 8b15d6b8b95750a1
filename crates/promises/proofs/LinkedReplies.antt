-- What is linked notes and replies as the platform does.
-- Assumes nothing.
use Prim.Native.Nat.{ℕ, ◌-◌, ◌≤◌, ◌<◌}
use Rattle.std.specs.Prelude.{Ok}
use Rattle.std.specs.Prelude.{Option, Some, None}
use mathlib.Core.Path.{◌≡◌, refl, sym, ap, ap₂, ◌∙◌}
use mathlib.Core.Bool.{Bool, true, false, cond}
use mathlib.Core.List.{List, [], ◌∷◌, ◌++◌}
use native.Mathlib.Nat.{mod-lt}
use native.Mathlib.Omega.{arith}
use borrow.Author.Tests.{eqb-true, eqb-false, ltb-true, ltb-false}
use lib.Dec.{eqb, ltb}
use lib.Pow.{pow_pos}
use lib.ListN.{length, get_or, drop}
use Rattle.wire.proofs.Cond.{no_lt}
use Rattle.table.specs.declared.Sections.{Sections}
use Rattle.types.specs.Table.{checked}
use Rattle.table.specs.Words.{sections_in, index_in}
use Rattle.message.specs.declared.Header.{Header}
use Rattle.message.specs.declared.Status.TheVariants.{Down, Up}
use Rattle.message.specs.declared.Message.{Message}
use Rattle.message.specs.declared.Message.TheVariants as message
use Rattle.message.specs.Refusal.{no_room}
use Rattle.states.specs.States.{stands_up}
use Rattle.platform.specs.declared.reactions.Standing.{Standing}
use Rattle.platform.specs.declared.Received.{Received}
use Rattle.platform.specs.declared.Noting.{Noting}
use Rattle.platform.specs.declared.Noting.TheVariants.{Noted}
use Rattle.platform.specs.declared.reactions.Reaction.{Reaction}
use Rattle.platform.specs.Replies.{all_data, owed_length}
use Rattle.platform.specs.Reaction.{operation_for, found_data, on_pull_all, on_pull_one, on_pull, on_operation, reaction_to}
use Rattle.platform.specs.Receiving.{fresh_standing, refused, taken, answered, index_of, received_of, left_of, list_after}
use Rattle.platform.specs.Receiving.{sections_outcome, sections_output, sections_list}
use Rattle.platform.specs.Noting.{number_given}
use Rattle.platform_words.specs.Words.{standing_in, pending_in, standing_words}
use Rattle.platform_words.specs.HeardWords.{heard_words, answer_words, noted_words, heard_after, platform_after}
use Rattle.pending.specs.PlainMap.{fresh_list}
use Rattle.platform_words.specs.StateCalls.{up_number}
use Rattle.promises.specs.Lookups.{laid}
use Rattle.promises.specs.Platforms.{operation_with, state_after, Receives, Notes}
use Rattle.promises.specs.LinkedReplies.{UpIs, heard_for, Comes, owed_bytes, Says, Answered, CheckLeft, LinkedReplies}
use Rattle.promises.proofs.ByID.{looked}
use Rattle.promises.proofs.Reacting.{Finds, X, status-heard, Pull, all_of_none, all_of_some, one_entry, no_entry, pulled}
use Rattle.promises.proofs.Replying.{its-payload, received_is, its_length, notes, too_short}
use Rattle.promises.proofs.Platforms.{states_are}
use Rattle.promises.proofs.Unique.{unique}
use Rattle.promises.proofs.LinkedPayloads.{sections_back}

-- what was heard of a message of each kind
module _ (own : ℕ) (t : List ℕ) (s : Sections) (index : List ℕ) (p : Standing) (m : List ℕ) (h : Header) (n : ℕ) where
  abbrev HeardSo : Message → Type 0
  HeardSo kind = heard_words h n (X own t s index p h 20 (length m - 20) kind).heard ≡ heard_for t s m h n kind

  on-up : HeardSo (message.PlatformStatus Up)
  on-up = ap (heard_words h n) (status-heard own t s index p h 20 (length m - 20) Up)

  on-down : HeardSo (message.PlatformStatus Down)
  on-down = ap (heard_words h n) (status-heard own t s index p h 20 (length m - 20) Down)

  module _ (scan : (id : ℕ) → Finds t s index id) where
    on-pull : (id : ℕ) → HeardSo (message.VersionedDataPull id)
    unfolding reaction_to operation_for on_pull on_pull_all on_pull_one found_data
    on-pull id = go (pulled t s index id (scan id))
      where
        go : Pull t s index id → HeardSo (message.VersionedDataPull id)
        go (all_of_none e d) =
            rw (e, d) (ap (λ (k : ℕ). 6 ∷ k ∷ h.platform ∷ h.sequence ∷ 0 ∷ 0 ∷ 0 ∷ n ∷ []) (sym (eqb-true id all_data e)))
        go (all_of_some e d) = rw (e, d)
        go (one_entry i q e f g true d) = rw (e, g, f, d)
        go (one_entry i q e f g false d) = rw (e, g, f, d)
        go (no_entry e f g) = rw (e, g, f)

    on-operation : HeardSo message.Operation
    unfolding reaction_to operation_for on_operation
    on-operation = go (operation_with t s h.id) refl (scan h.id)
      where
        go : (x : Option (ℕ × ℕ)) → operation_with t s h.id ≡ x → Finds t s index h.id → HeardSo message.Operation
        go (Some (i, q)) f g = rw (g, f)
        go None f g = rw (g, f)

    heard-so : (kind : Message) → HeardSo kind
    unfolding reaction_to
    heard-so (message.PlatformStatus Up) = on-up
    heard-so (message.PlatformStatus Down) = on-down
    heard-so message.PlatformStatusRequest = refl
    heard-so (message.UnknownOperation id) = refl
    heard-so (message.VersionedDataPull id) = on-pull id
    heard-so message.Operation = on-operation

-- asking who is UP
up-number : (own : ℕ) (q : Standing) (l : List ℕ) (up : ℕ → Bool) → own < 256 → ((k : ℕ) → k < 256 → stands_up own q.states k ≡ up k) → (k : ℕ)
    → up_number own (standing_words q ++ l) k ≡ cond (ltb k 256) (cond (up k) 1 0) 0
up-number own q l up ho h k = go (ltb k 256) refl
  where
    go : (b : Bool) → ltb k 256 ≡ b → cond {A = ℕ} (stands_up own q.states k) 1 0 ≡ cond b (cond {A = ℕ} (up k) 1 0) 0
    go true e = ap (λ (x : Bool). cond {A = ℕ} x 1 0) (h k (ltb-true k 256 e))
    go false e = ap (λ (x : Bool). cond {A = ℕ} x 1 0) (states_are.none_above_255 own q.states k ho (ltb-false k 256 e))

pub up_is : (own : ℕ) (after : List ℕ) (q : Standing) (l : List ℕ) (up : ℕ → Bool) → own < 256 → after ≡ standing_words q ++ l
    → ((k : ℕ) → k < 256 → stands_up own q.states k ≡ up k)
    → UpIs own after up
up_is own after q l up ho w h k a n e p eo ew =
    p ∙ ap₂ (λ (o : ℕ) (ws : List ℕ). up_number o ws a.1.1.0) eo (ew ∙ w) ∙ up-number own q l up ho h a.1.1.0

-- a fresh platform
fresh_up : (own : ℕ) → own < 256 → (k : ℕ) → k < 256 → stands_up own (fresh_standing own).states k ≡ eqb k own
fresh_up own ho k hk = go (eqb k own) refl
  where
    go : (b : Bool) → eqb k own ≡ b → stands_up own (fresh_standing own).states k ≡ b
    go true e = ap (stands_up own (fresh_standing own).states) (eqb-true k own e) ∙ states_are.own_is_up own (fresh_standing own).states
    go false e = states_are.others_start_down own k ho hk (eqb-false k own e)

-- a message that comes to a platform in words
module _ (own : ℕ) (ws t : List ℕ) (s : Sections) (m out : List ℕ) (h : Header) (kind : Message) (c : Comes own t s m h kind) where
  abbrev p : Standing
  p = standing_in ws

  abbrev l : List ℕ
  l = pending_in ws

  receives : Receives own t s p m h kind
  receives =
      record {
        platform = c.platform;
        next = mod-lt (get_or ws 4 0) (pow_pos 32);
        bytes = c.bytes;
        table = c.table;
        start = c.start;
        len = c.len;
        read = c.read;
        no_response = c.no_response;
      }

  stands : (c.start ≡ 20) × (c.len ≡ length m - 20) × (20 ≤ length m)
  stands = its-payload own m h kind c.start c.len c.read

  abbrev reaction : Reaction
  reaction = X own t s (index_of t s) p h c.start c.len kind

  abbrev N : ℕ
  N = owed_bytes own ws t s h kind

  heard-words : heard_words h N reaction.heard ≡ heard_for t s m h N kind
  heard-words =
      ap₂ (λ (a b : ℕ). heard_words h N (X own t s (index_of t s) p h a b kind).heard) stands.0 stands.1
      ∙ heard-so own t s (index_of t s) p m h N (looked t s c.table) kind

  module _ (fits : N ≤ length out) where
    its-notes : Notes own t s p l m out h kind N
    its-notes = notes own t s p l m out h kind receives fits

    answer-is : (received_of own t p l m (length out)).answer ≡ Noted h reaction.heard N
    unfolding answered receives
    answer-is =
        let w : owed_length reaction.owed ≡ N = its_length own t s p l m out h kind receives in
        let room : owed_length reaction.owed ≤ length out = omega arith in
        ap (λ (x : Received). x.answer)
        (received_is own t s p l m out h kind receives (length out)
        ∙ no_lt {A = Received} (refused p no_room) (taken h reaction (owed_length reaction.owed)) (length out) (owed_length reaction.owed) room)
        ∙ ap (Noted h reaction.heard) w

  -- what a call's contract says of the number and of what was lent
  module _ (o : Received) (x y : List ℕ) (same : o ≡ received_of own t p l m (length out)) (alike : x ≡ left_of own t p m out)
      (listed : y ≡ list_after own t l m) (n : ℕ) (after left heard was : List ℕ) (en : n ≡ number_given o.answer)
      (ea : after ≡ platform_after o ws y) (el : left ≡ x) (eh : heard ≡ heard_after o was) where
    says : N ≤ length out → Says own ws t s m out h kind n after left heard
    says fits =
        let a : o.answer ≡ Noted h reaction.heard N = ap (λ (z : Received). z.answer) same ∙ answer-is fits in
        let q : Standing = (received_of own t p l m (length out)).standing in
        let w : after ≡ standing_words q ++ y =
        ea ∙ ap (λ (z : Noting). noted_words z o.standing ws y) a ∙ ap (λ (z : Received). standing_words z.standing ++ y) same in
        let g : Notes own t s p l m out h kind N = its-notes fits in
        record {
          number = en ∙ ap number_given a;
          replies = rw (el ∙ alike) g.written;
          rest = rw (el ∙ alike) g.rest;
          heard-is = eh ∙ ap (λ (z : Noting). answer_words z was) a ∙ heard-words;
          states = up_is own after q y (state_after own p h kind) c.platform w g.states;
          next = ap (λ (z : List ℕ). get_or z 4 0) w ∙ g.next;
          pending = ap (drop 5) w ∙ listed ∙ g.list;
        }

    pub answered-so : Answered own ws t s m out h kind n after left heard
    answered-so =
        record {
          fit = says;
          do_not_fit = λ short. en ∙ ap (λ (z : Received). number_given z.answer) same ∙ ap number_given (too_short own t s p l m out h kind receives short);
        }

-- on the words that the check left for a table that it accepts
module _ (own : ℕ) (ws t : List ℕ) (s : Sections) (words ss m : List ℕ) (e : checked t ≡ Ok s) (f : CheckLeft t s words ss) where
  abbrev at : Standing
  at = standing_in ws

  abbrev pending : List ℕ
  pending = pending_in ws

  back : sections_in ss ≡ s
  back = sections_back t s ss (laid t s words) e f.0

  index_back : index_in ss ≡ laid t s words
  index_back = ap index_in f.0

  pub outcome-same : (room : ℕ) → sections_outcome own t (sections_in ss) (index_in ss) at pending m room ≡ received_of own t at pending m room
  outcome-same room =
      ap₂ (λ (x : Sections) (i : List ℕ). sections_outcome own t x i at pending m room) back index_back
      ∙ unique.on_accepted.receive-checked own t s words at pending m room e f.1

  pub output-same : (out : List ℕ) → sections_output own t (sections_in ss) (index_in ss) at m out ≡ left_of own t at m out
  output-same out =
      ap₂ (λ (x : Sections) (i : List ℕ). sections_output own t x i at m out) back index_back
      ∙ unique.on_accepted.receive_checked_out own t s words at m out e f.1

  pub list_same : sections_list own t (sections_in ss) (index_in ss) pending m ≡ list_after own t pending m
  list_same =
      ap₂ (λ (x : Sections) (i : List ℕ). sections_list own t x i pending m) back index_back
      ∙ unique.on_accepted.receive_checked_list own t s words pending m e f.1

pub linked_replies : LinkedReplies
linked_replies =
    record {
      start = λ k a n e p ho. (
        p.0,
        up_is a.0 e.1.0.now (fresh_standing a.0) fresh_list (λ who. eqb who a.0) ho p.1 (fresh_up a.0 ho),
        ap (λ (y : List ℕ). get_or y 4 0) p.1,
        ap (drop 5) p.1,
      );
      receive = λ s h kind k a n e p c.
          let own = a.0 in
          let ws = a.1.0.now in
          let t = a.1.1.0.now in
          let m = a.1.1.1.0.now in
          let out = a.1.1.1.1.0.now in
          answered-so own ws t s m out h kind c (received_of own t (standing_in ws) (pending_in ws) m (length out)) (left_of own t (standing_in ws) m out)
          (list_after own t (pending_in ws) m) refl refl refl
          n _ _ _ a.1.1.1.1.1.0.now p.0 p.1.0 p.1.1.0 p.1.1.1;
      receive-in = λ s h kind words k a n e p c f.
          let own = a.0 in
          let ws = a.1.0.now in
          let t = a.1.1.0.now in
          let ss = a.1.1.1.0.now in
          let m = a.1.1.1.1.0.now in
          let out = a.1.1.1.1.1.0.now in
          answered-so own ws t s m out h kind c
          (sections_outcome own t (sections_in ss) (index_in ss) (standing_in ws) (pending_in ws) m (length out))
          (sections_output own t (sections_in ss) (index_in ss) (standing_in ws) m out)
          (sections_list own t (sections_in ss) (index_in ss) (pending_in ws) m)
          (outcome-same own ws t s words ss m c.table f (length out)) (output-same own ws t s words ss m c.table f out)
          (list_same own ws t s words ss m c.table f)
          n _ _ _ a.1.1.1.1.1.1.0.now p.0 p.1.0 p.1.1.0 p.1.1.1;
      alike = λ s words k a n e p c f.
          let own = a.0 in
          let ws = a.1.0.now in
          let t = a.1.1.0.now in
          let ss = a.1.1.1.0.now in
          let m = a.1.1.1.1.0.now in
          let out = a.1.1.1.1.1.0.now in
          let q = outcome-same own ws t s words ss m c f (length out) in (
            p.0 ∙ ap (λ (x : Received). number_given x.answer) q,
            p.1.0 ∙ ap₂ (λ (x : Received) (l : List ℕ). platform_after x ws l) q (list_same own ws t s words ss m c f),
            p.1.1.0 ∙ output-same own ws t s words ss m c f out,
            p.1.1.1 ∙ ap (λ (x : Received). heard_after x a.1.1.1.1.1.1.0.now) q,
          );
    }
