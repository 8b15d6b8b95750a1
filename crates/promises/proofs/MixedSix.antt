-- The checks behind 1 to 9 for a message of Issue 6 that the platform call among partners of both issues reads: those of the call of before.
-- Assumes nothing.
use Prim.Native.Nat.{ℕ, zero, suc, ◌^◌, ◌≤◌, ◌<◌}
use Rattle.std.specs.Prelude.{Option, Some, None}
use mathlib.Core.Path.{◌≡◌, refl, sym, ap, subst, ◌∙◌}
use mathlib.Core.Bool.{Bool, true, false, cond, ◌||◌}
use mathlib.Core.Logic.{◌⊎◌, inl, inr, ⊎_elim}
use mathlib.Core.List.{List, [], ◌∷◌}
use native.Mathlib.Omega.{arith}
use borrow.Author.Tests.{eqb-true, eqb-false, ltb-true, ltb-false, le-leb, lt-leb}
use lib.Dec.{eqb, leb, ltb}
use lib.ListN.{length}
use Rattle.wire.specs.Bytes.{number}
use Rattle.wire.proofs.Cond.{passed, yes-eq, no_eq}
use Rattle.table.specs.declared.Sections.{Sections}
use Rattle.operations.specs.Search.{sought_in}
use Rattle.message.specs.declared.Header.{Header}
use Rattle.message.specs.declared.Status.TheVariants.{Down, Up}
use Rattle.message.specs.declared.Message.{Message}
use Rattle.message.specs.declared.Message.TheVariants as message
use Rattle.message.specs.declared.Reading.{Reading}
use Rattle.message.specs.Header.{header_length, domain_in, id_in, sender_in, payload_in, header_in, payload_size_in}
use Rattle.message.specs.Platform.{reserved_id, platform_message}
use Rattle.message.specs.Refusal.{platforms, contents_refusal}
use Rattle.message.specs.Reading.{reading_out, read_of}
use Rattle.message.proofs.Accepted.{Readable, readable}
use Rattle.states.specs.States.{stands_up}
use Rattle.platform.specs.declared.reactions.Standing.{Standing}
use Rattle.platform.specs.declared.Noting.{Noting}
use Rattle.platform.specs.declared.Noting.TheVariants as noting
use Rattle.platform.specs.Replies.{owed_length}
use Rattle.platform.specs.Reaction.{is_data, found_data, some_data, operation_for, operation_in, silent, not_versioned, coming_up, on_state, on_status}
use Rattle.platform.specs.Reaction.{on_pull_all, on_pull_one, on_pull, on_operation, reaction_to}
use Rattle.platform.specs.Receiving.{is_sent, is_answer, outcome_of, outcome_in}
use Rattle.platform.specs.Noting.{number_given as receive_number}
use Rattle.platform.specs.declared.reactions.Heard.TheVariants as heard
use Rattle.mixed.specs.Receiving.{number_given, from_noting, from_received}
use Rattle.promises.specs.Checks.{◌when◌, Answers, Outside, none, this, next}
use Rattle.promises.specs.Platforms.{is_there as isFound}
use Rattle.promises.specs.Demand1.{its_message, owed_in}
use Rattle.promises.specs.AnyOrder.{ThreeForm, ByForm}
use Rattle.promises.specs.MixedOrder.{NotAwaited3, NotAwaited6, TellsServices, GoesDown, NoWords, AsksForAll, owed3, owed6, behind_reading}
use Rattle.promises.proofs.Checks.{Decides, decides_same, where_is}
use Rattle.promises.proofs.Order.{reserved_decides}
use Rattle.promises.proofs.Kind2.{never}
use Rattle.promises.proofs.Replying.{heard-as}
use Rattle.promises.proofs.ReceiveOrder.{in_turn, its-domain}
use Rattle.promises.proofs.MixedThree.{sent_is_found}

four : (P : ℕ → Type 0) → P 1 → P 2 → P 3 → P 4 → (id : ℕ) → 1 ≤ id → id ≤ 4 → P id
four P a b c d zero l m = absurd (omega arith)
four P a b c d (suc zero) l m = a
four P a b c d (suc (suc zero)) l m = b
four P a b c d (suc (suc (suc zero))) l m = c
four P a b c d (suc (suc (suc (suc zero)))) l m = d
four P a b c d (suc (suc (suc (suc (suc n))))) l m = absurd (omega arith)

-- how many bytes of replies are owed, by the message's ID and first field
module _ (own : ℕ) (t : List ℕ) (s : Sections) (index : List ℕ) (p : Standing) (h : Header) (len : ℕ) where
  abbrev look : ℕ → Option (ℕ × ℕ)
  look id = sought_in t index s.operations.count id

  abbrev up : Bool
  up = stands_up own p.states h.platform

  abbrev owedTo : ℕ → ℕ → ℕ
  owedTo id field =
      cond (eqb id 1) (cond (eqb field 0) 0 (cond (up || leb 256 h.platform) 0 48))
      (cond (eqb id 2) 24
      (cond (eqb id 4) (cond (eqb field 0xFFFFFFFF) (cond (some_data t s) 0 24) (cond (found_data t (look field)) 0 24))
      0))

  abbrev IsOwed : ℕ → Type 0
  IsOwed n = (field : ℕ)
      → owed_length (reaction_to own t s (operation_for t s index h (platform_message n field)) p h (platform_message n field) 20 len).owed ≡ owedTo n field

  of-status : IsOwed 1
  unfolding reaction_to on_status on_state coming_up
  of-status field = go (eqb field 0) (ltb h.platform platforms) refl up refl
    where
      above : ltb h.platform platforms ≡ true → leb 256 h.platform ≡ false
      above e = lt-leb 256 h.platform (ltb-true h.platform platforms e)

      below : ltb h.platform platforms ≡ false → leb 256 h.platform ≡ true
      below e = le-leb 256 h.platform (ltb-false h.platform platforms e)

      go : (a b : Bool) → ltb h.platform platforms ≡ b → (u : Bool) → up ≡ u
          → owed_length (on_status own p h.platform (cond a Down Up)).owed ≡ cond a 0 (cond (up || leb 256 h.platform) 0 48)
      go true true e true f = rw (e, f) refl
      go true true e false f = rw (e, f) refl
      go true false e u f = rw e refl
      go false true e true f = rw (e, f) refl
      go false true e false f = rw (e, f, above e) refl
      go false false e true f = rw (e, f) refl
      go false false e false f = rw (e, f, below e) refl

  of-request : IsOwed 2
  unfolding reaction_to
  of-request field = refl

  of-unknown : IsOwed 3
  unfolding reaction_to
  of-unknown field = refl

  pulled_one : (field : ℕ) (f : Option (ℕ × ℕ)) → owed_length (on_pull_one t f p h.sequence field).owed ≡ cond (found_data t f) 0 24
  unfolding on_pull_one found_data
  pulled_one field (Some (j, q)) = go (is_data t q)
    where
      go : (b : Bool) → owed_length (cond b (silent p (heard.PullOfOne field j)) (not_versioned p h.sequence field)).owed ≡ cond b 0 24
      go true = refl
      go false = refl
  pulled_one field None = refl

  pulled-all : owed_length (on_pull_all t s p h.sequence).owed ≡ cond (some_data t s) 0 24
  unfolding on_pull_all
  pulled-all = go (some_data t s)
    where
      go : (b : Bool) → owed_length (cond b (silent p heard.PullOfAll) (not_versioned p h.sequence 0xFFFFFFFF)).owed ≡ cond b 0 24
      go true = refl
      go false = refl

  of-pull : IsOwed 4
  unfolding reaction_to operation_for on_pull
  of-pull field = go (eqb field 0xFFFFFFFF)
    where
      go : (a : Bool) → owed_length (cond a (on_pull_all t s p h.sequence) (on_pull_one t (look field) p h.sequence field)).owed
          ≡ cond a (cond (some_data t s) 0 24) (cond (found_data t (look field)) 0 24)
      go true = pulled-all
      go false = pulled_one field (look field)

  by-id : (id : ℕ) → 1 ≤ id → id ≤ 4 → IsOwed id
  by-id = four IsOwed of-status of-request of-unknown of-pull

  of_operation : (f : Option (ℕ × ℕ)) → owed_length (reaction_to own t s f p h message.Operation 20 len).owed ≡ cond (isFound f) 0 24
  unfolding reaction_to on_operation
  of_operation (Some (j, q)) = refl
  of_operation None = refl

number_same : (x : Noting) → number_given (from_noting x) ≡ receive_number x
number_same (noting.Refused n) = refl
number_same (noting.Noted h x n) = refl
number_same (noting.Response h j start len) = refl

module _ (own : ℕ) (i ours t : List ℕ) (s : Sections) (index : List ℕ) (p : Standing) (l ws m : List ℕ) (room : ℕ)
    (F : ℕ → Option (ℕ × ℕ)) (finds : (id : ℕ) → sought_in t index s.operations.count id ≡ F id)
    (K : ℕ → Type 0) (sent : (id : ℕ) → Decides (is_sent t (sought_in t index s.operations.count id)) (K id)) (Full : Type 0)
    (nf : ¬ (ThreeForm i m)) (e : read_of own m ≡ reading_out m) where
  abbrev h : Header
  h = header_in m

  abbrev field : ℕ
  field = number 2 (payload_in m) 0

  seen : Readable own m
  seen = readable own m (heard-as own m h (its_message m) header_length (payload_size_in m) e).0

  decided : (k : Message) → Decides (is_answer t (operation_for t s index h k) k) ((k ≡ message.Operation) × K h.id)
  unfolding is_answer operation_for
  decided (message.PlatformStatus x) = never (message.PlatformStatus x) refl (omega arith)
  decided message.PlatformStatusRequest = never message.PlatformStatusRequest refl (omega arith)
  decided (message.UnknownOperation id) = never (message.UnknownOperation id) refl (omega arith)
  decided (message.VersionedDataPull id) = never (message.VersionedDataPull id) refl (omega arith)
  decided message.Operation = decides_same (sent h.id) (λ k. (refl, k)) (λ q. q.1)

  platform-owed : domain_in m ≡ 0 → owed_in own t s index p m ≡ owed6 t s F own p m
  platform-owed d =
      let c : contents_refusal 0 (id_in m) (payload_in m) ≡ 0 = ap (λ (n : ℕ). contents_refusal n (id_in m) (payload_in m)) (sym d) ∙ seen.contents in
      let r : ¬ (Outside 1 4 (id_in m)) = (reserved_decides (id_in m)).no_is (passed (reserved_id (id_in m)) 6 _ c).0 in
      let b : (1 ≤ id_in m) × (id_in m ≤ 4) = ⊎_elim (λ o. absurd (r o)) (λ x. x) (where_is 1 4 (id_in m)) in
      ap (λ (k : Message). owed_length (reaction_to own t s (operation_for t s index h k) p h k 20 (payload_size_in m)).owed)
      (yes-eq {A = Message} _ _ (domain_in m) 0 d)
      ∙ by-id own t s index p h (payload_size_in m) (id_in m) b.0 b.1 field
      ∙ ap (λ (f : Option (ℕ × ℕ)). cond (eqb (id_in m) 1) (cond (eqb field 0) 0 (cond (stands_up own p.states (sender_in m) || leb 256 (sender_in m)) 0 48))
      (cond (eqb (id_in m) 2) 24
      (cond (eqb (id_in m) 4) (cond (eqb field 0xFFFFFFFF) (cond (some_data t s) 0 24) (cond (found_data t f) 0 24))
      0))) (finds field)
      ∙ sym (yes-eq {A = ℕ} _ _ (domain_in m) 0 d)

  operation-owed : ¬ (domain_in m ≡ 0) → owed_in own t s index p m ≡ owed6 t s F own p m
  unfolding operation_for
  operation-owed d =
      ap (λ (k : Message). owed_length (reaction_to own t s (operation_for t s index h k) p h k 20 (payload_size_in m)).owed)
      (no_eq {A = Message} _ _ (domain_in m) 0 d)
      ∙ of_operation own t s index p h (payload_size_in m) (look own t s index p h (payload_size_in m) (id_in m))
      ∙ ap (λ (f : Option (ℕ × ℕ)). cond (isFound f) 0 24) (finds (id_in m))
      ∙ sym (no_eq {A = ℕ} _ _ (domain_in m) 0 d)

  is-owed : owed_in own t s index p m ≡ owed6 t s F own p m
  is-owed = go (eqb (domain_in m) 0) refl
    where
      go : (b : Bool) → eqb (domain_in m) 0 ≡ b → owed_in own t s index p m ≡ owed6 t s F own p m
      go true q = platform-owed (eqb-true (domain_in m) 0 q)
      go false q = operation-owed (eqb-false (domain_in m) 0 q)

  none-owed : is_answer t (operation_for t s index h (its_message m)) (its_message m) ≡ true → owed6 t s F own p m ≡ 0
  none-owed a =
      let k = (decided (its_message m)).yes_is a in
      let d : domain_in m ≡ 1 = its-domain own m e k.0 in
      no_eq {A = ℕ} _ _ (domain_in m) 0 (λ z. omega arith)
      ∙ ap (λ (f : Option (ℕ × ℕ)). cond (isFound f) 0 24) (sym (finds (id_in m)))
      ∙ ap (λ (b : Bool). cond b 0 24) (sent_is_found t (look own t s index p h 0 (id_in m)) (found k.1))
    where
      found : K h.id → is_sent t (look own t s index p h 0 (id_in m)) ≡ true
      found y = go (is_sent t (look own t s index p h 0 (id_in m))) refl
        where
          go : (b : Bool) → is_sent t (look own t s index p h 0 (id_in m)) ≡ b → is_sent t (look own t s index p h 0 (id_in m)) ≡ true
          go true q = q
          go false q = absurd ((sent (id_in m)).no_is q y)

  -- the checks that are Issue 3's do not apply
  no_form : {A B : Type 0} → ¬ B → ¬ (ByForm i m A B)
  no_form z (inl q) = nf q.0
  no_form z (inr q) = z q.1

  widened : {x : ℕ} → Answers (λ (n : ℕ). n) 0 (61 when NotAwaited6 K l m ∷ 10 when (room < owed6 t s F own p m) ∷ []) x
      → Answers (λ (n : ℕ). n) 0 (behind_reading t s F K own i ours p l ws m room Full) x
  widened (this a) = this {c = 61 when ByForm i m (NotAwaited3 K l m) (NotAwaited6 K l m)} (inr (nf, a))
  widened (next z r) =
      next (no_form z)
      (next (λ (q : ThreeForm i m × ((TellsServices m ⊎ GoesDown own p m) × NoWords i ws m)). nf q.0)
      (next (λ (q : ThreeForm i m × (TellsServices m × Full)). nf q.0)
      (next (λ (q : ThreeForm i m × (AsksForAll m × (2 ^ 29 ≤ length ours))). nf q.0) (last r))))
    where
      last : {y : ℕ} → Answers (λ (n : ℕ). n) 0 (10 when (room < owed6 t s F own p m) ∷ []) y
          → Answers (λ (n : ℕ). n) 0 (10 when ByForm i m (room < owed3 t F own ours p m) (room < owed6 t s F own p m) ∷ []) y
      last (this b) = this {c = 10 when ByForm i m (room < owed3 t F own ours p m) (room < owed6 t s F own p m)} (inr (nf, b))
      last (next w none) = next (no_form w) none

  pub six-behind : Answers (λ (n : ℕ). n) 0 (behind_reading t s F K own i ours p l ws m room Full)
      (number_given (from_received (outcome_in own t s index p l m room)).answer)
  unfolding operation_in
  six-behind =
      subst (Answers (λ (n : ℕ). n) 0 (behind_reading t s F K own i ours p l ws m room Full))
      (sym (number_same (outcome_in own t s index p l m room).answer
      ∙ ap (λ (x : Reading). receive_number (outcome_of own t s (operation_in t s index x) p l x room).answer) e))
      (widened (in_turn own t s index p l m room e (K (id_in m)) (decided (its_message m)) (owed6 t s F own p m) none-owed (λ a. is-owed)))
