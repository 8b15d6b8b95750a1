-- Demand 1 for one call for one message: its number is that of the first of its checks that applies.
-- Assumes nothing.
use Prim.Native.Nat.{ℕ, ◌*◌, ◌^◌, ◌<◌}
use Rattle.refusal.specs.Refusal.{refused as refused_by}
use Rattle.std.specs.Prelude.{Result, Ok}
use Rattle.refusal.specs.declared.Refusal.{Refusal}
use Rattle.std.specs.Prelude.{Option}
use mathlib.Core.Path.{◌≡◌, refl, sym, ap, subst, ◌∙◌}
use mathlib.Core.Bool.{Bool, true, false, cond}
use mathlib.Core.List.{List, [], ◌∷◌, ◌++◌}
use native.Mathlib.Omega.{arith}
use borrow.Author.Tests.{eqb-false}
use lib.Dec.{eqb, ltb}
use lib.ListN.{length}
use Rattle.wire.specs.Bytes.{Octets, number}
use Rattle.pending.specs.Answers.{is_response}
use Rattle.table.specs.declared.Sections.{Sections}
use Rattle.table.specs.Layout.{within}
use Rattle.types.specs.Table.{checked}
use Rattle.message.specs.declared.Header.{Header}
use Rattle.message.specs.declared.Message.TheVariants as message
use Rattle.message.specs.declared.Reading.{Reading}
use Rattle.message.specs.declared.Reading.TheVariants as reading
use Rattle.message.specs.Header.{header_length, domain_in, id_in, payload_in, header_in, payload_size_in}
use Rattle.message.specs.Platform.{status_of, platform_message, kind_in}
use Rattle.message.specs.Refusal.{platforms, no_room}
use Rattle.message.specs.Reading.{reading_out, read_of}
use Rattle.message.proofs.Accepted.{readable}
use Rattle.platform.specs.declared.reactions.Standing.{Standing}
use Rattle.platform.specs.declared.reactions.Reaction.{Reaction}
use Rattle.platform.specs.Replies.{owed_length}
use Rattle.platform.specs.Reaction.{operation_for, operation_in, on_operation, reaction_to}
use Rattle.platform.specs.Receiving.{refused, taken, answered, not_awaited, is_answer, delivered, response_to}
use Rattle.platform.specs.Receiving.{outcome_of, outcome_in, index_of, received_by, received_of, sections_outcome}
use Rattle.platform.specs.Noting.{number_given as receive_number}
use Rattle.promises.specs.Checks.{Check, ◌when◌, Answers, none, this, next}
use Rattle.promises.specs.Order.{read_checks}
use Rattle.promises.specs.TableOrder.{sections_in}
use Rattle.promises.specs.PayloadOrder.{LieIn}
use Rattle.promises.specs.Reports.{IsKind2}
use Rattle.promises.specs.Platforms.{OwedReply, owed_for, reply_length, Receives}
use Rattle.promises.specs.Responses.{IsAwaited}
use Rattle.promises.specs.Demand1.{its_message, NotAwaited, receive_checks, ReceiveInOrder, FindsKind2, owed_in, checked_checks, ReceiveCheckedInOrder}
use Rattle.promises.proofs.Checks.{Decides, by, then, lt_decides, then-each}
use Rattle.promises.proofs.Order.{read_in_order}
use Rattle.promises.proofs.TableOrder.{table_in_order, table_made}
use Rattle.promises.proofs.PayloadOrder.{lie_decides}
use Rattle.promises.proofs.ByID.{there}
use Rattle.promises.proofs.Kind2.{awaited-decides, not_operation, found_decides, answer_decides}
use Rattle.promises.proofs.Replying.{heard-as, its_length}

-- a message that was read is an operation just where its domain is 1
module _ (own : ℕ) (m : List ℕ) (e : read_of own m ≡ reading_out m) where
  few-domains : domain_in m < 2
  few-domains = (readable own m (heard-as own m (header_in m) (its_message m) header_length (payload_size_in m) e).0).domain

  -- no platform-level message is an operation
  other-kind : (id field : ℕ) → kind_in (platform_message id field) < 5
  other-kind id field = go (eqb id 1) (eqb id 2) (eqb id 3)
    where
      go : (a b c : Bool) → kind_in (cond a (message.PlatformStatus (status_of field))
          (cond b message.PlatformStatusRequest (cond c (message.UnknownOperation field) (message.VersionedDataPull field)))) < 5
      go true b c = omega arith
      go false true c = omega arith
      go false false true = omega arith
      go false false false = omega arith

  pub its-domain : its_message m ≡ message.Operation → domain_in m ≡ 1
  its-domain k = go (eqb (domain_in m) 0) refl k
    where
      go : (b : Bool) → eqb (domain_in m) 0 ≡ b → cond b (platform_message (id_in m) (number 2 (payload_in m) 0)) message.Operation
          ≡ message.Operation → domain_in m ≡ 1
      go true q f = absurd (not_operation (platform_message (id_in m) (number 2 (payload_in m) 0)) (other-kind (id_in m) (number 2 (payload_in m) 0)) f)
      go false q f = omega (arith, few-domains, eqb-false (domain_in m) 0 q)

  is-operation : domain_in m ≡ 1 → its_message m ≡ message.Operation
  is-operation q = rw q refl

-- with what an index finds
module _ (own : ℕ) (t : List ℕ) (s : Sections) (index : List ℕ) (p : Standing) (l m : List ℕ) (room : ℕ) where
  abbrev pub h : Header
  h = header_in m

  abbrev pub found : Option (ℕ × ℕ)
  found = operation_for t s index h (its_message m)

  abbrev reaction : Reaction
  reaction = reaction_to own t s found p h (its_message m) header_length (payload_size_in m)

  abbrev pub given : ℕ
  given = receive_number (outcome_of own t s found p l (reading_out m) room).answer

  abbrev matched : Bool
  matched = is_response l h.sequence h.id h.platform

  of-response : is_answer t found (its_message m) ≡ true → given ≡ cond matched 0 61
  unfolding outcome_of response_to
  of-response e = rw e (go matched)
    where
      go : (b : Bool) → receive_number (cond b (delivered found p h header_length (payload_size_in m)) (refused p not_awaited)).answer ≡ cond b 0 61
      go true = refl
      go false = refl

  of-reaction : is_answer t found (its_message m) ≡ false → given ≡ cond (ltb room (owed_in own t s index p m)) 10 0
  unfolding outcome_of answered
  of-reaction e = rw e (go (ltb room (owed_in own t s index p m)))
    where
      go : (b : Bool) → receive_number (cond b (refused p no_room) (taken h reaction (owed_length reaction.owed))).answer ≡ cond b 10 0
      go true = refl
      go false = refl

  -- K says that the ID is of kind 2, and so many bytes are owed
  module _ (e : read_of own m ≡ reading_out m) (K : Type 0) (d : Decides (is_answer t found (its_message m)) ((its_message m ≡ message.Operation) × K))
      (owed : ℕ) (none-owed : is_answer t found (its_message m) ≡ true → owed ≡ 0)
      (is-owed : is_answer t found (its_message m) ≡ false → owed_in own t s index p m ≡ owed) where
    abbrev pub checks : List Check
    checks = 61 when NotAwaited K l m ∷ 10 when (room < owed) ∷ []

    awaited : Decides matched (IsAwaited l h)
    awaited = awaited-decides h.id h.platform l h.sequence

    pub in_turn : Answers (λ (n : ℕ). n) 0 checks given
    in_turn = go (is_answer t found (its_message m)) refl matched refl
      where
        go : (a : Bool) → is_answer t found (its_message m) ≡ a → (b : Bool) → matched ≡ b → Answers (λ (n : ℕ). n) 0 checks given
        go true ea true eb =
            subst (Answers (λ (n : ℕ). n) 0 checks) (sym (of-response ea ∙ ap (λ (b : Bool). cond b 0 61) eb))
            (next (λ (z : NotAwaited K l m). z.1.1 (awaited.yes_is eb)) (next (λ (z : room < owed). omega (arith, none-owed ea, z)) none))
        go true ea false eb =
            let k = d.yes_is ea in
            subst (Answers (λ (n : ℕ). n) 0 checks) (sym (of-response ea ∙ ap (λ (b : Bool). cond b 0 61) eb))
            (this {c = 61 when NotAwaited K l m} (its-domain own m e k.0, (k.1, awaited.no_is eb)))
        go false ea b eb =
            subst (Answers (λ (n : ℕ). n) 0 checks) (sym (of-reaction ea ∙ ap (λ (n : ℕ). cond (ltb room n) 10 0) (is-owed ea)))
            (next (λ (z : NotAwaited K l m). d.no_is ea (is-operation own m e z.0, z.1.0)) (by (λ n. n) 0 (ltb room owed) 10 (lt_decides room owed) none))

-- on table bytes
module _ (own : ℕ) (t : List ℕ) (p : Standing) (l m : List ℕ) (room : ℕ) (ho : own < platforms) (hn : p.next < 2 ^ 32) (o : Octets m) where
  abbrev s : Sections
  s = sections_in t

  abbrev replies : List OwedReply
  replies = owed_for own t s p (header_in m) (its_message m)

  abbrev K : Type 0
  K = IsKind2 t s (id_in m)

  module _ (e : checked t ≡ Ok s) (f : read_of own m ≡ reading_out m) where
    decided : Decides (is_answer t (operation_for t s (index_of t s) (header_in m) (its_message m)) (its_message m)) ((its_message m ≡ message.Operation) × K)
    decided = answer_decides t s e (header_in m) (its_message m)

    -- an ID of the table is owed no reply
    no-reply : (its_message m ≡ message.Operation) × K → replies ≡ []
    no-reply (k, (i, has, sent)) = rw (k, there t s e (id_in m) i has) refl

    receives : is_answer t (operation_for t s (index_of t s) (header_in m) (its_message m)) (its_message m) ≡ false
        → Receives own t s p m (header_in m) (its_message m)
    receives a =
        record {
          platform = ho;
          next = hn;
          bytes = o;
          table = e;
          start = header_length;
          len = payload_size_in m;
          read = f;
          no_response = λ k z. decided.no_is a (k, z);
        }

    fits-in-order : Answers (λ (n : ℕ). n) 0 (61 when NotAwaited K l m ∷ 10 when (room < reply_length * length replies) ∷ [])
        (given own t s (index_of t s) p l m room)
    unfolding receives
    fits-in-order =
        in_turn own t s (index_of t s) p l m room f K decided (reply_length * length replies)
        (λ a. ap (λ (x : List OwedReply). reply_length * length x) (no-reply (decided.yes_is a)))
        (λ a. its_length own t s p l m [] (header_in m) (its_message m) (receives a))

  message-in-order : checked t ≡ Ok s
      → Answers (λ (n : ℕ). n) 0 (read_checks own m ++ (61 when NotAwaited K l m ∷ 10 when (room < reply_length * length replies) ∷ []))
      (receive_number (received_by (Ok s) own t p l m room).answer)
  unfolding received_by outcome_of operation_in
  message-in-order e =
      then reading.Refused (reading_out m) (λ n. n) 0
      (λ (x : Reading). receive_number (outcome_of own t s (operation_in t s (index_of t s) x) p l x room).answer) (λ n. refl)
      (read_in_order own m) (fits-in-order e)

  received-in-order : Answers (λ (n : ℕ). n) 0 (receive_checks own t p l m room) (receive_number (received_of own t p l m room).answer)
  unfolding received_of received_by
  received-in-order =
      let f = λ (x : Result Sections Refusal). receive_number (received_by x own t p l m room).answer in
      then-each refused_by (Ok s) (λ n. n) 0 f (table_made f (λ n. n) t refl refl refl refl) (table_in_order t) message-in-order

pub receive_in_order : ReceiveInOrder
receive_in_order own t p l m room ho hn o = received-in-order own t p l m room ho hn o

-- on any sections and any index
module _ (own : ℕ) (t : List ℕ) (s : Sections) (index : List ℕ) (p : Standing) (l m : List ℕ) (room : ℕ) where
  abbrev F : Type 0
  F = FindsKind2 t s index (id_in m)

  decided-by : Decides (is_answer t (operation_for t s index (header_in m) (its_message m)) (its_message m)) ((its_message m ≡ message.Operation) × F)
  decided-by = found_decides t s index (header_in m) (its_message m)

  -- what is found is owed no reply
  no-reply-in : (its_message m ≡ message.Operation) × F → owed_in own t s index p m ≡ 0
  unfolding operation_for reaction_to on_operation
  no-reply-in (k, (i, q, f, _)) = rw (k, f) refl

  found-in-order : Answers (λ (n : ℕ). n) 0 (read_checks own m ++ (61 when NotAwaited F l m ∷ 10 when (room < owed_in own t s index p m) ∷ []))
      (receive_number (outcome_in own t s index p l m room).answer)
  unfolding outcome_of operation_in
  found-in-order =
      then reading.Refused (reading_out m) (λ n. n) 0 (λ (x : Reading). receive_number (outcome_of own t s (operation_in t s index x) p l x room).answer)
      (λ n. refl) (read_in_order own m)
      (λ e. in_turn own t s index p l m room e F decided-by (owed_in own t s index p m)
      (λ a. no-reply-in (decided-by.yes_is a)) (λ a. refl))

  sections_in_order : Answers (λ (n : ℕ). n) 0 (checked_checks own t s index p l m room) (receive_number (sections_outcome own t s index p l m room).answer)
  unfolding sections_outcome
  sections_in_order = go (within t s) refl
    where
      go : (b : Bool) → within t s ≡ b → Answers (λ (n : ℕ). n) 0 (checked_checks own t s index p l m room)
          (receive_number (cond b (outcome_in own t s index p l m room) (refused p 30)).answer)
      go true e = next (λ (z : ¬ (LieIn t s)). z ((lie_decides t s).yes_is e)) found-in-order
      go false e = this ((lie_decides t s).no_is e)

pub receive_checked_in_order : ReceiveCheckedInOrder
receive_checked_in_order own t s index p l m room = sections_in_order own t s index p l m room
