-- What receiving comes to, on a table that `check` accepts: for a message of domain 1 under an ID of kind 2, and for every other.
-- Assumes nothing.
use Prim.Native.Nat.{ℕ, zero, suc, ◌^◌, ◌≤◌, ◌<◌}
use Rattle.std.specs.Prelude.{Result, Ok}
use Rattle.refusal.specs.declared.Refusal.{Refusal}
use Rattle.std.specs.Prelude.{Option, Some, None}
use mathlib.Core.Path.{◌≡◌, refl, sym, ap, ap₂, subst, ◌∙◌}
use mathlib.Core.Bool.{Bool, true, false, cond}
use mathlib.Core.List.{List}
use native.Mathlib.Omega.{arith}
use borrow.Author.Tests.{eqb-true, eqb-false, eq-eqb, ne_eqb}
use lib.Dec.{eqb, ltb}
use lib.ListN.{length, replicate, length-replicate}
use Rattle.wire.proofs.Cond.{yes-if, no-if, no_lt}
use Rattle.wire.specs.Bytes.{number}
use Rattle.table.specs.declared.Sections.{Sections}
use Rattle.types.specs.Table.{checked}
use Rattle.types.proofs.Accepted.{accepted}
use Rattle.operations.specs.Entries.{op_place}
use Rattle.operations.specs.Search.{sought_in}
use Rattle.message.specs.declared.Header.{Header}
use Rattle.message.specs.declared.Status.{Status}
use Rattle.message.specs.declared.Status.TheVariants.{Down, Up}
use Rattle.message.specs.declared.Message.{Message}
use Rattle.message.specs.declared.Message.TheVariants as message
use Rattle.message.specs.declared.Reading.{Reading}
use Rattle.message.specs.declared.Reading.TheVariants as reading
use Rattle.message.specs.Header.{domain_in, id_in, payload_size_in, payload_in, header_in}
use Rattle.message.specs.Platform.{message_of}
use Rattle.message.specs.Refusal.{read_refusal, platforms}
use Rattle.message.specs.Reading.{reading_out, answered, read_of}
use Rattle.pending.specs.Answers.{is_response}
use Rattle.states.specs.States.{stands_up}
use Rattle.platform.specs.declared.reactions.Standing.{Standing}
use Rattle.platform.specs.declared.reactions.Heard.TheVariants as heard
use Rattle.platform.specs.declared.Noting.TheVariants.{Noted}
use Rattle.platform.specs.declared.Received.{Received}
use Rattle.platform.specs.Replies.{all_data, owed_length, owed_bytes}
use Rattle.platform.specs.Reaction.{operation_for, operation_in, is_data, some_data, silent, noted, coming_up, on_state, on_status, not_versioned}
use Rattle.platform.specs.Reaction.{on_pull_all, on_pull_one, on_pull, on_operation, reaction_to}
use Rattle.platform.specs.Receiving.{refused, taken, is_sent, is_answer, delivered, response_to, list_answered, outcome_of, output_of, list_of, index_of}
use Rattle.platform.specs.Receiving.{received_by, received_of, left_if, left_of, list_if, list_after}
use Rattle.platform.specs.Receiving as receiving
use Rattle.promises.specs.RequestCalls.{HasKind, kind_found, kind_in}
use Rattle.promises.specs.RequestRuns.{Responds}
use Rattle.promises.proofs.RequestTables.{finds, its-kind, has-kind}

pub sent_by : (t : List ℕ) (x : Option (ℕ × ℕ)) → is_sent t x ≡ eqb (kind_found t x) 2
unfolding is_sent
sent_by t (Some (i, p)) = refl
sent_by t None = refl

-- whether a message that was read answers a request of ours
abbrev pub answers_in : List ℕ → Option (ℕ × ℕ) → Reading → Bool
answers_in t f (reading.Refused n) = false
answers_in t f (reading.Read h m start len) = is_answer t f m

module _ (own : ℕ) (t : List ℕ) (s : Sections) (f : Option (ℕ × ℕ)) where
  no-list-outcome : (p : Standing) (x : Reading) (l k : List ℕ) (room : ℕ) → answers_in t f x ≡ false
      → outcome_of own t s f p l x room ≡ outcome_of own t s f p k x room
  unfolding outcome_of
  no-list-outcome p (reading.Refused n) l k room e = refl
  no-list-outcome p (reading.Read h m start len) l k room e = no-if {A = Received} _ _ e ∙ sym (no-if {A = Received} _ _ e)

  no-list : (x : Reading) (l : List ℕ) → answers_in t f x ≡ false → list_of t f l x ≡ l
  unfolding list_of
  no-list (reading.Refused n) l e = refl
  no-list (reading.Read h m start len) l e = no-if _ _ e

module _ (own : ℕ) (t : List ℕ) (s : Sections) (f : Option (ℕ × ℕ)) (p : Standing) (fits : p.next < 2 ^ 32) where
  status-next : (sender : ℕ) (x : Status) → (on_status own p sender x).standing.next < 2 ^ 32
  unfolding on_status on_state coming_up
  status-next sender Up = go (ltb sender platforms) (stands_up own p.states sender)
    where
      go : (a b : Bool) → (cond a (cond b (silent p (heard.Status Up)) (coming_up p sender)) (silent p (heard.Status Up))).standing.next < 2 ^ 32
      go true true = fits
      go true false = omega arith
      go false b = fits
  status-next sender Down = go (ltb sender platforms) (stands_up own p.states sender)
    where
      go : (a b : Bool)
          → (cond a (cond b (silent (noted p sender p.next) (heard.Status Down)) (silent p (heard.Status Down))) (silent p (heard.Status Down))
          ).standing.next < 2 ^ 32
      go true true = fits
      go true false = fits
      go false b = fits

  pull-next : (n id : ℕ) → (on_pull t s f p n id).standing.next < 2 ^ 32
  unfolding on_pull on_pull_all on_pull_one
  pull-next n id = go (eqb id all_data) (some_data t s) f
    where
      one : (y : Option (ℕ × ℕ)) → (on_pull_one t y p n id).standing.next < 2 ^ 32
      one (Some (i, q)) = either (is_data t q)
        where
          either : (c : Bool) → (cond c (silent p (heard.PullOfOne id i)) (not_versioned p n id)).standing.next < 2 ^ 32
          either true = fits
          either false = fits
      one None = fits

      go : (a b : Bool) (y : Option (ℕ × ℕ))
          → (cond a (cond b (silent p heard.PullOfAll) (not_versioned p n all_data)) (on_pull_one t y p n id)).standing.next < 2 ^ 32
      go true true y = fits
      go true false y = fits
      go false b y = one y

  reaction-next : (h : Header) (m : Message) (start len : ℕ) → (reaction_to own t s f p h m start len).standing.next < 2 ^ 32
  unfolding reaction_to on_operation
  reaction-next h (message.PlatformStatus x) start len = status-next h.platform x
  reaction-next h message.PlatformStatusRequest start len = fits
  reaction-next h (message.UnknownOperation id) start len = fits
  reaction-next h (message.VersionedDataPull id) start len = pull-next h.sequence id
  reaction-next h message.Operation start len = go f
    where
      go : (y : Option (ℕ × ℕ)) → (on_operation y p h start len).standing.next < 2 ^ 32
      go (Some (i, q)) = fits
      go None = fits

  outcome-next : (l : List ℕ) (x : Reading) (room : ℕ) → (outcome_of own t s f p l x room).standing.next < 2 ^ 32
  unfolding outcome_of response_to receiving.answered
  outcome-next l (reading.Refused n) room = fits
  outcome-next l (reading.Read h m start len) room = go (is_answer t f m) (is_response l h.sequence h.id h.platform)
    where
      fit : (c : Bool) → (cond c (refused p 10) (taken h (reaction_to own t s f p h m start len) (owed_length (reaction_to own t s f p h m start len).owed))
          ).standing.next < 2 ^ 32
      fit true = fits
      fit false = reaction-next h m start len

      go : (a b : Bool) → (cond a (cond b (delivered f p h start len) (refused p 61)) (receiving.answered p h (reaction_to own t s f p h m start len) room)
          ).standing.next < 2 ^ 32
      go true true = fits
      go true false = fits
      go false b = fit (ltb room (owed_length (reaction_to own t s f p h m start len).owed))

module _ (own : ℕ) (t : List ℕ) (s : Sections) (e : checked t ≡ Ok s) (bytes : List ℕ) where
  abbrev pub found : Option (ℕ × ℕ)
  found = operation_in t s (index_of t s) (read_of own bytes)

  abbrev pub zeros : List ℕ
  zeros = replicate 1024 0

  pub has_room : s.operations.count ≤ length zeros
  has_room =
      let n : length zeros ≡ 1024 = length-replicate {A = ℕ} 1024 0 in
      omega (arith, (accepted t s e).lie.operations.few)

  pub in-outcome : (p : Standing) (l : List ℕ) (room : ℕ) → received_of own t p l bytes room ≡ outcome_of own t s found p l (read_of own bytes) room
  unfolding received_of received_by
  in-outcome p l room = ap (λ (c : Result Sections Refusal). received_by c own t p l bytes room) e

  pub in-output : (p : Standing) (out : List ℕ) → left_of own t p bytes out ≡ output_of own t s found p (read_of own bytes) out
  unfolding left_of left_if
  in-output p out = ap (λ (c : Result Sections Refusal). left_if c own t p bytes out) e

  pub in_list : (l : List ℕ) → list_after own t l bytes ≡ list_of t found l (read_of own bytes)
  unfolding list_after list_if
  in_list l = ap (λ (c : Result Sections Refusal). list_if c own t l bytes) e

  -- a message of domain 1 under an ID of this kind
  module _ (h : Header) (kind i len : ℕ) (read : read_of own bytes ≡ reading.Read h message.Operation 20 len)
      (has : HasKind t s h.id kind i) where
    abbrev entry : Option (ℕ × ℕ)
    entry = Some (i, op_place t s.operations.at i)

    found_entry : found ≡ entry
    unfolding operation_in operation_for
    found_entry = ap (operation_in t s (index_of t s)) read ∙ finds t s e zeros has_room h.id kind i has

    entry-sent : is_answer t entry message.Operation ≡ eqb kind 2
    unfolding is_answer
    entry-sent = sent_by t entry ∙ ap (λ (k : ℕ). eqb k 2) has.kinded

    pub its-outcome : (p : Standing) (l : List ℕ) (room : ℕ)
        → received_of own t p l bytes room ≡ outcome_of own t s entry p l (reading.Read h message.Operation 20 len) room
    its-outcome p l room =
        in-outcome p l room ∙ ap₂ (λ (f : Option (ℕ × ℕ)) (x : Reading). outcome_of own t s f p l x room) found_entry read

    pub its-output : (p : Standing) (out : List ℕ)
        → left_of own t p bytes out ≡ output_of own t s entry p (reading.Read h message.Operation 20 len) out
    its-output p out = in-output p out ∙ ap₂ (λ (f : Option (ℕ × ℕ)) (x : Reading). output_of own t s f p x out) found_entry read

    pub its-list : (l : List ℕ) → list_after own t l bytes ≡ list_of t entry l (reading.Read h message.Operation 20 len)
    its-list l = in_list l ∙ ap₂ (λ (f : Option (ℕ × ℕ)) (x : Reading). list_of t f l x) found_entry read

    -- kind 2: it is judged by the list
    module _ (two : kind ≡ 2) where
      sent-so : is_answer t entry message.Operation ≡ true
      sent-so = entry-sent ∙ eq-eqb kind 2 two

      pub by-list : (p : Standing) (l : List ℕ) (room : ℕ) → received_of own t p l bytes room ≡ response_to l entry p h 20 len
      unfolding outcome_of
      by-list p l room = its-outcome p l room ∙ yes-if {A = Received} _ _ sent-so

      pub output-stays : (p : Standing) (out : List ℕ) → left_of own t p bytes out ≡ out
      unfolding output_of
      output-stays p out = its-output p out ∙ yes-if out _ sent-so

      pub list-by : (l : List ℕ) → list_after own t l bytes ≡ list_answered l h
      unfolding list_of
      list-by l = its-list l ∙ yes-if (list_answered l h) l sent-so

    -- any other kind: it is the operation of its entry, and nothing is owed
    module _ (not-two : kind ≡ 2 → ⊥) where
      not-sent : is_answer t entry message.Operation ≡ false
      not-sent = entry-sent ∙ ne_eqb kind 2 not-two

      pub as-operation : (p : Standing) (l : List ℕ) (room : ℕ)
          → received_of own t p l bytes room ≡ record { standing = p; answer = Noted h (heard.Operation i 20 len) 0 }
      unfolding outcome_of reaction_to on_operation receiving.answered
      as-operation p l room = its-outcome p l room ∙ no-if {A = Received} _ _ not-sent ∙ no_lt {A = Received} _ _ room 0 (omega arith)

      pub nothing_owed : (p : Standing) (out : List ℕ) → left_of own t p bytes out ≡ out
      unfolding output_of reaction_to on_operation receiving.laid_out owed_bytes
      nothing_owed p out = its-output p out ∙ no-if out _ not-sent ∙ no_lt out out (length out) 0 (omega arith)

      pub not_listed : (l : List ℕ) → list_after own t l bytes ≡ l
      unfolding list_of
      not_listed l = its-list l ∙ no-if (list_answered l h) l not-sent

  -- what a message is: under an ID of kind 2, or any other, and then no list is asked
  pub data Receipt : Type 0 where
    response : (h : Header) (i len : ℕ) → Responds own t s bytes h i len → Receipt
    other : ((h : Header) (i len : ℕ) → ¬ (Responds own t s bytes h i len)) → answers_in t found (read_of own bytes) ≡ false → Receipt

  pub receipt : Receipt
  unfolding is_answer operation_in operation_for
  receipt = go (read_refusal own bytes) refl
    where
      unread : (n : ℕ) → read_of own bytes ≡ reading.Refused n → (h : Header) (i len : ℕ) → ¬ (Responds own t s bytes h i len)
      unread n q h i len r =
          let d : reading.Refused n ≡ reading.Read h message.Operation 20 len = sym q ∙ r.read in
          let z : ◌≡◌ {A = ℕ} 0 1 = cc in
          omega arith

      kind : ℕ
      kind = kind_in t s zeros (id_in bytes)

      operation : read_of own bytes ≡ reading.Read (header_in bytes) message.Operation 20 (payload_size_in bytes)
          → (b : Bool) → eqb (kind_in t s zeros (id_in bytes)) 2 ≡ b → Receipt
      operation q true d =
          let k : (i : ℕ) × HasKind t s (id_in bytes) 2 i =
          has-kind t s e zeros has_room (id_in bytes) (eqb-true (kind_in t s zeros (id_in bytes)) 2 d) in
          response (header_in bytes) k.0 (payload_size_in bytes) (record { read = q; request = k.1 })
      operation q false d =
          other
          (λ h i len r.
          let g : reading.Read h message.Operation 20 len ≡ reading.Read (header_in bytes) message.Operation 20 (payload_size_in bytes) = sym r.read ∙ q in
          let w : h ≡ header_in bytes = cc in
          eqb-false (kind_in t s zeros (id_in bytes)) 2 d
          (ap (λ (x : Header). kind_in t s zeros x.id) (sym w) ∙ its-kind t s e zeros has_room h.id 2 i r.request))
          (ap (λ (x : Reading). answers_in t (operation_in t s (index_of t s) x) x) q
          ∙ sent_by t (sought_in t (index_of t s) s.operations.count (id_in bytes)) ∙ d)

      another : (m : Message) → ((n : Header) (k a b : ℕ) (h : Header) → reading.Read n m k a ≡ reading.Read h message.Operation 20 b → ⊥)
          → ((f : Option (ℕ × ℕ)) → is_answer t f m ≡ false)
          → read_of own bytes ≡ reading.Read (header_in bytes) m 20 (payload_size_in bytes) → Receipt
      another m d n q =
          other (λ h i len r. d (header_in bytes) 20 (payload_size_in bytes) len h (sym q ∙ r.read))
          (ap (answers_in t found) q ∙ n found)

      on : (m : Message) → read_of own bytes ≡ reading.Read (header_in bytes) m 20 (payload_size_in bytes) → Receipt
      on (message.PlatformStatus x) q =
          another (message.PlatformStatus x) (λ n k a b h d. let z : ◌≡◌ {A = ℕ} 0 1 = cc in omega arith) (λ f. refl) q
      on message.PlatformStatusRequest q =
          another message.PlatformStatusRequest (λ n k a b h d. let z : ◌≡◌ {A = ℕ} 0 1 = cc in omega arith) (λ f. refl) q
      on (message.UnknownOperation id) q =
          another (message.UnknownOperation id) (λ n k a b h d. let z : ◌≡◌ {A = ℕ} 0 1 = cc in omega arith) (λ f. refl) q
      on (message.VersionedDataPull id) q =
          another (message.VersionedDataPull id) (λ n k a b h d. let z : ◌≡◌ {A = ℕ} 0 1 = cc in omega arith) (λ f. refl) q
      on message.Operation q = operation q (eqb (kind_in t s zeros (id_in bytes)) 2) refl

      go : (n : ℕ) → read_refusal own bytes ≡ n → Receipt
      go (suc n) q = other (unread (suc n) (ap (λ (k : ℕ). answered k (reading_out bytes)) q)) (ap (λ (k : ℕ). answers_in t found (answered k (reading_out bytes))) q)
      go zero q = on (message_of (domain_in bytes) (id_in bytes) (number 2 (payload_in bytes) 0)) (ap (λ (k : ℕ). answered k (reading_out bytes)) q)

  module _ (quiet : answers_in t found (read_of own bytes) ≡ false) where
    pub as-if-empty : (p : Standing) (l k : List ℕ) (room : ℕ) → received_of own t p l bytes room ≡ received_of own t p k bytes room
    as-if-empty p l k room = in-outcome p l room ∙ no-list-outcome own t s found p (read_of own bytes) l k room quiet ∙ sym (in-outcome p k room)

    pub list-stays : (l : List ℕ) → list_after own t l bytes ≡ l
    list-stays l = in_list l ∙ no-list own t s found (read_of own bytes) l quiet

  -- the next own number stays one of 32 bits
  pub next_fits : (p : Standing) (l : List ℕ) (room : ℕ) → p.next < 2 ^ 32 → (received_of own t p l bytes room).standing.next < 2 ^ 32
  next_fits p l room h =
      subst (λ (x : Received). x.standing.next < 2 ^ 32) (sym (in-outcome p l room)) (outcome-next own t s found p h l (read_of own bytes) room)
