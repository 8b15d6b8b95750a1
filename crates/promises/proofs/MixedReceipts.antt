-- What receiving among partners of both issues comes to, on a table that `check` accepts: for a message of domain 1 under an ID of kind 2 or of
-- another, and for every other message.
-- Assumes nothing.
use Prim.Native.Nat.{ℕ, zero, suc, ◌-◌, ◌≤◌}
use Rattle.std.specs.Prelude.{Result, Ok}
use Rattle.refusal.specs.declared.Refusal.{Refusal}
use Rattle.std.specs.Prelude.{Option, Some}
use mathlib.Core.Path.{◌≡◌, refl, sym, ap, ◌∙◌}
use mathlib.Core.Bool.{Bool, true, false, cond}
use mathlib.Core.List.{List}
use native.Mathlib.Omega.{arith}
use borrow.Author.Tests.{eq-eqb, ne_eqb}
use lib.Dec.{eqb}
use lib.ListN.{length, drop, length-drop, replicate}
use lib.Seq.{take_all}
use Rattle.wire.specs.Bytes.{part}
use Rattle.wire.proofs.Cond.{yes-if, no-if}
use Rattle.wire.proofs.Runs.{part_in}
use Rattle.table.specs.declared.Sections.{Sections}
use Rattle.types.specs.Table.{checked}
use Rattle.operations.specs.Entries.{op_place}
use Rattle.message.specs.declared.Header.{Header}
use Rattle.message.specs.declared.Message.{Message}
use Rattle.message.specs.declared.Message.TheVariants as message
use Rattle.message3.specs.declared.Header3.{Header3}
use Rattle.message3.specs.declared.Message3.TheVariants as message3
use Rattle.message3.specs.declared.Reading3.{Reading3}
use Rattle.message3.specs.declared.Reading3.TheVariants as three
use Rattle.message3.specs.Header.{payload_size_in3}
use Rattle.message3.specs.Refusal.{read_refusal3}
use Rattle.message3.specs.Reading.{read_out3, answered3, read_of3}
use Rattle.message3.proofs.Accepted.{Readable}
use Rattle.pending.specs.Answers.{is_response, responded}
use Rattle.platform.specs.declared.reactions.Standing.{Standing}
use Rattle.platform.specs.declared.Noting.TheVariants as noting
use Rattle.platform.specs.Reaction.{on_operation, reaction_to}
use Rattle.platform.specs.Receiving.{is_sent, refused, response_to, index_of, received_of, left_of, list_after}
use Rattle.mixed.specs.declared.AnyReading.TheVariants as reading
use Rattle.mixed.specs.declared.AnyReceived.{AnyReceived}
use Rattle.mixed.specs.Reading.{any_of}
use Rattle.mixed.specs.Reaction.{operation_for3, commonly, reaction3}
use Rattle.mixed.specs.Replies.{room_for}
use Rattle.mixed.specs.Keeping.{kept_number}
use Rattle.mixed.specs.Receiving.{from_received, refused_any, is_answer3, delivered3, response_to3, settled3}
use Rattle.mixed.specs.Receiving.{any_outcome_of, any_output_of, any_list_of, any_words_of}
use Rattle.mixed.specs.Tables.{answer_if, out_if, pending_if, words_if}
use Rattle.mixed.proofs.Issues.{three-readable}
use Rattle.mixed.proofs.NoCrossing.{six_is_six, three_is_three}
use Rattle.promises.specs.RequestCalls.{HasKind}
use Rattle.promises.specs.MixedResponses.{ToReceive, our_any_receiving, AnyHeader, of_six_header, of_three_header, id_of, number_of, sender_of, start_of}
use Rattle.promises.specs.MixedResponses.{response_as, operation_as, ComesAs}
use Rattle.promises.proofs.RequestTables.{finds}
use Rattle.promises.proofs.RequestReceipts.{sent_by, has_room, in-outcome, in-output, in_list, by-list, output-stays, list-by}
use Rattle.promises.proofs.RequestReceipts.{as-operation}
use Rattle.promises.proofs.Replying.{its-payload}

-- where the payload of a message stands
abbrev len_in : Reading3 → ℕ
len_in (three.Refused n) = 0
len_in (three.Read h m start len) = len

abbrev start_in : Reading3 → ℕ
start_in (three.Refused n) = 0
start_in (three.Read h m start len) = start

abbrev is_in : Reading3 → ℕ
is_in (three.Refused n) = 0
is_in (three.Read h m start len) = 1

pub payload_3 : (own : ℕ) (m : List ℕ) (h : Header3) (start len : ℕ) → read_of3 own m ≡ three.Read h message3.Operation start len
    → (len ≡ length m - 24) × (start ≡ 24) × (24 ≤ length m)
payload_3 own m h start len e =
    let r : Readable own m = three-readable own m h message3.Operation start len e in
    (sym out-read.1 ∙ r.size, sym out-read.0, r.long)
  where
    go : (n : ℕ) → answered3 n (read_out3 m) ≡ three.Read h message3.Operation start len → (24 ≡ start) × (payload_size_in3 m ≡ len)
    go zero q = (ap start_in q, ap len_in q)
    go (suc n) q = let z : ◌≡◌ {A = ℕ} 0 1 = ap is_in q in absurd (omega arith)

    out-read : (24 ≡ start) × (payload_size_in3 m ≡ len)
    out-read = go (read_refusal3 own m) e

pub all_behind : (m : List ℕ) (n : ℕ) → n ≤ length m → part m n (length m - n) ≡ drop n m
all_behind m n long = part_in m n (length m - n) (omega arith) ∙ take_all (length m - n) (drop n m) (omega (arith, length-drop n m))

-- what a message of kind 2 is by the list, in either issue
abbrev pub judged_as : List ℕ → Standing → AnyHeader → ℕ → ℕ → AnyReceived
judged_as l p h i len =
    cond (is_response l (number_of h) (id_of h) (sender_of h)) (record { standing = p; answer = response_as h i len }) (refused_any p 61)

module _ (x : ToReceive) (s : Sections) (e : checked x.table ≡ Ok s) where
  abbrev pub index : List ℕ
  index = index_of x.table s

  pub outcome-by : (p : Standing) (l : List ℕ) → our_any_receiving.outcome x p l
      ≡ any_outcome_of x.own x.partners x.ours x.table s index p l x.services x.bytes (length x.out)
      (any_of x.partners x.own x.bytes)
  unfolding answer_if
  outcome-by p l =
      ap (λ (c : Result Sections Refusal). answer_if c x.own x.partners x.ours x.table p l x.services x.bytes (length x.out)) e

  pub output-by : (p : Standing) (l : List ℕ) → our_any_receiving.output x p l
      ≡ any_output_of x.own x.stamp x.composite x.partners x.ours x.table s index p x.services x.bytes x.out
      (any_of x.partners x.own x.bytes)
  unfolding out_if
  output-by p l =
      ap (λ (c : Result Sections Refusal). out_if c x.own x.stamp x.composite x.partners x.ours x.table p x.services x.bytes x.out) e

  pub list-is : (p : Standing) (l : List ℕ) → our_any_receiving.list x p l
      ≡ any_list_of x.own x.table s index l x.bytes (any_of x.partners x.own x.bytes)
  unfolding pending_if
  list-is p l = ap (λ (c : Result Sections Refusal). pending_if c x.own x.partners x.table l x.bytes) e

  pub kept_by : (p : Standing) (l : List ℕ) → our_any_receiving.kept x p l
      ≡ any_words_of x.own x.partners x.ours x.table s index p x.services x.bytes (length x.out)
      (any_of x.partners x.own x.bytes)
  unfolding words_if
  kept_by p l =
      ap (λ (c : Result Sections Refusal). words_if c x.own x.partners x.ours x.table p x.services x.bytes (length x.out)) e

  -- of Issue 6: as the call of before
  module _ (h : Header) (k : Message) (start len : ℕ) (r : any_of x.partners x.own x.bytes ≡ reading.Six h k start len) where
    pub six-outcome : (p : Standing) (l : List ℕ) → our_any_receiving.outcome x p l
        ≡ from_received (received_of x.own x.table p l x.bytes (length x.out))
    unfolding any_outcome_of
    six-outcome p l =
        outcome-by p l
        ∙ ap (any_outcome_of x.own x.partners x.ours x.table s index p l x.services x.bytes (length x.out)) r
        ∙ ap from_received (sym (in-outcome x.own x.table s e x.bytes p l (length x.out)))

    pub six-output : (p : Standing) (l : List ℕ) → our_any_receiving.output x p l ≡ left_of x.own x.table p x.bytes x.out
    unfolding any_output_of
    six-output p l =
        output-by p l
        ∙ ap (any_output_of x.own x.stamp x.composite x.partners x.ours x.table s index p x.services x.bytes x.out) r
        ∙ sym (in-output x.own x.table s e x.bytes p x.out)

    pub six-list : (p : Standing) (l : List ℕ) → our_any_receiving.list x p l ≡ list_after x.own x.table l x.bytes
    unfolding any_list_of
    six-list p l =
        list-is p l ∙ ap (any_list_of x.own x.table s index l x.bytes) r ∙ sym (in_list x.own x.table s e x.bytes l)

    pub six-kept : (p : Standing) (l : List ℕ) → our_any_receiving.kept x p l ≡ x.services
    unfolding any_words_of
    six-kept p l =
        kept_by p l
        ∙ ap (any_words_of x.own x.partners x.ours x.table s index p x.services x.bytes (length x.out)) r

  -- of Issue 3, domain 1, under an ID of this kind
  module _ (h : Header3) (kind i len : ℕ) (r : any_of x.partners x.own x.bytes ≡ reading.Three h message3.Operation 24 len)
      (has : HasKind x.table s h.id kind i) where
    abbrev entry : Option (ℕ × ℕ)
    entry = Some (i, op_place x.table s.operations.at i)

    its-entry : operation_for3 x.table s index h message3.Operation ≡ entry
    unfolding operation_for3
    its-entry = finds x.table s e (replicate 1024 0) (has_room x.own x.table s e x.bytes) h.id kind i has

    pub answers-so : is_answer3 x.table (operation_for3 x.table s index h message3.Operation) message3.Operation ≡ eqb kind 2
    unfolding is_answer3
    answers-so = ap (is_sent x.table) its-entry ∙ sent_by x.table entry ∙ ap (λ (k : ℕ). eqb k 2) has.kinded

    module _ (two : kind ≡ 2) where
      yes : is_answer3 x.table (operation_for3 x.table s index h message3.Operation) message3.Operation ≡ true
      yes = answers-so ∙ eq-eqb kind 2 two

      pub three-judged : (p : Standing) (l : List ℕ) → our_any_receiving.outcome x p l ≡ judged_as l p (of_three_header h) i len
      unfolding any_outcome_of response_to3
      three-judged p l =
          outcome-by p l
          ∙ ap (any_outcome_of x.own x.partners x.ours x.table s index p l x.services x.bytes (length x.out)) r
          ∙ yes-if {A = AnyReceived} _ _ yes
          ∙ ap (λ (f : Option (ℕ × ℕ)). cond (is_response l h.sequence h.id h.platform) (delivered3 f p h 24 len) (refused_any p 61)) its-entry

      pub three-output : (p : Standing) (l : List ℕ) → our_any_receiving.output x p l ≡ x.out
      unfolding any_output_of
      three-output p l =
          output-by p l
          ∙ ap (any_output_of x.own x.stamp x.composite x.partners x.ours x.table s index p x.services x.bytes x.out) r
          ∙ yes-if x.out _ yes

      pub three-list : (p : Standing) (l : List ℕ) → our_any_receiving.list x p l ≡ responded l h.sequence h.id h.platform
      unfolding any_list_of
      three-list p l =
          list-is p l ∙ ap (any_list_of x.own x.table s index l x.bytes) r
          ∙ yes-if (responded l h.sequence h.id h.platform) l yes

      pub three-kept : (p : Standing) (l : List ℕ) → our_any_receiving.kept x p l ≡ x.services
      unfolding any_words_of
      three-kept p l =
          kept_by p l
          ∙ ap (any_words_of x.own x.partners x.ours x.table s index p x.services x.bytes (length x.out)) r
          ∙ yes-if x.services _ yes

    module _ (not-two : kind ≡ 2 → ⊥) where
      no : is_answer3 x.table (operation_for3 x.table s index h message3.Operation) message3.Operation ≡ false
      no = answers-so ∙ ne_eqb kind 2 not-two

      pub three-heard : (p : Standing) (l : List ℕ)
          → our_any_receiving.outcome x p l ≡ record { standing = p; answer = operation_as (of_three_header h) i len }
      unfolding any_outcome_of settled3 reaction3 commonly reaction_to on_operation room_for kept_number
      three-heard p l =
          outcome-by p l
          ∙ ap (any_outcome_of x.own x.partners x.ours x.table s index p l x.services x.bytes (length x.out)) r
          ∙ no-if {A = AnyReceived} _ _ no
          ∙ ap
          (λ (f : Option (ℕ × ℕ)).
          settled3 x.partners x.ours p h (reaction3 x.own x.ours x.table s f p h message3.Operation 24 len) (part x.bytes 24 len)
          x.services (length x.out))
          its-entry

-- of either issue
module _ (x : ToReceive) (s : Sections) where
  by_issue : (b : Bool) (p : Standing) (h : Header) (i len : ℕ)
      → from_received (cond b (record { standing = p; answer = noting.Response h i 20 len }) (refused p 61))
      ≡ cond b (record { standing = p; answer = response_as (of_six_header h) i len }) (refused_any p 61)
  by_issue true p h i len = refl
  by_issue false p h i len = refl

  module _ (i len : ℕ) where
    pub judged : (h : AnyHeader) → ComesAs x s h 2 i len → (p : Standing) (l : List ℕ) → our_any_receiving.outcome x p l ≡ judged_as l p h i len
    unfolding response_to
    judged (of_six_header h) c p l =
        let r = (six_is_six x.partners x.own x.bytes h message.Operation 20 len c.read).2 in
        six-outcome x s c.is_table h message.Operation 20 len c.read p l
        ∙ ap from_received (by-list x.own x.table s c.is_table x.bytes h 2 i len r c.has refl p l (length x.out))
        ∙ by_issue (is_response l h.sequence h.id h.platform) p h i len
    judged (of_three_header h) c p l = three-judged x s c.is_table h 2 i len c.read c.has refl p l

    pub out_stays : (h : AnyHeader) → ComesAs x s h 2 i len → (p : Standing) (l : List ℕ) → our_any_receiving.output x p l ≡ x.out
    out_stays (of_six_header h) c p l =
        let r = (six_is_six x.partners x.own x.bytes h message.Operation 20 len c.read).2 in
        six-output x s c.is_table h message.Operation 20 len c.read p l
        ∙ output-stays x.own x.table s c.is_table x.bytes h 2 i len r c.has refl p x.out
    out_stays (of_three_header h) c p l = three-output x s c.is_table h 2 i len c.read c.has refl p l

    pub listed_by : (h : AnyHeader) → ComesAs x s h 2 i len → (p : Standing) (l : List ℕ)
        → our_any_receiving.list x p l ≡ responded l (number_of h) (id_of h) (sender_of h)
    listed_by (of_six_header h) c p l =
        let r = (six_is_six x.partners x.own x.bytes h message.Operation 20 len c.read).2 in
        six-list x s c.is_table h message.Operation 20 len c.read p l
        ∙ list-by x.own x.table s c.is_table x.bytes h 2 i len r c.has refl l
    listed_by (of_three_header h) c p l = three-list x s c.is_table h 2 i len c.read c.has refl p l

    pub words_stay : (h : AnyHeader) → ComesAs x s h 2 i len → (p : Standing) (l : List ℕ) → our_any_receiving.kept x p l ≡ x.services
    words_stay (of_six_header h) c p l = six-kept x s c.is_table h message.Operation 20 len c.read p l
    words_stay (of_three_header h) c p l = three-kept x s c.is_table h 2 i len c.read c.has refl p l

  -- its payload is all behind its header
  pub its-size : (h : AnyHeader) (kind i len : ℕ) → ComesAs x s h kind i len → (len ≡ length x.bytes - start_of h) × (start_of h ≤ length x.bytes)
  its-size (of_six_header h) kind i len c =
      let r = (six_is_six x.partners x.own x.bytes h message.Operation 20 len c.read).2 in
      let y = its-payload x.own x.bytes h message.Operation 20 len r in
      (y.1, y.2)
  its-size (of_three_header h) kind i len c =
      let r = (three_is_three x.partners x.own x.bytes h message3.Operation 24 len c.read).2 in
      let y = payload_3 x.own x.bytes h 24 len r in
      (y.0, y.2)

  -- any other kind: the operation of its entry
  pub heard-as : (h : AnyHeader) (kind i len : ℕ) → ComesAs x s h kind i len → (kind ≡ 2 → ⊥) → (p : Standing) (l : List ℕ)
      → our_any_receiving.outcome x p l ≡ record { standing = p; answer = operation_as h i len }
  heard-as (of_six_header h) kind i len c d p l =
      let r = (six_is_six x.partners x.own x.bytes h message.Operation 20 len c.read).2 in
      six-outcome x s c.is_table h message.Operation 20 len c.read p l
      ∙ ap from_received (as-operation x.own x.table s c.is_table x.bytes h kind i len r c.has d p l (length x.out))
  heard-as (of_three_header h) kind i len c d p l = three-heard x s c.is_table h kind i len c.read c.has d p l
