-- What a call for one message notes and writes: the replies that are owed, as their receiver reads them.
-- Assumes nothing.
use Prim.Native.Nat.{ℕ, ◌+◌, ◌-◌, ◌*◌, ◌^◌, ◌≤◌, ◌<◌}
use Rattle.std.specs.Prelude.{Result}
use Rattle.refusal.specs.declared.Refusal.{Refusal}
use Rattle.std.specs.Prelude.{Option}
use mathlib.Core.Path.{◌≡◌, refl, sym, ap, subst, ◌∙◌}
use mathlib.Core.Bool.{Bool, true, false, cond}
use mathlib.Core.List.{List, [], ◌∷◌, map}
use native.Mathlib.Omega.{arith}
use borrow.Author.Tests.{le-ltb}
use lib.ListN.{length, take, drop, length-map}
use lib.Seq.{take_at, drop_at}
use Rattle.wire.specs.Bytes.{span, number, over, part}
use Rattle.wire.proofs.Numbers.{number_lt, octets_drop}
use Rattle.wire.proofs.Runs.{length_over, part_in}
use Rattle.wire.proofs.Cond.{yes_lt, no_lt, no-if}
use Rattle.table.specs.declared.Sections.{Sections}
use Rattle.message.specs.declared.Header.{Header}
use Rattle.message.specs.declared.Message.{Message}
use Rattle.message.specs.declared.Message.TheVariants as message
use Rattle.message.specs.declared.Reading.{Reading}
use Rattle.message.specs.declared.Reading.TheVariants as reading
use Rattle.message.specs.Header.{header_length, domain_in, id_in, payload_size_in, payload_in, header_in}
use Rattle.message.specs.Platform.{message_of}
use Rattle.message.specs.Refusal.{platforms, no_room, read_refusal}
use Rattle.message.specs.Reading.{reading_out, read_of}
use Rattle.message.proofs.Accepted.{Readable, readable}
use Rattle.platform.specs.declared.reactions.Standing.{Standing}
use Rattle.platform.specs.declared.Noting.TheVariants.{Refused, Noted}
use Rattle.platform.specs.declared.Received.{Received}
use Rattle.states.specs.States.{stands_up}
use Rattle.platform.specs.Replies.{reply_bytes, reply_header, Wide, replies, Each, owed_bytes, owed_length}
use Rattle.platform.specs.Reaction.{operation_for, operation_in}
use Rattle.platform.specs.Receiving.{refused, taken, answered, laid_out, is_answer, response_to, list_answered, outcome_of, output_of, list_of, index_of}
use Rattle.platform.specs.Receiving.{received_by, received_of, left_if, left_of, list_if, list_after}
use Rattle.platform.specs.Noting.{bytes_in}
use Rattle.platform.specs.Exchange.{written, sent_of}
use Rattle.platform.proofs.ReplyBytes.{length_reply, length_owed}
use Rattle.platform.proofs.Unchanged.{all_bytes, written-is-sent}
use Rattle.platform.proofs.ReadBack.{reply_reads_back}
use Rattle.promises.specs.Platforms.{owed_for, reply_length, AreReplies, Receives, Notes}
use Rattle.promises.proofs.Headers.{was_read, header_read}
use Rattle.platform.specs.declared.reactions.Reply.{Reply}
use Rattle.platform.specs.declared.reactions.Reaction.{Reaction}
use Rattle.promises.specs.Reports.{Reports}
use Rattle.promises.proofs.ByID.{looked}
use Rattle.promises.proofs.Kind2.{answer_decides}
use Rattle.promises.proofs.Reporting.{reports}
use Rattle.promises.proofs.Reacting.{said, field_of, X, Reacts, reacts, field_le}

-- replies one behind another, as they are read
module _ (own reader : ℕ) (ho : own < platforms) (other : own ≡ reader → ⊥) where
  are-replies : (rs : List Reply) → Each (λ r. Wide r) rs → AreReplies reader own (all_bytes own rs) (map said rs)
  are-replies [] w = refl
  are-replies (r ∷ rs) w =
      let l : length (reply_bytes own r) ≡ reply_length = length_reply own r in (
        record {
          header = reply_header own r;
          reads = ap (read_of reader) (take_at (reply_bytes own r) (all_bytes own rs) reply_length l) ∙ reply_reads_back own reader r ho other w.0;
          sender = refl;
          number = refl;
        },
        subst (λ (b : List ℕ). AreReplies reader own b (map said rs)) (sym (drop_at (reply_bytes own r) (all_bytes own rs) reply_length l))
            (are-replies rs w.1),
      )

-- what was read of a message is what its bytes say
abbrev kind_read : Reading → Message
kind_read (reading.Read h kind start len) = kind
kind_read (reading.Refused n) = message.Operation

abbrev start_read : Reading → ℕ
start_read (reading.Read h kind start len) = start
start_read (reading.Refused n) = 0

abbrev len_read : Reading → ℕ
len_read (reading.Read h kind start len) = len
len_read (reading.Refused n) = 0

module _ (own : ℕ) (m : List ℕ) (h : Header) (kind : Message) (start len : ℕ) (e : read_of own m ≡ reading.Read h kind start len) where
  pub heard-as : (read_refusal own m ≡ 0) × (reading_out m ≡ reading.Read h kind start len)
  heard-as = was_read (read_refusal own m) (reading_out m) h kind start len e

  its-header : header_in m ≡ h
  its-header = ap (header_read h) heard-as.1

  its-kind : message_of (domain_in m) (id_in m) (number 2 (payload_in m) 0) ≡ kind
  its-kind = ap kind_read heard-as.1

  pub its-payload : (start ≡ 20) × (len ≡ length m - 20) × (20 ≤ length m)
  its-payload =
      let a : Readable own m = readable own m heard-as.0 in
      let size : payload_size_in m ≡ len = ap len_read heard-as.1 in
      (sym (ap start_read heard-as.1), sym size ∙ a.size, a.long)

-- a call that reads a message, and the reaction to it
module _ (own : ℕ) (t : List ℕ) (s : Sections) (p : Standing) (l m out : List ℕ) (h : Header) (kind : Message) (c : Receives own t s p m h kind) where
  abbrev pub the : Reaction
  the = X own t s (index_of t s) p h c.start c.len kind

  abbrev itsOperation : Option (ℕ × ℕ)
  itsOperation = operation_for t s (index_of t s) h kind

  not_answer : is_answer t itsOperation kind ≡ false
  not_answer = go (is_answer t itsOperation kind) refl
    where
      go : (b : Bool) → is_answer t itsOperation kind ≡ b → b ≡ false
      go true e = let a = (answer_decides t s c.table h kind).yes_is e in absurd (c.no_response a.0 a.1)
      go false e = refl

  pub received_is : (room : ℕ) → received_of own t p l m room ≡ answered p h the room
  unfolding received_of received_by outcome_of operation_in
  received_is room =
      ap (λ (x : Result Sections Refusal). received_by x own t p l m room) c.table
      ∙ ap (λ (x : Reading). outcome_of own t s (operation_in t s (index_of t s) x) p l x room) c.read
      ∙ no-if {A = Received} (response_to l itsOperation p h c.start c.len) (answered p h the room) not_answer

  left_is : left_of own t p m out ≡ laid_out own the out
  unfolding left_of left_if output_of operation_in
  left_is =
      ap (λ (x : Result Sections Refusal). left_if x own t p m out) c.table
      ∙ ap (λ (x : Reading). output_of own t s (operation_in t s (index_of t s) x) p x out) c.read
      ∙ no-if out (laid_out own the out) not_answer

  list-is : list_after own t l m ≡ l
  unfolding list_after list_if list_of operation_in
  list-is =
      ap (λ (x : Result Sections Refusal). list_if x own t l m) c.table
      ∙ ap (λ (x : Reading). list_of t (operation_in t s (index_of t s) x) l x) c.read
      ∙ no-if (list_answered l h) l not_answer

  seen : Readable own m
  seen = readable own m (heard-as own m h kind c.start c.len c.read).0

  its-field : field_of kind < 2 ^ 32
  its-field =
      let e : message_of (domain_in m) (id_in m) (number 2 (payload_in m) 0) ≡ kind = its-kind own m h kind c.start c.len c.read in
      let l : number 2 (payload_in m) 0 < span 2 = number_lt 2 (payload_in m) 0 (octets_drop header_length m c.bytes) in
      let k : field_of kind ≤ number 2 (payload_in m) 0 = subst (λ (x : Message). field_of x ≤ number 2 (payload_in m) 0) e
      (field_le (domain_in m) (id_in m) (number 2 (payload_in m) 0)) in
      omega arith

  header_is : header_in m ≡ h
  header_is = its-header own m h kind c.start c.len c.read

  from-another : h.platform ≡ own → ⊥
  from-another e = seen.other (ap (λ (x : Header). x.platform) header_is ∙ e)

  reported : Reports t s h m kind the.heard
  reported =
      let r : (c.start ≡ 20) × (c.len ≡ length m - 20) × (20 ≤ length m) = its-payload own m h kind c.start c.len c.read in
      reports t s c.table own p h c.start c.len m r.2 r.0 r.1 kind

  how : Reacts own t s (index_of t s) p h c.start c.len kind
  how =
      reacts own t s (index_of t s) p h c.start c.len c.next
      from-another
      (subst (λ (x : Header). x.sequence < 2 ^ 32) header_is (number_lt 2 m 16 c.bytes))
      (subst (λ (x : Header). x.id < 2 ^ 32) header_is (number_lt 2 m 8 c.bytes))
      (looked t s c.table)
      kind its-field

  pub its_length : owed_length the.owed ≡ reply_length * length (owed_for own t s p h kind)
  its_length =
      how.long ∙ ap (λ (k : ℕ). reply_length * k) (sym (length-map (replies the.owed) said) ∙ ap length how.owed-is)

  module _ (fits : reply_length * length (owed_for own t s p h kind) ≤ length out) where
    room : owed_length the.owed ≤ length out
    room = omega (arith, its_length)

    taken_is : received_of own t p l m (length out) ≡ taken h the (owed_length the.owed)
    unfolding answered
    taken_is = received_is (length out)
        ∙ no_lt {A = Received} (refused p no_room) (taken h the (owed_length the.owed)) (length out) (owed_length the.owed) room

    laid-is : left_of own t p m out ≡ over out 0 (owed_bytes own the.owed)
    unfolding laid_out
    laid-is = left_is ∙ no_lt out (over out 0 (owed_bytes own the.owed)) (length out) (owed_length the.owed) room

    -- what was written is the replies, one behind another
    sent_is : part (laid_out own the out) 0 (owed_length the.owed) ≡ all_bytes own (replies the.owed)
    unfolding answered outcome_of output_of sent_of
    sent_is =
        subst
        (λ (b : Bool). part (laid_out own the out) 0
        (bytes_in (cond b (refused p no_room) (taken h the (owed_length the.owed))).answer) ≡ all_bytes own (cond b [] (replies the.owed)))
        (le-ltb (length out) (owed_length the.owed) room)
        (subst
        (λ (b : Bool). part (cond b out (laid_out own the out)) 0
        (bytes_in (cond b (response_to l itsOperation p h c.start c.len) (answered p h the (length out))).answer)
        ≡ all_bytes own (cond b [] (written the (length out))))
        not_answer
        (written-is-sent own p out l t s itsOperation (reading.Read h kind c.start c.len)))

    front-is : take (owed_length the.owed) (left_of own t p m out) ≡ all_bytes own (replies the.owed)
    front-is =
        let n : ℕ = owed_length the.owed in
        let l : length (over out 0 (owed_bytes own the.owed))
        ≡ length out = length_over out 0 (owed_bytes own the.owed) (omega (arith, length_owed own the.owed, room)) in
        let k : length (laid_out own the out) ≡ length out = ap length (sym left_is ∙ laid-is) ∙ l in
        ap (take n) left_is ∙ sym (part_in (laid_out own the out) 0 n (omega (arith, room))) ∙ sent_is

    rest-is : drop (owed_length the.owed) (left_of own t p m out) ≡ drop (owed_length the.owed) out
    rest-is =
        let b : List ℕ = owed_bytes own the.owed in
        let l : length b ≡ owed_length the.owed = length_owed own the.owed in
        let k : 0 + length b ≡ owed_length the.owed = omega arith in
        ap (drop (owed_length the.owed)) laid-is ∙ drop_at b (drop (0 + length b) out) (owed_length the.owed) l ∙ ap (λ (n : ℕ). drop n out) k

    pub notes : Notes own t s p l m out h kind (reply_length * length (owed_for own t s p h kind))
    notes =
        record {
          heard = the.heard;
          answer = ap (λ (x : Received). x.answer) taken_is ∙ ap (Noted h the.heard) its_length;
          reports = reported;
          written =
              subst (λ (k : ℕ). AreReplies h.platform own (take k (left_of own t p m out)) (owed_for own t s p h kind)) its_length
              (subst (λ (b : List ℕ). AreReplies h.platform own b (owed_for own t s p h kind)) (sym front-is)
              (subst (AreReplies h.platform own (all_bytes own (replies the.owed))) how.owed-is
              (are-replies own h.platform c.platform (λ e. from-another (sym e)) (replies the.owed) how.wide)));
          rest = subst (λ (k : ℕ). drop k (left_of own t p m out) ≡ drop k out) its_length rest-is;
          next = ap (λ (x : Received). x.standing.next) taken_is ∙ how.next;
          states = λ k l. ap (λ (x : Received). stands_up own x.standing.states k) taken_is ∙ how.states k l;
          list = list-is;
        }

  pub too_short : length out < reply_length * length (owed_for own t s p h kind) → (received_of own t p l m (length out)).answer ≡ Refused no_room
  unfolding answered
  too_short short =
      ap (λ (x : Received). x.answer)
      (received_is (length out)
      ∙ yes_lt {A = Received} (refused p no_room) (taken h the (owed_length the.owed)) (length out) (owed_length the.owed) (omega (arith, its_length)))
