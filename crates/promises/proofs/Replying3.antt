-- What a call for one message of Issue 3 notes and writes: the replies that are owed, as their receiver reads them.
-- Assumes nothing.
use Prim.Native.Nat.{ℕ, ◌+◌, ◌^◌, ◌≤◌, ◌<◌}
use Rattle.std.specs.Prelude.{Result}
use Rattle.refusal.specs.declared.Refusal.{Refusal}
use Rattle.std.specs.Prelude.{Option}
use mathlib.Core.Path.{◌≡◌, sym, ap, ap₂, subst, ◌∙◌}
use mathlib.Core.Bool.{false}
use mathlib.Core.List.{List}
use native.Mathlib.Omega.{arith}
use borrow.Author.Tests.{le-leb}
use lib.ListN.{length, take, drop}
use lib.Seq.{take_at, drop_at}
use Rattle.wire.specs.Bytes.{over, part}
use Rattle.wire.proofs.Cond.{no-if}
use Rattle.table.specs.declared.Sections.{Sections}
use Rattle.message3.specs.declared.Header3.{Header3}
use Rattle.message3.specs.declared.Message3.{Message3}
use Rattle.message3.specs.declared.Message3.TheVariants as message3
use Rattle.states.specs.States.{stands_up}
use Rattle.platform.specs.Receiving.{index_of}
use Rattle.mixed.specs.declared.AnyAnswer.TheVariants.{Three}
use Rattle.mixed.specs.declared.AnyReceived.{AnyReceived}
use Rattle.mixed.specs.declared.reactions.Reaction3.{Reaction3}
use Rattle.mixed.specs.Reaction.{operation_for3, on_services_request, reaction3}
use Rattle.mixed.specs.Replies.{deed_bytes}
use Rattle.mixed.specs.Keeping.{kept_number, kept_words}
use Rattle.mixed.specs.Receiving.{refused_any, is_answer3, response_to3, list_answered3, taken3, settled3, laid3, kept3}
use Rattle.mixed.specs.Receiving.{any_outcome_of, any_output_of, any_list_of, any_words_of}
use Rattle.mixed.specs.Tables.{answer_if, out_if, pending_if, words_if}
use Rattle.mixed.proofs.Deeds.{deed_length, length-deed, Leaves, laid-whole, does-not-fit, passes-the-size}
use Rattle.promises.specs.Owed3.{MixedCall, owed_for3, bytes_owed, AreReplies3}
use Rattle.promises.specs.Replies3.{our_outcome, our_output, our_list, our_words, our_receiving3, Receives3, BlockTakes, NotesBy3, RefusesBy3, Countable}
use Rattle.promises.proofs.ReplyBytes3.{EachSound, laid_replies, are-replies3, bytes-are, length_is, sounds}
use Rattle.promises.proofs.Reacting3.{Reacts3}
use Rattle.promises.proofs.Reporting3.{payload_part3, reports3}
use Rattle.promises.proofs.Received3.{seen, start_is, len_is, from-another, its-reaction, how-it-reacts, not_answer}

module _ (c : MixedCall) (s : Sections) (h : Header3) (kind : Message3) (r : Receives3 c s h kind) where
  abbrev the : Reaction3
  the = its-reaction c s h kind r

  abbrev itsOperation : Option (ℕ × ℕ)
  itsOperation = operation_for3 c.table s (index_of c.table s) h kind

  how : Reacts3 c s (index_of c.table s) h r.start r.len kind
  how = how-it-reacts c s h kind r

  no_answer : is_answer3 c.table itsOperation kind ≡ false
  no_answer = not_answer c s h kind r

  -- the payload as a part of the message
  abbrev its-part : List ℕ
  its-part = part c.message r.start r.len

  part_is : its-part ≡ drop 24 c.message
  part_is = ap₂ (part c.message) (start_is c s h kind r) (len_is c s h kind r) ∙ payload_part3 c.message (seen c s h kind r).long

  -- what the call comes to, by its reaction
  outcome-is : our_outcome c ≡ settled3 c.partners c.ours c.standing h the its-part c.services (length c.output)
  unfolding answer_if any_outcome_of
  outcome-is =
      let i = index_of c.table s in
      ap (λ (x : Result Sections Refusal). answer_if x c.own c.partners c.ours c.table c.standing c.pending c.services c.message (length c.output))
      r.table
      ∙ ap (any_outcome_of c.own c.partners c.ours c.table s i c.standing c.pending c.services c.message (length c.output)) r.read
      ∙ no-if {A = AnyReceived} (response_to3 c.pending itsOperation c.standing h r.start r.len) _ no_answer

  output-is : our_output c ≡ laid3 c.own c.stamp c.composite c.partners c.ours h the its-part c.services c.output
  unfolding out_if any_output_of
  output-is =
      let i = index_of c.table s in
      ap (λ (x : Result Sections Refusal). out_if x c.own c.stamp c.composite c.partners c.ours c.table c.standing c.services c.message c.output)
      r.table
      ∙ ap (any_output_of c.own c.stamp c.composite c.partners c.ours c.table s i c.standing c.services c.message c.output)
      r.read
      ∙ no-if c.output _ no_answer

  pub list-is : our_list c ≡ c.pending
  unfolding pending_if any_list_of
  list-is =
      let i = index_of c.table s in
      ap (λ (x : Result Sections Refusal). pending_if x c.own c.partners c.table c.pending c.message) r.table
      ∙ ap (any_list_of c.own c.table s i c.pending c.message) r.read
      ∙ no-if (list_answered3 c.pending h) c.pending no_answer

  words_are : our_words c ≡ kept3 c.partners c.ours h the its-part c.services (length c.output)
  unfolding words_if any_words_of
  words_are =
      let i = index_of c.table s in
      ap (λ (x : Result Sections Refusal). words_if x c.own c.partners c.ours c.table c.standing c.services c.message (length c.output)) r.table
      ∙ ap (any_words_of c.own c.partners c.ours c.table s i c.standing c.services c.message (length c.output)) r.read
      ∙ no-if c.services _ no_answer

  abbrev Left : AnyReceived → List ℕ → List ℕ → Type 0
  Left = Leaves c.own c.stamp c.composite c.partners c.ours c.standing h the its-part c.services c.output

  abbrev D : List ℕ
  D = deed_bytes c.own c.stamp c.composite c.ours the.deed

  -- refused
  refuses : (n : ℕ) → Left (refused_any c.standing n) c.output c.services → RefusesBy3 our_receiving3 c n
  refuses n l =
      record {
        answer = ap (λ (x : AnyReceived). x.answer) (outcome-is ∙ l.answer-is);
        standing = ap (λ (x : AnyReceived). x.standing) (outcome-is ∙ l.answer-is);
        output = output-is ∙ l.output-is;
        list = list-is;
        services = words_are ∙ l.words_are;
      }

  -- the bytes of the replies
  pub its_length : deed_length c.ours the.deed ≡ bytes_owed (owed_for3 c s h kind)
  its_length = length_is c the.deed ∙ ap bytes_owed how.owed-is

  pub too_short : Countable c kind → length c.output < bytes_owed (owed_for3 c s h kind) → RefusesBy3 our_receiving3 c 10
  too_short f l =
      refuses 10
      (does-not-fit c.own c.stamp c.composite c.partners c.ours c.standing h the its-part c.services c.output (how.few f)
      (omega (arith, l, its_length)))

  module _ (f : Countable c kind) (b : BlockTakes c h kind) (room : bytes_owed (owed_for3 c s h kind) ≤ length c.output) where
    no_number : kept_number c.partners h.platform the.deed its-part c.services ≡ 0
    no_number =
        ap (λ (p : List ℕ). kept_number c.partners h.platform the.deed p c.services) part_is ∙ how.kept b

    leaves : Left (taken3 h the (deed_length c.ours the.deed)) (over c.output 0 D)
        (kept_words c.partners h.platform the.deed its-part c.services)
    leaves =
        laid-whole c.own c.stamp c.composite c.partners c.ours c.standing h the its-part c.services c.output (how.few f)
        (omega (arith, room, its_length)) no_number

    pub taken_is : our_outcome c ≡ taken3 h the (deed_length c.ours the.deed)
    taken_is = outcome-is ∙ leaves.answer-is

    pub output-left : our_output c ≡ over c.output 0 D
    output-left = output-is ∙ leaves.output-is

    pub words_left : our_words c ≡ kept_words c.partners h.platform the.deed (drop 24 c.message) c.services
    words_left =
        words_are ∙ leaves.words_are ∙ ap (λ (p : List ℕ). kept_words c.partners h.platform the.deed p c.services) part_is

    long : length D ≡ deed_length c.ours the.deed
    long = length-deed c.own c.stamp c.composite c.ours the.deed

    pub front-is : take (bytes_owed (owed_for3 c s h kind)) (our_output c) ≡ laid_replies c (owed_for3 c s h kind)
    front-is =
        ap (take (bytes_owed (owed_for3 c s h kind))) output-left
        ∙ take_at D (drop (0 + length D) c.output) (bytes_owed (owed_for3 c s h kind)) (long ∙ its_length)
        ∙ bytes-are c the.deed ∙ ap (laid_replies c) how.owed-is

    rest-is : drop (bytes_owed (owed_for3 c s h kind)) (our_output c) ≡ drop (bytes_owed (owed_for3 c s h kind)) c.output
    rest-is =
        let k : 0 + length D ≡ bytes_owed (owed_for3 c s h kind) = omega (arith, long, its_length) in
        ap (drop (bytes_owed (owed_for3 c s h kind))) output-left
        ∙ drop_at D (drop (0 + length D) c.output) (bytes_owed (owed_for3 c s h kind)) (long ∙ its_length)
        ∙ ap (λ (n : ℕ). drop n c.output) k

    pub notes3 : NotesBy3 our_receiving3 c s h kind (bytes_owed (owed_for3 c s h kind))
    notes3 =
        record {
          heard = the.heard;
          answer = ap (λ (x : AnyReceived). x.answer) taken_is ∙ ap (Three h the.heard) its_length;
          reports = reports3 c s r.table h r.start r.len (seen c s h kind r).long (start_is c s h kind r) (len_is c s h kind r) kind;
          written =
              subst (λ (x : List ℕ). AreReplies3 h.platform c x (owed_for3 c s h kind)) (sym front-is)
              (are-replies3 c h.platform r.widths.seconds r.widths.nanoseconds (λ e. from-another c s h kind r (sym e)) (owed_for3 c s h kind)
              (subst EachSound how.owed-is (sounds c r.widths.composite the.deed how.wide (how.few f))));
          rest = rest-is;
          next = ap (λ (x : AnyReceived). x.standing.next) taken_is ∙ how.next;
          states = λ k l. ap (λ (x : AnyReceived). stands_up c.own x.standing.states k) taken_is ∙ how.states k l;
          list = list-is;
          services = λ m. words_left ∙ how.stay m;
        }

-- our services, more than the size field can tell
module _ (c : MixedCall) (s : Sections) (h : Header3) (r : Receives3 c s h (message3.AvailabilityStatusRequest 0xFFFFFFFF)) where
  pub too_many : 2 ^ 29 ≤ length c.ours → RefusesBy3 our_receiving3 c 5
  unfolding reaction3 on_services_request
  too_many l =
      refuses c s h (message3.AvailabilityStatusRequest 0xFFFFFFFF) r 5
      (passes-the-size c.own c.stamp c.composite c.partners c.ours c.standing h
      (its-reaction c s h (message3.AvailabilityStatusRequest 0xFFFFFFFF) r) (its-part c s h (message3.AvailabilityStatusRequest 0xFFFFFFFF) r)
      c.services c.output (le-leb (2 ^ 29) (length c.ours) l))
