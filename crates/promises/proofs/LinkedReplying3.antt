-- What a linked call for one message of Issue 3 says, by what the platform's call notes and writes.
-- Assumes nothing.
use Prim.Native.Nat.{ℕ, ◌-◌, ◌^◌, ◌≤◌}
use Rattle.std.specs.Prelude.{Ok}
use Rattle.std.specs.Prelude.{Option, Some, None}
use mathlib.Core.Path.{◌≡◌, refl, ap, ap₂, ◌∙◌}
use mathlib.Core.Bool.{true, false}
use mathlib.Core.List.{List, [], ◌∷◌, ◌++◌}
use native.Mathlib.Nat.{mod-lt}
use lib.Pow.{pow_pos}
use lib.ListN.{length, get_or, drop, take-append-drop}
use Rattle.table.specs.declared.Sections.{Sections}
use Rattle.table.specs.Words.{sections_in, index_in}
use Rattle.types.specs.Table.{checked}
use Rattle.message.specs.declared.Status.TheVariants.{Down, Up}
use Rattle.message3.specs.declared.Header3.{Header3}
use Rattle.message3.specs.declared.Message3.{Message3}
use Rattle.message3.specs.declared.Message3.TheVariants as message3
use Rattle.platform.specs.declared.reactions.Standing.{Standing}
use Rattle.platform.specs.Reaction.{found_data, on_pull, on_pull_one, on_operation, reaction_to}
use Rattle.platform.specs.Receiving.{index_of}
use Rattle.platform_words.specs.Words.{standing_in, pending_in, standing_words}
use Rattle.mixed.specs.declared.AnyAnswer.{AnyAnswer}
use Rattle.mixed.specs.declared.AnyAnswer.TheVariants.{Three}
use Rattle.mixed.specs.declared.AnyReceived.{AnyReceived}
use Rattle.mixed.specs.Reaction.{operation_for3, commonly, on_pull3, on_services_request, reaction3}
use Rattle.mixed.specs.Tables.{sections_answer, sections_out, sections_pending, sections_words}
use Rattle.mixed.specs.Receiving.{number_given}
use Rattle.mixed_words.specs.SectionCalls.{mixed_in_number, mixed_in_words, mixed_in_services, mixed_in_output, mixed_in_heard}
use Rattle.mixed_words.specs.HeardWords.{heard_words3, any_answer_words, any_platform_after, any_heard_after}
use Rattle.promises.specs.Platforms.{operation_with}
use Rattle.promises.specs.Owed3.{MixedCall, owed_for3, state_after3, bytes_owed}
use Rattle.promises.specs.Replies3.{our_outcome, our_output, our_list, our_words, our_receiving3, Receives3, NotesBy3, RefusesBy3, BlockTakes, Countable}
use Rattle.promises.specs.Lookups.{laid}
use Rattle.promises.specs.LinkedReplies.{CheckLeft}
use Rattle.promises.specs.MixedOnSections.{AsOnBytes3}
use Rattle.promises.specs.LinkedReplies3.{call_of, heard_for3, Comes3, Says3, Refuses3, Answered3, AsOnTable}
use Rattle.promises.proofs.ByID.{looked}
use Rattle.promises.proofs.Reacting.{Finds, Pull, all_of_none, all_of_some, one_entry, no_entry, pulled}
use Rattle.promises.proofs.Reacting3.{X3}
use Rattle.promises.proofs.Reporting3.{up-heard, down-heard}
use Rattle.promises.proofs.Received3.{start_is, len_is, size_is}
use Rattle.promises.proofs.Replying3.{its_length, taken_is, notes3, too_short, too_many}
use Rattle.promises.proofs.LinkedPayloads.{sections_back}
use Rattle.promises.proofs.LinkedReplies.{up_is}
use Rattle.promises.proofs.MixedOnSections.{mixed_on_sections}

-- what was heard of a message of each kind
module _ (c : MixedCall) (s : Sections) (index : List ℕ) (h : Header3) (n : ℕ) (size : h.payload_size ≡ length c.message - 24) where
  abbrev HeardSo : Message3 → Type 0
  HeardSo kind = heard_words3 h n (X3 c s index h 24 (length c.message - 24) kind).heard ≡ heard_for3 c s h n kind

  module _ (scan : (id : ℕ) → Finds c.table s index id) where
    on-pull : (id : ℕ) → HeardSo (message3.VersionedDataPull id)
    unfolding reaction3 operation_for3 on_pull3 commonly reaction_to on_pull on_pull_one found_data
    on-pull id = go (pulled c.table s index id (scan id))
      where
        go : Pull c.table s index id → HeardSo (message3.VersionedDataPull id)
        go (all_of_none e d) = rw e
        go (all_of_some e d) = rw e
        go (one_entry i q e f g true d) = rw (e, g, f, d)
        go (one_entry i q e f g false d) = rw (e, g, f, d)
        go (no_entry e f g) = rw (e, g, f)

    on-operation : HeardSo message3.Operation
    unfolding reaction3 operation_for3 commonly reaction_to on_operation
    on-operation = go (operation_with c.table s h.id) refl (scan h.id)
      where
        go : (x : Option (ℕ × ℕ)) → operation_with c.table s h.id ≡ x → Finds c.table s index h.id → HeardSo message3.Operation
        go (Some (i, q)) f g = rw (g, f)
        go None f g = rw (g, f)

    heard-so : (kind : Message3) → HeardSo kind
    unfolding reaction3 commonly reaction_to on_services_request
    heard-so (message3.PlatformStatus Up composite) = ap (heard_words3 h n) (up-heard c s index h 24 (length c.message - 24) composite)
    heard-so (message3.PlatformStatus Down composite) = ap (heard_words3 h n) (down-heard c s index h 24 (length c.message - 24) composite)
    heard-so message3.PlatformStatusRequest = refl
    heard-so (message3.AvailabilityStatus k) =
        ap (λ (z : ℕ). 10 ∷ k ∷ h.platform ∷ h.sequence ∷ 0 ∷ 24 ∷ z ∷ n ∷ 3 ∷ h.seconds ∷ h.nanoseconds ∷ 0 ∷ []) size
    heard-so (message3.AvailabilityStatusRequest id) = refl
    heard-so (message3.UnknownOperation id) = refl
    heard-so (message3.ServiceNotAvailable id) = refl
    heard-so (message3.VersionedDataPull id) = on-pull id
    heard-so (message3.CompositeChangeRequest composite) = refl
    heard-so (message3.CompositeChangeRequestAck a) = refl
    heard-so message3.Operation = on-operation

-- a message that comes to a platform in words
module _ (own : ℕ) (st i ours ws sv t m out : List ℕ) (s : Sections) (h : Header3) (kind : Message3) where
  abbrev c : MixedCall
  c = call_of own st i ours ws sv t m out

  pub receives : Comes3 c s h kind → Receives3 c s h kind
  receives z =
      record {
        widths =
            record {
              platform = z.platform;
              next = mod-lt (get_or ws 4 0) (pow_pos 32);
              seconds = z.seconds;
              nanoseconds = z.nanoseconds;
              composite = z.composite;
            };
        bytes = z.bytes;
        table = z.table;
        start = z.start;
        len = z.len;
        read = z.read;
        no_response = z.no_response;
      }

  module _ (z : Comes3 c s h kind) (n : ℕ) (after words left heard was : List ℕ) (en : n ≡ number_given (our_outcome c).answer)
      (ea : after ≡ any_platform_after (our_outcome c) ws (our_list c)) (ew : words ≡ our_words c) (el : left ≡ our_output c)
      (eh : heard ≡ any_heard_after (our_outcome c) was) where
    r : Receives3 c s h kind
    r = receives z

    abbrev N : ℕ
    N = bytes_owed (owed_for3 c s h kind)

    refuses : (k : ℕ) → RefusesBy3 our_receiving3 c k → Refuses3 c ws was k n after words left heard
    refuses k f =
        record {
          number = en ∙ ap number_given f.answer;
          platform =
              ea ∙ ap₂ (λ (a : AnyAnswer) (l : List ℕ). any_platform_after (record { standing = (our_outcome c).standing; answer = a }) ws l) f.answer f.list
              ∙ take-append-drop 5 ws;
          services = ew ∙ f.services;
          output = el ∙ f.output;
          heard_stays = eh ∙ ap (λ (a : AnyAnswer). any_answer_words a was) f.answer;
        }

    says : Countable c kind → BlockTakes c h kind → N ≤ length out → Says3 c ws s h kind n after words left heard
    unfolding r receives
    says f b room =
        let x = X3 c s (index_of t s) h z.start z.len kind in
        let a : (our_outcome c).answer ≡ Three h x.heard N =
        ap (λ (o : AnyReceived). o.answer) (taken_is c s h kind r f b room) ∙ ap (Three h x.heard) (its_length c s h kind r) in
        let g : NotesBy3 our_receiving3 c s h kind N = notes3 c s h kind r f b room in
        let q : Standing = (our_outcome c).standing in
        let w : after ≡ standing_words q ++ our_list c =
        ea ∙ ap (λ (y : AnyAnswer). any_platform_after (record { standing = q; answer = y }) ws (our_list c)) a in
        record {
          number = en ∙ ap number_given a;
          replies = rw el g.written;
          rest = rw el g.rest;
          heard-is =
              eh ∙ ap (λ (y : AnyAnswer). any_answer_words y was) a
              ∙ ap₂ (λ (p l : ℕ). heard_words3 h N (X3 c s (index_of t s) h p l kind).heard) (start_is c s h kind r) (len_is c s h kind r)
              ∙ heard-so c s (index_of t s) h N (size_is c s h kind r) (looked t s z.table) kind;
          states = up_is own after q (our_list c) (state_after3 c h kind) z.platform w g.states;
          next = ap (λ (y : List ℕ). get_or y 4 0) w ∙ g.next;
          pending = ap (drop 5) w ∙ g.list;
          services = λ e. ew ∙ g.services e;
        }

    pub answered3 : Answered3 c ws was s h kind n after words left heard
    answered3 =
        record {
          fit = says;
          do_not_fit = λ f short. refuses 10 (too_short c s h kind r f short);
          too_many = λ e l. refuses 5 (all_asked kind e r l);
        }
      where
        all_asked : (k : Message3) → k ≡ message3.AvailabilityStatusRequest 0xFFFFFFFF → Receives3 c s h k → 2 ^ 29 ≤ length ours
            → RefusesBy3 our_receiving3 c 5
        all_asked k e y l = too_many c s h (rw e at y) l

-- on the words that the check left for a table that it accepts
module _ (own : ℕ) (st i ours ws sv t ss m out : List ℕ) (s : Sections) (words : List ℕ) (e : checked t ≡ Ok s) (f : CheckLeft t s words ss) where
  abbrev d : MixedCall
  d = call_of own st i ours ws sv t m out

  on : AsOnBytes3 d s words
  on = mixed_on_sections d s words e f.1

  back : sections_in ss ≡ s
  back = sections_back t s ss (laid t s words) e f.0

  index_back : index_in ss ≡ laid t s words
  index_back = ap index_in f.0

  outcome-same : sections_answer own i ours t (sections_in ss) (index_in ss) (standing_in ws) (pending_in ws) sv m (length out) ≡ our_outcome d
  outcome-same =
      ap₂ (λ (x : Sections) (j : List ℕ). sections_answer own i ours t x j (standing_in ws) (pending_in ws) sv m (length out)) back index_back ∙ on.answer

  output-same : sections_out own d.stamp d.composite i ours t (sections_in ss) (index_in ss) (standing_in ws) sv m out ≡ our_output d
  output-same =
      ap₂ (λ (x : Sections) (j : List ℕ). sections_out own d.stamp d.composite i ours t x j (standing_in ws) sv m out) back index_back ∙ on.output

  list_same : sections_pending own i t (sections_in ss) (index_in ss) (pending_in ws) m ≡ our_list d
  list_same = ap₂ (λ (x : Sections) (j : List ℕ). sections_pending own i t x j (pending_in ws) m) back index_back ∙ on.list

  services-same : sections_words own i ours t (sections_in ss) (index_in ss) (standing_in ws) sv m (length out) ≡ our_words d
  services-same =
      ap₂ (λ (x : Sections) (j : List ℕ). sections_words own i ours t x j (standing_in ws) sv m (length out)) back index_back ∙ on.services

  -- whatever the message, what the call on these words gives back and leaves
  pub as-on-table : (was : List ℕ) (n : ℕ) (after kept left heard : List ℕ) → n ≡ mixed_in_number own i ours ws sv t ss m out
      → after ≡ mixed_in_words own i ours ws sv t ss m out → kept ≡ mixed_in_services own i ours ws sv t ss m out
      → left ≡ mixed_in_output own st i ours ws sv t ss m out → heard ≡ mixed_in_heard own i ours ws sv t ss m out was
      → AsOnTable own st i ours ws sv t m out was n after kept left heard
  as-on-table was n after kept left heard en ea ek el eh = (
    en ∙ ap (λ (x : AnyReceived). number_given x.answer) outcome-same,
    ea ∙ ap₂ (λ (x : AnyReceived) (y : List ℕ). any_platform_after x ws y) outcome-same list_same,
    ek ∙ services-same,
    el ∙ output-same,
    eh ∙ ap (λ (x : AnyReceived). any_heard_after x was) outcome-same,
  )
