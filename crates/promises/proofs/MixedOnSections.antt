-- On an accepted table the index is no matter: the operation of each ID is the same.
-- Assumes nothing.
use Prim.Native.Nat.{ℕ, ◌≤◌}
use Rattle.std.specs.Prelude.{Result, Ok}
use Rattle.refusal.specs.declared.Refusal.{Refusal}
use Rattle.std.specs.Prelude.{Option}
use mathlib.Core.Path.{◌≡◌, refl, sym, ap, ◌∙◌}
use mathlib.Core.Bool.{true, cond}
use mathlib.Core.List.{List}
use lib.ListN.{length}
use Rattle.wire.specs.Bytes.{part}
use Rattle.wire.proofs.Cond.{yes-if}
use Rattle.table.specs.declared.Sections.{Sections}
use Rattle.table.specs.Layout.{cut_short, within}
use Rattle.operations.specs.Search.{sought_in}
use Rattle.types.specs.Table.{checked}
use Rattle.types.proofs.Accepted.{accepted, is_within}
use Rattle.message.specs.declared.Header.{Header}
use Rattle.message.specs.declared.Message.{Message}
use Rattle.message.specs.declared.Message.TheVariants as message
use Rattle.message.specs.declared.Reading.{Reading}
use Rattle.message.specs.declared.Reading.TheVariants as six
use Rattle.message.specs.Reading.{read_of}
use Rattle.message3.specs.declared.Header3.{Header3}
use Rattle.message3.specs.declared.Message3.{Message3}
use Rattle.message3.specs.declared.Message3.TheVariants as message3
use Rattle.platform.specs.Reaction.{operation_for, operation_in}
use Rattle.platform.specs.Receiving.{outcome_of, output_of, list_of, index_of}
use Rattle.mixed.specs.declared.AnyReading.{AnyReading}
use Rattle.mixed.specs.declared.AnyReading.TheVariants as reading
use Rattle.mixed.specs.declared.AnyReceived.{AnyReceived}
use Rattle.mixed.specs.Reading.{any_of}
use Rattle.mixed.specs.Reaction.{operation_for3, reaction3}
use Rattle.mixed.specs.Receiving.{from_received, refused_any, is_answer3, response_to3, list_answered3, settled3, laid3, kept3}
use Rattle.mixed.specs.Receiving.{any_outcome_of, any_output_of, any_list_of, any_words_of}
use Rattle.mixed.specs.Tables.{sections_answer, sections_out, sections_pending, sections_words, answer_if, out_if, pending_if, words_if}
use Rattle.promises.specs.Lookups.{laid}
use Rattle.promises.specs.Owed3.{MixedCall}
use Rattle.promises.specs.MixedOnSections.{AsOnBytes3, MixedOnSections}
use Rattle.promises.proofs.ByID.{looked}
use Rattle.promises.proofs.Lookups.{lookups}

module _ (c : MixedCall) (s : Sections) (words : List ℕ) (e : checked c.table ≡ Ok s) (room : s.operations.count ≤ length words) where
  abbrev t : List ℕ
  t = c.table

  abbrev one : List ℕ
  one = laid t s words

  abbrev other : List ℕ
  other = index_of t s

  same-sought : (id : ℕ) → sought_in t one s.operations.count id ≡ sought_in t other s.operations.count id
  same-sought id = (lookups.looks_up t s words id e room).first ∙ sym (looked t s e id)

  same-for : (h : Header) (m : Message) → operation_for t s one h m ≡ operation_for t s other h m
  unfolding operation_for
  same-for h (message.PlatformStatus x) = refl
  same-for h message.PlatformStatusRequest = refl
  same-for h (message.UnknownOperation id) = refl
  same-for h (message.VersionedDataPull id) = same-sought id
  same-for h message.Operation = same-sought h.id

  same_in : (x : Reading) → operation_in t s one x ≡ operation_in t s other x
  unfolding operation_in
  same_in (six.Refused n) = refl
  same_in (six.Read h m start len) = same-for h m

  same-for3 : (h : Header3) (m : Message3) → operation_for3 t s one h m ≡ operation_for3 t s other h m
  unfolding operation_for3
  same-for3 h (message3.PlatformStatus x composite) = refl
  same-for3 h message3.PlatformStatusRequest = refl
  same-for3 h (message3.AvailabilityStatus n) = refl
  same-for3 h (message3.AvailabilityStatusRequest id) = refl
  same-for3 h (message3.UnknownOperation id) = refl
  same-for3 h (message3.ServiceNotAvailable id) = refl
  same-for3 h (message3.VersionedDataPull id) = same-sought id
  same-for3 h (message3.CompositeChangeRequest composite) = refl
  same-for3 h (message3.CompositeChangeRequestAck a) = refl
  same-for3 h message3.Operation = same-sought h.id

  outcome-same : (x : AnyReading)
      → any_outcome_of c.own c.partners c.ours t s one c.standing c.pending c.services c.message (length c.output) x
      ≡ any_outcome_of c.own c.partners c.ours t s other c.standing c.pending c.services c.message (length c.output) x
  unfolding any_outcome_of
  outcome-same (reading.Refused n) = refl
  outcome-same (reading.Six h k start len) =
      ap (λ (f : Option (ℕ × ℕ)). from_received (outcome_of c.own t s f c.standing c.pending (read_of c.own c.message) (length c.output)))
      (same_in (read_of c.own c.message))
  outcome-same (reading.Three h k start len) =
      ap (λ (f : Option (ℕ × ℕ)). cond (is_answer3 t f k) (response_to3 c.pending f c.standing h start len)
      (settled3 c.partners c.ours c.standing h (reaction3 c.own c.ours t s f c.standing h k start len) (part c.message start len)
      c.services (length c.output))) (same-for3 h k)

  output-same : (x : AnyReading)
      → any_output_of c.own c.stamp c.composite c.partners c.ours t s one c.standing c.services c.message c.output x
      ≡ any_output_of c.own c.stamp c.composite c.partners c.ours t s other c.standing c.services c.message c.output x
  unfolding any_output_of
  output-same (reading.Refused n) = refl
  output-same (reading.Six h k start len) =
      ap (λ (f : Option (ℕ × ℕ)). output_of c.own t s f c.standing (read_of c.own c.message) c.output) (same_in (read_of c.own c.message))
  output-same (reading.Three h k start len) =
      ap (λ (f : Option (ℕ × ℕ)). cond (is_answer3 t f k) c.output
      (laid3 c.own c.stamp c.composite c.partners c.ours h (reaction3 c.own c.ours t s f c.standing h k start len)
      (part c.message start len) c.services c.output)) (same-for3 h k)

  list_same : (x : AnyReading) → any_list_of c.own t s one c.pending c.message x ≡ any_list_of c.own t s other c.pending c.message x
  unfolding any_list_of
  list_same (reading.Refused n) = refl
  list_same (reading.Six h k start len) =
      ap (λ (f : Option (ℕ × ℕ)). list_of t f c.pending (read_of c.own c.message)) (same_in (read_of c.own c.message))
  list_same (reading.Three h k start len) = ap (λ (f : Option (ℕ × ℕ)). cond (is_answer3 t f k) (list_answered3 c.pending h) c.pending) (same-for3 h k)

  words_same : (x : AnyReading)
      → any_words_of c.own c.partners c.ours t s one c.standing c.services c.message (length c.output) x
      ≡ any_words_of c.own c.partners c.ours t s other c.standing c.services c.message (length c.output) x
  unfolding any_words_of
  words_same (reading.Refused n) = refl
  words_same (reading.Six h k start len) = refl
  words_same (reading.Three h k start len) =
      ap (λ (f : Option (ℕ × ℕ)). cond (is_answer3 t f k) c.services
      (kept3 c.partners c.ours h (reaction3 c.own c.ours t s f c.standing h k start len) (part c.message start len)
      c.services (length c.output))) (same-for3 h k)

  in_table : within t s ≡ true
  in_table = is_within t s (accepted t s e)

  on_sections : AsOnBytes3 c s words
  unfolding sections_answer sections_out sections_pending sections_words answer_if out_if pending_if words_if
  on_sections =
      record {
        answer =
            yes-if {A = AnyReceived} _ (refused_any c.standing cut_short) in_table ∙ outcome-same (any_of c.partners c.own c.message)
            ∙ ap (λ (x : Result Sections Refusal). answer_if x c.own c.partners c.ours t c.standing c.pending c.services c.message (length c.output))
            (sym e);
        output =
            yes-if _ c.output in_table ∙ output-same (any_of c.partners c.own c.message)
            ∙ ap (λ (x : Result Sections Refusal). out_if x c.own c.stamp c.composite c.partners c.ours t c.standing c.services c.message c.output)
            (sym e);
        list =
            yes-if _ c.pending in_table ∙ list_same (any_of c.partners c.own c.message)
            ∙ ap (λ (x : Result Sections Refusal). pending_if x c.own c.partners t c.pending c.message) (sym e);
        services =
            yes-if _ c.services in_table ∙ words_same (any_of c.partners c.own c.message)
            ∙ ap (λ (x : Result Sections Refusal). words_if x c.own c.partners c.ours t c.standing c.services c.message (length c.output)) (sym e);
      }

pub mixed_on_sections : MixedOnSections
mixed_on_sections = on_sections
