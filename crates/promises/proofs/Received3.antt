-- What a message of Issue 3 that was read says: its header's numbers fit, it is no response, and what it comes to.
-- Assumes nothing.
use Prim.Native.Nat.{ℕ, ◌-◌, ◌^◌, ◌≤◌, ◌<◌}
use Rattle.std.specs.Prelude.{Option}
use mathlib.Core.Path.{◌≡◌, refl, sym, ap, subst, ◌∙◌}
use mathlib.Core.Bool.{Bool, true, false, cond}
use mathlib.Core.List.{List}
use native.Mathlib.Omega.{arith}
use lib.Dec.{eqb}
use lib.ListN.{length}
use Rattle.wire.specs.Bytes.{number}
use Rattle.wire.proofs.Numbers.{number_lt, octets_drop}
use Rattle.table.specs.declared.Sections.{Sections}
use Rattle.message.specs.declared.Message.TheVariants as message
use Rattle.message.specs.Refusal.{platforms}
use Rattle.message3.specs.declared.Header3.{Header3}
use Rattle.message3.specs.declared.Message3.{Message3}
use Rattle.message3.specs.declared.Message3.TheVariants as message3
use Rattle.message3.specs.declared.Reading3.{Reading3}
use Rattle.message3.specs.declared.Reading3.TheVariants as reading3
use Rattle.message3.specs.Header.{header_length3, domain_in3, id_in3, payload_in3, header_in3}
use Rattle.message.specs.Platform.{status_of}
use Rattle.message3.specs.Platform.{agreement_of, platform_message3, message_of3}
use Rattle.message3.specs.Refusal.{read_refusal3}
use Rattle.message3.specs.Reading.{read_out3, read_of3}
use Rattle.message3.proofs.Accepted.{Readable}
use Rattle.platform.specs.Reaction.{operation_for}
use Rattle.platform.specs.Receiving.{is_answer, index_of}
use Rattle.mixed.specs.declared.reactions.Reaction3.{Reaction3}
use Rattle.mixed.specs.Reaction.{operation_for3, in_six_words}
use Rattle.mixed.specs.Receiving.{is_answer3}
use Rattle.mixed.proofs.Issues.{three-readable}
use Rattle.mixed.proofs.NoCrossing.{three_is_three}
use Rattle.promises.specs.Owed3.{MixedCall}
use Rattle.promises.specs.Replies3.{Receives3}
use Rattle.promises.proofs.ByID.{looked}
use Rattle.promises.proofs.Kind2.{answer_decides}
use Rattle.promises.proofs.Issue3Messages.{was_read3, header_read}
use Rattle.promises.proofs.Reacting3.{field_of3, X3, Reacts3, reacts3}

-- the field of a message that was read is 32 bits wide
module _ (field : ℕ) where
  either : (b : Bool) (x y : Message3) → field_of3 x ≤ field → field_of3 y ≤ field → field_of3 (cond b x y) ≤ field
  either true x y p q = p
  either false x y p q = q

  of_platform : (id second : ℕ) → field_of3 (platform_message3 id field second) ≤ field
  of_platform id second =
      let m9 : Message3 = message3.CompositeChangeRequestAck (agreement_of field) in
      let f9 : field_of3 m9 ≤ field = omega arith in
      let m8 : Message3 = cond (eqb id 8) (message3.CompositeChangeRequest field) m9 in
      let f8 : field_of3 m8 ≤ field = either (eqb id 8) (message3.CompositeChangeRequest field) m9 (omega arith) f9 in
      let m7 : Message3 = cond (eqb id 7) (message3.VersionedDataPull field) m8 in
      let f7 : field_of3 m7 ≤ field = either (eqb id 7) (message3.VersionedDataPull field) m8 (omega arith) f8 in
      let m6 : Message3 = cond (eqb id 6) (message3.ServiceNotAvailable field) m7 in
      let f6 : field_of3 m6 ≤ field = either (eqb id 6) (message3.ServiceNotAvailable field) m7 (omega arith) f7 in
      let m5 : Message3 = cond (eqb id 5) (message3.UnknownOperation field) m6 in
      let f5 : field_of3 m5 ≤ field = either (eqb id 5) (message3.UnknownOperation field) m6 (omega arith) f6 in
      let m4 : Message3 = cond (eqb id 4) (message3.AvailabilityStatusRequest field) m5 in
      let f4 : field_of3 m4 ≤ field = either (eqb id 4) (message3.AvailabilityStatusRequest field) m5 (omega arith) f5 in
      let m3 : Message3 = cond (eqb id 3) (message3.AvailabilityStatus field) m4 in
      let f3 : field_of3 m3 ≤ field = either (eqb id 3) (message3.AvailabilityStatus field) m4 (omega arith) f4 in
      let m2 : Message3 = cond (eqb id 2) message3.PlatformStatusRequest m3 in
      let f2 : field_of3 m2 ≤ field = either (eqb id 2) message3.PlatformStatusRequest m3 (omega arith) f3 in
      either (eqb id 1) (message3.PlatformStatus (status_of field) second) m2 (omega arith) f2

  field-le3 : (domain id second : ℕ) → field_of3 (message_of3 domain id field second) ≤ field
  field-le3 domain id second = either (eqb domain 0) (platform_message3 id field second) message3.Operation (of_platform id second) (omega arith)

abbrev kind_read : Reading3 → Message3
kind_read (reading3.Read h kind start len) = kind
kind_read (reading3.Refused n) = message3.Operation

abbrev start_read : Reading3 → ℕ
start_read (reading3.Read h kind start len) = start
start_read (reading3.Refused n) = 0

abbrev len_read : Reading3 → ℕ
len_read (reading3.Read h kind start len) = len
len_read (reading3.Refused n) = 0

-- no response
module _ (t : List ℕ) (s : Sections) (h : Header3) where
  other-kind : (kind : Message3) → ¬ (kind ≡ message3.Operation) → is_answer3 t (operation_for3 t s (index_of t s) h kind) kind ≡ false
  unfolding is_answer3
  other-kind (message3.PlatformStatus x composite) n = refl
  other-kind message3.PlatformStatusRequest n = refl
  other-kind (message3.AvailabilityStatus k) n = refl
  other-kind (message3.AvailabilityStatusRequest id) n = refl
  other-kind (message3.UnknownOperation id) n = refl
  other-kind (message3.ServiceNotAvailable id) n = refl
  other-kind (message3.VersionedDataPull id) n = refl
  other-kind (message3.CompositeChangeRequest composite) n = refl
  other-kind (message3.CompositeChangeRequestAck a) n = refl
  other-kind message3.Operation n = absurd (n refl)

  -- an operation: what Issue 6's call tests
  as-in-six : is_answer3 t (operation_for3 t s (index_of t s) h message3.Operation) message3.Operation
      ≡ is_answer t (operation_for t s (index_of t s) (in_six_words h) message.Operation) message.Operation
  unfolding is_answer3 operation_for3 is_answer operation_for
  as-in-six = refl

module _ (c : MixedCall) (s : Sections) (h : Header3) (kind : Message3) (r : Receives3 c s h kind) where
  pub was-three : read_of3 c.own c.message ≡ reading3.Read h kind r.start r.len
  was-three = (three_is_three c.partners c.own c.message h kind r.start r.len r.read).2

  pub seen : Readable c.own c.message
  seen = three-readable c.own c.message h kind r.start r.len was-three

  heard-as : read_out3 c.message ≡ reading3.Read h kind r.start r.len
  heard-as = (was_read3 (read_refusal3 c.own c.message) (read_out3 c.message) h kind r.start r.len was-three).1

  header_is : header_in3 c.message ≡ h
  header_is = ap (header_read h) heard-as

  kind-is : message_of3 (domain_in3 c.message) (id_in3 c.message) (number 2 (payload_in3 c.message) 0) (number 2 (payload_in3 c.message) 4) ≡ kind
  kind-is = ap kind_read heard-as

  pub start_is : r.start ≡ 24
  start_is = sym (ap start_read heard-as)

  pub len_is : r.len ≡ length c.message - 24
  len_is = sym (ap len_read heard-as) ∙ seen.size

  pub size_is : h.payload_size ≡ length c.message - 24
  size_is = sym (ap (λ (x : Header3). x.payload_size) header_is) ∙ seen.size

  pub sender-lt : h.platform < platforms
  sender-lt = subst (λ (x : Header3). x.platform < platforms) header_is (number_lt 0 c.message 3 r.bytes)

  pub sequence-lt : h.sequence < 2 ^ 32
  sequence-lt = subst (λ (x : Header3). x.sequence < 2 ^ 32) header_is (number_lt 2 c.message 20 r.bytes)

  pub from-another : h.platform ≡ c.own → ⊥
  from-another e = seen.other (ap (λ (x : Header3). x.platform) header_is ∙ e)

  its-field : field_of3 kind < 2 ^ 32
  its-field =
      let P : List ℕ = payload_in3 c.message in
      let l : number 2 P 0 < 2 ^ 32 = number_lt 2 P 0 (octets_drop header_length3 c.message r.bytes) in
      let k : field_of3 kind ≤ number 2 P 0 = subst (λ (x : Message3). field_of3 x ≤ number 2 P 0) kind-is
      (field-le3 (number 2 P 0) (domain_in3 c.message) (id_in3 c.message) (number 2 P 4)) in
      omega arith

  abbrev pub its-reaction : Reaction3
  its-reaction = X3 c s (index_of c.table s) h r.start r.len kind

  pub how-it-reacts : Reacts3 c s (index_of c.table s) h r.start r.len kind
  how-it-reacts =
      reacts3 c s (index_of c.table s) h r.start r.len r.widths.next sender-lt from-another
      sequence-lt
      (subst (λ (x : Header3). x.id < 2 ^ 32) header_is (number_lt 2 c.message 4 r.bytes))
      (looked c.table s r.table)
      kind its-field

  abbrev pub itsOperation : Option (ℕ × ℕ)
  itsOperation = operation_for3 c.table s (index_of c.table s) h kind

  pub not_answer : is_answer3 c.table itsOperation kind ≡ false
  not_answer = go (is_answer3 c.table itsOperation kind) refl
    where
      go : (b : Bool) → is_answer3 c.table itsOperation kind ≡ b → b ≡ false
      go false e = refl
      go true e = sym e ∙ other-kind c.table s h kind no
        where
          no : ¬ (kind ≡ message3.Operation)
          no q =
              let z : is_answer3 c.table (operation_for3 c.table s (index_of c.table s) h message3.Operation) message3.Operation ≡ true =
              ap (λ (k : Message3). is_answer3 c.table (operation_for3 c.table s (index_of c.table s) h k) k) (sym q) ∙ e in
              let a = (answer_decides c.table s r.table (in_six_words h) message.Operation).yes_is (sym (as-in-six c.table s h) ∙ z) in
              r.no_response q a.1
