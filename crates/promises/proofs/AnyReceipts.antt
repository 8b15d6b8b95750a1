-- What a message is among partners of both issues, on a table that `check` accepts: one of domain 1 under an ID of kind 2, or any other, which
-- asks for no list.
-- Assumes nothing.
use Prim.Native.Nat.{ℕ}
use Rattle.std.specs.Prelude.{Ok}
use mathlib.Core.Path.{◌≡◌, refl, sym, ap, ◌∙◌}
use mathlib.Core.Bool.{Bool, true, false, true≢false}
use mathlib.Core.List.{List}
use native.Mathlib.Omega.{arith}
use borrow.Author.Tests.{eqb-true}
use lib.ListN.{length, replicate}
use Rattle.wire.proofs.Cond.{no-if}
use Rattle.table.specs.declared.Sections.{Sections}
use Rattle.types.specs.Table.{checked}
use Rattle.operations.specs.Search.{sought_in}
use Rattle.message.specs.declared.Header.{Header}
use Rattle.message.specs.declared.Message.{Message}
use Rattle.message.specs.declared.Message.TheVariants as message
use Rattle.message3.specs.declared.Header3.{Header3}
use Rattle.message3.specs.declared.Message3.{Message3}
use Rattle.message3.specs.declared.Message3.TheVariants as message3
use Rattle.pending.specs.Answers.{responded}
use Rattle.platform.specs.declared.reactions.Standing.{Standing}
use Rattle.platform.specs.Receiving.{is_sent, index_of}
use Rattle.mixed.specs.declared.AnyReading.{AnyReading}
use Rattle.mixed.specs.declared.AnyReading.TheVariants as reading
use Rattle.mixed.specs.declared.AnyReceived.{AnyReceived}
use Rattle.mixed.specs.Reading.{from_six, any_of, issue_in}
use Rattle.mixed.specs.Reaction.{operation_for3}
use Rattle.mixed.specs.Receiving.{from_received, is_answer3}
use Rattle.mixed.specs.Receiving.{any_outcome_of, any_list_of}
use Rattle.mixed.proofs.NoCrossing.{six_is_six, three_is_three}
use Rattle.promises.specs.RequestCalls.{HasKind, kind_in}
use Rattle.promises.specs.MixedResponses.{ToReceive, our_any_receiving, AnyHeader, of_six_header, of_three_header, read_as}
use Rattle.promises.specs.MixedResponses.{ComesAs}
use Rattle.promises.proofs.RequestTables.{has-kind}
use Rattle.promises.proofs.RequestReceipts.{sent_by, has_room}
use Rattle.promises.proofs.RequestReceipts.{as-if-empty, list-stays, Receipt, receipt}
use Rattle.promises.proofs.RequestReceipts.{response as six-response, other as six-other}
use Rattle.promises.proofs.MixedReceipts.{payload_3, index, outcome-by, list-is, six-outcome, six-list, answers-so}

-- what a message is: under an ID of kind 2, or any other, and then no list is asked
pub data AnyReceipt (x : ToReceive) (s : Sections) : Type 0 where
  response : (h : AnyHeader) (i len : ℕ) → ComesAs x s h 2 i len → AnyReceipt x s
  other : ((h : AnyHeader) (i len : ℕ) → ¬ (ComesAs x s h 2 i len))
      → ((p : Standing) (l k : List ℕ) → our_any_receiving.outcome x p l ≡ our_any_receiving.outcome x p k)
      → ((p : Standing) (l : List ℕ) → our_any_receiving.list x p l ≡ l) → AnyReceipt x s

not_read : (n len : ℕ) (h : AnyHeader) → reading.Refused n ≡ read_as h len → ⊥
not_read n len (of_six_header h) e = let z : ◌≡◌ {A = ℕ} 0 6 = ap issue_in e in omega arith
not_read n len (of_three_header h) e = let z : ◌≡◌ {A = ℕ} 0 3 = ap issue_in e in omega arith

module _ (x : ToReceive) (s : Sections) (e : checked x.table ≡ Ok s) where
  abbrev answersAny : AnyReading → Bool
  answersAny (reading.Refused n) = false
  answersAny (reading.Six h k start len) = false
  answersAny (reading.Three h k start len) = is_answer3 x.table (operation_for3 x.table s (index x s e) h k) k

  abbrev outcome_from : Standing → List ℕ → AnyReading → AnyReceived
  outcome_from p l a =
      any_outcome_of x.own x.partners x.ours x.table s (index x s e) p l x.services x.bytes (length x.out) a

  no-list-asked : (h : Header3) (k : Message3) (start len : ℕ) → answersAny (reading.Three h k start len) ≡ false → (p : Standing) (l o : List ℕ)
      → outcome_from p l (reading.Three h k start len) ≡ outcome_from p o (reading.Three h k start len)
  unfolding any_outcome_of
  no-list-asked h k start len f p l o = no-if {A = AnyReceived} _ _ f ∙ sym (no-if {A = AnyReceived} _ _ f)

  no-list-moved : (h : Header3) (k : Message3) (start len : ℕ) → answersAny (reading.Three h k start len) ≡ false → (l : List ℕ)
      → any_list_of x.own x.table s (index x s e) l x.bytes (reading.Three h k start len) ≡ l
  unfolding any_list_of
  no-list-moved h k start len f l = no-if (responded l h.sequence h.id h.platform) l f

  pub receipt-of : AnyReceipt x s
  unfolding any_outcome_of any_list_of is_answer3 operation_for3
  receipt-of = go (any_of x.partners x.own x.bytes) refl
    where
      operation : (h : Header3) (start len : ℕ) → any_of x.partners x.own x.bytes ≡ reading.Three h message3.Operation start len
          → is_sent x.table (sought_in x.table (index_of x.table s) s.operations.count h.id) ≡ true → AnyReceipt x s
      operation h start len q f =
          let r = (three_is_three x.partners x.own x.bytes h message3.Operation start len q).2 in
          let b : start ≡ 24 = (payload_3 x.own x.bytes h start len r).1 in
          let two : kind_in x.table s (replicate 1024 0) h.id ≡ 2 =
          eqb-true (kind_in x.table s (replicate 1024 0) h.id) 2
          (sym (sent_by x.table (sought_in x.table (index_of x.table s) s.operations.count h.id)) ∙ f) in
          let k : (i : ℕ) × HasKind x.table s h.id 2 i =
          has-kind x.table s e (replicate 1024 0) (has_room x.own x.table s e x.bytes) h.id two in
          response (of_three_header h) k.0 len
          (record { is_table = e; read = q ∙ ap (λ (n : ℕ). reading.Three h message3.Operation n len) b; has = k.1 })

      answering : (h : Header3) (k : Message3) (start len : ℕ) → any_of x.partners x.own x.bytes ≡ reading.Three h k start len
          → answersAny (reading.Three h k start len) ≡ true → AnyReceipt x s
      answering h (message3.PlatformStatus a c) start len q f = absurd (true≢false (sym f))
      answering h message3.PlatformStatusRequest start len q f = absurd (true≢false (sym f))
      answering h (message3.AvailabilityStatus n) start len q f = absurd (true≢false (sym f))
      answering h (message3.AvailabilityStatusRequest id) start len q f = absurd (true≢false (sym f))
      answering h (message3.UnknownOperation id) start len q f = absurd (true≢false (sym f))
      answering h (message3.ServiceNotAvailable id) start len q f = absurd (true≢false (sym f))
      answering h (message3.VersionedDataPull id) start len q f = absurd (true≢false (sym f))
      answering h (message3.CompositeChangeRequest c) start len q f = absurd (true≢false (sym f))
      answering h (message3.CompositeChangeRequestAck a) start len q f = absurd (true≢false (sym f))
      answering h message3.Operation start len q f = operation h start len q f

      of_three : (h : Header3) (k : Message3) (start len : ℕ) → any_of x.partners x.own x.bytes ≡ reading.Three h k start len
          → (b : Bool) → answersAny (reading.Three h k start len) ≡ b → AnyReceipt x s
      of_three h k start len q true f = answering h k start len q f
      of_three h k start len q false f =
          other absent
          (λ p l o.
          outcome-by x s e p l ∙ ap (outcome_from p l) q ∙ no-list-asked h k start len f p l o ∙ sym (ap (outcome_from p o) q) ∙ sym (outcome-by x s e p o))
          (λ p l.
          list-is x s e p l ∙ ap (any_list_of x.own x.table s (index x s e) l x.bytes) q ∙ no-list-moved h k start len f l)
        where
          absent : (h : AnyHeader) (i len : ℕ) → ¬ (ComesAs x s h 2 i len)
          absent (of_six_header g) i size c = let z : ◌≡◌ {A = ℕ} 3 6 = ap issue_in (sym q ∙ c.read) in omega arith
          absent (of_three_header g) i size c =
              true≢false (sym (answers-so x s e g 2 i size c.read c.has) ∙ sym (ap answersAny (sym q ∙ c.read)) ∙ f)

      of-six : (h : Header) (k : Message) (start len : ℕ) → any_of x.partners x.own x.bytes ≡ reading.Six h k start len
          → Receipt x.own x.table s e x.bytes → AnyReceipt x s
      of-six h k start len q (six-response g i size r) =
          let a = (six_is_six x.partners x.own x.bytes h k start len q).2 in
          response (of_six_header g) i size (record { is_table = e; read = q ∙ ap from_six (sym a ∙ r.read); has = r.request })
      of-six h k start len q (six-other absent quiet) =
          other none
          (λ p l o.
          six-outcome x s e h k start len q p l
          ∙ ap from_received (as-if-empty x.own x.table s e x.bytes quiet p l o (length x.out))
          ∙ sym (six-outcome x s e h k start len q p o))
          (λ p l. six-list x s e h k start len q p l ∙ list-stays x.own x.table s e x.bytes quiet l)
        where
          none : (h : AnyHeader) (i len : ℕ) → ¬ (ComesAs x s h 2 i len)
          none (of_six_header g) i size c =
              absent g i size
              (record { read = (six_is_six x.partners x.own x.bytes g message.Operation 20 size c.read).2; request = c.has })
          none (of_three_header g) i size c = let z : ◌≡◌ {A = ℕ} 6 3 = ap issue_in (sym q ∙ c.read) in omega arith

      go : (a : AnyReading) → any_of x.partners x.own x.bytes ≡ a → AnyReceipt x s
      go (reading.Refused n) q =
          other (λ h i len c. not_read n len h (sym q ∙ c.read))
          (λ p l o. outcome-by x s e p l ∙ ap (outcome_from p l) q ∙ sym (ap (outcome_from p o) q) ∙ sym (outcome-by x s e p o))
          (λ p l. list-is x s e p l ∙ ap (any_list_of x.own x.table s (index x s e) l x.bytes) q)
      go (reading.Six h k start len) q = of-six h k start len q (receipt x.own x.table s e x.bytes)
      go (reading.Three h k start len) q = of_three h k start len q (answersAny (reading.Three h k start len)) refl

pub list_stays_so : (x : ToReceive) (s : Sections) (p : Standing) (l k : List ℕ) → checked x.table ≡ Ok s
    → ((h : AnyHeader) (i len : ℕ) → ¬ (ComesAs x s h 2 i len))
    → (our_any_receiving.list x p l ≡ l) × (our_any_receiving.outcome x p l ≡ our_any_receiving.outcome x p k)
list_stays_so x s p l k e none = go (receipt-of x s e)
  where
    go : AnyReceipt x s → (our_any_receiving.list x p l ≡ l) × (our_any_receiving.outcome x p l ≡ our_any_receiving.outcome x p k)
    go (response h i len c) = absurd (none h i len c)
    go (other absent same stays) = (stays p l, same p l k)
