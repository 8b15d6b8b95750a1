-- A domain 1 message with a kind 2 ID is the response, or is refused; one with a kind 3 ID is heard.
-- Assumes nothing.
use Prim.Native.Nat.{ℕ, ◌-◌, ◌≤◌}
use Rattle.std.specs.Prelude.{Result}
use Rattle.refusal.specs.declared.Refusal.{Refusal}
use Rattle.std.specs.Prelude.{Option, Some}
use Rattle.std.proofs.lemmas.Option.{none-some}
use mathlib.Core.Path.{◌≡◌, refl, sym, ap, ap₂, subst, ◌∙◌}
use mathlib.Core.Bool.{Bool, true, false}
use mathlib.Core.List.{List}
use native.Mathlib.Omega.{arith}
use borrow.Author.Tests.{eq-eqb, ne_eqb, le-ltb}
use lib.ListN.{length}
use Rattle.wire.proofs.Cond.{yes-if, no-if}
use Rattle.operations.specs.Entries.{kind_at}
use Rattle.pending.specs.Answers.{cancelled, is_response}
use Rattle.pending.specs.PlainMap.{Once}
use Rattle.pending.proofs.Once.{gone}
use Rattle.table.specs.declared.Sections.{Sections}
use Rattle.message.specs.declared.Header.{Header}
use Rattle.message.specs.declared.Message.TheVariants as message
use Rattle.message.specs.declared.Reading.{Reading}
use Rattle.message.specs.declared.Reading.TheVariants as reading
use Rattle.platform.specs.declared.reactions.Standing.{Standing}
use Rattle.platform.specs.declared.reactions.Heard.TheVariants as heard
use Rattle.platform.specs.declared.Noting.TheVariants.{Noted, Response}
use Rattle.platform.specs.declared.Received.{Received}
use Rattle.platform.specs.Reaction.{operation_for, operation_in, on_operation, reaction_to}
use Rattle.platform.specs.Receiving.{refused, answered, not_awaited, is_sent, is_answer, delivered, response_to, list_answered}
use Rattle.platform.specs.Receiving.{outcome_of, output_of, list_of, index_of, received_by, received_of, left_if, left_of, list_if, list_after}
use Rattle.promises.specs.Rules32.{operation_place}
use Rattle.promises.specs.Reports.{IsSent, IsServed}
use Rattle.promises.specs.Platforms.{our_receiving}
use Rattle.promises.specs.Responses.{ComesUnder, IsAwaited, DeliversBy, RefusesBy, Responses}
use Rattle.promises.proofs.ByID.{looked, there}
use Rattle.promises.proofs.Kind2.{awaited-decides}
use Rattle.promises.proofs.Reporting.{payload_part}
use Rattle.promises.proofs.Replying.{its-payload}

module _ (own : ℕ) (t : List ℕ) (s : Sections) (p : Standing) (l m out : List ℕ) (h : Header) (i : ℕ) (c : ComesUnder own t s m h i) where
  -- the entry is found, and by it the call goes
  abbrev its : Option (ℕ × ℕ)
  its = Some (i, operation_place t s i)

  found : operation_for t s (index_of t s) h message.Operation ≡ its
  unfolding operation_for
  found = looked t s c.table h.id ∙ there t s c.table h.id i c.has

  abbrev read : Reading
  read = reading.Read h message.Operation c.start c.len

  came : received_of own t p l m (length out) ≡ outcome_of own t s its p l read (length out)
  unfolding received_of received_by operation_in
  came =
      ap (λ (x : Result Sections Refusal). received_by x own t p l m (length out)) c.table
      ∙ ap (λ (x : Reading). outcome_of own t s (operation_in t s (index_of t s) x) p l x (length out)) c.read
      ∙ ap (λ (f : Option (ℕ × ℕ)). outcome_of own t s f p l read (length out)) found

  stands : (c.start ≡ 20) × (c.len ≡ length m - 20) × (20 ≤ length m)
  stands = its-payload own m h message.Operation c.start c.len c.read

  module _ (k : IsSent t s i) where
    is-answer : is_answer t its message.Operation ≡ true
    unfolding is_answer is_sent kind_at
    is-answer = eq-eqb (kind_at t (operation_place t s i)) 2 k

    responds : received_of own t p l m (length out) ≡ response_to l its p h c.start c.len
    unfolding outcome_of
    responds = came ∙ yes-if {A = Received} (response_to l its p h c.start c.len) _ is-answer

    output-stays : left_of own t p m out ≡ out
    unfolding left_of left_if output_of operation_in
    output-stays =
        ap (λ (x : Result Sections Refusal). left_if x own t p m out) c.table
        ∙ ap (λ (x : Reading). output_of own t s (operation_in t s (index_of t s) x) p x out) c.read
        ∙ ap (λ (f : Option (ℕ × ℕ)). output_of own t s f p read out) found
        ∙ yes-if out _ is-answer

    list-after : list_after own t l m ≡ list_answered l h
    unfolding list_after list_if list_of operation_in
    list-after =
        ap (λ (x : Result Sections Refusal). list_if x own t l m) c.table
        ∙ ap (λ (x : Reading). list_of t (operation_in t s (index_of t s) x) l x) c.read
        ∙ ap (λ (f : Option (ℕ × ℕ)). list_of t f l read) found
        ∙ yes-if (list_answered l h) l is-answer

    abbrev matched : Bool
    matched = is_response l h.sequence h.id h.platform

    is-matched : (b : Bool) → matched ≡ b → IsAwaited l h → b ≡ true
    is-matched true e a = refl
    is-matched false e a = absurd ((awaited-decides h.id h.platform l h.sequence).no_is e a)

    not-matched : (b : Bool) → matched ≡ b → ¬ (IsAwaited l h) → b ≡ false
    not-matched true e n = absurd (n ((awaited-decides h.id h.platform l h.sequence).yes_is e))
    not-matched false e n = refl

    delivers : IsAwaited l h → DeliversBy our_receiving own t p l m out h i
    unfolding response_to
    delivers a =
        let e : matched ≡ true = is-matched matched refl a in
        let r : received_of own t p l m (length out) ≡ delivered its p h c.start c.len
        = responds ∙ yes-if {A = Received} (delivered its p h c.start c.len) (refused p not_awaited) e in
        record {
          answer = ap (λ (x : Received). x.answer) r ∙ ap₂ (Response h i) stands.0 stands.1;
          payload = payload_part m stands.2;
          standing = ap (λ (x : Received). x.standing) r;
          output = output-stays;
          list = list-after ∙ yes-if (cancelled l h.sequence) l e;
        }

    refuses : ¬ (IsAwaited l h) → RefusesBy our_receiving own t p l m out
    unfolding response_to
    refuses n =
        let e : matched ≡ false = not-matched matched refl n in
        let r : received_of own t p l m (length out) ≡ refused p not_awaited
        = responds ∙ no-if {A = Received} (delivered its p h c.start c.len) (refused p not_awaited) e in
        record {
          answer = ap (λ (x : Received). x.answer) r;
          standing = ap (λ (x : Received). x.standing) r;
          output = output-stays;
          list = list-after ∙ no-if (cancelled l h.sequence) l e;
        }

  serves : IsServed t s i → (received_of own t p l m (length out)).answer ≡ Noted h (heard.Operation i 20 (length m - 20)) 0
  unfolding outcome_of answered is_answer is_sent kind_at reaction_to on_operation
  serves k =
      let q : ℕ = operation_place t s i in
      let n : ¬ (kind_at t q ≡ 2) = λ e. omega (arith, k, e) in
      ap (λ (x : Received). x.answer) came
      ∙ rw (ne_eqb (kind_at t q) 2 n, le-ltb (length out) 0 (omega arith)) (ap (λ (x : _). Noted h x 0) (ap₂ (heard.Operation i) stands.0 stands.1))

no_longer : (l : List ℕ) (h : Header) → length l ≡ 128 → Once l → ¬ (IsAwaited (cancelled l h.sequence) h)
no_longer l h whole o e = none-some _ (sym (gone l whole o h.sequence) ∙ e)

pub responses : Responses
responses =
    record {
      response = delivers;
      any_other = refuses;
      once = λ own t s p l m out h i c k whole o a.
          subst (λ (x : List ℕ). RefusesBy our_receiving own t p x m out) (sym (delivers own t s p l m out h i c k a).list)
          (refuses own t s p (cancelled l h.sequence) m out h i c k (no_longer l h whole o));
      served = serves;
    }
