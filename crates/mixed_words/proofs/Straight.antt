-- A message of Issue 6 under the ID of an operation of the table, told straight from its bytes, is told as the general way tells it.
-- Assumes nothing.
use Prim.Native.Nat.{ℕ}
use Rattle.std.specs.Prelude.{Option, Some, None}
use mathlib.Core.Path.{◌≡◌, refl, sym, ap, subst, ◌∙◌}
use mathlib.Core.Bool.{Bool, true, false, cond}
use mathlib.Core.List.{List, ◌++◌}
use lib.Dec.{eqb}
use lib.ListN.{length, take}
use Rattle.table.specs.declared.Sections.{Sections}
use Rattle.operations.specs.Entries.{sent_kind, kind_at}
use Rattle.message.specs.declared.Message.TheVariants as message
use Rattle.message.specs.Header.{header_length, sender_in, payload_size_in, header_in}
use Rattle.partners.specs.Threes.{is_three}
use Rattle.platform.specs.declared.reactions.Standing.{Standing}
use Rattle.platform.specs.Receiving.{not_awaited}
use Rattle.mixed.specs.declared.AnyReceived.{AnyReceived}
use Rattle.mixed.specs.Form.{three_form}
use Rattle.mixed.specs.Receiving.{number_given, from_received}
use Rattle.mixed.proofs.Issues.{six-readable, of-six-form}
use Rattle.mixed.proofs.AsBefore.{outcome-before, output-before, list-before, words-before}
use Rattle.platform_words.specs.Words.{standing_length, standing_in, pending_in, standing_words}
use Rattle.platform_words.specs.Within.{operation_heard, is_awaited, kind_heard, list_heard}
use Rattle.platform_words.proofs.Straight.{Straight, straight, never, outcome_by, kindBy, its-outcome, its-output, its-list}
use Rattle.mixed_words.specs.HeardWords.{stamp_in, own_composite, any_platform_after, any_heard_after}
use Rattle.mixed_words.specs.Within.{outcome_within, number_within, words_within, services_within, output_within, heard_within, six_operation, six_words}
use Rattle.mixed_words.specs.Within.{straight_number, straight_platform, straight_heard}

-- what a message that was found is
pub six_only : (own : ℕ) (i t : List ℕ) (s : Sections) (index m : List ℕ) (e q : ℕ) → six_operation own i t s index m ≡ Some (e, q)
    → (is_three i (sender_in m) ≡ false) × (operation_heard own t s index m ≡ Some (e, q))
unfolding six_operation
six_only own i t s index m e q z = go (is_three i (sender_in m)) refl z
  where
    go : (b : Bool) → is_three i (sender_in m) ≡ b → cond b None (operation_heard own t s index m) ≡ Some (e, q)
        → (is_three i (sender_in m) ≡ false) × (operation_heard own t s index m ≡ Some (e, q))
    go true eb h = absurd (never h)
    go false eb h = (eb, h)

-- an operation; the response to a request; what no pending request asked for. What is told of it is what the general way tells
module _ (p : Standing) (m : List ℕ) (e : ℕ) where
  record ToldSix (kind : ℕ) (o : AnyReceived) : Type 0 where
    number_is : cond (eqb kind 0) not_awaited 0 ≡ number_given o.answer
    words_are : (ws l : List ℕ) → cond (eqb kind 0) (take standing_length ws) (standing_words p) ++ l ≡ any_platform_after o ws l
    heard-is : (heard : List ℕ) → cond (eqb kind 0) heard (six_words kind m e) ≡ any_heard_after o heard

  as-told : (sent awaited : Bool) → ToldSix (kindBy p m e sent awaited) (from_received (outcome_by p m e sent awaited))
  as-told true true = record { number_is = refl; words_are = λ ws l. refl; heard-is = λ heard. refl }
  as-told true false = record { number_is = refl; words_are = λ ws l. refl; heard-is = λ heard. refl }
  as-told false awaited = record { number_is = refl; words_are = λ ws l. refl; heard-is = λ heard. refl }

-- `receive_in`: straight from its bytes, on sections that lie in the table
module _ {f : Option (ℕ × ℕ)} (own : ℕ) (i ours ws sv t : List ℕ) (s : Sections) (index m out : List ℕ) (e q : ℕ) (ef : f ≡ six_operation own i t s index m)
    (at : f ≡ Some (e, q)) where
  its : Straight own t s index (standing_in ws) (pending_in ws) m e q
  its = straight own t s index (standing_in ws) (pending_in ws) m e q (six_only own i t s index m e q (sym ef ∙ at)).1

  not_three : is_three i (sender_in m) ≡ false
  not_three = (six_only own i t s index m e q (sym ef ∙ at)).0

  six-form : three_form i m ≡ false
  six-form = of-six-form i own m (six-readable own m (header_in m) message.Operation header_length (payload_size_in m) its.read_is).version

  so-told : ToldSix (standing_in ws) m e (kind_heard (pending_in ws) t q m) (outcome_within own i ours ws sv t s index m out)
  so-told =
      subst (ToldSix (standing_in ws) m e (kind_heard (pending_in ws) t q m))
      (sym (outcome-before own i ours t s index (standing_in ws) sv m six-form not_three (pending_in ws) (length out)
      ∙ ap from_received (its-outcome own t s index (standing_in ws) (pending_in ws) m e q its (length out))))
      (as-told (standing_in ws) m e (eqb (kind_at t q) sent_kind) (is_awaited (pending_in ws) m))

  pub straight-number : {n : ℕ} → n ≡ straight_number ws t q m → n ≡ number_within own i ours ws sv t s index m out
  straight-number en = en ∙ so-told.number_is

  pub straight-words : {x : List ℕ} → x ≡ straight_platform ws t q m → x ≡ words_within own i ours ws sv t s index m out
  straight-words ex =
      ex ∙ so-told.words_are ws (list_heard (pending_in ws) t q m)
      ∙ ap (any_platform_after (outcome_within own i ours ws sv t s index m out) ws)
      (sym (list-before own i ours t s index (standing_in ws) sv m six-form not_three (pending_in ws)
      ∙ its-list own t s index (standing_in ws) (pending_in ws) m e q its))

  pub straight-heard : {x : List ℕ} (heard : List ℕ) → x ≡ straight_heard ws t q m e heard → x ≡ heard_within own i ours ws sv t s index m out heard
  straight-heard heard ex = ex ∙ so-told.heard-is heard

  pub straight-output : (numbers : List ℕ) → out ≡ output_within own numbers i ours ws sv t s index m out
  straight-output numbers =
      sym (output-before own i ours t s index (standing_in ws) sv m six-form not_three (stamp_in numbers) (own_composite numbers) out
      ∙ its-output own t s index (standing_in ws) (pending_in ws) m e q its out)

  pub straight-services : sv ≡ services_within own i ours ws sv t s index m out
  straight-services = sym (words-before own i ours t s index (standing_in ws) sv m six-form not_three (length out))
