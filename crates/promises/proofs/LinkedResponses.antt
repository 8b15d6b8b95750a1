-- What is linked tells of a message with a kind 2 ID what the platform makes of it.
-- Assumes nothing.
use Prim.Native.Nat.{ℕ, ◌-◌, ◌<◌}
use Rattle.std.specs.Prelude.{Option, Some, None}
use mathlib.Core.Path.{◌≡◌, refl, ap, ap₂, ◌∙◌}
use mathlib.Core.List.{List, ◌++◌}
use lib.ListN.{length, get_or, drop, take-append-drop}
use Rattle.pending.specs.Answers.{awaited_of}
use Rattle.table.specs.declared.Sections.{Sections}
use Rattle.table.specs.Words.{sections_in, index_in}
use Rattle.message.specs.declared.Header.{Header}
use Rattle.states.specs.States.{stands_up}
use Rattle.platform.specs.declared.reactions.Standing.{Standing}
use Rattle.platform.specs.declared.Noting.{Noting}
use Rattle.platform.specs.declared.Noting.TheVariants.{Refused, Response}
use Rattle.platform.specs.declared.Received.{Received}
use Rattle.platform.specs.Noting.{number_given}
use Rattle.platform.specs.Receiving.{received_of, left_of, list_after, sections_outcome, sections_output, sections_list}
use Rattle.platform_words.specs.Words.{standing_in, pending_in, standing_words}
use Rattle.platform_words.specs.HeardWords.{answer_words, noted_words, heard_after, platform_after}
use Rattle.platform_words.specs.PendingCalls.{asked_words}
use Rattle.promises.specs.Reports.{IsSent}
use Rattle.promises.specs.Platforms.{our_receiving}
use Rattle.promises.specs.Responses.{ComesUnder, IsAwaited, DeliversBy, RefusesBy}
use Rattle.promises.specs.LinkedResponses.{TellsResponse, TellsNothing, TellsOf, asked_is, LinkedResponses}
use Rattle.promises.proofs.Responses.{responses}
use Rattle.promises.proofs.LinkedReplies.{up_is, outcome-same, output-same, list_same}

asked_so : (x : Option (ℕ × ℕ)) → asked_words x ≡ asked_is x
asked_so (Some (id, target)) = refl
asked_so None = refl

-- a message that comes to a platform in words
module _ (own : ℕ) (ws t : List ℕ) (s : Sections) (m out : List ℕ) (h : Header) (i : ℕ) (ho : own < 256) (c : ComesUnder own t s m h i) (k : IsSent t s i) where
  abbrev p : Standing
  p = standing_in ws

  abbrev l : List ℕ
  l = pending_in ws

  -- what a call's contract says of the number and of what was lent
  module _ (o : Received) (x y : List ℕ) (same : o ≡ received_of own t p l m (length out)) (alike : x ≡ left_of own t p m out)
      (listed : y ≡ list_after own t l m) (n : ℕ) (after left heard was : List ℕ) (en : n ≡ number_given o.answer)
      (ea : after ≡ platform_after o ws y) (el : left ≡ x) (eh : heard ≡ heard_after o was) where
    tells : IsAwaited l h → TellsResponse own ws m out h i n after left heard
    tells w =
        let d : DeliversBy our_receiving own t p l m out h i = responses.response own t s p l m out h i c k w in
        let a : o.answer ≡ Response h i 20 (length m - 20) = ap (λ (z : Received). z.answer) same ∙ d.answer in
        let q : o.standing ≡ p = ap (λ (z : Received). z.standing) same ∙ d.standing in
        let z : after ≡ standing_words p ++ y =
        ea ∙ ap₂ (λ (u : Noting) (v : Standing). noted_words u v ws y) a q in
        record {
          number = en ∙ ap number_given a;
          heard-is = eh ∙ ap (λ (u : Noting). answer_words u was) a;
          output = el ∙ alike ∙ d.output;
          states = up_is own after p y (stands_up own p.states) ho z (λ who b. refl);
          next = ap (λ (u : List ℕ). get_or u 4 0) z;
          list = ap (drop 5) z ∙ listed ∙ d.list;
        }

    tells-nothing : ¬ (IsAwaited l h) → TellsNothing ws out was n after left heard
    tells-nothing w =
        let d : RefusesBy our_receiving own t p l m out = responses.any_other own t s p l m out h i c k w in
        let a : o.answer ≡ Refused 61 = ap (λ (z : Received). z.answer) same ∙ d.answer in
        record {
          number = en ∙ ap number_given a;
          platform = ea ∙ ap₂ (λ (u : Noting) (v : List ℕ). noted_words u o.standing ws v) a (listed ∙ d.list) ∙ take-append-drop 5 ws;
          output = el ∙ alike ∙ d.output;
          heard_stays = eh ∙ ap (λ (u : Noting). answer_words u was) a;
        }

    told : TellsOf own ws m out was h i n after left heard
    told = record { response = tells; any_other = tells-nothing }

pub linked_responses : LinkedResponses
linked_responses =
    record {
      receive = λ s h i k a n e p ho c b.
          let own = a.0 in
          let ws = a.1.0.now in
          let t = a.1.1.0.now in
          let m = a.1.1.1.0.now in
          let out = a.1.1.1.1.0.now in
          told own ws t s m out h i ho c b (received_of own t (standing_in ws) (pending_in ws) m (length out)) (left_of own t (standing_in ws) m out)
          (list_after own t (pending_in ws) m) refl refl refl
          n _ _ _ a.1.1.1.1.1.0.now p.0 p.1.0 p.1.1.0 p.1.1.1;
      receive-in = λ s h i words k a n e p ho c b f.
          let own = a.0 in
          let ws = a.1.0.now in
          let t = a.1.1.0.now in
          let ss = a.1.1.1.0.now in
          let m = a.1.1.1.1.0.now in
          let out = a.1.1.1.1.1.0.now in
          told own ws t s m out h i ho c b
          (sections_outcome own t (sections_in ss) (index_in ss) (standing_in ws) (pending_in ws) m (length out))
          (sections_output own t (sections_in ss) (index_in ss) (standing_in ws) m out)
          (sections_list own t (sections_in ss) (index_in ss) (pending_in ws) m)
          (outcome-same own ws t s words ss m c.table f (length out)) (output-same own ws t s words ss m c.table f out)
          (list_same own ws t s words ss m c.table f)
          n _ _ _ a.1.1.1.1.1.1.0.now p.0 p.1.0 p.1.1.0 p.1.1.1;
      pending = λ k a n e p. (p.0, p.1 ∙ asked_so (awaited_of (pending_in a.0.now) a.1.0));
    }
