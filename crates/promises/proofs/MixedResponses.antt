-- Responses among partners of both issues: delivered once, in whichever issue they come.
-- Assumes nothing.
use Prim.Native.Nat.{ℕ}
use Rattle.std.proofs.lemmas.Option.{none-some}
use mathlib.Core.Path.{◌≡◌, sym, ap, subst, ◌∙◌}
use mathlib.Core.List.{List}
use native.Mathlib.Omega.{arith}
use lib.ListN.{length}
use Rattle.wire.proofs.Cond.{yes-if, no-if}
use Rattle.table.specs.declared.Sections.{Sections}
use Rattle.pending.specs.Answers.{awaited_of, cancelled}
use Rattle.pending.specs.PlainMap.{Once}
use Rattle.pending.proofs.Once.{gone}
use Rattle.platform.specs.declared.reactions.Standing.{Standing}
use Rattle.mixed.specs.declared.AnyReceived.{AnyReceived}
use Rattle.mixed.specs.Receiving.{refused_any}
use Rattle.promises.specs.MixedResponses.{ToReceive, our_any_receiving, AnyHeader, id_of, number_of, sender_of, start_of, response_as, operation_as}
use Rattle.promises.specs.MixedResponses.{ComesAs, IsPending, DeliversAny, RefusesAny, MixedResponses}
use Rattle.promises.proofs.Requests.{requests}
use Rattle.promises.proofs.MixedReceipts.{all_behind, judged, out_stays, listed_by, words_stay, its-size, heard-as}
use Rattle.promises.proofs.AnyReceipts.{list_stays_so}

module _ (x : ToReceive) (s : Sections) (p : Standing) (l : List ℕ) (h : AnyHeader) (i len : ℕ) (c : ComesAs x s h 2 i len) where
  delivers : IsPending l h → DeliversAny our_any_receiving x p l h i
  delivers a =
      let e = requests.is-response l (number_of h) (id_of h) (sender_of h) a in
      let z = its-size x s h 2 i len c in
      record {
        outcome =
            judged x s i len h c p l
            ∙ yes-if {A = AnyReceived} (record { standing = p; answer = response_as h i len }) (refused_any p 61) e
            ∙ ap (λ (n : ℕ). record { standing = p; answer = response_as h i n }) z.0;
        payload = all_behind x.bytes (start_of h) z.1;
        output = out_stays x s i len h c p l;
        kept = words_stay x s i len h c p l;
        list = listed_by x s i len h c p l ∙ yes-if (cancelled l (number_of h)) l e;
      }

  refuses : ¬ (IsPending l h) → RefusesAny our_any_receiving x p l
  refuses d =
      let e = requests.no_response l (number_of h) (id_of h) (sender_of h) d in
      record {
        outcome =
            judged x s i len h c p l
            ∙ no-if {A = AnyReceived} (record { standing = p; answer = response_as h i len }) (refused_any p 61) e;
        output = out_stays x s i len h c p l;
        kept = words_stay x s i len h c p l;
        list = listed_by x s i len h c p l ∙ no-if (cancelled l (number_of h)) l e;
      }

no_longer : (l : List ℕ) (h k : AnyHeader) → number_of h ≡ number_of k → length l ≡ 128 → Once l → ¬ (IsPending (cancelled l (number_of h)) k)
no_longer l h k same whole o e =
    none-some _ (sym (gone l whole o (number_of h)) ∙ ap (awaited_of (cancelled l (number_of h))) same ∙ e)

pub mixed_responses : MixedResponses
mixed_responses =
    record {
      response = delivers;
      any_other = refuses;
      once = λ x y s u p q l h k i j len size c d same whole o a.
          subst (RefusesAny our_any_receiving y q) (sym (delivers x s p l h i len c a).list)
          (refuses y u q (cancelled l (number_of h)) k j size d (no_longer l h k same whole o));
      served = λ x s p l h i len c.
          ap (λ (r : AnyReceived). r.answer) (heard-as x s h 3 i len c (λ z. omega arith) p l)
          ∙ ap (operation_as h i) (its-size x s h 3 i len c).0;
      stays = list_stays_so;
    }
