-- A call among partners of both issues that the contracts allow, on whatever is lent; and one that asks for a service.
-- Assumes nothing.
use Prim.Native.Nat.{ℕ}
use mathlib.Core.Path.{◌≡◌, refl, sym, subst}
use mathlib.Core.List.{List, []}
use denote.Ref.{MutBor}
use Rattle.table.specs.Words.{sections_in, index_in}
use Rattle.mixed_words.specs.TableCalls.{mixed_number, mixed_words, mixed_services, mixed_output, mixed_heard}
use Rattle.mixed_words.specs.SectionCalls.{mixed_in_number, mixed_in_words, mixed_in_services, mixed_in_output, mixed_in_heard}
use Rattle.mixed_words.specs.ServiceCalls.{service_number}
use Rattle.promises.specs.MixedCalls.{TableGiven, bytes, sections}
use Rattle.promises.specs.LinkedMixed.{MixedLent, ReceivesOn, ReceivesIn, WhoAsks}
use Rattle.promises.proofs.Linked.{lent, lent_mut}

-- nothing is said here of the stamp and of what was heard before
module _ (own : ℕ) (i ours ws sv t m out : List ℕ) where
  one_call : ReceivesOn
      (record { own = own; partners = i; ours = ours; platform = ws; services = sv; table = bytes t; message = m; output = out })
      (mixed_number own i ours ws sv t m out) (mixed_services own i ours ws sv t m out)
  one_call =
      let after : MutBor (List ℕ) = lent_mut (mixed_words own i ours ws sv t m out) in
      let kept : MutBor (List ℕ) = lent_mut (mixed_services own i ours ws sv t m out) in
      let left : MutBor (List ℕ) = lent_mut (mixed_output own [] i ours ws sv t m out) in
      let heard : MutBor (List ℕ) = lent_mut (mixed_heard own i ours ws sv t m out []) in (
        ([], ([], ([], ([], ([], ([], ([], ([], ([], tt))))))))),
        (
          (own, (lent [], (lent i, (lent ours, (lent_mut ws, (lent_mut sv, (lent t, (lent m, (lent_mut out, (lent_mut [], tt)))))))))),
          (
            (own, (lent [], (lent i, (lent ours, (after, (kept, (lent t, (lent m, (left, (heard, tt)))))))))),
            ((refl, (refl, (refl, (refl, refl)))), (refl, refl)),
          ),
        ),
      )

  one-call-in : (ss : List ℕ) → ReceivesIn
      (record {
        own = own;
        partners = i;
        ours = ours;
        platform = ws;
        services = sv;
        table = sections t (sections_in ss) (index_in ss);
        message = m;
        output = out;
      })
      (mixed_in_number own i ours ws sv t ss m out) (mixed_in_services own i ours ws sv t ss m out)
  one-call-in ss =
      let after : MutBor (List ℕ) = lent_mut (mixed_in_words own i ours ws sv t ss m out) in
      let kept : MutBor (List ℕ) = lent_mut (mixed_in_services own i ours ws sv t ss m out) in
      let left : MutBor (List ℕ) = lent_mut (mixed_in_output own [] i ours ws sv t ss m out) in
      let heard : MutBor (List ℕ) = lent_mut (mixed_in_heard own i ours ws sv t ss m out []) in (
        ([], ([], ([], ([], ([], ([], ([], ([], ([], ([], tt)))))))))),
        (
          (own, (lent [], (lent i, (lent ours, (lent_mut ws, (lent_mut sv, (lent t, (lent ss, (lent m, (lent_mut out, (lent_mut [], tt))))))))))),
          (
            (own, (lent [], (lent i, (lent ours, (after, (kept, (lent t, (lent ss, (lent m, (left, (heard, tt))))))))))),
            ((refl, (refl, (refl, (refl, refl)))), (refl, refl)),
          ),
        ),
      )

-- the call with this table
abbrev on_table : MixedLent → TableGiven → MixedLent
on_table c g =
    record {
      own = c.own;
      partners = c.partners;
      ours = c.ours;
      platform = c.platform;
      services = c.services;
      table = g;
      message = c.message;
      output = c.output;
    }

pub some_call : (c : MixedLent) (t : List ℕ) → c.table ≡ bytes t → (n : ℕ) × ((words : List ℕ) × ReceivesOn c n words)
some_call c t e =
    subst (λ (g : TableGiven). (n : ℕ) × ((words : List ℕ) × ReceivesOn (on_table c g) n words)) (sym e)
    (_, (_, one_call c.own c.partners c.ours c.platform c.services t c.message c.output))

pub some_call_in : (c : MixedLent) (t ss : List ℕ) → c.table ≡ sections t (sections_in ss) (index_in ss)
    → (n : ℕ) × ((words : List ℕ) × ReceivesIn c n words)
some_call_in c t ss e =
    subst (λ (g : TableGiven). (n : ℕ) × ((words : List ℕ) × ReceivesIn (on_table c g) n words)) (sym e)
    (_, (_, one-call-in c.own c.partners c.ours c.platform c.services t c.message c.output ss))

-- whoever asks is told this
pub is_told : (i ws : List ℕ) (j x : ℕ) (So : ℕ → Type 0) → WhoAsks i ws j x So → So (service_number i ws j x)
is_told i ws j x So h =
    h ([], ([], tt)) (lent i, (lent ws, (j, (x, tt)))) (service_number i ws j x) (lent i, (lent ws, (j, (x, tt)))) refl refl refl refl refl
