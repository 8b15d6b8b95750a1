-- What is linked goes by plans as on sections: by plans that were laid out, the one outcome of a call is the same.
-- Assumes nothing.
use Prim.Native.Nat.{ℕ}
use Rattle.std.specs.Prelude.{Ok}
use Rattle.refusal.specs.Refusal.{refused}
use mathlib.Core.Path.{◌≡◌, refl, sym, ap, subst, ◌∙◌}
use mathlib.Core.Logic.{◌↔◌}
use mathlib.Core.Bool.{Bool, true, false, cond}
use mathlib.Core.List.{List, [], ◌∷◌, ◌++◌}
use native.Mathlib.Omega.{arith}
use lib.Dec.{ltb}
use lib.ListN.{length, get_or, replicate, length-replicate}
use Rattle.wire.proofs.Cond.{clash}
use Rattle.table.specs.declared.Sections.{Sections}
use Rattle.table.specs.Layout.{within}
use Rattle.table.specs.Words.{sections_in, words_of}
use Rattle.types.specs.Table.{checked}
use Rattle.unpack.specs.Reading.{reader}
use Rattle.pack.specs.Writing.{writer}
use Rattle.plan.specs.Length.{number_given as lengthNumber}
use Rattle.plan.specs.Layout.{plans_length, length_in, laid_number, laid_out}
use Rattle.payload.specs.Calls.{words_in}
use Rattle.payload.specs.ByPlans.{words_by}
use Rattle.nyrkovash.specs.PlanCalls.{length_left}
use Rattle.promises.specs.LinkedPayloads.{PacksAs, UnpacksAs}
use Rattle.promises.specs.Plans.{AsTheWalk}
use Rattle.promises.specs.LinkedPlans.{LoadLent, load_lent, Measures, Lays, WalkLent, walk_lent, WalkLeft, UnpacksIn, PacksIn}
use Rattle.promises.specs.LinkedPlans.{◌with-plans◌, UnpacksBy, PacksBy, LaidFor, LaidIn, LinkedPlans}
use Rattle.promises.specs.WorkedPlans.{plan_table, plan_sections, forged, inner, inner_payload, inner_words}
use Rattle.promises.proofs.LinkedCut.{lent, lent_mut}
use Rattle.promises.proofs.LinkedPayloads.{sections_back, linked_payloads}
use Rattle.promises.proofs.PlanOutcomes.{outcome, IsIn, IsBy, same, goes, both-parts, lifetimes5, start, handed_in, walks-in, walks-by}
use Rattle.promises.proofs.Plans.{the_plans}
use Rattle.promises.proofs.WorkedPlans.{worked_plans}

-- plans laid out, and how many words they can take
module _ (t ss : List ℕ) where
  abbrev s : Sections
  s = sections_in ss

  lays : (ws : List ℕ) (n : ℕ) (left : List ℕ) → Lays (load_lent t ss ws) n left → (n ≡ laid_number t s (length ws)) × (left ≡ laid_out t s ws)
  lays ws n left x =
      let p = x.1.1.1.0 in
      outcome (λ (y : LoadLent (List ℕ)). laid_number y.table (sections_in y.sections) (length y.answer))
      (λ y. laid_out y.table (sections_in y.sections) y.answer) (load_lent t ss ws) left p.0 p.1 x.1.1.1.1.0 x.1.1.1.1.1

  measures : (was n m : ℕ) → Measures (load_lent t ss was) n m → (n ≡ lengthNumber (length_in t s)) × (m ≡ length_left was (length_in t s))
  measures was n m x =
      let p = x.1.1.1.0 in
      outcome (λ (y : LoadLent ℕ). lengthNumber (length_in y.table (sections_in y.sections)))
      (λ y. length_left y.answer (length_in y.table (sections_in y.sections))) (load_lent t ss was) m p.0 p.1 x.1.1.1.1.0 x.1.1.1.1.1

  measured : (was m : ℕ) → Measures (load_lent t ss was) 0 m → length_in t s ≡ Ok m
  unfolding length_in
  measured was m x = let p = measures was 0 m x in go (within t s) p.0 p.1
    where
      go : (b : Bool) → 0 ≡ lengthNumber (cond b (Ok (plans_length t s)) (refused 30)) → m ≡ length_left was (cond b (Ok (plans_length t s)) (refused 30))
          → cond b (Ok (plans_length t s)) (refused 30) ≡ Ok m
      go true e f = ap Ok (sym f)
      go false e f = absurd (omega (arith, e))

  laid : (was m : ℕ) → Measures (load_lent t ss was) 0 m → (ws : List ℕ) (n : ℕ) (left : List ℕ) → Lays (load_lent t ss ws) n left → LaidIn m ws n left
  laid was m x ws n left y =
      let p = lays ws n left y in
      let o = the_plans.lays_out t s in
      let h = measured was m x in
      record {
        enough = λ k. p.0 ∙ o.enough m ws h k;
        too_short = λ k. (p.0 ∙ (o.too_short m ws h k).0, p.1 ∙ (o.too_short m ws h k).1);
        as_long = ap length p.1 ∙ o.as_long ws;
        behind = λ k g. ap (λ (z : List ℕ). get_or z k 0) p.1 ∙ o.behind m ws k h g;
      }

  -- 30
  thirty : {n : ℕ} (b : Bool) (x : ℕ) → n ≡ cond b x 30 → ¬ (x ≡ 30) → (n ≡ 30) ↔ (b ≡ false)
  thirty true x e d = (λ z. absurd (d (sym e ∙ z)), λ z. absurd (clash z refl))
  thirty false x e d = (λ z. refl, λ z. e)

  length-numbers : lengthNumber (length_in t s) ≡ cond (within t s) 0 30
  unfolding length_in
  length-numbers = go (within t s)
    where
      go : (b : Bool) → lengthNumber (cond b (Ok (plans_length t s)) (refused 30)) ≡ cond b 0 30
      go true = refl
      go false = refl

  measures_0 : (was n m : ℕ) → Measures (load_lent t ss was) n m → (n ≡ 0) ↔ (within t s ≡ true)
  measures_0 was n m x = go (within t s) ((measures was n m x).0 ∙ length-numbers)
    where
      go : (b : Bool) → n ≡ cond b 0 30 → (n ≡ 0) ↔ (b ≡ true)
      go true e = (λ z. refl, λ z. e)
      go false e = (λ z. absurd (omega (arith, e, z)), λ z. absurd (clash refl z))

  measures_30 : (was n m : ℕ) → Measures (load_lent t ss was) n m → (n ≡ 30) ↔ (within t s ≡ false)
  measures_30 was n m x = thirty (within t s) 0 ((measures was n m x).0 ∙ length-numbers) (λ z. omega (arith, z))

  lays_30 : (ws : List ℕ) (n : ℕ) (left : List ℕ) → Lays (load_lent t ss ws) n left → (n ≡ 30) ↔ (within t s ≡ false)
  unfolding laid_number
  lays_30 ws n left x =
      thirty (within t s) (cond (ltb (length ws) (plans_length t s)) 10 0) (lays ws n left x).0 (go (ltb (length ws) (plans_length t s)))
    where
      go : (b : Bool) → ¬ (◌≡◌ {A = ℕ} (cond b 10 0) 30)
      go true z = omega (arith, z)
      go false z = omega (arith, z)

-- there are plans for sections that lie in the bytes
some : (l : WalkLent) → within l.table (sections_in l.sections) ≡ true → (ps : List ℕ) × LaidFor l ps
unfolding length_in
some l w =
    let t = l.table in
    let s = sections_in l.sections in
    let ws : List ℕ = replicate (plans_length t s) 0 in
    let h : length_in t s ≡ Ok (plans_length t s) = rw w refl in
    let z = (the_plans.lays_out t s).enough (plans_length t s) ws h (omega (arith, length-replicate {A = ℕ} (plans_length t s) 0)) in (
      laid_out t s ws,
      (
        ws,
        (
          ([], ([], ([], tt))),
          ((lent t, (lent l.sections, (lent_mut ws, tt))), ((lent t, (lent l.sections, (lent_mut (laid_out t s ws), tt))), ((sym z, refl), (refl, refl)))),
        ),
      ),
    )

-- by what was laid out for the table and the sections of a call
module _ (l : WalkLent) (ps : List ℕ) (x : LaidFor l ps) where
  as_the_walk : AsTheWalk ps l.table (sections_in l.sections) l.number
  as_the_walk =
      let p = lays l.table l.sections x.0 0 ps x.1 in
      subst (λ (y : List ℕ). AsTheWalk y l.table (sections_in l.sections) l.number) (sym p.1)
      (the_plans.as_the_walk l.table (sections_in l.sections) x.0 (sym p.0) l.number)

  module _ (n : ℕ) (r : WalkLeft) where
    unpack-is : IsBy reader (l with-plans ps) n r ↔ IsIn reader l n r
    unpack-is = same reader l ps n r (as_the_walk.unpacked l.input (length l.output)) (as_the_walk.words l.input l.output)

    pack-is : IsBy writer (l with-plans ps) n r ↔ IsIn writer l n r
    pack-is = same writer l ps n r (as_the_walk.packed l.input (length l.output)) (as_the_walk.bytes l.input l.output)

    unpack : UnpacksBy (l with-plans ps) n r ↔ UnpacksIn l n r
    unpack = (
      λ y. (walks-in reader l n r).1 (unpack-is.0 ((walks-by reader (l with-plans ps) n r).0 y)),
      λ y. (walks-by reader (l with-plans ps) n r).1 (unpack-is.1 ((walks-in reader l n r).0 y)),
    )

    pack : PacksBy (l with-plans ps) n r ↔ PacksIn l n r
    pack = (
      λ y. (walks-in writer l n r).1 (pack-is.0 ((walks-by writer (l with-plans ps) n r).0 y)),
      λ y. (walks-by writer (l with-plans ps) n r).1 (pack-is.1 ((walks-in writer l n r).0 y)),
    )

    -- on a table that the check accepts
    module _ (s : Sections) (index : List ℕ) (h : checked l.table ≡ Ok s) (f : l.sections ≡ words_of s ++ index) where
      unpack_checked : UnpacksBy (l with-plans ps) n r → UnpacksAs l.table l.number l.input l.output n r.walked r.output
      unpack_checked y =
          let e = unpack-is.0 ((walks-by reader (l with-plans ps) n r).0 y) in
          linked_payloads.unpack-in s index lifetimes5 (handed_in l (start l)) n (handed_in l r) (e.0, both-parts e.1) h f

      pack_checked : PacksBy (l with-plans ps) n r → PacksAs l.table l.number l.input l.output n r.walked r.output
      pack_checked y =
          let e = pack-is.0 ((walks-by writer (l with-plans ps) n r).0 y) in
          linked_payloads.pack-in s index lifetimes5 (handed_in l (start l)) n (handed_in l r) (e.0, both-parts e.1) h f

-- the table and the plans that are worked out
module _ (index walked : List ℕ) (n : ℕ) (r : WalkLeft) where
  abbrev ss : List ℕ
  ss = words_of plan_sections ++ index

  abbrev innerLent : WalkLent
  innerLent = walk_lent plan_table ss inner inner_payload (9 ∷ 9 ∷ 9 ∷ []) walked

  sections-are : sections_in ss ≡ plan_sections
  sections-are = sections_back plan_table plan_sections ss index worked_plans.plans_are.accepted refl

  unpack_walked : UnpacksIn innerLent n r → r.output ≡ inner_words
  unpack_walked x =
      (both-parts ((walks-in reader innerLent n r).0 x).1).0
      ∙ ap (λ (y : Sections). words_in plan_table y inner inner_payload (9 ∷ 9 ∷ 9 ∷ [])) sections-are
      ∙ worked_plans.forged_plan.walk_words

  unpack_forged : UnpacksBy (innerLent with-plans forged) n r → r.output ≡ 0xFFFFFFFFFFFFFFFE ∷ 1 ∷ 5 ∷ []
  unpack_forged x =
      (both-parts ((walks-by reader (innerLent with-plans forged) n r).0 x).1).0
      ∙ ap (λ (y : Sections). words_by forged plan_table y inner inner_payload (9 ∷ 9 ∷ 9 ∷ [])) sections-are
      ∙ worked_plans.forged_plan.forged_words

pub linked_plans : LinkedPlans
linked_plans =
    record {
      some = some;
      unpack = unpack;
      pack = pack;
      unpack_checked = λ l ps x s index h f n r. unpack_checked l ps x n r s index h f;
      pack_checked = λ l ps x s index h f n r. pack_checked l ps x n r s index h f;
      long = λ t ss was m x. (the_plans.lays_out t (sections_in ss)).most m (measured t ss was m x);
      laid = laid;
      measures_0 = measures_0;
      measures_30 = measures_30;
      lays_30 = lays_30;
      unpack_any = λ l ps n r x.
          let any = the_plans.by_any ps l.table (sections_in l.sections) l.number in
          goes reader (l with-plans ps) n r ((walks-by reader (l with-plans ps) n r).0 x) (any.words_long l.input l.output)
          (any.words_fit l.input (length l.output));
      pack_any = λ l ps n r x.
          let any = the_plans.by_any ps l.table (sections_in l.sections) l.number in
          goes writer (l with-plans ps) n r ((walks-by writer (l with-plans ps) n r).0 x) (any.bytes_long l.input l.output)
          (any.bytes_fit l.input (length l.output));
      unpack_walked = unpack_walked;
      unpack_forged = unpack_forged;
    }
