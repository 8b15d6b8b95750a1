-- What a caller is promised of plans: by those that were laid out a call goes as the walk.
-- Assumes nothing.
use Prim.Native.Nat.{ℕ, zero, suc, ◌+◌, ◌-◌, ◌*◌, ◌≤◌, ◌<◌}
use Rattle.std.specs.Prelude.{Ok}
use Rattle.refusal.specs.Refusal.{refused}
use mathlib.Core.Path.{◌≡◌, refl, sym, ap, ap₂, ◌∙◌}
use mathlib.Core.Bool.{Bool, true, false, ◌&&◌, cond}
use mathlib.Core.List.{List, [], ◌++◌}
use native.Mathlib.Omega.{arith}
use borrow.Author.Tests.{ltb-true, ltb-false, leb-true}
use lib.Dec.{ltb, leb, eqb}
use lib.ListN.{length, get_or, drop}
use lib.Seq.{get_or-drop, get_or-append-add}
use Rattle.wire.specs.Bytes.{over}
use Rattle.wire.proofs.Cond.{yes_lt, no_lt, no_eq, and_left}
use Rattle.table.specs.declared.Sections.{Sections}
use Rattle.table.specs.Layout.{section_end, lies_in, within}
use Rattle.table.specs.Entries.{is_type}
use Rattle.walk.specs.declared.Place.{Place}
use Rattle.walk.specs.declared.Walked.{Walked}
use Rattle.walk.specs.declared.Walked.TheVariants as walked
use Rattle.walk.specs.Tree.{Tree, leaf, array, tree}
use Rattle.walk.specs.Walk.{Step, on, stop, Codec, start, answer, left, walk}
use Rattle.walk.specs.Planned.{is_planned, plan_tree, type_by}
use Rattle.walk.proofs.Walks.{Holds}
use Rattle.walk.proofs.Turns.{Within, keeps}
use Rattle.plan.specs.Leaves.{sum_below, is_flat, leaf_count, has_plan, leaves}
use Rattle.plan.specs.Layout.{plans, plans_length, length_in, laid_number, laid_out}
use Rattle.plan.proofs.FlatTypes.{leaves-most}
use Rattle.plan.proofs.WhichHaveOne.{leaves_plan, part_no_plan, array_not_flat, broken_not_flat, has-plan}
use Rattle.plan.proofs.WhereLaid.{not-planned, planned-laid, few_values, plans-fit}
use Rattle.plan.proofs.AsTheWalk.{words_are, lies_within, words-walk, words-plan-walk, words_long}
use Rattle.payload.specs.declared.Answer.{Answer}
use Rattle.payload.specs.declared.Answer.TheVariants.{Refused, Stopped, Gave}
use Rattle.payload.specs.Calls.{answered, stopped_at, went_to, answered_tree, answered_in, number_given, left_over_by, left_over_in}
use Rattle.payload.specs.ByPlans.{answered_on, answered_by, tree_for, left_for}
use Rattle.payload.proofs.ByPlans.{no-plans, no-plans-left, as-walk, as-walk-left}
use Rattle.unpack.specs.Reading.{reader}
use Rattle.pack.specs.Writing.{writer}
use Rattle.promises.specs.Plans.{AsTheWalk, WhichHaveOne, LaysOut, ByAny, Plans}

-- by the plans that were laid out
module _ (t : List ℕ) (s : Sections) (ws : List ℕ) (h : laid_number t s (length ws) ≡ 0) where
  abbrev laid : List ℕ
  laid = laid_out t s ws

  planned : (i : ℕ) → is_planned laid i ≡ (is_type s i && has_plan (tree t s i))
  planned i = ap (λ (l : List ℕ). is_planned l i) (words_are t s ws h) ∙ go (is_type s i) refl
    where
      go : (b : Bool) → is_type s i ≡ b → is_planned (plans t s ++ drop (length (plans t s)) ws) i ≡ (is_type s i && has_plan (tree t s i))
      go true e =
          let d : (is_type s i && has_plan (tree t s i)) ≡ has_plan (tree t s i) = rw e refl in
          planned-laid t s (drop (length (plans t s)) ws) (few_values t s (lies_within t s ws h)) i (ltb-true i s.types.count e)
          ∙ sym (has-plan t s i) ∙ sym d
      go false e =
          let d : (is_type s i && has_plan (tree t s i)) ≡ false = rw e refl in
          not-planned t s (drop (length (plans t s)) ws) i (ltb-false i s.types.count e) ∙ sym d

  -- a type that has a plan is one of the table's
  types : (i : ℕ) → is_planned laid i ≡ true → is_type s i ≡ true
  types i e = and_left (is_type s i) (has_plan (tree t s i)) (sym (planned i) ∙ e)

  by-plan : (i : ℕ) (c : Codec) (p : Place) (x : List ℕ) → is_planned laid i ≡ true → walk c (plan_tree t laid i) p x ≡ walk c (tree t s i) p x
  by-plan i c p x e = words-plan-walk t s ws h i e c p x

  module _ (i : ℕ) (c : Codec) (n : ℕ) where
    answers : (room : ℕ) → answered_by c n laid t s i room ≡ answered_in c n t s i room
    answers room = as-walk laid t s i (lies_within t s ws h) types (by-plan i) (words-walk t s ws h i) c n room

    leaves-it : (x : List ℕ) → left_for c n laid t s i x ≡ left_over_in c n t s i x
    leaves-it x = as-walk-left laid t s i (lies_within t s ws h) types (by-plan i) (words-walk t s ws h i) c n x

  as_the_walk : (i : ℕ) → AsTheWalk laid t s i
  as_the_walk i =
      record {
        unpacked = λ b room. answers i (reader b) (length b) room;
        words = λ b words. leaves-it i (reader b) (length b) words;
        packed = λ ws room. answers i (writer ws) (length ws) room;
        bytes = λ ws out. leaves-it i (writer ws) (length ws) out;
      }

without : (t : List ℕ) (s : Sections) (i : ℕ) → AsTheWalk [] t s i
without t s i =
    record {
      unpacked = λ b room. no-plans (reader b) (length b) t s i room;
      words = λ b words. no-plans-left (reader b) (length b) t s i words;
      packed = λ ws room. no-plans (writer ws) (length ws) t s i room;
      bytes = λ ws out. no-plans-left (writer ws) (length ws) t s i out;
    }

one_leaf : (code : ℕ) (ok : ℕ → Bool) → has_plan (leaf code ok) ≡ true
unfolding has_plan is_flat leaf_count
one_leaf code ok = refl

no_array : (most : ℕ) (a : Tree) → has_plan (array most a) ≡ false
unfolding has_plan is_flat
no_array most a = refl

which : WhichHaveOne
which =
    record {
      planned = planned;
      one_leaf = one_leaf;
      row_of_512 = leaves_plan 512;
      row_of_513 = leaves_plan 513;
      no_array = no_array;
      no_array_within = λ n f k most a l e. part_no_plan n f k l (ap is_flat e ∙ array_not_flat most a);
      no_broken_within = λ n f k l e. part_no_plan n f k l (ap is_flat e ∙ broken_not_flat);
    }

-- what is laid out, and where
module _ (t : List ℕ) (s : Sections) where
  said : (n : ℕ) → length_in t s ≡ Ok n → (within t s ≡ true) × (plans_length t s ≡ n)
  unfolding length_in
  said n e = go (within t s) refl
    where
      go : (b : Bool) → within t s ≡ b → (within t s ≡ true) × (plans_length t s ≡ n)
      go true w = (w, let f : Ok (plans_length t s) ≡ Ok n = rw w at e in cc)
      go false w = let f : refused 30 ≡ Ok n = rw w at e in let z : ◌≡◌ {A = ℕ} 0 1 = cc in absurd (omega arith)

  stays : (ws : List ℕ) → ¬ (laid_number t s (length ws) ≡ 0) → laid_out t s ws ≡ ws
  unfolding laid_out
  stays ws k = no_eq (over ws 0 (plans t s)) ws (laid_number t s (length ws)) 0 k

  enough : (n : ℕ) (ws : List ℕ) → length_in t s ≡ Ok n → n ≤ length ws → laid_number t s (length ws) ≡ 0
  unfolding laid_number
  enough n ws e l = let d = said n e in rw d.0 (no_lt 10 0 (length ws) (plans_length t s) (omega (arith, d.1)))

  too_short : (n : ℕ) (ws : List ℕ) → length_in t s ≡ Ok n → length ws < n → (laid_number t s (length ws) ≡ 10) × (laid_out t s ws ≡ ws)
  unfolding laid_number
  too_short n ws e l =
      let d = said n e in
      let f : laid_number t s (length ws) ≡ 10 = rw d.0 (yes_lt 10 0 (length ws) (plans_length t s) (omega (arith, d.1))) in
      (f, stays ws (λ z. omega (arith, f, z)))

  outside : (ws : List ℕ) → within t s ≡ false
      → (length_in t s ≡ refused 30) × (laid_number t s (length ws) ≡ 30) × (laid_out t s ws ≡ ws)
  unfolding length_in laid_number
  outside ws w = let f : laid_number t s (length ws) ≡ 30 = rw w refl in (rw w refl, f, stays ws (λ z. omega (arith, f, z)))

  sum-most : (n : ℕ) → sum_below (leaves t s) n ≤ 512 * n
  unfolding sum_below
  sum-most zero = omega arith
  sum-most (suc n) = omega (arith, sum-most n, leaves-most t s n)

  few_types : within t s ≡ true → s.types.count ≤ 256
  unfolding within lies_in
  few_types w =
      let c = leb s.types.count 256 in
      let e = leb (section_end 8 s.types) (length t) in
      let m : Bool = lies_in 2 1024 (length t) s.members in
      let v : Bool = lies_in 8 1024 (length t) s.values in
      let o : Bool = lies_in 8 1024 (length t) s.operations in
      leb-true s.types.count 256 (and_left c e (and_left (c && e) m (and_left ((c && e) && m) v (and_left (((c && e) && m) && v) o w))))

  most : (n : ℕ) → length_in t s ≡ Ok n → n ≤ 131329
  unfolding plans_length
  most n e = let d = said n e in omega (arith, d.1, few_types d.0, sum-most s.types.count)

  as_long : (ws : List ℕ) → length (laid_out t s ws) ≡ length ws
  as_long ws = go (laid_number t s (length ws)) refl
    where
      go : (k : ℕ) → laid_number t s (length ws) ≡ k → length (laid_out t s ws) ≡ length ws
      go zero e = words_long t s ws e
      go (suc k) e = ap length (stays ws (λ z. omega (arith, e, z)))

  behind : (n : ℕ) (ws : List ℕ) (k : ℕ) → length_in t s ≡ Ok n → n ≤ k → get_or (laid_out t s ws) k 0 ≡ get_or ws k 0
  behind n ws k e l = go (laid_number t s (length ws)) refl
    where
      go : (j : ℕ) → laid_number t s (length ws) ≡ j → get_or (laid_out t s ws) k 0 ≡ get_or ws k 0
      go zero f =
          let d = said n e in
          let b : length (plans t s) + (k - length (plans t s)) ≡ k = omega (arith, d.1, plans-fit t s (few_values t s d.0)) in
          ap₂ (λ (x : List ℕ) (j : ℕ). get_or x j 0) (words_are t s ws f) (sym b)
          ∙ get_or-append-add (plans t s) (drop (length (plans t s)) ws) (k - length (plans t s)) 0
          ∙ get_or-drop (length (plans t s)) ws (k - length (plans t s)) 0 ∙ ap (λ (j : ℕ). get_or ws j 0) b
      go (suc j) f = ap (λ (x : List ℕ). get_or x k 0) (stays ws (λ z. omega (arith, f, z)))

  lays_out : LaysOut t s
  lays_out = record { enough = enough; too_short = too_short; outside = outside; stays = stays; most = most; as_long = as_long; behind = behind }

-- any words as plans
walk_long : (c : Codec) (tr : Tree) (p : Place) (x : List ℕ) → length (left (walk c tr p x)) ≡ length x
unfolding left
walk_long c tr p x = go (walk c tr p x) ((keeps c (λ q. Unit {0}) (λ code q e a u. tt)).walks tr p x tt)
  where
    go : (st : Step) → Holds (Within (λ q. Unit {0}) x) st → length (left st) ≡ length x
    go (on q y) g = g.1
    go (stop m q y) g = g.1

left_long : (a : Answer) (x y : List ℕ) → length y ≡ length x → length (left_over_by a x y) ≡ length x
unfolding left_over_by
left_long (Refused n) x y e = refl
left_long (Stopped n o) x y e = refl
left_long (Gave n) x y e = e

left_stays : (a : Answer) (x y : List ℕ) → ¬ (number_given a ≡ 0) → left_over_by a x y ≡ x
unfolding left_over_by
left_stays (Refused n) x y k = refl
left_stays (Stopped n o) x y k = refl
left_stays (Gave n) x y k = absurd (k refl)

went_fits : (m room : ℕ) (q : Place) (l n : ℕ) → went_to m room q l ≡ Gave n → n ≤ room
unfolding went_to
went_fits m room q l n e = go (ltb q.from m) (ltb room q.to) refl e
  where
    go : (a b : Bool) → ltb room q.to ≡ b
        → cond a (Stopped 41 (record { at = q.from; leaves = l })) (cond b (Refused 45) (Gave q.to)) ≡ Gave n → n ≤ room
    go true b f g = let z : ◌≡◌ {A = ℕ} 0 1 = cc in absurd (omega arith)
    go false true f g = let z : ◌≡◌ {A = ℕ} 0 1 = cc in absurd (omega arith)
    go false false f g = let d : q.to ≡ n = cc in omega (arith, ltb-false room q.to f)

stopped_gives : (k : ℕ) (q : Place) (l n room : ℕ) → stopped_at k q l ≡ Gave n → n ≤ room
unfolding stopped_at
stopped_gives k q l n room e = go (eqb k 32) e
  where
    go : (a : Bool) → cond a (Refused k) (Stopped k (record { at = q.from; leaves = l })) ≡ Gave n → n ≤ room
    go true g = let z : ◌≡◌ {A = ℕ} 0 1 = cc in absurd (omega arith)
    go false g = let z : ◌≡◌ {A = ℕ} 0 1 = cc in absurd (omega arith)

answered_fits : (leaves : Place → ℕ) (m room : ℕ) (w : Walked) (n : ℕ) → answered leaves m room w ≡ Gave n → n ≤ room
unfolding answered
answered_fits leaves m room (walked.Stopped k q) n e = stopped_gives k q (leaves q) n room e
answered_fits leaves m room (walked.Went q) n e = went_fits m room q (leaves q) n e

module _ (c : Codec) (m : ℕ) (ps t : List ℕ) (s : Sections) (i : ℕ) where
  on_fits : (a b : Bool) (tr : Tree) (room n : ℕ) → cond a (cond b (answered_tree c m tr room) (Refused 44)) (Refused 30) ≡ Gave n → n ≤ room
  on_fits true true tr room n e = answered_fits c.leaves m room (answer (walk c tr start [])) n e
  on_fits true false tr room n e = let z : ◌≡◌ {A = ℕ} 0 1 = cc in absurd (omega arith)
  on_fits false b tr room n e = let z : ◌≡◌ {A = ℕ} 0 1 = cc in absurd (omega arith)

  by_fits : (room n : ℕ) → answered_by c m ps t s i room ≡ Gave n → n ≤ room
  unfolding answered_by
  by_fits room n e = go (is_planned ps i) e
    where
      go : (a : Bool) → cond a (answered_tree c m (plan_tree t ps i) room) (answered_on c m t s i (type_by ps t s i) room) ≡ Gave n → n ≤ room
      go true g = answered_fits c.leaves m room (answer (walk c (plan_tree t ps i) start [])) n g
      go false g = on_fits (within t s) (is_type s i) (type_by ps t s i) room n g

  by-long : (x : List ℕ) → length (left_for c m ps t s i x) ≡ length x
  unfolding left_for
  by-long x = left_long (answered_by c m ps t s i (length x)) x _ (walk_long c (tree_for ps t s i) start x)

  by-stays : (x : List ℕ) → ¬ (number_given (answered_by c m ps t s i (length x)) ≡ 0) → left_for c m ps t s i x ≡ x
  unfolding left_for
  by-stays x k = left_stays (answered_by c m ps t s i (length x)) x (left (walk c (tree_for ps t s i) start x)) k

  by-outside : (room : ℕ) → is_planned ps i ≡ false → within t s ≡ false → answered_by c m ps t s i room ≡ Refused 30
  unfolding answered_by
  by-outside room p w = rw (p, w) refl

  by-no-type : (room : ℕ) → is_planned ps i ≡ false → within t s ≡ true → is_type s i ≡ false → answered_by c m ps t s i room ≡ Refused 44
  unfolding answered_by
  by-no-type room p w u = rw (p, w, u) refl

by_any : (ps t : List ℕ) (s : Sections) (i : ℕ) → ByAny ps t s i
by_any ps t s i =
    record {
      words_long = λ b words. by-long (reader b) (length b) ps t s i words;
      bytes_long = λ ws out. by-long (writer ws) (length ws) ps t s i out;
      words_fit = λ b room n e. by_fits (reader b) (length b) ps t s i room n e;
      bytes_fit = λ ws room n e. by_fits (writer ws) (length ws) ps t s i room n e;
      words_stay = λ b words k. by-stays (reader b) (length b) ps t s i words k;
      bytes_stay = λ ws out k. by-stays (writer ws) (length ws) ps t s i out k;
      outside = λ b room p w. by-outside (reader b) (length b) ps t s i room p w;
      no_type = λ b room p w u. by-no-type (reader b) (length b) ps t s i room p w u;
    }

pub the_plans : Plans
the_plans = record { as_the_walk = as_the_walk; without = without; which = which; lays_out = lays_out; by_any = by_any }
