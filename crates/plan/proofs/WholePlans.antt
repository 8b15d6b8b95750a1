-- The plans as a whole: the count, the index and the runs in the words that were lent.
-- Assumes nothing.
use Prim.Native.Nat.{ℕ, zero, suc, ◌+◌, ◌*◌, ◌-◌, ◌≤◌, ◌<◌}
use mathlib.Core.Path.{◌≡◌, refl, sym, ap, ◌∙◌}
use mathlib.Core.Bool.{Bool, true, false}
use mathlib.Core.List.{List, [], ◌∷◌, ◌++◌, append_assoc, append-nil}
use native.Mathlib.Omega.{arith}
use borrow.Rule.Slice.PartMut.{put_mid}
use lib.ListN.{length, get_or, take, drop, length-append, length-drop, drop_of_length-le}
use lib.Seq.{length-take-le, take_all, drop_at, drop-drop}
use Rattle.wire.specs.Bytes.{over}
use Rattle.table.specs.declared.Sections.{Sections}
use Rattle.table.specs.Layout.{most_types, within}
use Rattle.plan.specs.Leaves.{sum_below, leaf_counts, leaves}
use Rattle.plan.specs.Layout.{runs, all_runs, index_word, index, plans, plans_length, laid_number, laid_out}
use Rattle.plan.specs.Laying.{Before, starts_of, index_of, front_of, most_runs}
use Rattle.wire.proofs.Cond.{yes_lt, no_lt}
use Rattle.plan.proofs.FlatTypes.{leaves-known, leaves-most}
use Rattle.plan.proofs.LeafLaws.{all_counted, in_all}
use Rattle.plan.proofs.Types.{length_more, length-starts, starts-known}
use Rattle.plan.proofs.AllTypes.{all-thin}
use Rattle.plan.proofs.Fronts.{length-index}

-- at most 512 leaves a type
module _ (t : List ℕ) (s : Sections) where
  sum-few : (n : ℕ) → sum_below (leaves t s) n ≤ 512 * n
  unfolding sum_below
  sum-few zero = omega arith
  sum-few (suc n) = omega (arith, sum-few n, leaves-most t s n)

  -- so all starts are small
  pub all-before : (starts : List ℕ) (n : ℕ) → n ≤ most_types → take (n + 1) starts ≡ starts_of t s (n + 1) → Before (take (n + 1) starts) n most_runs
  all-before starts n few e =
      record {
        long = omega (arith, ap length e, length-starts t s (n + 1));
        order = λ c h. omega (arith, at c (omega arith), at (c + 1) (omega arith), length_more t s c);
        below = λ c h. omega (arith, at (c + 1) (omega arith), all-thin t s (c + 1), sum-few (c + 1));
      }
    where
      at : (c : ℕ) → c ≤ n → get_or (take (n + 1) starts) c 0 ≡ length (all_runs t s c)
      at c h = ap (λ (u : List ℕ). get_or u c 0) e ∙ starts-known t s (n + 1) c (omega arith)

  -- the index is that of the types
  module _ (counts starts : List ℕ) (n before : ℕ) (all : counts ≡ leaf_counts t s n) (e : starts ≡ starts_of t s (n + 1)) where
    at : (c : ℕ) → c ≤ n → get_or starts c 0 ≡ length (all_runs t s c)
    at c h = ap (λ (u : List ℕ). get_or u c 0) e ∙ starts-known t s (n + 1) c (omega arith)

    pub index_is : (k : ℕ) → k ≤ n → index_of counts starts before k ≡ index t s before k
    unfolding index_of index
    index_is zero h = refl
    index_is (suc k) h =
        let a : get_or starts k 0 ≡ length (all_runs t s k) = at k (omega arith) in
        let b : get_or starts (k + 1) 0 - get_or starts k 0 ≡ length (runs t s k) = omega (arith, a, at (k + 1) (omega arith), length_more t s k) in
        let c : get_or counts k 0 ≡ leaves t s k = ap (λ (u : List ℕ). get_or u k 0) all ∙ leaves-known t s n k (omega arith) in
        ap (λ (u : List ℕ). u ++ (index_word (before + get_or starts k 0) (get_or starts (k + 1) 0 - get_or starts k 0) (get_or counts k 0) ∷ []))
        (index_is k (omega arith))
        ∙ ap (λ (m : ℕ). index t s before k ++ (index_word (before + m) (get_or starts (k + 1) 0 - get_or starts k 0) (get_or counts k 0) ∷ [])) a
        ∙ ap (λ (m : ℕ). index t s before k ++ (index_word (before + length (all_runs t s k)) m (get_or counts k 0) ∷ [])) b
        ∙ ap (λ (m : ℕ). index t s before k ++ (index_word (before + length (all_runs t s k)) (length (runs t s k)) m ∷ [])) c

-- words behind a place that were lent, and are back
module _ (a : ℕ) (ws : List ℕ) where
  behind : length (drop a ws) ≤ length ws - a
  behind = omega (arith, length-drop a ws)

  lent : take (length ws - a) (drop a ws) ≡ drop a ws
  lent = take_all (length ws - a) (drop a ws) behind

  back : (last : List ℕ) → put_mid a (length ws - a) ws last ≡ take a ws ++ last
  back last =
      ap (λ (u : List ℕ). take a ws ++ (last ++ u)) (drop_of_length-le (drop a ws) behind) ∙ ap (λ (u : List ℕ). take a ws ++ u) (append-nil last)

  -- what stands before them, and they
  pub front-back : (f r last : List ℕ) → length f ≡ a → a + length r ≤ length ws → last ≡ over (take (length ws - a) (drop a ws)) 0 r
      → over (put_mid a (length ws - a) ws last) 0 f ≡ over ws 0 (f ++ r)
  front-back f r last n h e =
      let d : List ℕ = drop (0 + length r) (drop a ws) in
      let p : put_mid a (length ws - a) ws last ≡ take a ws ++ (r ++ d) =
      back last ∙ ap (λ (u : List ℕ). take a ws ++ u) (e ∙ ap (λ (u : List ℕ). over u 0 r) lent) in
      let m : 0 + length f ≡ a = omega arith in
      let k : a + (0 + length r) ≡ 0 + length (f ++ r) = omega (arith, length-append f r) in
      ap (λ (u : List ℕ). over u 0 f) p
      ∙ ap (λ (i : ℕ). f ++ drop i (take a ws ++ (r ++ d))) m
      ∙ ap (λ (u : List ℕ). f ++ u) (drop_at (take a ws) (r ++ d) a (length-take-le a ws (omega arith)))
      ∙ sym (append_assoc f r d)
      ∙ ap (λ (u : List ℕ). (f ++ r) ++ u) (drop-drop (0 + length r) a ws ∙ ap (λ (i : ℕ). drop i ws) k)

module _ (t : List ℕ) (s : Sections) (counts ws : List ℕ) (is : length counts ≡ s.types.count) (all : counts ≡ leaf_counts t s (length counts))
    (room : 1 + length counts + sum_below (leaves t s) (length counts) ≤ length ws) where
  pub out-held : (starts last u : List ℕ) → take (length counts + 1) starts ≡ starts_of t s (length counts + 1)
      → last ≡ over (take (length ws - (length counts + 1)) (drop (length counts + 1) ws)) 0 (all_runs t s (length counts))
      → u ≡ over (put_mid (length counts + 1) (length ws - (length counts + 1)) ws last) 0 (front_of counts (take (length counts + 1) starts))
      → u ≡ over ws 0 (plans t s)
  unfolding plans
  out-held starts last u st runs_are e =
      let n : ℕ = length counts in
      let xs : List ℕ = n ∷ index_of counts (take (n + 1) starts) (1 + n) n in
      let l : length xs ≡ n + 1 = omega (arith, length-index counts (take (n + 1) starts) (1 + n) n) in
      let p : xs ++ all_runs t s n ≡ n ∷ (index t s (1 + n) n ++ all_runs t s n) =
      ap (λ (v : List ℕ). n ∷ (v ++ all_runs t s n)) (index_is t s counts (take (n + 1) starts) n (1 + n) all st n (omega arith)) in
      e ∙ front-back (n + 1) ws xs (all_runs t s n) last l (omega (arith, all-thin t s n)) runs_are
      ∙ ap (over ws 0) p
      ∙ ap (λ (m : ℕ). over ws 0 (m ∷ (index t s (1 + m) m ++ all_runs t s m))) is

-- the call's answers
pub lies_in : (t : List ℕ) (s : Sections) (b : Bool) → b ≡ within t s → b ≡ true → within t s ≡ true
lies_in t s b e h = sym e ∙ h

module _ (t : List ℕ) (s : Sections) (ws : List ℕ) where
  pub cut-number : (b : Bool) → b ≡ within t s → b ≡ false → 30 ≡ laid_number t s (length ws)
  unfolding laid_number
  cut-number b e h = rw (← e, h) refl

  pub cut-held : (b : Bool) → b ≡ within t s → b ≡ false → ws ≡ laid_out t s ws
  unfolding laid_out
  cut-held b e h = rw (← cut-number b e h) refl

  module _ (room : List ℕ) (total : ℕ) (is : within t s ≡ true) (filled : take s.types.count room ≡ leaf_counts t s s.types.count)
      (added : total ≡ sum_below (λ k. get_or (take s.types.count room) k 0) (length (take s.types.count room))) where
    the-length : 1 + s.types.count + total ≡ plans_length t s
    the-length = in_all t s room total filled added

    pub short-number : length ws < 1 + s.types.count + total → 10 ≡ laid_number t s (length ws)
    unfolding laid_number
    short-number h = rw is (sym (yes_lt 10 0 (length ws) (plans_length t s) (omega (arith, the-length))))

    pub short-held : length ws < 1 + s.types.count + total → ws ≡ laid_out t s ws
    unfolding laid_out
    short-held h = rw (← short-number h) refl

    module _ (h : 1 + s.types.count + total ≤ length ws) where
      pub laid-number : 0 ≡ laid_number t s (length ws)
      unfolding laid_number
      laid-number = rw is (sym (no_lt 10 0 (length ws) (plans_length t s) (omega (arith, the-length))))

      pub laid-held : (u : List ℕ) → u ≡ over ws 0 (plans t s) → u ≡ laid_out t s ws
      unfolding laid_out
      laid-held u e = rw (← laid-number) e

      module _ (long : s.types.count ≤ length room) where
        pub counts-long : length (take s.types.count room) ≡ s.types.count
        counts-long = length-take-le s.types.count room long

        pub counts-room : 1 + length (take s.types.count room) + sum_below (leaves t s) (length (take s.types.count room)) ≤ length ws
        counts-room =
            rw counts-long
            (omega (arith, all_counted t s room s.types.count total filled added))
