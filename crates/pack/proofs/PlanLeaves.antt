-- The leaves of one run of a plan: which words they take, and how a walk over them goes on and ends.
-- Assumes nothing.
use Prim.Native.Nat.{ℕ, ◌+◌, ◌-◌, ◌≤◌, ◌<◌}
use mathlib.Core.Path.{◌≡◌, refl, sym, ap, ap₂, subst, ◌∙◌}
use mathlib.Core.Bool.{Bool, true, false, ◌&&◌, cond}
use mathlib.Core.List.{List, []}
use native.Mathlib.Omega.{arith}
use borrow.Author.Tests.{lt-ltb, le-ltb}
use lib.Dec.{eqb}
use lib.ListN.{length, get_or}
use Rattle.wire.proofs.Cond.{yes-eq, no_eq, both}
use Rattle.table.specs.Leaf.{width, allowed}
use Rattle.leaf.specs.Choice.{among_at}
use Rattle.walk.specs.declared.Place.{Place}
use Rattle.walk.specs.declared.Walked.TheVariants.{Went, Stopped}
use Rattle.walk.specs.Walk.{on, stop, answer, left, through}
use Rattle.walk.specs.Runs.{code_in, many_in, values_in, place_in, taken_by}
use Rattle.walk.proofs.Walks.{few_bytes, went, through-more, through-stop, through-done}
use Rattle.walk.proofs.Returns.{item-short, item-bad, item_on}
use Rattle.pack_leaves.specs.Stored.{is_there}
use Rattle.pack.specs.Writing.{writer, Writing}
use Rattle.pack.specs.ByPlan.{AllAmong, AllTaken, RunTaken}
use Rattle.pack_leaves.proofs.There.{judged}
use Rattle.pack.proofs.PlanWalks.{overRun, leafStep, run-leaves}

-- one word
module _ (t : List ℕ) (w n : ℕ) (count : n ≡ values_in w) where
  pub no-values : (v : ℕ) → n ≡ 0 → true ≡ taken_by t w v
  unfolding taken_by
  no-values v h = sym (yes-eq true (among_at t (place_in w) (values_in w) v) (values_in w) 0 (sym count ∙ h))

  module _ (p : ℕ) (place : p ≡ place_in w) (r : Bool) (v : ℕ) (is : r ≡ among_at t p n v) where
    in-values : r ≡ among_at t (place_in w) (values_in w) v
    in-values = is ∙ ap₂ (λ (a b : ℕ). among_at t a b v) place count

    pub some-values : (n ≡ 0 → ⊥) → r ≡ taken_by t w v
    unfolding taken_by
    some-values h = in-values ∙ sym (no_eq true (among_at t (place_in w) (values_in w) v) (values_in w) 0 (λ e. h (count ∙ e)))

    pub is_among : r ≡ true → taken_by t w v ≡ true
    unfolding taken_by
    is_among h = go (eqb (values_in w) 0)
      where
        go : (b : Bool) → cond b true (among_at t (place_in w) (values_in w) v) ≡ true
        go true = refl
        go false = sym in-values ∙ h

pub both_taken : (t : List ℕ) (w c v : ℕ) (a b : Bool) → c ≡ code_in w → a ≡ allowed c v → b ≡ taken_by t w v
    → (a && b) ≡ (allowed (code_in w) v && taken_by t w v)
both_taken t w c v a b h e g = ap₂ ◌&&◌ (e ∙ ap (λ (n : ℕ). allowed n v) h) g

-- all words of a run
module _ (ws t : List ℕ) (w from : ℕ) where
  pub any-taken : (n : ℕ) → n ≡ values_in w → n ≡ 0 → (m : ℕ) → AllTaken ws t w from m
  any-taken n count h m k l = sym (no-values t w n count (get_or ws (from + k) 0) h)

  pub all_taken : (n p m : ℕ) → n ≡ values_in w → p ≡ place_in w → m ≡ many_in w → AllAmong ws t p n from m → AllTaken ws t w from (many_in w)
  all_taken n p m count place many among k l =
      is_among t w n count p place true (get_or ws (from + k) 0) (sym (among k (omega arith))) refl

  -- a run of one
  pub one-taken : (n : ℕ) (r : Bool) → from ≤ length ws → n ≤ length ws - from → n ≡ many_in w → n ≡ 1 → r
      ≡ (allowed (code_in w) (get_or ws from 0) && taken_by t w (get_or ws from 0)) → r ≡ true → RunTaken ws t w from
  one-taken n r a b many one is h =
      let d : (allowed (code_in w) (get_or ws from 0) ≡ true) × (taken_by t w (get_or ws from 0) ≡ true) = both (allowed (code_in w) (get_or ws from 0))
      (taken_by t w (get_or ws from 0)) (sym is ∙ h) in
      record {
        inside = omega arith;
        there = λ k l. here (λ m. is_there ws (code_in w) m ≡ true) k (omega arith) (sym (judged ws from (code_in w) true (omega arith) (sym d.0)));
        taken = λ k l. here (λ m. taken_by t w (get_or ws m 0) ≡ true) k (omega arith) d.1;
      }
    where
      here : (P : ℕ → Type 0) (k : ℕ) → k ≡ 0 → P from → P (from + k)
      here P k e g = let f : from ≡ from + k = omega arith in subst P f g

-- leaf by leaf
module _ (ws t : List ℕ) (w : ℕ) (p : Place) where
  -- so many leaves are walked over
  abbrev pub So-far : ℕ → Place → Type 0
  So-far k q = Went q ≡ answer (through k (leafStep ws t w) p [])

  pub none-walked : So-far 0 p
  unfolding through answer
  none-walked = refl

  module _ (k : ℕ) (q : Place) (so_far : So-far k q) where
    here : List ℕ
    here = left (through k (leafStep ws t w) p [])

    walked : through k (leafStep ws t w) p [] ≡ on q here
    unfolding here
    walked = went (through k (leafStep ws t w) p []) q so_far

    stops : (n m : ℕ) → leafStep ws t w k q here ≡ stop n q here → k < m → m ≡ many_in w → Stopped n q ≡ answer (overRun ws t w p [])
    unfolding answer
    stops n m h l e =
        sym (ap answer (run-leaves ws t w p []
        ∙ through-stop (leafStep ws t w) p [] (many_in w) k n q q here here walked h (omega arith)))

    pub leaf-short : (m : ℕ) → length ws ≤ q.from → k < m → m ≡ many_in w → Stopped 40 q ≡ answer (overRun ws t w p [])
    unfolding writer
    leaf-short m h l e = stops 40 m (item-short (writer ws) 42 (code_in w) (taken_by t w) q here (le-ltb q.from (length ws) h)) l e

    pub leaves-done : (m : ℕ) → k ≤ m → m ≤ k → m ≡ many_in w → Went q ≡ answer (overRun ws t w p [])
    unfolding answer
    leaves-done m a b e =
        sym (ap answer (run-leaves ws t w p [] ∙ through-done (leafStep ws t w) p [] (many_in w) k (on q here) walked (omega arith) (omega arith)))

    module _ (there : q.from < length ws) (r : Bool) (is : r ≡ (allowed (code_in w) (get_or ws q.from 0) && taken_by t w (get_or ws q.from 0))) where
      pub leaf-bad : (m : ℕ) → r ≡ false → k < m → m ≡ many_in w → Stopped 42 q ≡ answer (overRun ws t w p [])
      unfolding writer
      leaf-bad m h l e = stops 42 m (item-bad (writer ws) 42 (code_in w) (taken_by t w) q here (lt-ltb q.from (length ws) there) (sym is ∙ h)) l e

      pub leaf-next : (code d : ℕ) → r ≡ true → code ≡ code_in w → d ≡ width code → So-far (k + 1) (record { from = q.from + 1; to = q.to + d })
      unfolding answer writer
      leaf-next code d h c e =
          rw (e, c) (sym (ap answer (through-more (leafStep ws t w) p [] k q here walked
          ∙ item_on (writer ws) 42 (code_in w) (taken_by t w) q here (lt-ltb q.from (length ws) there) (sym is ∙ h))))

pub writing_leaf : (ws : List ℕ) (q : Place) (code d : ℕ) → Writing ws q → q.from < length ws → d ≡ width code
    → Writing ws (record { from = q.from + 1; to = q.to + d })
writing_leaf ws q code d h l e = (omega (arith, h.0, few_bytes code), omega arith)
