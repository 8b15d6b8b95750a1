-- What adding a run, and runs one behind another, comes to in the words.
-- Assumes nothing.
use Prim.Native.Nat.{ℕ, ◌+◌, ◌*◌, ◌-◌, ◌≤◌, ◌<◌}
use mathlib.Core.Path.{◌≡◌, sym, ap, ◌∙◌}
use mathlib.Core.Bool.{Bool, true, false}
use mathlib.Core.List.{List, [], ◌∷◌, ◌++◌}
use native.Mathlib.Omega.{arith}
use lib.ListN.{length, get_or, set, length-append}
use Rattle.wire.specs.Bytes.{over}
use Rattle.table.specs.declared.Sections.{Sections}
use Rattle.table.specs.declared.Entry.{Entry}
use Rattle.walk.specs.Runs.{many_in}
use Rattle.plan.specs.Layout.{run_word, leaf_run, alike, merged, add, add_all}
use Rattle.plan.specs.Laying.{between, many_of, Room}
use Rattle.wire.proofs.Runs.{length_over}
use Rattle.wire.proofs.Cond.{yes-eq, no_eq}
use Rattle.plan.proofs.Betweens.{between_none, between_same, between_last, between_split, between_more, between_written}
use Rattle.plan.proofs.Betweens.{length_between, word_before, over_between, over_again, set_between}
use Rattle.plan.proofs.RunCounts.{many_append, many_one, add_alike, add_unlike, add_all_one}
use Rattle.plan.proofs.RunCounts.{length_add, add_longer, length_add_all, many_add_all}

pub enum_run : (s : Sections) (e : Entry) (r : ℕ) → e.kind ≡ 1 → r ≡ run_word e.of e.count (s.values.at + 8 * e.first) → r ≡ leaf_run s e
unfolding leaf_run
enum_run s e r k h = h ∙ ap (run_word e.of e.count) (sym (yes-eq _ 0 e.kind 1 k))

pub base_run : (s : Sections) (e : Entry) (r : ℕ) → (e.kind ≡ 1 → ⊥) → r ≡ run_word e.of e.count 0 → r ≡ leaf_run s e
unfolding leaf_run
base_run s e r k h = h ∙ ap (run_word e.of e.count) (sym (no_eq _ 0 e.kind 1 k))

-- a run behind those from a place on
module _ (l : List ℕ) (from end run : ℕ) (room : Room l from end 1 (many_in run)) where
  -- there is none
  module _ (same : from ≡ end) where
    first_run : add (between from end l) run ≡ run ∷ []
    unfolding add
    first_run = ap (λ (xs : List ℕ). add xs run) (between_same from end l same)

    pub first-end : end + 1 ≡ from + length (add (between from end l) run)
    first-end = omega (arith, ap length first_run)

    pub first-held : set l end run ≡ over l from (add (between from end l) run)
    first-held =
        set_between from end run l room.order (omega (arith, room.fits))
        ∙ ap (λ (xs : List ℕ). over l from (xs ++ (run ∷ []))) (between_same from end l same)
        ∙ ap (over l from) (sym first_run)

  module _ (more : from ≡ end → ⊥) where
    its-last : between from end l ≡ between from (end - 1) l ++ (get_or l (end - 1) 0 ∷ [])
    its-last = between_last from end l (omega (arith, room.order)) (omega (arith, room.fits))

    pub few-more : many_in (get_or l (end - 1) 0) + many_in run < 65536
    few-more =
        let x : List ℕ = between from (end - 1) l in
        let y : List ℕ = get_or l (end - 1) 0 ∷ [] in
        omega (arith, room.few, ap many_of its-last, many_append x y, many_one (get_or l (end - 1) 0))

    -- the last is like it
    module _ (r : Bool) (test : r ≡ alike (get_or l (end - 1) 0) run) (is : r ≡ true) where
      more-run : add (between from end l) run ≡ between from (end - 1) l ++ (merged (get_or l (end - 1) 0) run ∷ [])
      more-run = ap (λ (xs : List ℕ). add xs run) its-last ∙ add_alike (between from (end - 1) l) (get_or l (end - 1) 0) run (sym test ∙ is)

      pub more-end : end ≡ from + length (add (between from end l) run)
      more-end =
          let x : List ℕ = between from (end - 1) l in
          let y : List ℕ = merged (get_or l (end - 1) 0) run ∷ [] in
          let n : from + length x ≡ end - 1 = length_between from (end - 1) l (omega (arith, room.order)) (omega (arith, room.fits)) in
          omega (arith, room.order, ap length more-run, length-append x y)

      pub more-held : (m : ℕ) → m ≡ merged (get_or l (end - 1) 0) run → set l (end - 1) m ≡ over l from (add (between from end l) run)
      more-held m e =
          ap (set l (end - 1)) e
          ∙ set_between from (end - 1) (merged (get_or l (end - 1) 0) run) l (omega (arith, room.order)) (omega (arith, room.fits))
          ∙ ap (over l from) (sym more-run)

    -- or unlike
    module _ (r : Bool) (test : r ≡ alike (get_or l (end - 1) 0) run) (is : r ≡ false) where
      next-run : add (between from end l) run ≡ between from end l ++ (run ∷ [])
      next-run =
          ap (λ (xs : List ℕ). add xs run) its-last ∙ add_unlike (between from (end - 1) l) (get_or l (end - 1) 0) run (sym test ∙ is)
          ∙ ap (λ (xs : List ℕ). xs ++ (run ∷ [])) (sym its-last)

      pub next-end : end + 1 ≡ from + length (add (between from end l) run)
      next-end =
          let x : List ℕ = between from end l in
          let n : from + length x ≡ end = length_between from end l room.order (omega (arith, room.fits)) in
          omega (arith, ap length next-run, length-append x (run ∷ []))

      pub next-held : set l end run ≡ over l from (add (between from end l) run)
      next-held = set_between from end run l room.order (omega (arith, room.fits)) ∙ ap (over l from) (sym next-run)

-- runs of before behind those from a place on, run by run
module _ (l₀ : List ℕ) (from end at stop : ℕ) (below : stop ≤ from) (room : Room l₀ from end (stop - at) (many_of (between at stop l₀))) where
  module _ (order : at ≤ stop) where
    pub start-end : end ≡ from + length (add_all (between from end l₀) (between at at l₀))
    unfolding add_all
    start-end = rw (between_none at l₀) (sym (length_between from end l₀ room.order (omega (arith, room.fits))))

    pub start-held : l₀ ≡ over l₀ from (add_all (between from end l₀) (between at at l₀))
    unfolding add_all
    start-held = rw (between_none at l₀) (sym (over_between from end l₀ room.order (omega (arith, room.fits))))

  module _ (l : List ℕ) (to k : ℕ) (a : at ≤ k) (b : k < stop) (held : l ≡ over l₀ from (add_all (between from end l₀) (between at k l₀)))
      (ends : to ≡ from + length (add_all (between from end l₀) (between at k l₀))) where
    so_far : List ℕ
    so_far = add_all (between from end l₀) (between at k l₀)

    short : from + length so_far ≤ end + (k - at)
    unfolding so_far
    short =
        let x : from + length (between from end l₀) ≡ end = length_between from end l₀ room.order (omega (arith, room.fits)) in
        let y : at + length (between at k l₀) ≡ k = length_between at k l₀ a (omega (arith, room.order, room.fits)) in
        omega (arith, length_add_all (between from end l₀) (between at k l₀))

    as_long : length l ≡ length l₀
    unfolding so_far
    as_long = ap length held ∙ length_over l₀ from so_far (omega (arith, short, room.fits))

    there : between from to l ≡ so_far
    unfolding so_far
    there =
        ap (λ (n : ℕ). between from n l) ends ∙ ap (between from (from + length so_far)) held
        ∙ between_written from l₀ so_far (omega (arith, room.order, room.fits))

    same_word : get_or l k 0 ≡ get_or l₀ k 0
    unfolding so_far
    same_word = ap (λ (u : List ℕ). get_or u k 0) held ∙ word_before from k l₀ so_far (omega arith) (omega (arith, room.order, room.fits))

    one_more : between at (k + 1) l₀ ≡ between at k l₀ ++ (get_or l₀ k 0 ∷ [])
    one_more = between_more at k l₀ a (omega (arith, room.order, room.fits))

    its-leaves : many_of (between at k l₀) + many_in (get_or l₀ k 0) ≤ many_of (between at stop l₀)
    its-leaves =
        let x : List ℕ = between at k l₀ in
        let y : List ℕ = get_or l₀ k 0 ∷ [] in
        let z : List ℕ = between (k + 1) stop l₀ in
        let e : between at stop l₀ ≡ between at (k + 1) l₀ ++ z =
        between_split at (k + 1) stop l₀ (omega arith) (omega arith) (omega (arith, room.order, room.fits)) in
        omega (arith, ap many_of e, many_append (between at (k + 1) l₀) z, ap many_of one_more, many_append x y, many_one (get_or l₀ k 0))

    pub turn-room : Room l from to 1 (many_in (get_or l k 0))
    unfolding so_far
    turn-room =
        let m : many_of so_far ≡ many_of (between from end l₀) + many_of (between at k l₀) =
        many_add_all (between from end l₀) (between at k l₀) (omega (arith, its-leaves, room.few)) in
        record {
          order = omega arith;
          fits = omega (arith, short, as_long, room.fits);
          few = omega (arith, its-leaves, room.few, ap many_of there, ap many_in same_word);
        }

    its-sum : add (between from to l) (get_or l k 0) ≡ add_all (between from end l₀) (between at (k + 1) l₀)
    unfolding so_far
    its-sum =
        ap (λ (u : List ℕ). add u (get_or l k 0)) there ∙ ap (add so_far) same_word
        ∙ sym (add_all_one (between from end l₀) (between at k l₀) (get_or l₀ k 0))
        ∙ ap (add_all (between from end l₀)) (sym one_more)

    pub turn_end : (r : ℕ) → r ≡ from + length (add (between from to l) (get_or l k 0))
        → r ≡ from + length (add_all (between from end l₀) (between at (k + 1) l₀))
    turn_end r e = e ∙ ap (λ (u : List ℕ). from + length u) its-sum

    pub turn-held : (u : List ℕ) → u ≡ over l from (add (between from to l) (get_or l k 0))
        → u ≡ over l₀ from (add_all (between from end l₀) (between at (k + 1) l₀))
    unfolding so_far
    turn-held u e =
        let x : ℕ = get_or l k 0 in
        let z : add (between from to l) x ≡ add so_far x = ap (λ (v : List ℕ). add v x) there in
        e ∙ ap (over l from) z ∙ ap (λ (v : List ℕ). over v from (add so_far x)) held
        ∙ over_again from l₀ so_far (add so_far x) (omega (arith, length_add so_far x, short, room.fits)) (add_longer so_far x)
        ∙ ap (over l₀ from) (sym z ∙ its-sum)
