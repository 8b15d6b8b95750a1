-- A request on a list that is like a map, in either issue: the map's checks decide as the list's do, and the list stays like the map.
-- Assumes nothing.
use Prim.Native.Nat.{ℕ, zero, suc, ◌+◌, ◌^◌, ◌≤◌, ◌<◌}
use Rattle.std.specs.Prelude.{Ok}
use Rattle.std.specs.Prelude.{Option, Some, None}
use mathlib.Core.Path.{◌≡◌, refl, sym, subst}
use mathlib.Core.List.{List}
use native.Mathlib.Omega.{arith}
use lib.ListN.{length}
use Rattle.table.specs.declared.Sections.{Sections}
use Rattle.types.specs.Table.{checked}
use Rattle.pending.specs.Places.{number_at, free_place, entered_at}
use Rattle.pending.specs.Free.{is_pending, next_free, IsNextFree}
use Rattle.pending.specs.PlainMap.{Map, taken, inserted, LikeMap}
use Rattle.pending.proofs.Looking.{is-first, none-bears-it}
use Rattle.pending.proofs.Drawing.{next-is-free}
use Rattle.pending.proofs.AsMap.{full-counts, room-counts, same_taken, entered-like}
use Rattle.pending.proofs.Turning.{next_by}
use Rattle.requests.specs.declared.Issue.{Issue}
use Rattle.requests.specs.declared.Issue.TheVariants.{Six, Three}
use Rattle.requests.specs.declared.Sending.{Sending}
use Rattle.requests.specs.Sending.{send_refusal_for, answered_by, number_given}
use Rattle.requests.proofs.Sends.{Sendable, sendable}
use Rattle.promises.specs.Checks.{Answers, Gives, none, this, next}
use Rattle.promises.specs.RequestCalls.{kind_in}
use Rattle.promises.specs.RequestRuns.{Full, map_checks}
use Rattle.promises.specs.MixedAsked.{head_of}
use Rattle.promises.proofs.Checks.{numbers}
use Rattle.promises.proofs.SentFor.{checksAt, refusalAt, order-at}
use Rattle.promises.proofs.RequestTables.{no-request, some-request}

-- what a number says: 0 is no refusal
abbrev pub matched_by_number : {A : Type 0} → (ℕ → A) → A → ℕ → A
matched_by_number f a zero = a
matched_by_number f a (suc k) = f (suc k)

module _ (l : List ℕ) (m : Map) (same : LikeMap l m) (from : ℕ) where
  -- 60, by the map's count
  abbrev NoneFree : Type 0
  NoneFree = (k : ℕ) → k < 64 → ¬ (number_at l k ≡ 0)

  is-full : NoneFree → Full m
  is-full h = go (free_place l) refl
    where
      go : (x : Option ℕ) → free_place l ≡ x → Full m
      go (Some k) q = absurd (h k (is-first l 0 64 0 k q).below (is-first l 0 64 0 k q).named)
      go None q = full-counts l m same q

  not_full : ¬ NoneFree → ¬ (Full m)
  not_full d c = go (free_place l) refl
    where
      go : (x : Option ℕ) → free_place l ≡ x → ⊥
      go (Some k) q = omega (arith, room-counts l m same k q)
      go None q = d (λ k h. none-bears-it l 0 64 0 k q (omega arith) h)

  -- the number that a request takes
  pub free_on : from < 2 ^ 32 → IsNextFree (taken m) from (next_free l from)
  free_on fits = next_by (is_pending l) (taken m) from (next_free l from) (same_taken l m same) (next-is-free l from fits)

  module _ (t : List ℕ) (s : Sections) (e : checked t ≡ Ok s) (words : List ℕ) (room : s.operations.count ≤ length words) (id : ℕ)
      (payload : List ℕ) (space : ℕ) where
    abbrev kind : ℕ
    kind = kind_in t s words id

    order-on : (header : ℕ) {A : Type 0} (f : ℕ → A) (a : A)
        → Answers f a (map_checks header t s id m payload space) (matched_by_number f a (refusalAt header from kind l payload space))
    order-on header {A} f a =
        go (refusalAt header from kind l payload space)
        (subst (Gives (checksAt header from kind l payload space)) (given (refusalAt header from kind l payload space))
        (numbers (λ (x : Sending). number_given x.answer) (λ k. refl) refl (order-at header from kind l payload space)))
      where
        given : (r : ℕ) → number_given (answered_by r from (next_free l from) (header + length payload)).answer ≡ r
        given zero = refl
        given (suc r) = refl

        go : (r : ℕ) → Gives (checksAt header from kind l payload space) r
            → Answers f a (map_checks header t s id m payload space) (matched_by_number f a r)
        go r (this h) = this (no-request t s e words room id h)
        go r (next a (this h)) = next (some-request t s e words room id a) (this (is-full h))
        go r (next a (next b (this h))) = next (some-request t s e words room id a) (next (not_full b) (this h))
        go r (next a (next b (next c (this h)))) = next (some-request t s e words room id a) (next (not_full b) (next c (this h)))
        go r (next a (next b (next c (next d none)))) = next (some-request t s e words room id a) (next (not_full b) (next c (next d none)))

    -- by the issue
    pub order-for : (issue : Issue) {A : Type 0} (f : ℕ → A) (a : A)
        → Answers f a (map_checks (head_of issue) t s id m payload space) (matched_by_number f a (send_refusal_for issue l kind id payload space))
    order-for Six f a = order-on 20 f a
    order-for (Three st) f a = order-on 24 f a

    -- a request that is sent stands in the map too
    pub like-sent : (issue : Issue) (target : ℕ) → from < 2 ^ 32 → id < 2 ^ 32 → send_refusal_for issue l kind id payload space ≡ 0
        → LikeMap (entered_at l (free_place l) (next_free l from) id target) (inserted m (next_free l from) id target)
    like-sent issue target fits small q =
        let can : Sendable issue l kind id payload space = sendable issue l kind id payload space q in
        let free : IsNextFree (is_pending l) from (next_free l from) = next-is-free l from fits in
        subst (λ (x : Option ℕ). LikeMap (entered_at l x (next_free l from) id target) (inserted m (next_free l from) id target)) (sym can.free)
        (entered-like l m same can.place (next_free l from) id target can.free small free.not_zero free.not_taken)
