-- A list tells over any turns what the plain map does, and the map tells one thing only.
-- Assumes nothing.
use Rattle.std.proofs.Common.{◌≡◌, ℕ, ◌+◌, ◌*◌, ◌^◌, ◌<◌, Bool, true, false, eqb, List, [], ◌∷◌, length, sym, refl, ap, ◌∙◌, subst, arith, eqb-true}
use Rattle.std.specs.Prelude.{Option, Some, None}
use borrow.Author.Tests.{eqb-false}
use lib.ListN.{get_or-replicate}
use Rattle.wire.proofs.Cond.{yes-if, no-if}
use Rattle.pending.specs.Places.{target_at, place_of, free_place, placed, entered_at}
use Rattle.pending.specs.Free.{is_pending, next_free, on_from, IsNextFree}
use Rattle.pending.specs.Answers.{cleared_at, cancelled, is_response, responded}
use Rattle.pending.specs.PlainMap.{Map, taken, asks, empty_map, inserted, deleted, fresh_list, LikeMap}
use Rattle.pending.specs.Turns.{Turn, request, give_up, arrival, ask, Narrow, whether, what, numbered_at}
use Rattle.pending.specs.Turns.{list_after, list_tells, MapTurn, refuses, enters, forgets, delivers, passes, looks}
use Rattle.pending.specs.Turns.{AllNarrow, list_tells_all, list_after_all, Kempt, MapRun, ended, then}
use Rattle.pending.proofs.Looking.{is-first, its-place}
use Rattle.pending.proofs.Placing.{target-here, target-elsewhere}
use Rattle.pending.proofs.Drawing.{next-is-free}
use Rattle.pending.proofs.AsMap.{response-by, fresh_like, full-counts, room-counts, same_taken, entered-like, cancelled-like}

-- the same numbers are taken: the next one free is the same
pub next_by : (f g : ℕ → Bool) (n x : ℕ) → ((k : ℕ) → f k ≡ g k) → IsNextFree f n x → IsNextFree g n x
next_by f g n x h a =
    record {
      draws = a.draws;
      reached = a.reached;
      not_zero = a.not_zero;
      not_taken = sym (h x) ∙ a.not_taken;
      passed = λ d b z. sym (h (on_from n d)) ∙ a.passed d b z;
    }

-- the map that goes along with a list
pub record Along (l : List ℕ) (m : Map) (t : Turn) : Type 0 where
  pub after : Map
  pub goes : MapTurn m t (list_tells l t) after
  pub like : LikeMap (list_after l t) after

module _ (l : List ℕ) (m : Map) (same : LikeMap l m) where
  requests-along : (next id target : ℕ) → next < 2 ^ 32 → id < 2 ^ 32 → Along l m (request next id target)
  requests-along next id target a b = go (free_place l) refl
    where
      found : IsNextFree (is_pending l) next (next_free l next)
      found = next-is-free l next a

      go : (s : Option ℕ) → free_place l ≡ s → Along l m (request next id target)
      go (Some k) p =
          let n : ℕ = next_free l next in
          record {
            after = inserted m n id target;
            goes =
                subst (λ (s : Option ℕ). MapTurn m (request next id target) (numbered_at s n) (inserted m n id target)) (sym p)
                (enters (room-counts l m same k p) (next_by (is_pending l) (taken m) next n (same_taken l m same) found));
            like =
                subst (λ (s : Option ℕ). LikeMap (entered_at l s n id target) (inserted m n id target)) (sym p)
                (entered-like l m same k n id target p b found.not_zero found.not_taken);
          }
      go None p =
          let n : ℕ = next_free l next in
          record {
            after = m;
            goes = subst (λ (s : Option ℕ). MapTurn m (request next id target) (numbered_at s n) m) (sym p) (refuses (full-counts l m same p));
            like = subst (λ (s : Option ℕ). LikeMap (entered_at l s n id target) m) (sym p) same;
          }

  same_asked : (n id sender : ℕ) → is_response l n id sender ≡ asks (m.under n) id sender
  same_asked n id sender = response-by l n id sender ∙ ap (λ (x : Option (ℕ × ℕ)). asks x id sender) (same.looked n)

  arrivals-along : (n id sender : ℕ) → Along l m (arrival n id sender)
  arrivals-along n id sender = go (is_response l n id sender) refl
    where
      go : (b : Bool) → is_response l n id sender ≡ b → Along l m (arrival n id sender)
      go true e =
          record {
            after = deleted m n;
            goes =
                subst (λ (b : Bool). MapTurn m (arrival n id sender) (whether b) (deleted m n)) (sym e)
                (delivers (sym (same_asked n id sender) ∙ e));
            like = subst (λ (r : List ℕ). LikeMap r (deleted m n)) (sym (yes-if (cancelled l n) l e)) (cancelled-like l m same n);
          }
      go false e =
          record {
            after = m;
            goes = subst (λ (b : Bool). MapTurn m (arrival n id sender) (whether b) m) (sym e) (passes (sym (same_asked n id sender) ∙ e));
            like = subst (λ (r : List ℕ). LikeMap r m) (sym (no-if (cancelled l n) l e)) same;
          }

  -- one turn
  pub along : (t : Turn) → Narrow t → Along l m t
  along (request next id target) h = requests-along next id target h.0 h.1.0
  along (give_up n) h =
      record {
        after = deleted m n;
        goes = subst (λ (b : Bool). MapTurn m (give_up n) (whether b) (deleted m n)) (sym (same_taken l m same n)) forgets;
        like = cancelled-like l m same n;
      }
  along (arrival n id sender) h = arrivals-along n id sender
  along (ask n) h =
      record {
        after = m;
        goes = subst (λ (x : Option (ℕ × ℕ)). MapTurn m (ask n) (what x) m) (sym (same.looked n)) looks;
        like = same;
      }

runs_along : (l : List ℕ) (m : Map) (ts : List Turn) → LikeMap l m → AllNarrow ts → MapRun m ts (list_tells_all l ts)
runs_along l m [] same h = ended
runs_along l m (t ∷ ts) same h =
    let a : Along l m t = along l m same t h.0 in
    then a.goes (runs_along (list_after l t) a.after ts a.like h.1)

-- "Over any calls the list answers as a plain map does"
pub as_a_map : (ts : List Turn) → AllNarrow ts → MapRun empty_map ts (list_tells_all fresh_list ts)
as_a_map ts h = runs_along fresh_list empty_map ts fresh_like h

-- targets stay narrow, turn by turn
module _ (l : List ℕ) (whole : length l ≡ 128) (narrow : (k : ℕ) → k < 64 → target_at l k < 2 ^ 32) where
  placed-narrow : (k w t : ℕ) → k < 64 → t < 2 ^ 32 → (j : ℕ) → j < 64 → target_at (placed l k w t) j < 2 ^ 32
  placed-narrow k w t h small j b = go (eqb j k) refl
    where
      go : (s : Bool) → eqb j k ≡ s → target_at (placed l k w t) j < 2 ^ 32
      go true s =
          let e : target_at (placed l k w t) j ≡ t = ap (target_at (placed l k w t)) (eqb-true j k s) ∙ target-here l k w t h whole in
          omega arith
      go false s =
          let e : target_at (placed l k w t) j ≡ target_at l j = target-elsewhere l k w t h j (eqb-false j k s) b in
          omega (arith, narrow j b)

  cancelled-narrow : (n j : ℕ) → j < 64 → target_at (cancelled l n) j < 2 ^ 32
  cancelled-narrow n j b = go (place_of l n) refl
    where
      go : (s : Option ℕ) → place_of l n ≡ s → target_at (cleared_at l (place_of l n)) j < 2 ^ 32
      go (Some k) p =
          subst (λ (s : Option ℕ). target_at (cleared_at l s) j < 2 ^ 32) (sym p) (placed-narrow k 0 0 (its-place l n k p).below (omega arith) j b)
      go None p = subst (λ (s : Option ℕ). target_at (cleared_at l s) j < 2 ^ 32) (sym p) (narrow j b)

  after-narrow : (t : Turn) → Narrow t → (j : ℕ) → j < 64 → target_at (list_after l t) j < 2 ^ 32
  after-narrow (request next id target) h j b = go (free_place l) refl
    where
      n : ℕ
      n = next_free l next

      go : (s : Option ℕ) → free_place l ≡ s → target_at (entered_at l (free_place l) n id target) j < 2 ^ 32
      go (Some k) p =
          subst (λ (s : Option ℕ). target_at (entered_at l s n id target) j < 2 ^ 32) (sym p)
          (placed-narrow k (n * 2 ^ 32 + id) target (is-first l 0 64 0 k p).below h.1.1 j b)
      go None p = subst (λ (s : Option ℕ). target_at (entered_at l s n id target) j < 2 ^ 32) (sym p) (narrow j b)
  after-narrow (give_up n) h j b = cancelled-narrow n j b
  after-narrow (arrival n id sender) h j b = go (is_response l n id sender) refl
    where
      go : (s : Bool) → is_response l n id sender ≡ s → target_at (responded l n id sender) j < 2 ^ 32
      go true e = subst (λ (r : List ℕ). target_at r j < 2 ^ 32) (sym (yes-if (cancelled l n) l e)) (cancelled-narrow n j b)
      go false e = subst (λ (r : List ℕ). target_at r j < 2 ^ 32) (sym (no-if (cancelled l n) l e)) (narrow j b)
  after-narrow (ask n) h j b = narrow j b

stays_kempt : (l : List ℕ) (m : Map) (ts : List Turn) → LikeMap l m → ((k : ℕ) → k < 64 → target_at l k < 2 ^ 32) → AllNarrow ts
    → Kempt (list_after_all l ts)
stays_kempt l m [] same narrow h = record { whole = same.whole; once = same.once; targets = narrow }
stays_kempt l m (t ∷ ts) same narrow h =
    let a : Along l m t = along l m same t h.0 in
    stays_kempt (list_after l t) a.after ts a.like (after-narrow l same.whole narrow t h.0) h.1

pub kempt : (ts : List Turn) → AllNarrow ts → Kempt (list_after_all fresh_list ts)
kempt ts h = stays_kempt fresh_list empty_map ts fresh_like blank h
  where
    blank : (k : ℕ) → k < 64 → target_at fresh_list k < 2 ^ 32
    blank k b =
        let e : target_at fresh_list k ≡ 0 = get_or-replicate 128 (64 + k) 0 0 (omega arith) in
        omega arith
