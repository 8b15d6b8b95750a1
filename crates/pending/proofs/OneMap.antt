-- The plain map tells one thing only of each turn, and so over any turns: two maps that have the same under every number, and count
-- the same, go on so.
-- Assumes nothing.
use Rattle.std.proofs.Common.{◌≡◌, ℕ, ◌+◌, ◌-◌, cond, eqb, List, [], ◌∷◌, sym, refl, ap, ◌∙◌, ap₂, true≢false, arith}
use Rattle.std.specs.Prelude.{Option, Some, None}
use Rattle.pending.specs.PlainMap.{Map, is_asked, taken, asks, empty_map, inserted, deleted, fresh_list}
use Rattle.pending.specs.Turns.{Turn, request, give_up, arrival, ask, Told, numbered, whether, what}
use Rattle.pending.specs.Turns.{MapTurn, refuses, enters, forgets, delivers, passes, looks, AllNarrow, list_tells_all, MapRun, ended, then}
use Rattle.pending.proofs.Drawing.{one_is_next}
use Rattle.pending.proofs.Turning.{next_by, as_a_map}

pub record SameMap (m w : Map) : Type 0 where
  pub everywhere : (n : ℕ) → m.under n ≡ w.under n
  pub counts : m.count ≡ w.count

module _ (m w : Map) (same : SameMap m w) where
  same-inserted : (n k id target : ℕ) → n ≡ k → SameMap (inserted m n id target) (inserted w k id target)
  same-inserted n k id target e =
      record {
        everywhere = λ x. ap₂ (λ (y : ℕ) (z : Option (ℕ × ℕ)). cond (eqb x y) (Some (id, target)) z) e (same.everywhere x);
        counts = ap (λ (c : ℕ). c + 1) same.counts;
      }

  same-deleted : (n : ℕ) → SameMap (deleted m n) (deleted w n)
  same-deleted n =
      record {
        everywhere = λ x. ap (λ (z : Option (ℕ × ℕ)). cond (eqb x n) None z) (same.everywhere x);
        counts = ap₂ (λ (c : ℕ) (z : Option (ℕ × ℕ)). c - cond (is_asked z) 1 0) same.counts (same.everywhere n);
      }

pub one_told : (m w : Map) (t : Turn) (a b : Told) (n v : Map) → SameMap m w → MapTurn m t a n → MapTurn w t b v → (a ≡ b) × SameMap n v
one_told m w t a b n v same (refuses c) (refuses d) = (refl, same)
one_told m w t a b n v same (refuses c) (enters d x) =
    let e : m.count ≡ w.count = same.counts in
    absurd (omega arith)
one_told m w t a b n v same (enters c x) (refuses d) =
    let e : m.count ≡ w.count = same.counts in
    absurd (omega arith)
one_told m w (request next id target) (numbered i) (numbered j) n v same (enters c x) (enters d y) =
    let e : i ≡ j = one_is_next (taken w) next i j (next_by (taken m) (taken w) next i (λ k. ap is_asked (same.everywhere k)) x) y in
    (ap numbered e, same-inserted m w same i j id target e)
one_told m w (give_up k) a b n v same forgets forgets = (ap (λ (z : Option (ℕ × ℕ)). whether (is_asked z)) (same.everywhere k), same-deleted m w same k)
one_told m w (arrival k id sender) a b n v same (delivers e) (delivers f) = (refl, same-deleted m w same k)
one_told m w (arrival k id sender) a b n v same (delivers e) (passes f) =
    absurd (true≢false (sym e ∙ ap (λ (z : Option (ℕ × ℕ)). asks z id sender) (same.everywhere k) ∙ f))
one_told m w (arrival k id sender) a b n v same (passes e) (delivers f) =
    absurd (true≢false (sym f ∙ sym (ap (λ (z : Option (ℕ × ℕ)). asks z id sender) (same.everywhere k)) ∙ e))
one_told m w (arrival k id sender) a b n v same (passes e) (passes f) = (refl, same)
one_told m w (ask k) a b n v same looks looks = (ap what (same.everywhere k), same)

one_run : (m w : Map) (ts : List Turn) (as' bs : List Told) → SameMap m w → MapRun m ts as' → MapRun w ts bs → as' ≡ bs
one_run m w ts as' bs same ended ended = refl
one_run _ w (_ ∷ _) (_ ∷ _) [] same (then p r) x = elim x [ ]
one_run m w (t ∷ ts) (a ∷ as') (b ∷ bs) same (then {n = n} p r) (then {n = v} q s) =
    let o : (a ≡ b) × SameMap n v = one_told m w t a b n v same p q in
    ap₂ ◌∷◌ o.0 (one_run n v ts as' bs o.1 r s)

-- whatever the map tells over any turns, the list does
pub told_by_map : (ts : List Turn) (bs : List Told) → AllNarrow ts → MapRun empty_map ts bs → list_tells_all fresh_list ts ≡ bs
told_by_map ts bs h r =
    one_run empty_map empty_map ts (list_tells_all fresh_list ts) bs (record { everywhere = λ n. refl; counts = refl }) (as_a_map ts h) r
