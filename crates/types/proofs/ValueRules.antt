-- What the rules of an enum's values come to, return by return; and values in order are allowed and distinct.
-- Assumes nothing.
use Rattle.std.proofs.Common.{◌≡◌, ℕ, ◌+◌, ◌%◌, ◌^◌, ◌<◌, ◌≤◌, Bool, true, false, not, ◌&&◌, ◌||◌, eqb, ltb, leb, List, sym, refl, ap, ◌∙◌, true≢false, arith, ltb-false, ltb-true, ne_eqb, le-leb}
use borrow.Author.Tests.{lt-leb}
use Rattle.table.specs.declared.Sections.{Sections}
use Rattle.table.specs.declared.Entry.{Entry}
use Rattle.wire.specs.All.{all_below, above}
use Rattle.table.specs.Leaf.{is_enum_base, base, allowed}
use Rattle.wire.specs.Bytes.{Octets}
use Rattle.table.specs.Layout.{value_place}
use Rattle.table.specs.Entries.{value_at}
use Rattle.leaf.specs.declared.codes.Range.{Range}
use Rattle.leaf.specs.Limits.{range_of, moved}
use Rattle.leaf.proofs.Limits.{counted_up}
use Rattle.types.specs.Values.{value_of, value_ok, unlike, unlike_before, distinct, values_ok}
use Rattle.types.specs.Passes.{rank, next, in_order}
use Rattle.wire.proofs.Cond.{and_left, and_right}
use Rattle.wire.proofs.Numbers.{number_lt}
use Rattle.wire.proofs.AllBelow.{all-below, at-below, next-below, stop-below, done_below}
use Rattle.wire.proofs.Rising.{Carried, carried_next, carried_test, rising-apart}

-- one value after the other, the last of them carried along
module _ (t : List ℕ) (s : Sections) (e : Entry) (k last v n : ℕ) (r : Range) (carried : Carried (rank t s e) k last)
    (is : v ≡ value_at t s (e.first + k)) (own : r ≡ range_of (base e.of)) (ranked : n ≡ (v + r.below) % 2 ^ 64) where
  the-rank : n ≡ rank t s e k
  unfolding rank
  the-rank = rw (← is, ← own) ranked

  tested : ((eqb k 0 || ltb last n) && leb n r.last) ≡ next t s e k
  unfolding next
  tested = rw (← carried_test (rank t s e) k last n carried the-rank, ← the-rank, ← own) refl

  pub order-next : ((eqb k 0 || ltb last n) && leb n r.last) ≡ true → all_below (next t s e) k ≡ true → all_below (next t s e) (k + 1) ≡ true
  order-next h a = next-below (next t s e) k ((eqb k 0 || ltb last n) && leb n r.last) a tested h

  pub order-carried : Carried (rank t s e) (k + 1) n
  order-carried = carried_next (rank t s e) k n the-rank

  pub order-ends : ((eqb k 0 || ltb last n) && leb n r.last) ≡ false → k < e.count → false ≡ in_order t s e
  unfolding in_order
  order-ends h l = stop-below (next t s e) e.count k ((eqb k 0 || ltb last n) && leb n r.last) tested h l

pub order_done : (t : List ℕ) (s : Sections) (e : Entry) (k : ℕ) → all_below (next t s e) k ≡ true → k ≤ e.count → e.count ≤ k → true ≡ in_order t s e
unfolding in_order
order_done t s e k a h l = done_below (next t s e) e.count k a h l

-- a word that is counted up to the last value of a base is a value of the base
no_enum_base : (code : ℕ) → 11 ≤ code → is_enum_base code ≡ false
no_enum_base code h = rw (ne_eqb code 1 (omega arith), le-leb 3 code (omega arith), lt-leb code 10 (omega arith)) refl

enum_small : (code : ℕ) → is_enum_base code ≡ true → code < 11
enum_small code h = go (ltb code 11) refl
  where
    go : (b : Bool) → ltb code 11 ≡ b → code < 11
    go true e = ltb-true code 11 e
    go false e = absurd (true≢false (sym h ∙ no_enum_base code (ltb-false code 11 e)))

counted_in : (code w : ℕ) → is_enum_base code ≡ true → w < 2 ^ 64 → leb (moved (base code) w) (range_of (base code)).last ≡ true → allowed code w ≡ true
counted_in code w b l h = counted_up code w (enum_small code b) l ∙ h

same_rank : (t : List ℕ) (s : Sections) (e : Entry) (j k : ℕ) → value_of t s e j ≡ value_of t s e k → rank t s e j ≡ rank t s e k
unfolding rank
same_rank t s e j k q = rw q refl

-- values in order are allowed and distinct
module _ (t : List ℕ) (s : Sections) (e : Entry) (octets : Octets t) (code : is_enum_base e.of ≡ true) (order : in_order t s e ≡ true) where
  here : (k : ℕ) → k < e.count → next t s e k ≡ true
  unfolding in_order
  here k l = at-below (next t s e) e.count k order l

  rises : all_below (above (rank t s e)) e.count ≡ true
  unfolding next
  rises = all-below (above (rank t s e)) e.count (λ k l. and_left (above (rank t s e) k) (leb (rank t s e k) (range_of (base e.of)).last) (here k l))

  order-allowed : all_below (value_ok t s e) e.count ≡ true
  unfolding next rank value_ok value_at
  order-allowed =
      all-below (value_ok t s e) e.count
      (λ k l. counted_in e.of (value_of t s e k) code (number_lt 3 t (value_place s (e.first + k)) octets)
      (and_right (above (rank t s e) k) (leb (rank t s e k) (range_of (base e.of)).last) (here k l)))

  order-distinct : distinct t s e ≡ true
  unfolding distinct unlike_before unlike
  order-distinct =
      all-below (unlike_before t s e) e.count
      (λ k l. all-below (unlike t s e (value_of t s e k)) k (λ j m. ap not (ne_eqb (value_of t s e j) (value_of t s e k) (λ q. apart j k m l q))))
    where
      apart : (j k : ℕ) → j < k → k < e.count → value_of t s e j ≡ value_of t s e k → ⊥
      apart j k m l q =
          let a : rank t s e j < rank t s e k = rising-apart (rank t s e) e.count rises j k m l in
          let b : rank t s e j ≡ rank t s e k = same_rank t s e j k q in
          omega arith

  pub order-ok : values_ok t s e ≡ true
  unfolding values_ok
  order-ok = rw (order-allowed, order-distinct) refl
