-- A status told to a block, pair by pair.
-- Assumes nothing.
use Prim.Native.Nat.{ℕ, zero, suc, ◌+◌, ◌≤◌, ◌<◌}
use mathlib.Core.Path.{◌≡◌, refl, sym, ap, ap₂, ◌∙◌}
use mathlib.Core.Bool.{Bool, true, false}
use mathlib.Core.List.{List}
use native.Mathlib.Omega.{arith}
use native.Mathlib.Numerals.{add-one}
use borrow.Author.Tests.{lt-ltb, le-ltb}
use lib.ListN.{length, set, length-set}
use lib.Seq.{set_out}
use Rattle.wire.specs.All.{all_below}
use Rattle.wire.proofs.AllBelow.{none_below, next-below, stop-below, done_below}
use Rattle.services.specs.Word.{word_for}
use Rattle.services.specs.Block.{service_place, pair_id, pair_state, pairs_in, pair_told, pair_has_place, pairs_told, has_place, all_have_places}

pub told_long : (b s : List ℕ) (i : ℕ) → length (pairs_told b s i) ≡ length b
unfolding pairs_told pair_told
told_long b s zero = refl
told_long b s (suc i) = length-set (pairs_told b s i) _ _ ∙ told_long b s i

-- `tell`
module _ (b s : List ℕ) (i : ℕ) {id at : ℕ} (d : id ≡ pair_id s i) (p : at ≡ service_place b id) where
  its-place : at ≡ service_place b (pair_id s i)
  its-place = p ∙ ap (service_place b) d

  pub has-place : at < length b → true ≡ pair_has_place b s i
  unfolding pair_has_place
  has-place h = sym (lt-ltb (service_place b (pair_id s i)) (length b) (omega (arith, its-place)))

  pub no_place : length b ≤ at → false ≡ pair_has_place b s i
  unfolding pair_has_place
  no_place h = sym (le-ltb (service_place b (pair_id s i)) (length b) (omega (arith, its-place)))

  pub is_told : {w state : ℕ} → state ≡ pair_state s i → w ≡ word_for id state → set b at w ≡ pair_told b s i
  unfolding pair_told
  is_told t q = ap₂ (set b) its-place (q ∙ ap₂ word_for d t)

  pub not-told : length b ≤ at → b ≡ pair_told b s i
  unfolding pair_told
  not-told h = sym (set_out b (service_place b (pair_id s i)) (word_for (pair_id s i) (pair_state s i)) (omega (arith, its-place)))

-- `tell_all`
module _ (b s : List ℕ) where
  pub none_told : b ≡ pairs_told b s 0
  unfolding pairs_told
  none_told = refl

  pub none-asked : all_below (has_place b s) 0 ≡ true
  none-asked = none_below (has_place b s)

  module _ {block : List ℕ} (i : ℕ) {r : Bool} (e : block ≡ pairs_told b s i) (q : r ≡ pair_has_place block s i) where
    in-its-turn : r ≡ has_place b s i
    unfolding has_place
    in-its-turn = q ∙ ap (λ (x : List ℕ). pair_has_place x s i) e

    pub one_more : r ≡ true → all_below (has_place b s) i ≡ true → all_below (has_place b s) (i + 1) ≡ true
    one_more t a = next-below (has_place b s) i r a in-its-turn t

    pub not_all : {count : ℕ} → r ≡ false → count ≡ pairs_in s → i < count → false ≡ all_have_places b s
    unfolding all_have_places
    not_all t n k = stop-below (has_place b s) (pairs_in s) i r in-its-turn t (omega arith)

  pub more-told : {block left : List ℕ} (i : ℕ) → block ≡ pairs_told b s i → left ≡ pair_told block s i → left ≡ pairs_told b s (i + 1)
  unfolding pairs_told
  more-told i e q = q ∙ rw (add-one i, e) refl

  module _ (i : ℕ) {count : ℕ} (n : count ≡ pairs_in s) (h : i ≤ count) (l : count ≤ i) where
    pub all_have : all_below (has_place b s) i ≡ true → true ≡ all_have_places b s
    unfolding all_have_places
    all_have a = done_below (has_place b s) (pairs_in s) i a (omega arith) (omega arith)
