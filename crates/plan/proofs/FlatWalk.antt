-- Laws of a walk over single leaves one behind another, each of them a run's word.
-- Assumes nothing.
use Prim.Native.Nat.{ℕ, zero, suc, ◌<◌}
use mathlib.Core.Path.{◌≡◌, refl, sym, ap, ◌∙◌}
use mathlib.Core.Bool.{Bool}
use mathlib.Core.List.{List, [], ◌∷◌, ◌++◌}
use native.Mathlib.Omega.{arith}
use lib.ListN.{replicate}
use Rattle.walk.specs.declared.Place.{Place}
use Rattle.walk.specs.Runs.{code_in, taken_by}
use Rattle.walk.specs.Walk.{Step, on, stop, next, through, Codec, item}

-- one thing behind another: equal things are equal, it makes no difference where they are taken together, and nothing behind it
pub next_equal : (st : Step) (f g : Place → List ℕ → Step) → ((q : Place) (y : List ℕ) → f q y ≡ g q y) → next st f ≡ next st g
unfolding next
next_equal (on p x) f g h = h p x
next_equal (stop n p x) f g h = refl

pub next_both : (st ot : Step) (f g : Place → List ℕ → Step) → st ≡ ot → ((q : Place) (y : List ℕ) → f q y ≡ g q y) → next st f ≡ next ot g
next_both st ot f g e h = ap (λ (a : Step). next a f) e ∙ next_equal ot f g h

pub next_next : (st : Step) (f g : Place → List ℕ → Step) → next (next st f) g ≡ next st (λ q y. next (f q y) g)
unfolding next
next_next (on p x) f g = refl
next_next (stop n p x) f g = refl

pub next_on : (st : Step) → next st (λ q y. on q y) ≡ st
unfolding next
next_on (on p x) = refl
next_on (stop n p x) = refl

-- steps that are equal one by one are equal as a whole
pub through_equal : (n : ℕ) (f g : ℕ → Place → List ℕ → Step) → ((k : ℕ) → k < n → (q : Place) (y : List ℕ) → f k q y ≡ g k q y)
    → (p : Place) (x : List ℕ) → through n f p x ≡ through n g p x
unfolding through
through_equal zero f g h p x = refl
through_equal (suc n) f g h p x =
    next_both (through n f p x) (through n g p x) (f n) (g n) (through_equal n f g (λ k l. h k (omega arith)) p x) (h n (omega arith))

-- the first step, and the others behind it
pub through_first : (n : ℕ) (f : ℕ → Place → List ℕ → Step) (p : Place) (x : List ℕ)
    → through (suc n) f p x ≡ next (f 0 p x) (λ q y. through n (λ k. f (suc k)) q y)
unfolding through next
through_first zero f p x = sym (next_on (f 0 p x))
through_first (suc n) f p x =
    ap (λ (st : Step). next st (f (suc n))) (through_first n f p x)
    ∙ next_next (f 0 p x) (λ q y. through n (λ k. f (suc k)) q y) (f (suc n))

-- an item goes by what its test says
pub item_equal : (c : Codec) (n code : ℕ) (ok also : ℕ → Bool) → ((v : ℕ) → ok v ≡ also v) → (p : Place) (x : List ℕ)
    → item c n code ok p x ≡ item c n code also p x
unfolding item
item_equal c n code ok also h p x = rw (h (c.word code p)) refl

-- the leaves of n parts one behind another
unfoldable pub parts_of : (ℕ → List ℕ) → ℕ → List ℕ
parts_of f zero = []
parts_of f (suc n) = parts_of f n ++ f n

module _ (c : Codec) (t : List ℕ) where
  -- a single leaf, and leaves in turn
  abbrev pub one : ℕ → Place → List ℕ → Step
  one w p x = item c 42 (code_in w) (taken_by t w) p x

  unfoldable pub in_turn : List ℕ → Place → List ℕ → Step
  in_turn [] p x = on p x
  in_turn (w ∷ ws) p x = next (one w p x) (in_turn ws)

  pub in-turn-append : (xs ys : List ℕ) (p : Place) (x : List ℕ) → in_turn (xs ++ ys) p x ≡ next (in_turn xs p x) (in_turn ys)
  unfolding in_turn next
  in-turn-append [] ys p x = refl
  in-turn-append (w ∷ ws) ys p x =
      next_equal (one w p x) (in_turn (ws ++ ys)) (λ q y. next (in_turn ws q y) (in_turn ys)) (in-turn-append ws ys)
      ∙ sym (next_next (one w p x) (in_turn ws) (in_turn ys))

  pub in-turn-one : (w : ℕ) (p : Place) (x : List ℕ) → in_turn (w ∷ []) p x ≡ one w p x
  unfolding in_turn
  in-turn-one w p x = next_on (one w p x)

  -- equal leaves in turn
  pub in-turn-equal : (n w : ℕ) (f : Place → List ℕ → Step) → ((q : Place) (y : List ℕ) → f q y ≡ one w q y)
      → (p : Place) (x : List ℕ) → through n (λ k. f) p x ≡ in_turn (replicate n w) p x
  unfolding in_turn through
  in-turn-equal zero w f h p x = refl
  in-turn-equal (suc n) w f h p x =
      through_first n (λ k. f) p x
      ∙ next_both (f p x) (one w p x) (λ q y. through n (λ k. f) q y) (in_turn (replicate n w)) (h p x) (in-turn-equal n w f h)

  -- parts in turn, where each is its leaves
  pub parts-in-turn : (n : ℕ) (f : ℕ → Place → List ℕ → Step) (g : ℕ → List ℕ)
      → ((k : ℕ) → k < n → (q : Place) (y : List ℕ) → f k q y ≡ in_turn (g k) q y)
      → (p : Place) (x : List ℕ) → through n f p x ≡ in_turn (parts_of g n) p x
  unfolding through parts_of in_turn
  parts-in-turn zero f g h p x = refl
  parts-in-turn (suc n) f g h p x =
      next_both (through n f p x) (in_turn (parts_of g n) p x) (f n) (in_turn (g n)) (parts-in-turn n f g (λ k l. h k (omega arith)) p x) (h n (omega arith))
      ∙ sym (in-turn-append (parts_of g n) (g n) p x)
