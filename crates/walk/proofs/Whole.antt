-- Laws of a walk that stores all or nothing: what its two passes come to.
-- Assumes nothing.
use Prim.Native.Nat.{ℕ, ◌≤◌}
use mathlib.Core.Path.{◌≡◌, refl, sym, ap, ◌∙◌}
use mathlib.Core.Bool.{Bool, true, false, cond}
use mathlib.Core.List.{List, [], ◌∷◌, ◌++◌}
use native.Mathlib.Omega.{arith}
use borrow.Author.Tests.{leb-true}
use lib.Dec.{leb}
use lib.ListN.{length, take, drop}
use Rattle.wire.proofs.Cond.{yes-if, no-if, and_right}
use Rattle.walk.specs.declared.Place.{Place}
use Rattle.walk.specs.declared.Walked.{Walked}
use Rattle.walk.specs.declared.Walked.TheVariants.{Went, Stopped}
use Rattle.walk.specs.Tree.{Tree}
use Rattle.walk.specs.Walk.{Step, on, Codec, start, answer, left, walk}
use Rattle.walk.specs.Whole.{fits, is_whole, all_or_nothing}
use Rattle.walk.proofs.Walks.{walk_same}

-- over no room nothing is stored
pub nothing_left : (u x : List ℕ) → length u ≡ length (take 0 x) → u ++ drop 0 x ≡ x
nothing_left [] x h = refl
nothing_left (a ∷ u) x h = absurd (omega arith)

module _ (n room : ℕ) (q : Place) (b : Bool) (is : b ≡ fits n room q) where
  pub room_for : (k : ℕ) → b ≡ true → q.to ≡ k → k ≤ room
  room_for k h e = rw (← e) (leb-true q.to room (and_right (leb n q.from) (leb q.to room) (sym is ∙ h)))

  pub if-fits : (x y z : List ℕ) → b ≡ true → y ≡ z → y ≡ cond (fits n room q) z x
  if-fits x y z h e = e ∙ sym (yes-if z x (sym is ∙ h))

  pub if-not : (x z : List ℕ) → b ≡ false → x ≡ cond (fits n room q) z x
  if-not x z h = sym (no-if z x (sym is ∙ h))

module _ (c : Codec) (n : ℕ) (tr : Tree) (x : List ℕ) where
  -- what a function answers and leaves is what the walk says
  abbrev pub Gives : Walked → List ℕ → Type 0
  Gives r y = (r ≡ answer (walk c tr start [])) × (y ≡ all_or_nothing c n tr x)

  module _ (w : Walked) (first : w ≡ answer (walk c tr start [])) where
    nothing : (y : List ℕ) → y ≡ x → is_whole n (length x) w ≡ false → y ≡ all_or_nothing c n tr x
    unfolding all_or_nothing
    nothing y same h = same ∙ sym (no-if (left (walk c tr start x)) x (ap (is_whole n (length x)) (sym first) ∙ h))

    all : (z : List ℕ) → z ≡ left (walk c tr start x) → is_whole n (length x) w ≡ true → z ≡ all_or_nothing c n tr x
    unfolding all_or_nothing
    all z is h = is ∙ sym (yes-if (left (walk c tr start x)) x (ap (is_whole n (length x)) (sym first) ∙ h))

    module _ (y : List ℕ) (same : y ≡ x) where
      pub refused : (k : ℕ) (q : Place) → w ≡ Stopped k q → Gives (Stopped k q) y
      unfolding is_whole
      refused k q h = (sym h ∙ first, nothing y same (ap (is_whole n (length x)) h))

      module _ (q : Place) (h : w ≡ Went q) (b : Bool) (is : b ≡ fits n (length y) q) where
        whole_is : is_whole n (length x) w ≡ b
        unfolding is_whole
        whole_is = ap (is_whole n (length x)) h ∙ ap (λ (u : List ℕ). fits n (length u) q) (sym same) ∙ sym is

        pub not-whole : b ≡ false → Gives (Went q) y
        not-whole e = (sym h ∙ first, nothing y same (whole_is ∙ e))

        -- the second pass ends as the first
        pub all_stored : (v : Walked) (z : List ℕ) → b ≡ true → v ≡ answer (walk c tr start y) → z ≡ left (walk c tr start y) → Gives v z
        all_stored v z e f g =
            (f ∙ walk_same c tr start y [], all z (g ∙ ap (λ (u : List ℕ). left (walk c tr start u)) same) (whole_is ∙ e))

  -- a walk that goes to q whatever it writes into, of which nothing was stored before it had
  pub gone : (q : Place) (l : List ℕ → List ℕ) → ((z : List ℕ) → walk c tr start z ≡ on q (l z)) → (r : Walked) (y : List ℕ) → r
      ≡ Went q → y ≡ cond (fits n (length x) q) (l x) x → Gives r y
  unfolding all_or_nothing is_whole answer left
  gone q l goes r y h e = (
    h ∙ ap answer (sym (goes [])),
    e
        ∙ ap (λ (st : Step). cond (fits n (length x) q) (left st) x) (sym (goes x))
        ∙ ap (λ (st : Step). cond (is_whole n (length x) (answer st)) (left (walk c tr start x)) x) (sym (goes [])),
  )
