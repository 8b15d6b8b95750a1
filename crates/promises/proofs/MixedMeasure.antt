-- Exchanges that end: each message under way has a weight, and so has what each of the two platforms keeps. Where every arrival makes the sum
-- smaller, the sum at the start is as many messages as there can be.
-- Assumes nothing.
use Prim.{Unit}
use Prim.Native.Nat.{ℕ, ◌+◌, ◌≤◌}
use mathlib.Core.Path.{◌≡◌, refl}
use mathlib.Core.List.{List, [], ◌∷◌, ◌++◌}
use native.Mathlib.Omega.{arith}
use Rattle.platform.specs.declared.reactions.Standing.{Standing}
use Rattle.promises.specs.MixedExchange.{Lent, Answering, Two, Pair, Step, arrives_at_a, arrives_at_b, lost_to_a, lost_to_b}
use Rattle.promises.specs.MixedExchange.{Exchange, none, more, SilentAfter}

-- lists of messages
abbrev pub total : (List ℕ → ℕ) → List (List ℕ) → ℕ
total f [] = 0
total f (m ∷ ms) = f m + total f ms

abbrev pub Every : (List ℕ → Type 0) → List (List ℕ) → Type 0
Every G [] = Unit {0}
Every G (m ∷ ms) = G m × Every G ms

module _ (f : List ℕ → ℕ) where
  total-append : (xs ys : List (List ℕ)) → total f (xs ++ ys) ≡ total f xs + total f ys
  total-append [] ys = omega arith
  total-append (x ∷ xs) ys = omega (arith, total-append xs ys)

  total-without : (xs ys : List (List ℕ)) (m : List ℕ) → total f (xs ++ (m ∷ ys)) ≡ f m + total f (xs ++ ys)
  total-without xs ys m = omega (arith, total-append xs (m ∷ ys), total-append xs ys)

  nothing_left : (ms : List (List ℕ)) → ((m : List ℕ) → 1 ≤ f m) → total f ms ≡ 0 → ms ≡ []
  nothing_left [] h e = refl
  nothing_left (m ∷ ms) h e = absurd (omega (arith, h m, e))

module _ (G : List ℕ → Type 0) where
  every_append : (xs ys : List (List ℕ)) → Every G xs → Every G ys → Every G (xs ++ ys)
  every_append [] ys a b = b
  every_append (x ∷ xs) ys a b = (a.0, every_append xs ys a.1 b)

  every-at : (xs ys : List (List ℕ)) (m : List ℕ) → Every G (xs ++ (m ∷ ys)) → G m
  every-at [] ys m a = a.0
  every-at (x ∷ xs) ys m a = every-at xs ys m a.1

  every-without : (xs ys : List (List ℕ)) (m : List ℕ) → Every G (xs ++ (m ∷ ys)) → Every G (xs ++ ys)
  every-without [] ys m a = a.1
  every-without (x ∷ xs) ys m a = (a.0, every-without xs ys m a.1)

-- what an arrival at `own` has to come to: f weighs what is under way to it and g what it sends, k what it keeps; G is so of what it sends
pub record Shrinks (f g : List ℕ → ℕ) (k : Standing → ℕ) (G : List ℕ → Type 0) (p : Standing) (m : List ℕ) (q : Standing) (sent : List (List ℕ)) : Type 0 where
  pub sum : total g sent + k q + 1 ≤ f m + k p
  pub good : Every G sent

module _ (X : Answering) (w : Two) (fA fB : List ℕ → ℕ) (kA kB : Standing → ℕ) (GA GB : List ℕ → Type 0) where
  abbrev pub AtA : Type 0
  AtA = (c : Lent) (p : Standing) (m : List ℕ) → GA m
      → Shrinks fA fB kA GB p m (X.kept w.a w.threes_of_a c p m) (X.sent w.a w.threes_of_a c p m)

  abbrev pub AtB : Type 0
  AtB = (c : Lent) (p : Standing) (m : List ℕ) → GB m
      → Shrinks fB fA kB GA p m (X.kept w.b w.threes_of_b c p m) (X.sent w.b w.threes_of_b c p m)

  abbrev pub sum_of : Pair → ℕ
  sum_of x = total fA x.to_a + total fB x.to_b + kA x.a + kB x.b

  pub record Good (x : Pair) : Type 0 where
    pub to_a : Every GA x.to_a
    pub to_b : Every GB x.to_b

  module _ (posA : (m : List ℕ) → 1 ≤ fA m) (posB : (m : List ℕ) → 1 ≤ fB m) (atA : AtA) (at_b : AtB) where
    step-smaller : (x y : Pair) → Step X w x y → Good x → (sum_of y + 1 ≤ sum_of x) × Good y
    step-smaller x y (arrives_at_a c p q before after to_b m) k =
        let S : List (List ℕ) = X.sent w.a w.threes_of_a c p m in
        let l = atA c p m (every-at GA before after m k.to_a) in (
          omega (arith, l.sum, total-without fA before after m, total-append fB to_b S),
          record { to_a = every-without GA before after m k.to_a; to_b = every_append GB to_b S k.to_b l.good },
        )
    step-smaller x y (arrives_at_b c p q before after to_a m) k =
        let S : List (List ℕ) = X.sent w.b w.threes_of_b c q m in
        let l = at_b c q m (every-at GB before after m k.to_b) in (
          omega (arith, l.sum, total-without fB before after m, total-append fA to_a S),
          record { to_a = every_append GA to_a S k.to_a l.good; to_b = every-without GB before after m k.to_b },
        )
    step-smaller x y (lost_to_a p q before after to_b m) k = (
      omega (arith, posA m, total-without fA before after m),
      record { to_a = every-without GA before after m k.to_a; to_b = k.to_b },
    )
    step-smaller x y (lost_to_b p q before after to_a m) k = (
      omega (arith, posB m, total-without fB before after m),
      record { to_a = k.to_a; to_b = every-without GB before after m k.to_b },
    )

    exchange-smaller : (n : ℕ) (x z : Pair) → Exchange X w n x z → Good x → sum_of z + n ≤ sum_of x
    exchange-smaller n x z (none _) k = omega arith
    exchange-smaller n x z (more m _ y _ s e) k = let l = step-smaller x y s k in omega (arith, l.0, exchange-smaller m y z e l.1)

    pub silent-after : (x : Pair) (most : ℕ) → Good x → sum_of x ≤ most → SilentAfter X w x most
    silent-after x most g h = record { at_most = λ n z e. omega (arith, h, exchange-smaller n x z e g); then_none = left }
      where
        left : (z : Pair) → Exchange X w most x z → (z.to_a ≡ []) × (z.to_b ≡ [])
        left z e =
            let l = exchange-smaller most x z e g in
            (nothing_left fA z.to_a posA (omega (arith, h, l)), nothing_left fB z.to_b posB (omega (arith, h, l)))
