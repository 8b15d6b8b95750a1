-- Exchanges that are computed: who hears next, and what is lost; and exchanges without end, round by round.
-- Assumes nothing.
use Prim.Native.Nat.{ℕ, suc, ◌≤◌}
use mathlib.Core.Path.{◌≡◌, refl}
use mathlib.Core.Bool.{Bool, true, false, ◌&&◌}
use mathlib.Core.List.{List, [], ◌∷◌, ◌++◌}
use native.Mathlib.Omega.{arith}
use lib.ListN.{length}
use Rattle.wire.proofs.Cond.{and_left, and_right, clash}
use Rattle.platform.specs.declared.reactions.Standing.{Standing}
use Rattle.promises.specs.MixedExchange.{Lent, Answering, Two, Pair, Step, arrives_at_a, arrives_at_b, lost_to_a, lost_to_b}
use Rattle.promises.specs.MixedExchange.{Exchange, none, more, SilentAfter}

-- the first message under way to a, or to b, arrives; or the second one is lost
pub data Move : Type 0 where
  a_hears : Move
  b_hears : Move
  a_misses : Move
  b_misses : Move

abbrev has_first : List (List ℕ) → Bool
has_first [] = false
has_first (m ∷ ms) = true

abbrev has_second : List (List ℕ) → Bool
has_second [] = false
has_second (l ∷ ms) = has_first ms

abbrev rest : List (List ℕ) → List (List ℕ)
rest [] = []
rest (m ∷ ms) = ms

abbrev without_second : List (List ℕ) → List (List ℕ)
without_second [] = []
without_second (l ∷ ms) = l ∷ rest ms

module _ (X : Answering) (w : Two) (c : Lent) where
  abbrev atA : Standing → Standing → List (List ℕ) → List (List ℕ) → Pair
  atA p q [] to_b = record { a = p; b = q; to_a = []; to_b = to_b }
  atA p q (m ∷ to_a) to_b =
      record { a = X.kept w.a w.threes_of_a c p m; b = q; to_a = to_a; to_b = to_b ++ X.sent w.a w.threes_of_a c p m }

  abbrev at_b : Standing → Standing → List (List ℕ) → List (List ℕ) → Pair
  at_b p q to_a [] = record { a = p; b = q; to_a = to_a; to_b = [] }
  at_b p q to_a (m ∷ to_b) =
      record { a = p; b = X.kept w.b w.threes_of_b c q m; to_a = to_a ++ X.sent w.b w.threes_of_b c q m; to_b = to_b }

  abbrev can : Move → Pair → Bool
  can a_hears x = has_first x.to_a
  can b_hears x = has_first x.to_b
  can a_misses x = has_second x.to_a
  can b_misses x = has_second x.to_b

  abbrev after : Move → Pair → Pair
  after a_hears x = atA x.a x.b x.to_a x.to_b
  after b_hears x = at_b x.a x.b x.to_a x.to_b
  after a_misses x = record { a = x.a; b = x.b; to_a = without_second x.to_a; to_b = x.to_b }
  after b_misses x = record { a = x.a; b = x.b; to_a = x.to_a; to_b = without_second x.to_b }

  step : (v : Move) (x : Pair) → can v x ≡ true → Step X w x (after v x)
  step a_hears x = go x.a x.b x.to_a x.to_b
    where
      go : (p q : Standing) (to_a to_b : List (List ℕ)) → has_first to_a ≡ true
          → Step X w (record { a = p; b = q; to_a = to_a; to_b = to_b }) (atA p q to_a to_b)
      go p q [] to_b e = absurd (clash refl e)
      go p q (m ∷ to_a) to_b e = arrives_at_a c p q [] to_a to_b m
  step b_hears x = go x.a x.b x.to_a x.to_b
    where
      go : (p q : Standing) (to_a to_b : List (List ℕ)) → has_first to_b ≡ true
          → Step X w (record { a = p; b = q; to_a = to_a; to_b = to_b }) (at_b p q to_a to_b)
      go p q to_a [] e = absurd (clash refl e)
      go p q to_a (m ∷ to_b) e = arrives_at_b c p q [] to_b to_a m
  step a_misses x = go x.a x.b x.to_a x.to_b
    where
      go : (p q : Standing) (to_a to_b : List (List ℕ)) → has_second to_a ≡ true
          → Step X w (record { a = p; b = q; to_a = to_a; to_b = to_b }) (record { a = p; b = q; to_a = without_second to_a; to_b = to_b })
      go p q [] to_b e = absurd (clash refl e)
      go p q (l ∷ []) to_b e = absurd (clash refl e)
      go p q (l ∷ (m ∷ to_a)) to_b e = lost_to_a p q (l ∷ []) to_a to_b m
  step b_misses x = go x.a x.b x.to_a x.to_b
    where
      go : (p q : Standing) (to_a to_b : List (List ℕ)) → has_second to_b ≡ true
          → Step X w (record { a = p; b = q; to_a = to_a; to_b = to_b }) (record { a = p; b = q; to_a = to_a; to_b = without_second to_b })
      go p q to_a [] e = absurd (clash refl e)
      go p q to_a (l ∷ []) e = absurd (clash refl e)
      go p q to_a (l ∷ (m ∷ to_b)) e = lost_to_b p q (l ∷ []) to_b to_a m

  abbrev pub canAll : List Move → Pair → Bool
  canAll [] x = true
  canAll (v ∷ vs) x = can v x && canAll vs (after v x)

  abbrev pub afterAll : List Move → Pair → Pair
  afterAll [] x = x
  afterAll (v ∷ vs) x = afterAll vs (after v x)

  pub run : (vs : List Move) (x : Pair) → canAll vs x ≡ true → Exchange X w (length vs) x (afterAll vs x)
  run [] x e = none x
  run (v ∷ vs) x e =
      more (length vs) x (after v x) (afterAll vs (after v x)) (step v x (and_left (can v x) (canAll vs (after v x)) e))
      (run vs (after v x) (and_right (can v x) (canAll vs (after v x)) e))

-- an exchange of r messages or more
pub record Longer (X : Answering) (w : Two) (x : Pair) (r : ℕ) : Type 0 where
  pub count : ℕ
  pub last : Pair
  pub many : r ≤ count
  pub exchange : Exchange X w count x last

module _ {X : Answering} {w : Two} where
  pub nothing_yet : (x : Pair) → Longer X w x 0
  nothing_yet x = record { count = 0; last = x; many = omega arith; exchange = none x }

  one_more : {x y : Pair} {r : ℕ} → Step X w x y → Longer X w y r → Longer X w x (suc r)
  one_more {x} {y} {r} s l =
      record { count = suc l.count; last = l.last; many = omega (arith, l.many); exchange = more l.count x y l.last s l.exchange }

  fewer : {x : Pair} {r : ℕ} → Longer X w x (suc r) → Longer X w x r
  fewer {x} {r} l = record { count = l.count; last = l.last; many = omega (arith, l.many); exchange = l.exchange }

  pub behind : {x y : Pair} {n r : ℕ} → Exchange X w n x y → Longer X w y r → Longer X w x r
  behind (none _) l = l
  behind (more n x y z s e) l = fewer (one_more s (behind e l))

  pub round : {x y : Pair} {n r : ℕ} → Exchange X w (suc n) x y → Longer X w y r → Longer X w x (suc r)
  round (more n x y z s e) l = one_more s (behind e l)

  -- then no number bounds it
  pub no_bound : (x : Pair) → ((r : ℕ) → Longer X w x r) → (most : ℕ) → SilentAfter X w x most → ⊥
  no_bound x far most s =
      let l = far (suc most) in
      let h : l.count ≤ most = s.at_most l.count l.last l.exchange in
      absurd (omega (arith, h, l.many))
