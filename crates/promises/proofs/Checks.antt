-- Laws of `Answers`: a call that goes by tests answers by its checks, where each test decides when its check applies.
-- Assumes nothing.
use Prim.Native.Nat.{ℕ, suc, ◌≤◌, ◌<◌}
use mathlib.Core.Path.{◌≡◌, refl, sym, subst}
use mathlib.Core.Bool.{Bool, true, false, not, cond, ◌&&◌, ◌||◌}
use mathlib.Core.Logic.{◌⊎◌, inl, inr, ⊎_elim}
use mathlib.Core.List.{List, [], ◌∷◌, ◌++◌}
use native.Mathlib.Omega.{arith}
use borrow.Author.Tests.{ltb-true, ltb-false, leb-true, leb-false, eqb-true, eqb-false}
use lib.Dec.{eqb, leb, ltb}
use Rattle.promises.specs.Checks.{CheckOf, Check, ◌when◌, refusing, Answers, Gives, Outside, none, this, next, below, above}

-- a test that holds just where the check applies
pub record Decides (b : Bool) (A : Type 0) : Type 0 where
  pub yes_is : b ≡ true → A
  pub no_is : b ≡ false → ¬ A

pub lt_decides : (m n : ℕ) → Decides (ltb m n) (m < n)
lt_decides m n = record { yes_is = ltb-true m n; no_is = λ e l. omega (arith, ltb-false m n e) }

pub le_decides : (m n : ℕ) → Decides (leb m n) (m ≤ n)
le_decides m n = record { yes_is = leb-true m n; no_is = λ e l. omega (arith, leb-false m n e) }

pub eq_decides : (m n : ℕ) → Decides (eqb m n) (m ≡ n)
eq_decides m n = record { yes_is = eqb-true m n; no_is = eqb-false m n }

pub not_decides : {A : Type 0} (b : Bool) → Decides b A → Decides (not b) (¬ A)
not_decides true d = record { yes_is = λ e. let z : ◌≡◌ {A = ℕ} 0 1 = cc in absurd (omega arith); no_is = λ e n. n (d.yes_is refl) }
not_decides false d = record { yes_is = λ e. d.no_is refl; no_is = λ e. let z : ◌≡◌ {A = ℕ} 0 1 = cc in absurd (omega arith) }

pub or_decides : {A B : Type 0} (a b : Bool) → Decides a A → Decides b B → Decides (a || b) (A ⊎ B)
or_decides true b d f = record { yes_is = λ e. inl (d.yes_is refl); no_is = λ e. let z : ◌≡◌ {A = ℕ} 0 1 = cc in absurd (omega arith) }
or_decides false b d f = record { yes_is = λ e. inr (f.yes_is e); no_is = λ e. ⊎_elim (d.no_is refl) (f.no_is e) }

pub and_decides : {A B : Type 0} (a b : Bool) → Decides a A → Decides b B → Decides (a && b) (A × B)
and_decides true b d f = record { yes_is = λ e. (d.yes_is refl, f.yes_is e); no_is = λ e p. f.no_is e p.1 }
and_decides false b d f = record { yes_is = λ e. let z : ◌≡◌ {A = ℕ} 0 1 = cc in absurd (omega arith); no_is = λ e p. d.no_is refl p.0 }

-- within lo to hi, or outside
pub where_is : (lo hi x : ℕ) → Outside lo hi x ⊎ ((lo ≤ x) × (x ≤ hi))
where_is lo hi x = go (ltb x lo) refl (ltb hi x) refl
  where
    go : (a : Bool) → ltb x lo ≡ a → (b : Bool) → ltb hi x ≡ b → Outside lo hi x ⊎ ((lo ≤ x) × (x ≤ hi))
    go true e b f = inl (below (ltb-true x lo e))
    go false e true f = inl (above (ltb-true hi x f))
    go false e false f = inr (ltb-false x lo e, ltb-false hi x f)

pub not_outside : (lo hi x : ℕ) → lo ≤ x → x ≤ hi → ¬ (Outside lo hi x)
not_outside lo hi x l m (below n) = omega arith
not_outside lo hi x l m (above n) = omega arith

-- the same in other words
pub decides_same : {A B : Type 0} {b : Bool} → Decides b A → (A → B) → (B → A) → Decides b B
decides_same d f g = record { yes_is = λ e. f (d.yes_is e); no_is = λ e x. d.no_is e (g x) }

pub flip_decides : {A B : Type 0} (b : Bool) → Decides b A → (¬ A → B) → (B → ¬ A) → Decides (not b) B
flip_decides b d f g = decides_same (not_decides b d) f g

module _ {R A : Type 0} (refused : R → A) (good : A) where
  -- one check
  pub by : {C : Type 0} {cs : List (CheckOf R)} {x : A} (b : Bool) (n : R) → Decides b C → Answers refused good cs x
      → Answers refused good (n when C ∷ cs) (cond b (refused n) x)
  by true n d a = this (d.yes_is refl)
  by false n d a = next (d.no_is refl) a

  -- and then, where it does not apply, the others
  pub by-then : {C : Type 0} {cs : List (CheckOf R)} {x : A} (b : Bool) (n : R) → Decides b C → (b ≡ false → Answers refused good cs x)
      → Answers refused good (n when C ∷ cs) (cond b (refused n) x)
  by-then true n d a = this (d.yes_is refl)
  by-then false n d a = next (d.no_is refl) (a refl)

  -- the other way round: what is good stands first
  pub unless : {C : Type 0} {cs : List (CheckOf R)} {x : A} (b : Bool) (n : R) → Decides (not b) C → Answers refused good cs x
      → Answers refused good (n when C ∷ cs) (cond b x (refused n))
  unless true n d a = next (d.no_is refl) a
  unless false n d a = this (d.yes_is refl)

  pub unless-then : {C : Type 0} {cs : List (CheckOf R)} {x : A} (b : Bool) (n : R) → Decides (not b) C
      → (b ≡ true → Answers refused good cs x) → Answers refused good (n when C ∷ cs) (cond b x (refused n))
  unless-then true n d a = next (d.no_is refl) (a refl)
  unless-then false n d a = this (d.yes_is refl)

  -- one that is passed over, since the first half of what it asks does not hold
  pub passing : {B C : Type 0} {cs : List (CheckOf R)} {x : A} (n : R) → ¬ B → Answers refused good cs x
      → Answers refused good (n when (B × C) ∷ cs) x
  passing {B} {C} n z a = next {c = n when (B × C)} (λ p. z p.0) a

module _ {A : Type 0} (refused : ℕ → A) (good : A) where
  -- one check of a chain of numbers, 0 being none, that g makes the answer of
  pub by_number : (g : ℕ → A) → ((k : ℕ) → g (suc k) ≡ refused (suc k)) → {C : Type 0} {cs : List Check} (b : Bool) (n m : ℕ) → Decides b C
      → Answers refused good cs (g m) → Answers refused good (suc n when C ∷ cs) (g (cond b (suc n) m))
  by_number g e true n m d a = subst (Answers refused good (_ ∷ _)) (sym (e n)) (this (d.yes_is refl))
  by_number g e false n m d a = next (d.no_is refl) a

-- the number that an answer gives back
pub numbers : {A : Type 0} {refused : ℕ → A} {good : A} (f : A → ℕ) → ((n : ℕ) → f (refused n) ≡ n) → f good ≡ 0
    → {cs : List Check} {x : A} → Answers refused good cs x → Gives cs (f x)
numbers f e z none = subst (Answers (λ n. n) 0 []) (sym z) none
numbers f e z (this {c} {cs} a) = subst (Answers (λ n. n) 0 (c ∷ cs)) (sym (e c.refusal)) (this a)
numbers f e z (next n a) = next n (numbers f e z a)

-- of each of these checks, what f makes of its refusal
abbrev pub EachMade : {R A B : Type 0} → (R → A) → (R → B) → (A → B) → List (CheckOf R) → Type 0
EachMade refused refused' f [] = Unit {0}
EachMade refused refused' f (c ∷ cs) = (f (refused c.refusal) ≡ refused' c.refusal) × EachMade refused refused' f cs

-- the number that an answer gives back, where f gives back each number of the checks
pub numbers-back : {A : Type 0} {refused : ℕ → A} {good : A} (f : A → ℕ) → f good ≡ 0
    → {cs : List Check} {x : A} → EachMade refused (λ n. n) f cs → Answers refused good cs x → Gives cs (f x)
numbers-back f z b none = subst (Answers (λ n. n) 0 []) (sym z) none
numbers-back f z b (this {c} {cs} a) = subst (Answers (λ n. n) 0 (c ∷ cs)) (sym b.0) (this a)
numbers-back f z b (next n a) = next n (numbers-back f z b.1 a)

-- what is made of an answer goes on with further checks where it was good: of the same refusals, and of what g makes of them
module _ {R A B : Type 0} (refused : R → A) (good : A) where
  pub then : (refused' : R → B) (good' : B) (f : A → B) → ((n : R) → f (refused n) ≡ refused' n) → {cs ds : List (CheckOf R)} {x : A}
      → Answers refused good cs x → (x ≡ good → Answers refused' good' ds (f good)) → Answers refused' good' (cs ++ ds) (f x)
  then refused' good' f e none k = k refl
  then refused' good' f e (this {c} {cs} a) k = subst (Answers refused' good' (_ ∷ _)) (sym (e c.refusal)) (this a)
  then refused' good' f e (next n a) k = next n (then refused' good' f e a k)

  pub then-as : {S : Type 0} (g : R → S) (refused' : S → B) (good' : B) (f : A → B) → ((n : R) → f (refused n) ≡ refused' (g n))
      → {cs : List (CheckOf R)} {ds : List (CheckOf S)} {x : A}
      → Answers refused good cs x → (x ≡ good → Answers refused' good' ds (f good)) → Answers refused' good' (refusing g cs ++ ds) (f x)
  then-as g refused' good' f e none k = k refl
  then-as g refused' good' f e (this {c} {cs} a) k = subst (Answers refused' good' (_ ∷ _)) (sym (e c.refusal)) (this a)
  then-as g refused' good' f e (next n a) k = next n (then-as g refused' good' f e a k)

-- the same where f makes the other refusal of each of the checks
module _ {R A B : Type 0} (refused : R → A) (good : A) (refused' : R → B) (good' : B) (f : A → B) where
  pub then-each : {cs ds : List (CheckOf R)} {x : A} → EachMade refused refused' f cs
      → Answers refused good cs x → (x ≡ good → Answers refused' good' ds (f good)) → Answers refused' good' (cs ++ ds) (f x)
  then-each b none k = k refl
  then-each b (this {c} {cs} a) k = subst (Answers refused' good' (_ ∷ _)) (sym b.0) (this a)
  then-each b (next n a) k = next n (then-each b.1 a k)

module _ {R S A B : Type 0} (refused : R → A) (good : A) (g : R → S) (refused' : S → B) (good' : B) (f : A → B) where
  pub then-as-each : {cs : List (CheckOf R)} {ds : List (CheckOf S)} {x : A} → EachMade refused (λ n. refused' (g n)) f cs
      → Answers refused good cs x → (x ≡ good → Answers refused' good' ds (f good)) → Answers refused' good' (refusing g cs ++ ds) (f x)
  then-as-each b none k = k refl
  then-as-each b (this {c} {cs} a) k = subst (Answers refused' good' (_ ∷ _)) (sym b.0) (this a)
  then-as-each b (next n a) k = next n (then-as-each b.1 a k)
