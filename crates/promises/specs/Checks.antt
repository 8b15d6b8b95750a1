-- Demand 1: "Bad ones get a numbered refusal under a fixed order of checks, and a refusal changes no channel, room, platform state,
-- sequence number or output byte." The two forms in which it is said of every call.
use Rattle.std.specs.Prelude.{ℕ, ◌<◌, ◌≡◌, List, [], ◌∷◌}

-- a check: what it refuses with, mostly a number, and when it applies. Numbers and limits stand in the lists of checks as 01 has
-- them, and not by the names that the code's definitions give them: what was changed there alone has no proof here
pub record CheckOf (R : Type 0) : Type 1 where
  pub refusal : R
  pub applies : Type 0

abbrev pub Check : Type 1
Check = CheckOf ℕ

infix 68 ◌when◌
abbrev pub ◌when◌ : {R : Type 0} → R → Type 0 → CheckOf R
◌when◌ r A = record { refusal = r; applies = A }

-- the same checks, of whose refusals f makes others
abbrev pub refusing : {R S : Type 0} → (R → S) → List (CheckOf R) → List (CheckOf S)
refusing f [] = []
refusing f (c ∷ cs) = f c.refusal when c.applies ∷ refusing f cs

-- under these checks, in this order, a call whose answer is `good` where none of them applies answers so: the first that applies
-- gives its refusal, whatever those behind it would say
pub data Answers {R A : Type 0} (refused : R → A) (good : A) : List (CheckOf R) → A → Type 1 where
  none : Answers refused good [] good
  this : {c : CheckOf R} {cs : List (CheckOf R)} → c.applies → Answers refused good (c ∷ cs) (refused c.refusal)
  next : {c : CheckOf R} {cs : List (CheckOf R)} {x : A} → ¬ c.applies → Answers refused good cs x → Answers refused good (c ∷ cs) x

-- a call that gives this number back: that of the first check that applies, and 0 where none does
abbrev pub Gives : List Check → ℕ → Type 1
Gives checks number = Answers (λ n. n) 0 checks number

-- a call that gives this number back (0: it does not refuse), and what it was lent or handed, before and after
abbrev pub Keeps : {A : Type 0} → ℕ → A → A → Type 0
Keeps number before after = ¬ (number ≡ 0) → after ≡ before

-- outside of lo to hi
pub data Outside (lo hi x : ℕ) : Type 0 where
  below : x < lo → Outside lo hi x
  above : hi < x → Outside lo hi x
