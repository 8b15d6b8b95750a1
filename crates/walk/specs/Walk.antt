-- 01, "Payload and words": a walk over a type's tree, leaf by leaf from left to right. Reading and writing are one walk, given
-- what a leaf is: an array's count is a leaf too, 32 bits on the wire. Places are absolute.
use Rattle.std.specs.Prelude.{ℕ, zero, suc, ◌≤◌, ◌≡◌, Bool, ◌&&◌, cond, List, leb, eqb, length}
use Rattle.wire.specs.Bytes.{written}
use Rattle.table.specs.declared.Sections.{Sections}
use Rattle.table.specs.declared.Entry.{Entry}
use Rattle.table.specs.Leaf.{allowed}
use Rattle.table.specs.Entries.{fixed_kind}
use Rattle.types.specs.Table.{rule_broken}
use Rattle.leaf.specs.Choice.{choice}
use Rattle.walk.specs.declared.Place.{Place}
use Rattle.walk.specs.declared.Walked.{Walked}
use Rattle.walk.specs.declared.Walked.TheVariants.{Went, Stopped}
use Rattle.walk.specs.Tree.{Tree, leaf, row, array, broken, tree}

-- the numbers of 01 for a walk
abbrev pub ends_early : ℕ
ends_early = 40

abbrev pub left_over : ℕ
left_over = 41

abbrev pub not_allowed : ℕ
not_allowed = 42

abbrev pub over_most : ℕ
over_most = 43

-- the base code of an array's count: uint32
abbrev pub count_code : ℕ
count_code = 9

-- where a walk starts
abbrev pub start : Place
start = record { from = 0; to = 0 }

-- how far a walk has come, and what it has written into; or the number and the place at which it stopped
pub data Step : Type 0 where
  on : Place → List ℕ → Step
  stop : ℕ → Place → List ℕ → Step

unfoldable pub answer : Step → Walked
answer (on p x) = Went p
answer (stop n p x) = Stopped n p

unfoldable pub left : Step → List ℕ
left (on p x) = x
left (stop n p x) = x

-- one thing behind another
unfoldable pub next : Step → (Place → List ℕ → Step) → Step
next (on p x) f = f p x
next (stop n p x) f = stop n p x

unfoldable pub through : ℕ → (ℕ → Place → List ℕ → Step) → Place → List ℕ → Step
through zero f p x = on p x
through (suc n) f p x = next (through n f p x) (f n)

-- from the k-th step on a walk comes to the m-th
abbrev pub Goes : (ℕ → Place → List ℕ → Step) → ℕ → Place → List ℕ → ℕ → Place → List ℕ → Type 0
Goes f k p x m q y = (p₀ : Place) (x₀ : List ℕ) → through k f p₀ x₀ ≡ on p x → through m f p₀ x₀ ≡ on q y

-- among n steps it comes so far, to a place that P says, and what it writes into is as long as before
pub record Going (P : Place → Type 0) (f : ℕ → Place → List ℕ → Step) (n k : ℕ) (p : Place) (x : List ℕ) (m : ℕ) (q : Place)
    (y : List ℕ) : Type 0 where
  pub onward : k ≤ m
  pub most : m ≤ n
  pub here : P q
  pub as_long : length y ≡ length x
  pub goes : Goes f k p x m q y

-- what a leaf of a base code is to a walk: its word, whether the input goes as far, the place behind it, and what is written for it;
-- and how many leaves come before a place
pub record Codec : Type 0 where
  pub word : ℕ → Place → ℕ
  pub there : ℕ → Place → Bool
  pub after : ℕ → Place → Place
  pub gives : ℕ → ℕ → List ℕ
  pub leaves : Place → ℕ

-- a leaf whose other words are refused with n
unfoldable pub item : Codec → ℕ → ℕ → (ℕ → Bool) → Place → List ℕ → Step
item c n code ok p x =
    cond (c.there code p)
    (cond (allowed code (c.word code p) && ok (c.word code p)) (on (c.after code p) (written x p.to (c.gives code (c.word code p)))) (stop n p x))
    (stop ends_early p x)

-- an array's count
unfoldable pub counted : Codec → ℕ → Place → List ℕ → Step
counted c most p x = item c over_most count_code (λ n. leb n most) p x

unfoldable pub walk : Codec → Tree → Place → List ℕ → Step
walk c (leaf code ok) p x = item c not_allowed code ok p x
walk c (row n f) p x = through n (λ k q y. walk c (f k) q y) p x
walk c (array most a) p x = next (counted c most p x) (λ q y. through (c.word count_code p) (λ k r z. walk c a r z) q y)
walk c broken p x = stop rule_broken p x

-- what comes before the elements of a fixed array, nothing, and of an array, its count; and how many elements there are
unfoldable pub begun : Codec → Entry → Place → List ℕ → Step
begun c e p x = cond (eqb e.kind fixed_kind) (on p x) (counted c e.count p x)

unfoldable pub times : Codec → Entry → Place → ℕ
times c e p = cond (eqb e.kind fixed_kind) e.count (c.word count_code p)

-- a leaf's entry, and type i
unfoldable pub leaf_walk : Codec → List ℕ → Sections → Entry → Place → List ℕ → Step
leaf_walk c t s e p x = item c not_allowed e.of (choice t s e) p x

unfoldable pub type_walk : Codec → List ℕ → Sections → ℕ → Place → List ℕ → Step
type_walk c t s i p x = walk c (tree t s i) p x
