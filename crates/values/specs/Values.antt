-- Demand 2: which words are a value of a type, and what its bytes are. 01, "Payload and words", and 000, Tables 6 and 7: one word
-- for each leaf, left to right; an array's count as a word first, and as 32 bits on the wire; no padding. Nothing here is
-- about reading or writing: it says which words and bytes belong together.
use Rattle.std.specs.Prelude.{ℕ, zero, suc, ◌≡◌, Bool, true, List, [], ◌∷◌, ◌++◌, leb}
use Rattle.table.specs.declared.Sections.{Sections}
use Rattle.table.specs.Leaf.{Leaf, boolean, signed, unsigned, float, none, base, allowed}
use Rattle.leaf.specs.Forms.{truth, form_of, Says}
use Rattle.walk.specs.Tree.{Tree, leaf, row, array, broken, tree}
use Rattle.walk.specs.Walk.{count_code}

-- two lists that are made of two parts each, one behind the other
pub record Behind (A B : List ℕ → List ℕ → Type 0) (xs ys : List ℕ) : Type 0 where
  pub xs₁ : List ℕ
  pub xs₂ : List ℕ
  pub ys₁ : List ℕ
  pub ys₂ : List ℕ
  pub is_xs : xs ≡ xs₁ ++ xs₂
  pub is_ys : ys ≡ ys₁ ++ ys₂
  pub first : A xs₁ ys₁
  pub second : B xs₂ ys₂

-- n parts, one behind another
unfoldable pub Row : (ℕ → List ℕ → List ℕ → Type 0) → ℕ → List ℕ → List ℕ → Type 0
Row F zero xs ys = (xs ≡ []) × (ys ≡ [])
Row F (suc n) xs ys = Behind (λ us vs. Row F n us vs) (F n) xs ys

-- a leaf: a word that the base code allows and that the type takes, and what L says of it
pub record One (L : ℕ → ℕ → List ℕ → List ℕ → Type 0) (code : ℕ) (ok : ℕ → Bool) (w : ℕ) (xs ys : List ℕ) : Type 0 where
  pub in_range : allowed code w ≡ true
  pub taken : ok w ≡ true
  pub says : L code w xs ys

pub record Some (P : ℕ → List ℕ → List ℕ → Type 0) (xs ys : List ℕ) : Type 0 where
  pub it : ℕ
  pub is : P it xs ys

-- what two lists are over a type, given what they are over a leaf: an array has a count of at most its maximum, and then so
-- many elements
unfoldable pub Over : (ℕ → ℕ → List ℕ → List ℕ → Type 0) → Tree → List ℕ → List ℕ → Type 0
Over L (leaf code ok) xs ys = Some (λ w us vs. One L code ok w us vs) xs ys
Over L (row n f) xs ys = Row (λ k us vs. Over L (f k) us vs) n xs ys
Over L (array most a) xs ys =
    Some (λ n us vs. Behind (λ ms ns. One L count_code (λ w. leb w most) n ms ns) (λ ms ns. Row (λ k cs ds. Over L a cs ds) n ms ns) us vs) xs ys
Over L broken xs ys = ⊥

-- a leaf's word and its bytes; and a byte form of it, where a true boolean may be any byte but 0
abbrev pub exact : ℕ → ℕ → List ℕ → List ℕ → Type 0
exact code w ws bs = (ws ≡ w ∷ []) × (bs ≡ form_of code w)

abbrev pub loose : ℕ → ℕ → List ℕ → List ℕ → Type 0
loose code w ws bs = (ws ≡ w ∷ []) × Says (base code) w bs

-- the words are a value of type i, and these are its bytes; or a byte form of it
unfoldable pub Value : List ℕ → Sections → ℕ → List ℕ → List ℕ → Type 0
Value t s i ws bs = Over exact (tree t s i) ws bs

unfoldable pub Spoken : List ℕ → Sections → ℕ → List ℕ → List ℕ → Type 0
Spoken t s i ws bs = Over loose (tree t s i) ws bs

-- each true boolean as 1, and nothing else touched
pub record AsOne (bs cs : List ℕ) : Type 0 where
  pub byte : ℕ
  pub was : bs ≡ byte ∷ []
  pub is : cs ≡ truth byte ∷ []

unfoldable pub Settled : Leaf → List ℕ → List ℕ → Type 0
Settled boolean bs cs = AsOne bs cs
Settled (signed k) bs cs = cs ≡ bs
Settled (unsigned k n) bs cs = cs ≡ bs
Settled (float k e f) bs cs = cs ≡ bs
Settled none bs cs = cs ≡ bs

abbrev pub settled : ℕ → ℕ → List ℕ → List ℕ → Type 0
settled code w bs cs = Says (base code) w bs × Settled (base code) bs cs

-- cs is the payload bs of type i with each true boolean as 1
unfoldable pub BooleansAsOne : List ℕ → Sections → ℕ → List ℕ → List ℕ → Type 0
BooleansAsOne t s i bs cs = Over settled (tree t s i) bs cs
