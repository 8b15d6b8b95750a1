-- Relations over a leaf carried over a type: to others, and turned round.
-- Assumes nothing.
use Prim.Native.Nat.{ℕ, zero, suc}
use mathlib.Core.Path.{◌≡◌}
use mathlib.Core.Bool.{true}
use mathlib.Core.List.{List}
use Rattle.table.specs.Leaf.{allowed}
use Rattle.walk.specs.Tree.{Tree, leaf, row, array, broken}
use Rattle.walk.specs.Walk.{count_code}
use Rattle.values.specs.Values.{Row, Over}

-- relations over a leaf carried over a type
module _ (L M : ℕ → ℕ → List ℕ → List ℕ → Type 0) where
  row-map : (F G : ℕ → List ℕ → List ℕ → Type 0) → ((k : ℕ) (xs ys : List ℕ) → F k xs ys → G k xs ys) → (n : ℕ) (xs ys : List ℕ) → Row F n xs ys → Row G n xs ys
  unfolding Row
  row-map F G f zero xs ys r = r
  row-map F G f (suc n) xs ys r =
      record {
        xs₁ = r.xs₁;
        xs₂ = r.xs₂;
        ys₁ = r.ys₁;
        ys₂ = r.ys₂;
        is_xs = r.is_xs;
        is_ys = r.is_ys;
        first = row-map F G f n r.xs₁ r.ys₁ r.first;
        second = f n r.xs₂ r.ys₂ r.second;
      }

  row-flip : (F G : ℕ → List ℕ → List ℕ → Type 0) → ((k : ℕ) (xs ys : List ℕ) → F k xs ys → G k ys xs) → (n : ℕ) (xs ys : List ℕ)
      → Row F n xs ys → Row G n ys xs
  unfolding Row
  row-flip F G f zero xs ys r = (r.1, r.0)
  row-flip F G f (suc n) xs ys r =
      record {
        xs₁ = r.ys₁;
        xs₂ = r.ys₂;
        ys₁ = r.xs₁;
        ys₂ = r.xs₂;
        is_xs = r.is_ys;
        is_ys = r.is_xs;
        first = row-flip F G f n r.xs₁ r.ys₁ r.first;
        second = f n r.xs₂ r.ys₂ r.second;
      }

  pub over-map : ((code w : ℕ) (xs ys : List ℕ) → allowed code w ≡ true → L code w xs ys → M code w xs ys) → (tr : Tree) (xs ys : List ℕ)
      → Over L tr xs ys → Over M tr xs ys
  unfolding Over
  over-map f (leaf code ok) xs ys o =
      record { it = o.it; is = record { in_range = o.is.in_range; taken = o.is.taken; says = f code o.it xs ys o.is.in_range o.is.says } }
  over-map f (row n g) xs ys o = row-map (λ k us vs. Over L (g k) us vs) (λ k us vs. Over M (g k) us vs) (λ k us vs d. over-map f (g k) us vs d) n xs ys o
  over-map f (array most a) xs ys o =
      let r = o.is in
      record {
        it = o.it;
        is = record {
          xs₁ = r.xs₁;
          xs₂ = r.xs₂;
          ys₁ = r.ys₁;
          ys₂ = r.ys₂;
          is_xs = r.is_xs;
          is_ys = r.is_ys;
          first = record {
            in_range = r.first.in_range;
            taken = r.first.taken;
            says = f count_code o.it r.xs₁ r.ys₁ r.first.in_range r.first.says;
          };
          second = row-map (λ k us vs. Over L a us vs) (λ k us vs. Over M a us vs) (λ k us vs d. over-map f a us vs d) o.it r.xs₂ r.ys₂ r.second;
        };
      }
  over-map f broken xs ys o = o

  pub over-flip : ((code w : ℕ) (xs ys : List ℕ) → L code w xs ys → M code w ys xs) → (tr : Tree) (xs ys : List ℕ) → Over L tr xs ys → Over M tr ys xs
  unfolding Over
  over-flip f (leaf code ok) xs ys o =
      record { it = o.it; is = record { in_range = o.is.in_range; taken = o.is.taken; says = f code o.it xs ys o.is.says } }
  over-flip f (row n g) xs ys o = row-flip (λ k us vs. Over L (g k) us vs) (λ k us vs. Over M (g k) us vs) (λ k us vs d. over-flip f (g k) us vs d) n xs ys o
  over-flip f (array most a) xs ys o =
      let r = o.is in
      record {
        it = o.it;
        is = record {
          xs₁ = r.ys₁;
          xs₂ = r.ys₂;
          ys₁ = r.xs₁;
          ys₂ = r.xs₂;
          is_xs = r.is_ys;
          is_ys = r.is_xs;
          first = record { in_range = r.first.in_range; taken = r.first.taken; says = f count_code o.it r.xs₁ r.ys₁ r.first.says };
          second = row-flip (λ k us vs. Over L a us vs) (λ k us vs. Over M a us vs) (λ k us vs d. over-flip f a us vs d) o.it r.xs₂ r.ys₂ r.second;
        };
      }
  over-flip f broken xs ys o = o
