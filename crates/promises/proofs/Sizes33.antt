-- The largest size of a type by its kind.
-- Assumes nothing.
use Prim.Native.Nat.{ℕ, zero, suc, ◌+◌, ◌*◌, ◌≤◌, ◌<◌}
use mathlib.Core.Path.{◌≡◌, refl, sym, ap, ap₂, subst, ◌∙◌}
use mathlib.Core.Logic.{◌⊎◌, inl, inr, ⊎_elim}
use mathlib.Core.List.{List}
use native.Mathlib.Omega.{arith}
use lib.ListN.{get_or}
use Rattle.table.specs.declared.Sections.{Sections}
use Rattle.table.specs.declared.Entry.{Entry}
use Rattle.table.specs.Entries.{type_at, member_at}
use Rattle.table.specs.Leaf.{base, bytes_of, width}
use Rattle.types.specs.Sizes.{sum_of, size_of, sizes, largest}
use Rattle.types.proofs.SizeLaws.{size-known}
use Rattle.promises.specs.Rules32.{kind_of, of_of, first_of, count_of, member_in, TypeKeeps}
use Rattle.promises.specs.Sizes33.{widths, total, LargestIs, Sizes33}

width_is : (code : ℕ) → width code ≡ get_or widths code 0
unfolding width base bytes_of
width_is zero = refl
width_is (suc zero) = refl
width_is (suc (suc zero)) = refl
width_is (suc (suc (suc zero))) = refl
width_is (suc (suc (suc (suc zero)))) = refl
width_is (suc (suc (suc (suc (suc zero))))) = refl
width_is (suc (suc (suc (suc (suc (suc zero)))))) = refl
width_is (suc (suc (suc (suc (suc (suc (suc zero))))))) = refl
width_is (suc (suc (suc (suc (suc (suc (suc (suc zero)))))))) = refl
width_is (suc (suc (suc (suc (suc (suc (suc (suc (suc zero))))))))) = refl
width_is (suc (suc (suc (suc (suc (suc (suc (suc (suc (suc zero)))))))))) = refl
width_is (suc (suc (suc (suc (suc (suc (suc (suc (suc (suc (suc zero))))))))))) = refl
width_is (suc (suc (suc (suc (suc (suc (suc (suc (suc (suc (suc (suc zero)))))))))))) = refl
width_is (suc (suc (suc (suc (suc (suc (suc (suc (suc (suc (suc (suc (suc n))))))))))))) = refl

base_or_enum : (k : ℕ) → k ≤ 1 → (k ≡ 0) ⊎ (k ≡ 1)
base_or_enum zero l = inl refl
base_or_enum (suc zero) l = inr refl
base_or_enum (suc (suc k)) l = absurd (omega arith)

module _ (t : List ℕ) (s : Sections) (i : ℕ) where
  abbrev known : List ℕ
  known = sizes t s i

  -- type i with another kind
  abbrev its : ℕ → Entry
  its kind = record { kind = kind; of = of_of t s i; first = first_of t s i; count = count_of t s i }

  largest-is : largest t s i ≡ size_of t s known (its (kind_of t s i))
  unfolding largest type_at
  largest-is = refl

  at-kind : (k : ℕ) → kind_of t s i ≡ k → largest t s i ≡ size_of t s known (its k)
  at-kind k e = largest-is ∙ ap (λ (x : ℕ). size_of t s known (its x)) e

  of_leaf : (k : ℕ) → (k ≡ 0) ⊎ (k ≡ 1) → size_of t s known (its k) ≡ width (of_of t s i)
  unfolding size_of
  of_leaf k c =
      ⊎_elim
      (λ (e : k ≡ 0). subst (λ (x : ℕ). size_of t s known (its x) ≡ width (of_of t s i)) (sym e) refl)
      (λ (e : k ≡ 1). subst (λ (x : ℕ). size_of t s known (its x) ≡ width (of_of t s i)) (sym e) refl) c

  sums : (n : ℕ) → ((k : ℕ) → k < n → member_in t s (first_of t s i + k) < i)
      → sum_of t s known (its 2) n ≡ total (λ (k : ℕ). largest t s (member_in t s (first_of t s i + k))) n
  unfolding sum_of member_at
  sums zero h = refl
  sums (suc n) h = ap₂ ◌+◌ (sums n (λ k l. h k (omega arith))) (size-known t s i (member_in t s (first_of t s i + n)) (h n (omega arith)))

  members-are : size_of t s known (its 2) ≡ sum_of t s known (its 2) (count_of t s i)
  unfolding size_of
  members-are = refl

  fixed-is : size_of t s known (its 3) ≡ count_of t s i * get_or known (of_of t s i) 0
  unfolding size_of
  fixed-is = refl

  array-is : size_of t s known (its 4) ≡ count_of t s i * get_or known (of_of t s i) 0 + 4
  unfolding size_of
  array-is = refl

  largest-by-kind : TypeKeeps t s i → LargestIs t s i
  largest-by-kind r =
      record {
        base_or_enum = λ l. at-kind (kind_of t s i) refl ∙ of_leaf (kind_of t s i) (base_or_enum (kind_of t s i) l) ∙ width_is (of_of t s i);
        of_members = λ e. at-kind 2 e ∙ members-are ∙ sums (count_of t s i) (r.of_members e).smaller;
        fixed_array = λ e. at-kind 3 e ∙ fixed-is ∙ ap (λ (x : ℕ). count_of t s i * x) (size-known t s i (of_of t s i) (r.fixed_array e).smaller);
        array = λ e. at-kind 4 e ∙ array-is ∙ ap (λ (x : ℕ). count_of t s i * x + 4) (size-known t s i (of_of t s i) (r.array e).smaller);
      }

pub sizes_33 : Sizes33
sizes_33 t s i r = largest-by-kind t s i r
