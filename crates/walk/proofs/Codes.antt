-- Laws of the base codes that are read at once: how many lead, what they are, and what a caller knows of each.
-- Assumes nothing.
use Prim.Native.Nat.{ℕ, zero, suc, ◌+◌, ◌≤◌, ◌<◌}
use mathlib.Core.Path.{◌≡◌, refl, sym, ap, ◌∙◌}
use mathlib.Core.Bool.{Bool, true, false}
use mathlib.Core.Logic.{⊎_elim}
use mathlib.Core.List.{List, [], ◌∷◌, ◌++◌}
use native.Mathlib.Nat.{eq-or-lt_of_le}
use native.Mathlib.Numerals.{add-one}
use native.Mathlib.Omega.{arith}
use borrow.Author.Tests.{ltb-true, lt-ltb, le-ltb}
use lib.Dec.{ltb}
use lib.ListN.{length, get_or, set, drop, length-append, get_or-append}
use lib.Seq.{get_or_at}
use Rattle.wire.specs.Bytes.{over}
use Rattle.wire.proofs.Cond.{yes-if, no-if}
use Rattle.wire.proofs.Runs.{set_over, over_over, length_over}
use Rattle.table.specs.declared.Sections.{Sections}
use Rattle.table.specs.declared.Entry.{Entry}
use Rattle.wire.specs.All.{all_below}
use Rattle.wire.proofs.AllBelow.{none_below, next-below, at-below, stop-below}
use Rattle.table.specs.Layout.{type_place, member_place}
use Rattle.table.specs.Entries.{member_at}
use Rattle.walk.specs.Tree.{no_base, base_at}
use Rattle.walk.specs.Codes.{all_bases, leading, firsts, code_at, are_there, most_codes, code_count, codes_of}

module _ (f : ℕ → ℕ) where
  -- what leads: all of k that are bases, up to one that is none
  pub none-lead : all_bases f 0 ≡ true
  unfolding all_bases
  none-lead = none_below (λ k. ltb (f k) no_base)

  pub one-leads : (k x : ℕ) → all_bases f k ≡ true → x ≡ f k → x < 13 → all_bases f (k + 1) ≡ true
  unfolding all_bases
  one-leads k x a e h = next-below (λ j. ltb (f j) no_base) k (ltb x no_base) a (ap (λ (y : ℕ). ltb y no_base) e) (lt-ltb x 13 h)

  all-lead : (k : ℕ) → all_bases f k ≡ true → leading f k ≡ k
  unfolding leading
  all-lead zero a = refl
  all-lead (suc k) a = yes-if (suc k) (leading f k) a

  pub up_to : (n k : ℕ) → all_bases f k ≡ true → f k ≡ 13 → k ≤ n → k ≡ leading f n
  unfolding leading all_bases
  up_to zero k a e l = omega (arith, all-lead 0 (none-lead))
  up_to (suc n) k a e l =
      ⊎_elim
      (λ (g : k ≡ suc n). g ∙ sym (all-lead (suc n) (ap (all_bases f) (sym g) ∙ a)))
      (λ (g : k < suc n).
      up_to n k a e (omega arith)
      ∙ sym (no-if (suc n) (leading f n) (sym (stop-below (λ j. ltb (f j) no_base) (suc n) k (ltb (f k) no_base) refl (le-ltb (f k) 13 (omega arith)) g))))
      (eq-or-lt_of_le l)

  pub all_of : (n k : ℕ) → all_bases f k ≡ true → k ≤ n → n ≤ k → k ≡ leading f n
  all_of n k a l g = sym (all-lead k a) ∙ ap (leading f) (omega arith)

  pub they-all-lead : (n k : ℕ) → all_bases f k ≡ true → k ≤ n → n ≤ k → n ≡ leading f n
  they-all-lead n k a l g = let e : n ≡ k = omega arith in e ∙ all_of n k a l g

  pub leading-most : (n : ℕ) → leading f n ≤ n
  unfolding leading
  leading-most zero = omega arith
  leading-most (suc n) = go (all_bases f (suc n)) refl (leading-most n)
    where
      go : (b : Bool) → all_bases f (suc n) ≡ b → leading f n ≤ n → leading f (suc n) ≤ suc n
      go true a l = omega (arith, yes-if (suc n) (leading f n) a)
      go false a l = omega (arith, no-if (suc n) (leading f n) a)

  pub leading-base : (n j : ℕ) → j < leading f n → f j < 13
  unfolding leading all_bases
  leading-base zero j h = absurd (omega arith)
  leading-base (suc n) j h = go (all_bases f (suc n)) refl (leading-base n j)
    where
      go : (b : Bool) → all_bases f (suc n) ≡ b → (j < leading f n → f j < 13) → f j < 13
      go true a r = ltb-true (f j) 13 (at-below (λ k. ltb (f k) no_base) (suc n) j a (omega (arith, yes-if (suc n) (leading f n) a)))
      go false a r = r (omega (arith, no-if (suc n) (leading f n) a))

  -- the first n, one by one
  pub length-firsts : (n : ℕ) → length (firsts f n) ≡ n
  unfolding firsts
  length-firsts zero = refl
  length-firsts (suc n) = length-append (firsts f n) (f n ∷ []) ∙ ap (λ (k : ℕ). k + 1) (length-firsts n) ∙ add-one n

  pub first-at : (n j : ℕ) → j < n → get_or (firsts f n) j 0 ≡ f j
  unfolding firsts
  first-at zero j h = absurd (omega arith)
  first-at (suc n) j h =
      let l : j ≤ n = omega arith in
      ⊎_elim
      (λ (e : j ≡ n). ap (λ (k : ℕ). get_or (firsts f (suc n)) k 0) e ∙ get_or_at (firsts f n) (f n) [] 0 n (length-firsts n) ∙ ap f (sym e))
      (λ (g : j < n). get_or-append (firsts f n) (f n ∷ []) 0 j (omega (arith, length-firsts n)) ∙ first-at n j g)
      (eq-or-lt_of_le l)

-- what is the same below n leads alike
module _ (f g : ℕ → ℕ) where
  bases-same : (n : ℕ) → ((k : ℕ) → k < n → f k ≡ g k) → all_bases f n ≡ all_bases g n
  unfolding all_bases all_below
  bases-same zero h = refl
  bases-same (suc n) h = rw (bases-same n (λ k l. h k (omega arith)), h n (omega arith)) refl

  pub leading-same : (n : ℕ) → ((k : ℕ) → k < n → f k ≡ g k) → leading f n ≡ leading g n
  unfolding leading
  leading-same zero h = refl
  leading-same (suc n) h = rw (bases-same (suc n) h, leading-same n (λ k l. h k (omega arith))) refl

  pub firsts_same : (n : ℕ) → ((k : ℕ) → k < n → f k ≡ g k) → firsts f n ≡ firsts g n
  unfolding firsts
  firsts_same zero h = refl
  firsts_same (suc n) h = rw (firsts_same n (λ k l. h k (omega arith)), h n (omega arith)) refl

-- what is stored, code by code
module _ (f : ℕ → ℕ) (s : List ℕ) where
  pub none_stored : s ≡ over s 0 (firsts f 0)
  unfolding firsts
  none_stored = refl

  pub one-stored : {u : List ℕ} (k n x : ℕ) → u ≡ over s 0 (firsts f k) → k < n → n ≤ length s → x ≡ f k → set u k x ≡ over s 0 (firsts f (k + 1))
  unfolding firsts
  one-stored {u} k n x e h r g =
      let l : length (firsts f k) ≡ k = length-firsts f k in
      let m : length u ≡ length s = ap length e ∙ length_over s 0 (firsts f k) (omega arith) in
      let a : length (firsts f k ++ (x ∷ [])) ≡ length (firsts f k) + 1 = length-append (firsts f k) (x ∷ []) in
      let q : k ≡ 0 + length (firsts f k) = omega arith in
      set_over u k x (omega arith)
      ∙ ap (λ (v : List ℕ). over v k (x ∷ [])) e
      ∙ ap (λ (j : ℕ). over (over s 0 (firsts f k)) j (x ∷ [])) q
      ∙ over_over s 0 (firsts f k) (x ∷ []) (omega arith)
      ∙ ap (λ (y : ℕ). over s 0 (firsts f k ++ (y ∷ []))) g
      ∙ ap (λ (j : ℕ). over s 0 (firsts f j)) (sym (add-one k))

  pub so-many : {u : List ℕ} (k n : ℕ) → u ≡ over s 0 (firsts f k) → k ≡ leading f n → u ≡ over s 0 (firsts f (leading f n))
  so-many k n e g = e ∙ ap (λ (j : ℕ). over s 0 (firsts f j)) g

-- what a caller knows of the codes that were stored
module _ (t : List ℕ) (s : Sections) (i : ℕ) (e : Entry) (m room : ℕ) where
  pub few-codes : code_count t s i e m room ≤ most_codes e m room
  unfolding code_count
  few-codes = go (are_there (length t) (type_place s 0) (member_place s (e.first + m)) i (most_codes e m room)) refl
    where
      go : (b : Bool) → are_there (length t) (type_place s 0) (member_place s (e.first + m)) i (most_codes e m room) ≡ b
          → code_count t s i e m room ≤ most_codes e m room
      go true h = omega (arith, yes-if (leading (code_at t s i e m) (most_codes e m room)) 0 h, leading-most (code_at t s i e m) (most_codes e m room))
      go false h = omega (arith, no-if (leading (code_at t s i e m) (most_codes e m room)) 0 h)

  each-base : (j : ℕ) → j < code_count t s i e m room → code_at t s i e m j < 13
  unfolding code_count
  each-base j l = go (are_there (length t) (type_place s 0) (member_place s (e.first + m)) i (most_codes e m room)) refl
    where
      go : (b : Bool) → are_there (length t) (type_place s 0) (member_place s (e.first + m)) i (most_codes e m room) ≡ b → code_at t s i e m j < 13
      go true h = leading-base (code_at t s i e m) (most_codes e m room) j (omega (arith, yes-if (leading (code_at t s i e m) (most_codes e m room)) 0 h))
      go false h = absurd (omega (arith, no-if (leading (code_at t s i e m) (most_codes e m room)) 0 h))

  pub length-codes : length (codes_of t s i e m room) ≡ code_count t s i e m room
  unfolding codes_of
  length-codes = length-firsts (code_at t s i e m) (code_count t s i e m room)

  each-code : (j : ℕ) → j < code_count t s i e m room → get_or (codes_of t s i e m room) j 0 ≡ code_at t s i e m j
  unfolding codes_of
  each-code j l = first-at (code_at t s i e m) (code_count t s i e m room) j l

module _ (t : List ℕ) (s : Sections) (i : ℕ) (e : Entry) (m r : ℕ) (u : List ℕ) (counts : r ≡ code_count t s i e m (length u)) where
  pub codes-fit : r ≤ length u
  codes-fit = omega (arith, few-codes t s i e m (length u))

  -- each is of a member
  pub code-member : (j : ℕ) → j < r → m + j < e.count
  code-member j h = omega (arith, few-codes t s i e m (length u))

  module _ (v : List ℕ) (stored : v ≡ over u 0 (codes_of t s i e m (length u))) where
    pub codes-as-long : length v ≡ length u
    codes-as-long = ap length stored ∙ length_over u 0 (codes_of t s i e m (length u)) (omega (arith, length-codes t s i e m (length u), codes-fit))

    pub code-there : (j : ℕ) → j < r → j < length v
    code-there j h = omega (arith, codes-as-long, codes-fit)

    module _ (j code : ℕ) (one : j < r) (read : code ≡ get_or v j 0) where
      is_code : code ≡ code_at t s i e m j
      is_code =
          let l : length (codes_of t s i e m (length u)) ≡ r = length-codes t s i e m (length u) ∙ sym counts in
          read
          ∙ ap (λ (w : List ℕ). get_or w j 0) stored
          ∙ get_or-append (codes_of t s i e m (length u)) (drop (0 + length (codes_of t s i e m (length u))) u) 0 j (omega arith)
          ∙ each-code t s i e m (length u) j (omega arith)

      -- the base that a walk meets there
      pub code_is : code ≡ base_at t s i (member_at t s (e.first + (m + j)))
      unfolding code_at
      code_is = is_code

      pub code-base : code < 13
      code-base = omega (arith, is_code, each-base t s i e m (length u) j (omega arith))
