-- An enum's values compared in stretches, each behind those that were compared before it: none of a stretch is the word, one is, or
-- all were compared.
-- Assumes nothing.
use Rattle.std.proofs.Common.{◌≡◌, ℕ, zero, suc, ◌+◌, ◌-◌, ◌*◌, ◌<◌, ◌≤◌, min, Bool, true, false, not, ◌&&◌, eqb, List, sym, refl, ap, ◌∙◌, ap₂, add-zero, add-suc, arith, eq-eqb, ne_eqb}
use Rattle.wire.specs.All.{all_below}
use Rattle.wire.specs.Bytes.{span, number}
use Rattle.wire.specs.LowFirst.{swapped}
use Rattle.wire.proofs.AllBelow.{at-below, all-below}
use Rattle.wire.proofs.Cond.{clash}
use Rattle.wire.proofs.Swaps.{swapped_twice}
use Rattle.leaf.specs.Choice.{other_at, among_at}
use Rattle.leaf.proofs.Returns.{hit, missed}

-- what passes below n passes below fewer
fewer : (f : ℕ → Bool) (a n : ℕ) → a ≤ n → all_below f n ≡ true → all_below f a ≡ true
fewer f a n l h = all-below f a (λ i m. at-below f n i h (omega arith))

module _ (t : List ℕ) (p v : ℕ) where
  -- the j-th value behind k others
  behind : (k j : ℕ) → other_at t (p + 8 * k) v j ≡ other_at t p v (k + j)
  unfolding other_at
  behind k j = ap (λ (n : ℕ). not (eqb (number 3 t n) v)) (omega arith)

  all_behind : (k m : ℕ) → all_below (other_at t p v) k ≡ true → all_below (other_at t (p + 8 * k) v) m ≡ all_below (other_at t p v) (k + m)
  unfolding all_below
  all_behind k zero h = sym (ap (all_below (other_at t p v)) (add-zero k) ∙ h)
  all_behind k (suc m) h = rw (add-suc k m) (ap₂ ◌&&◌ (all_behind k m h) (behind k m))

  -- none of m values behind the first k is the word
  pub stretch-missed : (k m r : ℕ) → all_below (other_at t p v) k ≡ true → eqb r 0 ≡ all_below (other_at t (p + 8 * k) v) m → r ≡ 0
      → all_below (other_at t p v) (k + m) ≡ true
  stretch-missed k m r h e z = sym (all_behind k m h) ∙ sym e ∙ eq-eqb r 0 z

-- a word that was turned
module _ (t : List ℕ) (p w : ℕ) {x : ℕ} (e : x ≡ swapped 3 w) (l : w < span 3) where
  back : swapped 3 x ≡ w
  back = ap (swapped 3) e ∙ swapped_twice 3 w l

  same : (n : ℕ) → all_below (other_at t p (swapped 3 x)) n ≡ all_below (other_at t p w) n
  same n = ap (λ (v : ℕ). all_below (other_at t p v) n) back

  -- one of them is
  pub stretch-hit : (n k m r : ℕ) → all_below (other_at t p (swapped 3 x)) k ≡ true → k < n → m ≡ min (k + 4) (n - k)
      → eqb r 0 ≡ all_below (other_at t (p + 8 * k) (swapped 3 x)) m → (r ≡ 0 → ⊥) → true ≡ among_at t p n w
  stretch-hit n k m r h b d g z = go (all_below (other_at t p (swapped 3 x)) n) refl
    where
      some : all_below (other_at t p (swapped 3 x)) (k + m) ≡ false
      some = sym (all_behind t p (swapped 3 x) k m h) ∙ sym g ∙ ne_eqb r 0 z

      go : (u : Bool) → all_below (other_at t p (swapped 3 x)) n ≡ u → true ≡ among_at t p n w
      go true a = absurd (clash some (fewer (other_at t p (swapped 3 x)) (k + m) n (omega arith) a))
      go false a = hit t p w n (sym a ∙ same n)

  -- all were compared, and none is
  pub all-missed : (n k : ℕ) → all_below (other_at t p (swapped 3 x)) k ≡ true → k ≤ n → n ≤ k → false ≡ among_at t p n w
  all-missed n k h a b = missed t p w n (sym h ∙ ap (all_below (other_at t p (swapped 3 x))) (omega arith) ∙ same n)
