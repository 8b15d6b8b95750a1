-- The words of one platform's services among those of all: a platform's words put in place, and any other's, stay apart.
-- Assumes nothing.
use Prim.Native.Nat.{ℕ, ◌+◌, ◌-◌, ◌≤◌, ◌<◌}
use mathlib.Core.Path.{◌≡◌, refl, sym, ap, ◌∙◌}
use mathlib.Core.Bool.{Bool, true, false}
use mathlib.Core.List.{List, ◌++◌, append_assoc}
use native.Mathlib.Omega.{arith}
use borrow.Author.Tests.{leb-true, ltb-true, ltb-false}
use lib.Dec.{ltb}
use lib.ListN.{length, take, drop, length-append, length-drop, take-append-drop}
use lib.Seq.{length-take-le, take_at, drop_at, take-append-le, drop-append-le, drop-append-add}
use Rattle.services.specs.Block.{services}
use Rattle.partners.specs.Threes.{is_three, block_start}
use Rattle.partners.proofs.Counting.{blocks-apart}
use Rattle.mixed.specs.Keeping.{is_there, block_of, with_block}

-- what stands before a run, and what stands behind it, whatever the run is
front_same : (n a : ℕ) (x r s : List ℕ) → a + n ≤ length x → take n (drop a (x ++ r)) ≡ take n (drop a (x ++ s))
front_same n a x r s h = one r ∙ sym (one s)
  where
    one : (q : List ℕ) → take n (drop a (x ++ q)) ≡ take n (drop a x)
    one q = ap (take n) (drop-append-le a x q (omega arith)) ∙ take-append-le n (drop a x) q (omega (arith, length-drop a x))

behind_same : (a : ℕ) (x b c y : List ℕ) → length b ≡ length c → length x + length b ≤ a → drop a (x ++ (b ++ y)) ≡ drop a (x ++ (c ++ y))
behind_same a x b c y e h = one b refl ∙ sym (one c (sym e))
  where
    one : (z : List ℕ) → length z ≡ length b → drop a (x ++ (z ++ y)) ≡ drop (a - (length x + length b)) y
    one z q =
        let n : length (x ++ z) ≡ length x + length b = length-append x z ∙ ap (λ (k : ℕ). length x + k) q in
        let d : ℕ = a - (length x + length b) in
        let w : a ≡ length (x ++ z) + d = omega arith in
        ap (drop a) (sym (append_assoc x z y)) ∙ ap (λ (k : ℕ). drop k ((x ++ z) ++ y)) w ∙ drop-append-add (x ++ z) y d

module _ (i : List ℕ) (k : ℕ) (ws : List ℕ) (e : is_there i k ws ≡ true) where
  pub is-there : block_start i k + 256 ≤ length ws
  is-there = leb-true (block_start i k + services) (length ws) e

  pub block-long : length (block_of i k ws) ≡ 256
  block-long = let h = is-there in length-take-le 256 (drop (block_start i k) ws) (omega (arith, length-drop (block_start i k) ws))

  abbrev front : List ℕ
  front = take (block_start i k) ws

  abbrev rest : List ℕ
  rest = drop services (drop (block_start i k) ws)

  front_long : length front ≡ block_start i k
  front_long = let h = is-there in length-take-le (block_start i k) ws (omega arith)

  whole : with_block i k ws (block_of i k ws) ≡ ws
  whole = ap (λ (r : List ℕ). front ++ r) (take-append-drop services (drop (block_start i k) ws)) ∙ take-append-drop (block_start i k) ws

  module _ (b : List ℕ) (n : length b ≡ 256) where
    -- its own words
    pub put-there : block_of i k (with_block i k ws b) ≡ b
    put-there = ap (take services) (drop_at front (b ++ rest) (block_start i k) front_long) ∙ take_at b rest services n

    pub put-long : length (with_block i k ws b) ≡ length ws
    put-long =
        let one : length (with_block i k ws b) ≡ length front + (length b + length rest) =
        length-append front (b ++ rest) ∙ ap (λ (z : ℕ). length front + z) (length-append b rest) in
        let two : length (with_block i k ws (block_of i k ws)) ≡ length front + (length (block_of i k ws) + length rest) =
        length-append front (block_of i k ws ++ rest) ∙ ap (λ (z : ℕ). length front + z) (length-append (block_of i k ws) rest) in
        let all : length (with_block i k ws (block_of i k ws)) ≡ length ws = ap length whole in
        omega (arith, block-long)

    -- another's
    module _ (j : ℕ) (apart : ¬ (j ≡ k)) (tj : is_three i j ≡ true) (tk : is_three i k ≡ true) where
      before : j < k → block_of i j (with_block i k ws b) ≡ block_of i j (with_block i k ws (block_of i k ws))
      before l =
          let h : block_start i j + 256 ≤ block_start i k = blocks-apart i j k l tj in
          front_same 256 (block_start i j) front (b ++ rest) (block_of i k ws ++ rest) (omega (arith, front_long))

      behind : k < j → block_of i j (with_block i k ws b) ≡ block_of i j (with_block i k ws (block_of i k ws))
      behind l =
          let h : block_start i k + 256 ≤ block_start i j = blocks-apart i k j l tk in
          ap (take services) (behind_same (block_start i j) front b (block_of i k ws) rest (n ∙ sym block-long) (omega (arith, front_long)))

      pub put-elsewhere : block_of i j (with_block i k ws b) ≡ block_of i j ws
      put-elsewhere = go (ltb j k) refl ∙ ap (block_of i j) whole
        where
          go : (t : Bool) → ltb j k ≡ t → block_of i j (with_block i k ws b) ≡ block_of i j (with_block i k ws (block_of i k ws))
          go true t = before (ltb-true j k t)
          go false t = let h : k ≤ j = ltb-false j k t in behind (omega arith)
