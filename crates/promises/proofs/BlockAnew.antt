-- A block of 256 words in the middle of others that is written anew: every other word stays.
-- Assumes nothing.
use Prim.Native.Nat.{ℕ, ◌+◌, ◌-◌, ◌≤◌}
use mathlib.Core.Path.{◌≡◌, sym, ap, ◌∙◌}
use mathlib.Core.List.{List, ◌++◌}
use native.Mathlib.Omega.{arith}
use lib.ListN.{length, take, drop, length-append}
use lib.Seq.{length-take-le, take_at, drop_at, take-take, drop-drop, take-add}

-- a part of a list by what stands in front of its end
middle : (n m : ℕ) (l : List ℕ) → n ≤ length l → drop n (take (n + m) l) ≡ take m (drop n l)
middle n m l h = ap (drop n) (take-add n m l) ∙ drop_at (take n l) (take m (drop n l)) n (length-take-le n l h)

-- a block in the middle of words that is written anew
module _ (ws b : List ℕ) (at : ℕ) (h : at + 256 ≤ length ws) (l : length b ≡ 256) where
  abbrev pub anew : List ℕ
  anew = take at ws ++ (b ++ drop 256 (drop at ws))

  front_long : length (take at ws) ≡ at
  front_long = length-take-le at ws (omega arith)

  pub front_same : take at anew ≡ take at ws
  front_same = take_at (take at ws) (b ++ drop 256 (drop at ws)) at front_long

  from_block : drop at anew ≡ b ++ drop 256 (drop at ws)
  from_block = drop_at (take at ws) (b ++ drop 256 (drop at ws)) at front_long

  pub block_new : take 256 (drop at anew) ≡ b
  block_new = ap (take 256) from_block ∙ take_at b (drop 256 (drop at ws)) 256 l

  pub rest-same : drop (at + 256) anew ≡ drop (at + 256) ws
  rest-same =
      sym (drop-drop 256 at anew) ∙ ap (drop 256) from_block ∙ drop_at b (drop 256 (drop at ws)) 256 l ∙ drop-drop 256 at ws

  long_same : at ≤ length anew
  long_same =
      let n : length anew ≡ length (take at ws) + length (b ++ drop 256 (drop at ws)) = length-append (take at ws) (b ++ drop 256 (drop at ws)) in
      omega (arith, front_long)

  pub before-it : (k : ℕ) → k + 256 ≤ at → take 256 (drop k anew) ≡ take 256 (drop k ws)
  before-it k z =
      sym (middle k 256 anew (omega (arith, long_same)))
      ∙ ap (drop k) (sym (take-take (k + 256) at anew z) ∙ ap (take (k + 256)) front_same ∙ take-take (k + 256) at ws z)
      ∙ middle k 256 ws (omega arith)

  pub behind-it : (k : ℕ) → at + 256 ≤ k → take 256 (drop k anew) ≡ take 256 (drop k ws)
  behind-it k z =
      let n : ℕ = k - (at + 256) in
      let q : at + 256 + n ≡ k = omega arith in
      ap (take 256)
      (ap (λ (x : ℕ). drop x anew) (sym q) ∙ sym (drop-drop n (at + 256) anew) ∙ ap (drop n) rest-same ∙ drop-drop n (at + 256) ws
      ∙ ap (λ (x : ℕ). drop x ws) q)
