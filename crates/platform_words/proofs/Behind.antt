-- Words behind the first ones that are lent by themselves: what a slice is from a place on, and what it is once that part is back.
-- Assumes nothing.
use Prim.Native.Nat.{ℕ, ◌-◌, ◌≤◌, ◌<◌}
use mathlib.Core.Path.{◌≡◌, ap, ◌∙◌}
use mathlib.Core.List.{List, ◌++◌, append-nil}
use native.Mathlib.Omega.{arith}
use borrow.Rule.Slice.PartMut.{put_mid}
use lib.ListN.{length, take, drop, get_or, length-drop, drop_of_length-le, get_or-append}
use lib.Seq.{length-take-le, take_all, take_at, drop_at, get_or-take}

module _ (a : ℕ) (ws : List ℕ) where
  long : length (drop a ws) ≤ length ws - a
  long = omega (arith, length-drop a ws)

  pub lent-behind : take (length ws - a) (drop a ws) ≡ drop a ws
  lent-behind = take_all (length ws - a) (drop a ws) long

  pub back-behind : (last : List ℕ) → put_mid a (length ws - a) ws last ≡ take a ws ++ last
  back-behind last =
      ap (λ (u : List ℕ). take a ws ++ (last ++ u)) (drop_of_length-le (drop a ws) long) ∙ ap (λ (u : List ℕ). take a ws ++ u) (append-nil last)

  -- what a call made of the part
  pub back_by : {last : List ℕ} (F : List ℕ → List ℕ) → last ≡ F (take (length ws - a) (drop a ws))
      → put_mid a (length ws - a) ws last ≡ take a ws ++ F (drop a ws)
  back_by {last} F e = back-behind last ∙ ap (λ (l : List ℕ). take a ws ++ l) (e ∙ ap F lent-behind)

  -- the two parts of it, and a word of the first
  module _ (h : a ≤ length ws) (last : List ℕ) where
    pub front-back : take a (take a ws ++ last) ≡ take a ws
    front-back = take_at (take a ws) last a (length-take-le a ws h)

    pub part-back : drop a (take a ws ++ last) ≡ last
    part-back = drop_at (take a ws) last a (length-take-le a ws h)

    pub word_back : (i : ℕ) → i < a → get_or (take a ws ++ last) i 0 ≡ get_or ws i 0
    word_back i b =
        let e : length (take a ws) ≡ a = length-take-le a ws h in
        get_or-append (take a ws) last 0 i (omega arith) ∙ get_or-take a ws i 0 b
