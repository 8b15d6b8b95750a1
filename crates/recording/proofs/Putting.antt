-- What putting a word asks at its returns: where it fits, and where it does not.
-- Assumes nothing.
use Rattle.std.proofs.Common.{◌≡◌, ℕ, ◌+◌, ◌-◌, ◌^◌, ◌<◌, ◌≤◌, Bool, true, false, leb, List, [], ◌∷◌, ◌++◌, length, take, drop, set, sym, ap, ◌∙◌, append-nil, arith, length-append, length-drop, take_all, w64, Fits}
use Rattle.wire.specs.Bytes.{over, written, part}
use Rattle.wire.proofs.Cond.{yes_le, no_le}
use Rattle.wire.proofs.Runs.{held, failed, written_in, length_over, over_over, over_none, part_over}
use Rattle.recording.specs.Places.{behind, spaced, joined, put_all, end_all}
use Rattle.recording.proofs.Decimals.{put_first}

-- a text that fits, and one that does not
module _ {t : Bool} (n p : ℕ) (text : List ℕ) (e : t ≡ leb (p + length text) n) where
  pub end_fits : t ≡ true → n < 2 ^ 64 → Fits w64 (p + length text)
  end_fits f h = record { fits = omega (arith, held (p + length text) n e f) }

  pub put_behind : t ≡ true → p + length text ≡ behind n p text
  put_behind f = sym (yes_le _ _ (p + length text) n (held (p + length text) n e f))

  pub not_put : t ≡ false → p ≡ behind n p text
  not_put f = sym (no_le _ _ (p + length text) n (failed (p + length text) n e f))

-- what was put before the end of an array is all that is handed over
module _ (k at : ℕ) (word l : List ℕ) (s : ℕ) (f : drop s l ≡ word ++ []) where
  word_made : take (length l - s) (drop s l) ≡ word
  word_made = take_all (length l - s) (drop s l) (omega (arith, length-drop s l)) ∙ f ∙ append-nil word

  pub word_end : {r : ℕ} → r ≡ behind k at (take (length l - s) (drop s l)) → r ≡ behind k at word
  word_end e = e ∙ ap (behind k at) word_made

  pub word-put : {u : List ℕ} (w : List ℕ) → u ≡ written w at (take (length l - s) (drop s l)) → u ≡ written w at word
  word-put w e = e ∙ ap (written w at) word_made

-- a space before what a number was put before
pub space_put : (u v word : List ℕ) (at : ℕ) → 0 < at → at ≤ length u → drop at u ≡ word ++ v → drop (at - 1) (set u (at - 1) 32) ≡ spaced word ++ v
space_put u v word at z h e =
    let m : at - 1 + 1 ≡ at = omega arith in
    put_first u (at - 1) 32 (omega arith) ∙ ap (λ (k : ℕ). 32 ∷ drop k u) m ∙ ap (λ (w : List ℕ). 32 ∷ w) e

-- one word, and then others
module _ (w s : List ℕ) (p : ℕ) where
  pub put_one : {v : List ℕ} → v ≡ written s p w → v ≡ put_all (w ∷ []) s p
  unfolding put_all
  put_one e = e

  pub end-one : {r : ℕ} → r ≡ behind (length s) p w → r ≡ end_all (w ∷ []) s p
  unfolding end_all
  end-one e = e

  module _ {u : List ℕ} {q : ℕ} (ws : List (List ℕ)) (e : u ≡ written s p w) (f : q ≡ behind (length s) p w) where
    pub put_next : {v : List ℕ} → v ≡ put_all ws u q → v ≡ put_all (w ∷ ws) s p
    unfolding put_all
    put_next g = rw (e, f) at g

    pub end-next : {r : ℕ} → r ≡ end_all ws u q → r ≡ end_all (w ∷ ws) s p
    unfolding end_all
    end-next g = rw (e, f) at g

-- words that fit together are put as one
pub all_put : (ws : List (List ℕ)) (s : List ℕ) (p : ℕ) → p + length (joined ws) ≤ length s → put_all ws s p ≡ over s p (joined ws)
unfolding put_all
all_put [] s p h = over_none s p []
all_put (w ∷ ws) s p h =
    let n : length (w ++ joined ws) ≡ length w + length (joined ws) = length-append w (joined ws) in
    let i : p + length w ≤ length s = omega arith in
    let e : written s p w ≡ over s p w = written_in s p w i in
    let l : length (over s p w) ≡ length s = length_over s p w i in
    let q : behind (length s) p w ≡ p + length w = yes_le _ _ (p + length w) (length s) i in
    ap (λ (u : List ℕ). put_all ws u (behind (length s) p w)) e
    ∙ ap (put_all ws (over s p w)) q
    ∙ all_put ws (over s p w) (p + length w) (omega arith)
    ∙ over_over s p w (joined ws) h

pub all_end : (ws : List (List ℕ)) (s : List ℕ) (p : ℕ) → p + length (joined ws) ≤ length s → end_all ws s p ≡ p + length (joined ws)
unfolding end_all
all_end [] s p h = omega arith
all_end (w ∷ ws) s p h =
    let n : length (w ++ joined ws) ≡ length w + length (joined ws) = length-append w (joined ws) in
    let i : p + length w ≤ length s = omega arith in
    let e : written s p w ≡ over s p w = written_in s p w i in
    let l : length (over s p w) ≡ length s = length_over s p w i in
    let q : behind (length s) p w ≡ p + length w = yes_le _ _ (p + length w) (length s) i in
    ap (λ (u : List ℕ). end_all ws u (behind (length s) p w)) e
    ∙ ap (end_all ws (over s p w)) q
    ∙ all_end ws (over s p w) (p + length w) (omega arith)
    ∙ omega arith

pub all_part : (ws : List (List ℕ)) (s : List ℕ) → length (joined ws) ≤ length s → part (put_all ws s 0) 0 (end_all ws s 0) ≡ joined ws
all_part ws s h =
    let k : end_all ws s 0 ≡ length (joined ws) = all_end ws s 0 (omega arith) ∙ omega arith in
    ap (λ (u : List ℕ). part u 0 (end_all ws s 0)) (all_put ws s 0 (omega arith))
    ∙ ap (part (over s 0 (joined ws)) 0) k
    ∙ part_over s 0 (joined ws) (omega arith)
