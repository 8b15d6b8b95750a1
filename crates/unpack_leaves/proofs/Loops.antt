-- The loops over a list of base codes: what is left to judge or to store leads to the whole.
-- Assumes nothing.
use Prim.Native.Nat.{ℕ, suc, min, ◌+◌, ◌-◌, ◌*◌, ◌^◌, ◌≤◌, ◌<◌}
use mathlib.Core.Path.{◌≡◌, refl, sym, ap, ◌∙◌}
use mathlib.Core.Bool.{Bool, true, false, cond}
use mathlib.Core.List.{List, [], ◌∷◌}
use native.Mathlib.Nat.{add-zero}
use native.Mathlib.Numerals.{add-one}
use native.Mathlib.Omega.{arith}
use borrow.Author.Tests.{le-leb, lt-leb}
use mir.Syntax.{w64}
use mir.Val.{Fits}
use lib.Dec.{leb}
use lib.ListN.{length, get_or, set, take, drop, drop_of_length-le}
use lib.Seq.{take-suc, drop-cons}
use Rattle.wire.proofs.Cond.{yes-if, no-if}
use Rattle.table.specs.Leaf.{width}
use Rattle.leaf.specs.Forms.{word_at}
use Rattle.walk.specs.declared.Place.{Place}
use Rattle.unpack_leaves.specs.Leaves.{is_there, stored, ends, laid, there_count, whole_count}
use Rattle.unpack_leaves.proofs.OneLeaf.{stored_word}
use Rattle.unpack_leaves.proofs.InTurn.{ends_append}
use Rattle.unpack_leaves.proofs.Counts.{none_there, none-whole, laid_out, laid-cut}

-- past the end of the payload none is judged, and none stored
module _ (b codes : List ℕ) (from : ℕ) (h : length b < from) where
  pub none-judged : 0 ≡ there_count b codes from
  none-judged = sym (none_there b codes from h)

  pub none_ends : from ≡ ends (take (there_count b codes from) codes) from
  unfolding ends
  none_ends = ap (λ (n : ℕ). ends (take n codes) from) (sym (none_there b codes from h))

module _ (b codes : List ℕ) (p : Place) (x : List ℕ) where
  pub none_stored : length b < p.from → x ≡ laid b (take (whole_count b codes p.from) codes) p x
  unfolding laid
  none_stored h = ap (λ (n : ℕ). laid b (take n codes) p x) (sym (none-whole b codes p.from h))

  pub no_room : length x ≤ p.to → x ≡ laid b (take (whole_count b codes p.from) codes) p x
  no_room h = sym (laid_out b (take (whole_count b codes p.from) codes) p x h)

  pub room-stored : (n : ℕ) (y : List ℕ) → n ≡ min (length codes) (length x - p.to) → y
      ≡ laid b (take (whole_count b (take n codes) p.from) (take n codes)) p x → y ≡ laid b (take (whole_count b codes p.from) codes) p x
  room-stored n y h e = e ∙ laid-cut b codes n p x (λ l. omega arith)

-- judging
module _ (b codes : List ℕ) (first : ℕ) where
  pub start-ends : first ≡ ends (take 0 codes) first
  unfolding ends
  start-ends = refl

  module _ (k from : ℕ) (so_far : from ≡ ends (take k codes) first) where
    pub one_end : k < length codes → (n : ℕ) → n ≡ width (get_or codes k 0) → from + n ≡ ends (take (k + 1) codes) first
    unfolding ends
    one_end less n is =
        ap (λ (m : ℕ). from + m) is
        ∙ ap (λ (m : ℕ). m + width (get_or codes k 0)) so_far
        ∙ sym (ends_append (take k codes) (get_or codes k 0 ∷ []) first)
        ∙ ap (λ (u : List ℕ). ends u first) (sym (ap (λ (n : ℕ). take n codes) (add-one k) ∙ take-suc codes k 0 less))

  module _ (k from : ℕ) (left : k + there_count b (drop k codes) from ≡ there_count b codes first) where
    -- all were judged
    pub all_counted : k ≤ length codes → length codes ≤ k → length codes ≡ there_count b codes first
    unfolding there_count
    all_counted most done =
        let e : length codes ≡ k + 0 = omega arith in
        e ∙ ap (λ (u : List ℕ). k + there_count b u from) (sym (drop_of_length-le codes done)) ∙ left

    module _ (less : k < length codes) (r : Bool) (there : r ≡ is_there b (get_or codes k 0) from) where
      next : k + cond (is_there b (get_or codes k 0) from) (suc (there_count b (drop (suc k) codes) (from + width (get_or codes k 0)))) 0 ≡ there_count b codes first
      unfolding there_count
      next = ap (λ (u : List ℕ). k + there_count b u from) (sym (drop-cons codes k 0 less)) ∙ left

      pub stop-counted : r ≡ false → k ≡ there_count b codes first
      stop-counted refused = sym (add-zero k)
          ∙ ap (λ (m : ℕ). k + m) (sym (no-if (suc (there_count b (drop (suc k) codes) (from + width (get_or codes k 0)))) 0 (sym there ∙ refused))) ∙ next

      pub one-counted : r ≡ true → (n : ℕ) → n ≡ width (get_or codes k 0) → k + 1 + there_count b (drop (k + 1) codes) (from + n) ≡ there_count b codes first
      one-counted found n is =
          let m : ℕ = there_count b (drop (suc k) codes) (from + width (get_or codes k 0)) in
          let e : k + 1 + m ≡ k + suc m = omega arith in
          rw (is, add-one k) (ap (λ (j : ℕ). j + m) (sym (add-one k)) ∙ e ∙ ap (λ (j : ℕ). k + j) (sym (yes-if (suc m) 0 (sym there ∙ found))) ∙ next)

  -- so they end where the next is looked for
  pub counted-ends : (k from : ℕ) → from ≡ ends (take k codes) first → k ≡ there_count b codes first → from ≡ ends (take (there_count b codes first) codes) first
  counted-ends k from e h = e ∙ ap (λ (n : ℕ). ends (take n codes) first) h

-- a place behind a leaf that is there
module _ (l from code n : ℕ) (room : from + width code ≤ l) (is : n ≡ width code) where
  pub behind-in : from + n ≤ l
  behind-in = omega arith

  pub behind-fits : l * 1 < 2 ^ 63 → Fits w64 (from + n)
  behind-fits h = record { fits = omega arith }

-- storing
abbrev pub rest : List ℕ → List ℕ → ℕ → Place → List ℕ → List ℕ
rest b codes k p x = laid b (take (whole_count b (drop k codes) p.from) (drop k codes)) p x

module _ (b codes : List ℕ) (k from to : ℕ) (x z : List ℕ) (left : rest b codes k (record { from = from; to = to + k }) x ≡ z) where
  pub all_stored : length codes ≤ k → x ≡ z
  unfolding laid whole_count
  all_stored done =
      ap (λ (u : List ℕ). laid b (take (whole_count b u from) u) (record { from = from; to = to + k }) x) (sym (drop_of_length-le codes done)) ∙ left

  module _ (less : k < length codes) (n : ℕ) (is : n ≡ width (get_or codes k 0)) (within : from ≤ length b) where
    next-left : laid b (take (cond (leb (from + width (get_or codes k 0)) (length b))
        (suc (whole_count b (drop (suc k) codes) (from + width (get_or codes k 0)))) 0) (get_or codes k 0 ∷ drop (suc k) codes))
        (record { from = from; to = to + k }) x ≡ z
    unfolding whole_count
    next-left =
        ap (λ (u : List ℕ). laid b (take (whole_count b u from) u) (record { from = from; to = to + k }) x) (sym (drop-cons codes k 0 less)) ∙ left

    pub cut-stored : length b - from < n → x ≡ z
    unfolding laid
    cut-stored short =
        let e : leb (from + width (get_or codes k 0)) (length b) ≡ false = lt-leb (from + width (get_or codes k 0)) (length b) (omega arith) in
        rw e at next-left

    module _ (h : n ≤ length b - from) where
      pub next-room : from + width (get_or codes k 0) ≤ length b
      next-room = omega arith

      pub next-stored : (w : ℕ) (x₀ : List ℕ) → w ≡ word_at (get_or codes k 0) b from → length x ≡ length x₀ → to + length codes ≤ length x₀
          → rest b codes (k + 1) (record { from = from + n; to = to + (k + 1) }) (set x (to + k) w) ≡ z
      unfolding laid
      next-stored w x₀ word as_long room =
          let c : ℕ = get_or codes k 0 in
          let e : leb (from + width c) (length b) ≡ true = le-leb (from + width c) (length b) next-room in
          let g : laid b (take (whole_count b (drop (suc k) codes) (from + width c)) (drop (suc k) codes))
          (record { from = from + width c; to = to + k + 1 }) (stored b c (record { from = from; to = to + k }) x) ≡ z = rw e at next-left in
          let put : set x (to + k) w ≡ stored b c (record { from = from; to = to + k }) x = stored_word x (to + k) w b from c (omega arith) word in
          let v : to + suc k ≡ to + k + 1 = omega arith in
          rw (put, is, add-one k, v) g
