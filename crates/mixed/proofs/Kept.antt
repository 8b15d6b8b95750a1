-- What the functions of `keeping` come to at their returns.
-- Assumes nothing.
use Prim.Native.Nat.{ℕ, ◌+◌, ◌-◌, ◌≤◌, ◌<◌}
use mathlib.Core.Path.{◌≡◌, refl, sym, ap, ap₂, ◌∙◌}
use mathlib.Core.List.{List, ◌++◌}
use native.Mathlib.Omega.{arith}
use mir.Syntax.{w64}
use mir.Val.{Fits}
use borrow.Rule.Slice.PartMut.{put_mid}
use lib.ListN.{length, take, drop}
use Rattle.wire.proofs.Cond.{yes_le, no_le}
use Rattle.message.specs.Refusal.{platforms, no_room}
use Rattle.services.specs.Block.{services, note_refusal, status_noted, marked}
use Rattle.partners.specs.Threes.{threes_before, block_start}
use Rattle.partners.proofs.Counting.{at_most}
use Rattle.mixed.specs.declared.reactions.Deed.{Deed}
use Rattle.mixed.specs.declared.reactions.Deed.TheVariants.{Nothing, One, StartUp, TellAll, TellOne, Note, MarkAll}
use Rattle.mixed.specs.Keeping.{block_of, with_block, note_number, with_noted, mark_number, with_marked, kept_number, kept_words}

module _ (i : List ℕ) (k start : ℕ) (e : start ≡ block_start i k) where
  pub end_fits : Fits w64 (start + services)
  end_fits = let h : threes_before i k ≤ platforms = at_most i k in record { fits = omega arith }

  module _ (ws : List ℕ) where
    -- the part that is lent
    lent : take (start + services - start) (drop start ws) ≡ block_of i k ws
    lent = let z : start + services - start ≡ services = omega arith in ap₂ (λ (n m : ℕ). take n (drop m ws)) z e

    module _ (h : start + services ≤ length ws) where
      there : block_start i k + services ≤ length ws
      there = omega arith

      back : (last b : List ℕ) → last ≡ b → put_mid start (start + services - start) ws last ≡ with_block i k ws b
      back last b q =
          let z : start + services - start ≡ services = omega arith in
          ap₂ (λ (n m : ℕ). take m ws ++ (last ++ drop n (drop m ws))) z e ∙ ap (with_block i k ws) q

      module _ (payload : List ℕ) where
        pub noted-number : {r : ℕ} → r ≡ note_refusal (take (start + services - start) (drop start ws)) payload → r ≡ note_number i k payload ws
        unfolding note_number
        noted-number q =
            q ∙ ap (λ (b : List ℕ). note_refusal b payload) lent
            ∙ sym (yes_le (note_refusal (block_of i k ws) payload) no_room (block_start i k + services) (length ws) there)

        pub noted-words : {last : List ℕ} → last ≡ status_noted (take (start + services - start) (drop start ws)) payload
            → put_mid start (start + services - start) ws last ≡ with_noted i k payload ws
        unfolding with_noted
        noted-words {last} q =
            let B : List ℕ = status_noted (block_of i k ws) payload in
            back last B (q ∙ ap (λ (b : List ℕ). status_noted b payload) lent)
            ∙ sym (yes_le (with_block i k ws B) ws (block_start i k + services) (length ws) there)

      pub marked-number : 0 ≡ mark_number i k ws
      unfolding mark_number
      marked-number = sym (yes_le 0 no_room (block_start i k + services) (length ws) there)

      pub marked-words : {last : List ℕ} → last ≡ marked (take (start + services - start) (drop start ws))
          → put_mid start (start + services - start) ws last ≡ with_marked i k ws
      unfolding with_marked
      marked-words {last} q =
          let B : List ℕ = marked (block_of i k ws) in
          back last B (q ∙ ap marked lent) ∙ sym (yes_le (with_block i k ws B) ws (block_start i k + services) (length ws) there)

    -- no block
    module _ (h : length ws < start + services) where
      not_there : length ws < block_start i k + services
      not_there = omega arith

      module _ (payload : List ℕ) where
        pub no-note-number : 10 ≡ note_number i k payload ws
        unfolding note_number
        no-note-number = sym (no_le (note_refusal (block_of i k ws) payload) no_room (block_start i k + services) (length ws) not_there)

        pub no-note-words : ws ≡ with_noted i k payload ws
        unfolding with_noted
        no-note-words = sym (no_le (with_block i k ws (status_noted (block_of i k ws) payload)) ws (block_start i k + services) (length ws) not_there)

      pub no-mark-number : 10 ≡ mark_number i k ws
      unfolding mark_number
      no-mark-number = sym (no_le 0 no_room (block_start i k + services) (length ws) not_there)

      pub no-mark-words : ws ≡ with_marked i k ws
      unfolding with_marked
      no-mark-words = sym (no_le (with_block i k ws (marked (block_of i k ws))) ws (block_start i k + services) (length ws) not_there)

-- a deed
module _ (i : List ℕ) (k : ℕ) (payload ws : List ℕ) where
  module _ (d : Deed) where
    pub note-number : {r : ℕ} → d ≡ Note → r ≡ note_number i k payload ws → r ≡ kept_number i k d payload ws
    unfolding kept_number
    note-number e q = rw e q

    pub note-words : {a : List ℕ} → d ≡ Note → a ≡ with_noted i k payload ws → a ≡ kept_words i k d payload ws
    unfolding kept_words
    note-words e q = rw e q

    pub mark-number : {r : ℕ} → d ≡ MarkAll → r ≡ mark_number i k ws → r ≡ kept_number i k d payload ws
    unfolding kept_number
    mark-number e q = rw e q

    pub mark-words : {a : List ℕ} → d ≡ MarkAll → a ≡ with_marked i k ws → a ≡ kept_words i k d payload ws
    unfolding kept_words
    mark-words e q = rw e q

  pub no_number : (d : Deed) → (d ≡ Note → ⊥) → (d ≡ MarkAll → ⊥) → 0 ≡ kept_number i k d payload ws
  unfolding kept_number
  no_number Nothing h m = refl
  no_number (One r) h m = refl
  no_number (StartUp n) h m = refl
  no_number (TellAll n) h m = refl
  no_number (TellOne n id b) h m = refl
  no_number Note h m = absurd (h refl)
  no_number MarkAll h m = absurd (m refl)

  pub same_words : (d : Deed) → (d ≡ Note → ⊥) → (d ≡ MarkAll → ⊥) → ws ≡ kept_words i k d payload ws
  unfolding kept_words
  same_words Nothing h m = refl
  same_words (One r) h m = refl
  same_words (StartUp n) h m = refl
  same_words (TellAll n) h m = refl
  same_words (TellOne n id b) h m = refl
  same_words Note h m = absurd (h refl)
  same_words MarkAll h m = absurd (m refl)
