-- A block noted whole or not at all, by way of a trial.
-- Assumes nothing.
use Prim.Native.Nat.{ℕ}
use mathlib.Core.Path.{◌≡◌, refl, sym, ap, ◌∙◌}
use mathlib.Core.Bool.{Bool, true, false}
use mathlib.Core.List.{List}
use borrow.Author.Tests.{eq-eqb, ne_eqb}
use lib.ListN.{length}
use Rattle.services.specs.Block.{services, services_full, pairs_in, pairs_told, all_have_places, status_fits, note_refusal, status_noted}

-- `note`
module _ (b s : List ℕ) where
  module _ (f : status_fits b s ≡ false) where
    full : services_full ≡ note_refusal b s
    unfolding note_refusal
    full = rw f

    pub kept : b ≡ status_noted b s
    unfolding status_noted
    kept = rw f

  module _ (h : length b ≡ services → ⊥) where
    no_block : status_fits b s ≡ false
    unfolding status_fits
    no_block = rw (ne_eqb (length b) services h)

    pub other-refused : services_full ≡ note_refusal b s
    other-refused = full no_block

    pub other-kept : b ≡ status_noted b s
    other-kept = kept no_block

  module _ {trial : List ℕ} {r : Bool} (h : length b ≡ services) (t : trial ≡ b) (q : r ≡ all_have_places trial s) where
    it-fits : status_fits b s ≡ r
    unfolding status_fits
    it-fits = rw (eq-eqb (length b) services h) (ap (λ (x : List ℕ). all_have_places x s) (sym t) ∙ sym q)

    pub is-refused : r ≡ false → services_full ≡ note_refusal b s
    is-refused f = full (it-fits ∙ f)

    pub not-fitting : r ≡ false → status_fits b s ≡ false
    not-fitting f = it-fits ∙ f

    pub no-refusal : r ≡ true → 0 ≡ note_refusal b s
    unfolding note_refusal
    no-refusal f = rw (it-fits ∙ f)

    pub is-noted : {after left : List ℕ} → r ≡ true → (r ≡ true → after ≡ pairs_told trial s (pairs_in s)) → left ≡ after → left ≡ status_noted b s
    unfolding status_noted
    is-noted f g w = w ∙ g f ∙ ap (λ (x : List ℕ). pairs_told x s (pairs_in s)) t ∙ rw (it-fits ∙ f) refl
