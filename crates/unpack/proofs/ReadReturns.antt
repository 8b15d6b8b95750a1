-- What the returns of the readers come to, return by return.
-- Assumes nothing.
use Prim.Native.Nat.{ℕ, ◌+◌, ◌^◌, ◌≤◌, ◌<◌}
use mathlib.Core.Path.{◌≡◌, refl, sym, ◌∙◌}
use mathlib.Core.Bool.{Bool, true, false, ◌&&◌}
use mathlib.Core.List.{List, [], ◌∷◌}
use native.Mathlib.Omega.{arith}
use borrow.Author.Tests.{le-leb, lt-leb, lt-ltb, leb-true}
use lib.Dec.{leb}
use lib.ListN.{length}
use Rattle.wire.specs.Bytes.{number, written}
use Rattle.wire.proofs.Cond.{no_eq}
use Rattle.table.specs.declared.Sections.{Sections}
use Rattle.table.specs.declared.Entry.{Entry}
use Rattle.table.specs.Leaf.{base, bytes_of, is_value, width, allowed}
use Rattle.leaf.specs.Forms.{word_of, word_at}
use Rattle.leaf.specs.Choice.{choice, takes}
use Rattle.walk.specs.declared.Place.{Place}
use Rattle.walk.specs.declared.Walked.TheVariants.{Went, Stopped}
use Rattle.walk.specs.Walk.{counted, begun, times, leaf_walk}
use Rattle.unpack_leaves.specs.Leaves.{whole_word}
use Rattle.unpack.specs.Reading.{reader, Reading}
use Rattle.unpack_leaves.proofs.OneLeaf.{word_there}
use Rattle.walk.proofs.Walks.{some_bytes}
use Rattle.walk.proofs.Returns.{Did, did_on, did_stop, item-short, item-bad, item_on, counts}
use Rattle.walk.proofs.Turns.{Keeps, keeps}

-- reading a leaf
module _ (t : List ℕ) (s : Sections) (e : Entry) (b : List ℕ) (p : Place) (x : List ℕ) (n : ℕ) (h : Bool) (is : n ≡ width e.of)
    (room : h ≡ leb (p.from + n) (length b)) where
  pub leaf-short : h ≡ false → Did (leaf_walk (reader b) t s e p x) (Stopped 40 p) x
  unfolding leaf_walk reader
  leaf-short f = did_stop (leaf_walk (reader b) t s e p x) 40 p x (item-short (reader b) 42 e.of (choice t s e) p x (rw (← is) (sym room ∙ f)))

  module _ (f : h ≡ true) (w : ℕ) (read : w ≡ whole_word e.of b p.from) (k : Bool) (taken : k ≡ takes t s e w) where
    word : w ≡ word_at e.of b p.from
    word = word_there b p.from n e.of h is room w f read

    pub leaf-bad : k ≡ false → Did (leaf_walk (reader b) t s e p x) (Stopped 42 p) x
    unfolding leaf_walk reader takes
    leaf-bad g =
        did_stop (leaf_walk (reader b) t s e p x) 42 p x
        (item-bad (reader b) 42 e.of (choice t s e) p x (rw (← is) (sym room ∙ f)) (rw (← word) (sym taken ∙ g)))

    pub leaf-went : (y : List ℕ) → k ≡ true → y ≡ written x p.to (w ∷ [])
        → Did (leaf_walk (reader b) t s e p x) (Went (record { from = p.from + n; to = p.to + 1 })) y
    unfolding leaf_walk reader takes
    leaf-went y g q =
        did_on (leaf_walk (reader b) t s e p x) (record { from = p.from + n; to = p.to + 1 }) y (written x p.to (word_at e.of b p.from ∷ []))
        (item_on (reader b) 42 e.of (choice t s e) p x (rw (← is) (sym room ∙ f)) (rw (← word) (sym taken ∙ g)) ∙ rw (← is) refl)
        (q ∙ rw (← word) refl)

-- before the elements
module _ (e : Entry) (b : List ℕ) (p : Place) where
  pub counted-times : (r : ℕ) → (e.kind ≡ 3 → ⊥) → r ≡ number 2 b p.from → r ≡ times (reader b) e p
  unfolding times reader word_at base word_of
  counted-times r k h = h ∙ sym (no_eq e.count (number 2 b p.from) e.kind 3 k)

  module _ (x : List ℕ) (k : e.kind ≡ 3 → ⊥) (h : Bool) (room : h ≡ leb (p.from + 4) (length b)) where
    pub count-short : h ≡ false → Did (begun (reader b) e p x) (Stopped 40 p) x
    unfolding counted reader width base bytes_of
    count-short f =
        did_stop (begun (reader b) e p x) 40 p x (counts (reader b) e p x k ∙ item-short (reader b) 43 9 (λ n. leb n e.count) p x (sym room ∙ f))

    module _ (f : h ≡ true) (n : ℕ) (is : n ≡ number 2 b p.from) where
      pub count-over : e.count < n → Did (begun (reader b) e p x) (Stopped 43 p) x
      unfolding counted reader width base bytes_of word_at word_of
      count-over g =
          did_stop (begun (reader b) e p x) 43 p x
          (counts (reader b) e p x k
          ∙ item-bad (reader b) 43 9 (λ n. leb n e.count) p x (sym room ∙ f)
          (rw (← is) (no-and (allowed 9 n) (leb n e.count) (lt-leb n e.count g))))
        where
          no-and : (u v : Bool) → v ≡ false → (u && v) ≡ false
          no-and true v q = q
          no-and false v q = refl

      pub count-went : (y : List ℕ) → n ≤ e.count → n < 2 ^ 32 → y ≡ written x p.to (n ∷ [])
          → Did (begun (reader b) e p x) (Went (record { from = p.from + 4; to = p.to + 1 })) y
      unfolding counted reader width base bytes_of word_at word_of allowed is_value
      count-went y g l q =
          did_on (begun (reader b) e p x) (record { from = p.from + 4; to = p.to + 1 }) y (written x p.to (number 2 b p.from ∷ []))
          (counts (reader b) e p x k
          ∙ item_on (reader b) 43 9 (λ n. leb n e.count) p x (sym room ∙ f)
          (rw (← is) (rw (lt-ltb n 4294967296 (omega arith), le-leb n e.count g) refl)))
          (q ∙ rw (← is) refl)

-- so reading never gives more words than it has read bytes, nor reads past the end
pub reader_keeps : (b : List ℕ) → Keeps (reader b) (Reading b)
unfolding reader
reader_keeps b =
    keeps (reader b) (Reading b) (λ code p e a h. (
      omega (arith, some_bytes code (word_at code b p.from) a, h.0),
      leb-true (p.from + width code) (length b) e,
    ))
