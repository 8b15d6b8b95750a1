-- What the returns of the writers come to, return by return.
-- Assumes nothing.
use Prim.Native.Nat.{ℕ, ◌+◌, ◌*◌, ◌^◌, ◌≤◌, ◌<◌}
use mathlib.Core.Path.{◌≡◌, refl, sym, ◌∙◌}
use mathlib.Core.Bool.{Bool, true, false, ◌&&◌}
use mathlib.Core.List.{List}
use native.Mathlib.Omega.{arith}
use borrow.Author.Tests.{le-leb, lt-leb, lt-ltb, le-ltb, ltb-true}
use mir.Syntax.{w32, w64}
use mir.Val.{Fits}
use lib.Dec.{leb}
use lib.ListN.{length, get_or, get_or-eq_default}
use Rattle.wire.specs.Bytes.{written}
use Rattle.wire.proofs.Cond.{no_eq}
use Rattle.table.specs.declared.Sections.{Sections}
use Rattle.table.specs.declared.Entry.{Entry}
use Rattle.table.specs.Leaf.{base, bytes_of, is_value, width, allowed}
use Rattle.leaf.specs.Forms.{form_of}
use Rattle.leaf.specs.Choice.{choice, takes}
use Rattle.walk.specs.declared.Place.{Place}
use Rattle.walk.specs.declared.Walked.TheVariants.{Went, Stopped}
use Rattle.walk.specs.Walk.{counted, begun, times, leaf_walk}
use Rattle.pack.specs.Writing.{writer, Writing}
use Rattle.walk.proofs.Walks.{few_bytes}
use Rattle.walk.proofs.Returns.{Did, did_on, did_stop, item-short, item-bad, item_on, counts}
use Rattle.walk.proofs.Turns.{Keeps, keeps}

-- further bytes fit: there are at most 8 of them to a word
pub next_from : (n p : ℕ) → p < n → n * 8 < 2 ^ 63 → Fits w64 (p + 1)
next_from n p h l = record { fits = omega arith }

pub next_to : (n : ℕ) (p : Place) (k : ℕ) → (p.to ≤ 8 * p.from) × (p.from ≤ n) → k ≤ 8 → p.from < n → n * 8 < 2 ^ 63 → Fits w64 (p.to + k)
next_to n p k r b h l = record { fits = omega (arith, r.0) }

pub no_word : (ws : List ℕ) (p : ℕ) → length ws ≤ p → 0 ≡ get_or ws p 0
no_word ws p h = sym (get_or-eq_default ws 0 h)

-- writing a leaf
module _ (t : List ℕ) (s : Sections) (e : Entry) (ws : List ℕ) (p : Place) (x : List ℕ) where
  pub leaf-short : length ws ≤ p.from → Did (leaf_walk (writer ws) t s e p x) (Stopped 40 p) x
  unfolding leaf_walk writer
  leaf-short f = did_stop (leaf_walk (writer ws) t s e p x) 40 p x (item-short (writer ws) 42 e.of (choice t s e) p x (le-ltb p.from (length ws) f))

  module _ (f : p.from < length ws) (w : ℕ) (word : w ≡ get_or ws p.from 0) (k : Bool) (taken : k ≡ takes t s e w) where
    pub leaf-bad : k ≡ false → Did (leaf_walk (writer ws) t s e p x) (Stopped 42 p) x
    unfolding leaf_walk writer takes
    leaf-bad g =
        did_stop (leaf_walk (writer ws) t s e p x) 42 p x
        (item-bad (writer ws) 42 e.of (choice t s e) p x (lt-ltb p.from (length ws) f) (rw (← word) (sym taken ∙ g)))

    pub leaf-went : (n : ℕ) (y : List ℕ) → k ≡ true → n ≡ width e.of → y ≡ written x p.to (form_of e.of w)
        → Did (leaf_walk (writer ws) t s e p x) (Went (record { from = p.from + 1; to = p.to + n })) y
    unfolding leaf_walk writer takes
    leaf-went n y g is q =
        did_on (leaf_walk (writer ws) t s e p x) (record { from = p.from + 1; to = p.to + n }) y (written x p.to (form_of e.of (get_or ws p.from 0)))
        (item_on (writer ws) 42 e.of (choice t s e) p x (lt-ltb p.from (length ws) f) (rw (← word) (sym taken ∙ g)) ∙ rw (← is) refl)
        (q ∙ rw (← word) refl)

-- before the elements
module _ (e : Entry) (ws : List ℕ) (p : Place) where
  pub counted-times : (r : ℕ) → (e.kind ≡ 3 → ⊥) → r ≡ get_or ws p.from 0 → r ≡ times (writer ws) e p
  unfolding times writer
  counted-times r k h = h ∙ sym (no_eq e.count (get_or ws p.from 0) e.kind 3 k)

  pub counted-fits : (r : ℕ) → (e.kind ≡ 3 → ⊥) → r ≡ get_or ws p.from 0 → times (writer ws) e p ≤ e.count → e.count < 2 ^ 16 → Fits w32 r
  counted-fits r k h few l = record { fits = omega (arith, counted-times r k h) }

  module _ (x : List ℕ) (k : e.kind ≡ 3 → ⊥) where
    pub count-short : length ws ≤ p.from → Did (begun (writer ws) e p x) (Stopped 40 p) x
    unfolding counted writer
    count-short f =
        did_stop (begun (writer ws) e p x) 40 p x
        (counts (writer ws) e p x k ∙ item-short (writer ws) 43 9 (λ n. leb n e.count) p x (le-ltb p.from (length ws) f))

    module _ (f : p.from < length ws) (n : ℕ) (is : n ≡ get_or ws p.from 0) where
      no-and : (u v : Bool) → v ≡ false → (u && v) ≡ false
      no-and true v q = q
      no-and false v q = refl

      pub count-over : e.count < n → Did (begun (writer ws) e p x) (Stopped 43 p) x
      unfolding counted writer
      count-over g =
          did_stop (begun (writer ws) e p x) 43 p x
          (counts (writer ws) e p x k
          ∙ item-bad (writer ws) 43 9 (λ n. leb n e.count) p x (lt-ltb p.from (length ws) f)
          (rw (← is) (no-and (allowed 9 n) (leb n e.count) (lt-leb n e.count g))))

      pub count-went : (y : List ℕ) → n ≤ e.count → e.count < 2 ^ 16 → y ≡ written x p.to (form_of 9 n)
          → Did (begun (writer ws) e p x) (Went (record { from = p.from + 1; to = p.to + 4 })) y
      unfolding counted writer allowed is_value base width bytes_of
      count-went y g l q =
          did_on (begun (writer ws) e p x) (record { from = p.from + 1; to = p.to + 4 }) y (written x p.to (form_of 9 (get_or ws p.from 0)))
          (counts (writer ws) e p x k
          ∙ item_on (writer ws) 43 9 (λ n. leb n e.count) p x (lt-ltb p.from (length ws) f)
          (rw (← is) (rw (lt-ltb n 4294967296 (omega arith), le-leb n e.count g) refl)))
          (q ∙ rw (← is) refl)

-- writing never gives more than 8 bytes for each word read, nor reads past the end
pub writer_keeps : (ws : List ℕ) → Keeps (writer ws) (Writing ws)
unfolding writer
writer_keeps ws =
    keeps (writer ws) (Writing ws) (λ code p e a h. (omega (arith, few_bytes code, h.0), omega (arith, ltb-true p.from (length ws) e)))
