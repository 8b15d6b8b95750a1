-- Places: reading bytes, and writing words.
-- Assumes nothing.
use Prim.Native.Nat.{ℕ, ◌+◌, ◌/◌, ◌≤◌}
use mathlib.Core.Path.{◌≡◌, refl, sym, ap, ◌∙◌}
use mathlib.Core.List.{List, []}
use native.Mathlib.Numerals.{add-one}
use native.Mathlib.Omega.{arith}
use borrow.Author.Tests.{ltb-true, leb-true, lt-ltb, le-leb}
use lib.Dec.{leb}
use lib.ListN.{length, get_or, take, length-take}
use lib.Seq.{get_or-take}
use Rattle.wire.specs.Bytes.{span}
use Rattle.wire.proofs.Numbers.{number_take}
use Rattle.table.specs.Leaf.{Leaf, boolean, signed, unsigned, float, none, base, bytes_of, width}
use Rattle.leaf.specs.Forms.{truth, extended, word_of, word_at}
use Rattle.walk.specs.Tree.{Tree}
use Rattle.walk.specs.Walk.{start, walk}
use Rattle.walk.proofs.Walks.{walk-holds, some_bytes, few_bytes}
use Rattle.unpack.specs.Reading.{reader}
use Rattle.pack.specs.Writing.{writer}
use Rattle.promises.specs.Places.{widest, InBytes, ByteLies, WordsGiven, WordLies, BytesGiven, Places}
use Rattle.promises.proofs.CutShort.{Along}
use Rattle.promises.proofs.StoppedAt.{Lying, laws}

-- what as much of two lists says that is the same
same_held : (xs ys : List ℕ) (m n : ℕ) → take m ys ≡ take m xs → n ≤ length xs → n ≤ m → n ≤ length ys
same_held xs ys m n h l k = omega (arith, length-take m xs, length-take m ys, ap length h)

-- a leaf is read from its bytes alone
word_take : (l : Leaf) (b : List ℕ) (m p : ℕ) → p + bytes_of l ≤ m → word_of l (take m b) p ≡ word_of l b p
unfolding word_of bytes_of
word_take boolean b m p h = ap truth (number_take 0 m b p h)
word_take (signed k) b m p h = ap (extended (span k / 2)) (number_take k m b p h)
word_take (unsigned k n) b m p h = number_take k m b p h
word_take (float k e f) b m p h = number_take k m b p h
word_take none b m p h = refl

reading : Along reader width widest
unfolding reader width word_at
reading =
    record {
      ends = λ b code p. refl;
      held = λ b code p. refl;
      some = λ code h. h;
      few = λ code. few_bytes code;
      same = λ b d m h. record {
        there_too = λ code p e l. le-leb (p.from + width code) (length d)
            (same_held b d m (p.from + width code) h (leb-true (p.from + width code) (length b) e) l);
        same_word = λ code p e l. sym (word_take (base code) d m p.from l) ∙ ap (λ (u : List ℕ). word_of (base code) u p.from) h
            ∙ word_take (base code) b m p.from l;
        same_after = λ code p. refl;
        same_given = λ code w. refl;
      };
      same_leaves = λ b d p. refl;
      one_leaf = λ b code p. refl;
    }

writing : Along writer (λ code. 1) 1
unfolding writer
writing =
    record {
      ends = λ ws code p. refl;
      held = λ ws code p. ap (λ (n : ℕ). leb n (length ws)) (sym (add-one p.from));
      some = λ code h. omega arith;
      few = λ code. omega arith;
      same = λ ws vs m h. record {
        there_too = λ code p e l. lt-ltb p.from (length vs)
            (omega (arith, same_held ws vs m (p.from + 1) h (omega (arith, ltb-true p.from (length ws) e)) l));
        same_word = λ code p e l. sym (get_or-take m vs p.from 0 (omega arith)) ∙ ap (λ (u : List ℕ). get_or u p.from 0) h
            ∙ get_or-take m ws p.from 0 (omega arith);
        same_after = λ code p. refl;
        same_given = λ code w. refl;
      };
      same_leaves = λ ws vs p. refl;
      one_leaf = λ ws code p. refl;
    }

-- each leaf that was walked over is a word, of 1 to 8 bytes
read_lies : (tr : Tree) (b : List ℕ) → Lying ByteLies WordsGiven (reader b).leaves (walk (reader b) tr start [])
unfolding reader
read_lies tr b =
    walk-holds (λ q y. InBytes q.to q.from × (q.to ≡ q.to)) (reader b)
    (λ code p x e a h. (omega (arith, h.0, some_bytes code (word_at code b p.from) a, few_bytes code), refl))
    tr start [] (omega arith, refl)

written_lies : (tr : Tree) (ws : List ℕ) → Lying WordLies BytesGiven (writer ws).leaves (walk (writer ws) tr start [])
unfolding writer
written_lies tr ws =
    walk-holds (λ q y. (q.from ≡ q.from) × InBytes q.from q.to) (writer ws)
    (λ code p x e a h. (refl, omega (arith, h.1, some_bytes code (get_or ws p.from 0) a, few_bytes code)))
    tr start [] (refl, omega arith)

pub places : Places
places =
    record {
      unpacking = laws reader width widest reading ByteLies WordsGiven read_lies;
      packing = laws writer (λ code. 1) 1 writing WordLies BytesGiven written_lies;
    }
