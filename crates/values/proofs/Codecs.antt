-- What an item of writing and of reading is: the word and its bytes, or a byte form, that belong together.
-- Assumes nothing.
use Prim.Native.Nat.{ℕ, ◌+◌, ◌-◌, ◌≤◌, ◌<◌}
use mathlib.Core.Path.{◌≡◌, refl, sym, ap, ◌∙◌}
use mathlib.Core.Bool.{true}
use mathlib.Core.List.{List, [], ◌∷◌, ◌++◌}
use native.Mathlib.Nat.{add-zero}
use native.Mathlib.Numerals.{add-one}
use native.Mathlib.Omega.{arith}
use borrow.Author.Tests.{ltb-true, leb-true, lt-ltb, le-leb}
use lib.ListN.{length, get_or, take, drop, length-append, length-drop, take-append-drop}
use lib.Seq.{drop-cons, drop-drop, length-take-le, get_or-drop}
use Rattle.wire.specs.Bytes.{Octets}
use Rattle.table.specs.Leaf.{Leaf, base, bytes_of, width, allowed}
use Rattle.leaf.specs.Forms.{word_of, word_at, form_of, Says}
use Rattle.leaf.proofs.Leaves.{real, length_form, length_said, word_said, word_append, said_there}
use Rattle.walk.specs.declared.Place.{Place}
use Rattle.unpack.specs.Reading.{reader}
use Rattle.pack.specs.Writing.{writer}
use Rattle.values.specs.Values.{exact, loose}
use Rattle.walk.proofs.Walks.{value_bytes}
use Rattle.values.proofs.Belonging.{Sound, Complete}

-- what is left of a list behind its first part
split : (input : List ℕ) (p n : ℕ) → drop p input ≡ take n (drop p input) ++ drop (p + n) input
split input p n = sym (take-append-drop n (drop p input)) ∙ ap (λ (u : List ℕ). take n (drop p input) ++ u) (drop-drop n p input)

-- where a list continues with xs, it has at least as many elements left, and they are xs
fits_there : (input : List ℕ) (p : ℕ) (xs rest : List ℕ) → drop p input ≡ xs ++ rest → 0 < length xs → p + length xs ≤ length input
fits_there input p xs rest h l =
    let a : length (drop p input) ≡ length xs + length rest = ap length h ∙ length-append xs rest in
    let b : length (drop p input) ≡ length input - p = length-drop p input in
    omega arith

pub the_place : (a b m n : ℕ) → a ≡ b → m ≡ n → ◌≡◌ {A = Place} (record { from = a; to = m }) (record { from = b; to = n })
the_place a b m n e h = cc

-- writing: an item's word and its bytes
module _ (ws : List ℕ) where
  pub write-sound : (code : ℕ) (p : Place) → (writer ws).there code p ≡ true → allowed code ((writer ws).word code p) ≡ true
      → Sound (writer ws) ws exact code ((writer ws).word code p) p
  unfolding writer form_of width
  write-sound code p e a =
      let w : ℕ = get_or ws p.from 0 in
      record {
        xs = w ∷ [];
        belong = (refl, refl);
        taken = drop-cons ws p.from 0 (ltb-true p.from (length ws) e) ∙ ap (λ (n : ℕ). w ∷ drop n ws) (sym (add-one p.from));
        from_there = refl;
        to_there = ap (λ (n : ℕ). p.to + n) (sym (length_form (base code) w));
      }

  pub write-complete : (code w : ℕ) (p : Place) (xs ys rest : List ℕ) → exact code w xs ys → allowed code w ≡ true → drop p.from ws ≡ xs
      ++ rest → Complete (writer ws) code w p xs ys
  unfolding writer form_of width
  write-complete code w p xs ys rest o a h =
      let one : length xs ≡ 1 = ap length o.0 in
      let l : p.from + length xs ≤ length ws = fits_there ws p.from xs rest h (omega arith) in
      let is : drop p.from ws ≡ w ∷ rest = h ∙ ap (λ (u : List ℕ). u ++ rest) o.0 in
      let n : length ys ≡ bytes_of (base code) = ap length o.1 ∙ length_form (base code) w in
      record {
        there = lt-ltb p.from (length ws) (omega arith);
        word = sym (ap (λ (k : ℕ). get_or ws k 0) (add-zero p.from)) ∙ sym (get_or-drop p.from ws 0 0) ∙ ap (λ (u : List ℕ). get_or u 0 0) is;
        gives = sym o.1;
        after = the_place (p.from + 1) (p.from + length xs) (p.to + bytes_of (base code)) (p.to + length ys) (omega arith) (omega arith);
      }

-- a leaf reads the same in what is left of a list
word_dropped : (l : Leaf) (b : List ℕ) (p : ℕ) → p ≤ length b → word_of l b p ≡ word_of l (drop p b) 0
word_dropped l b p h =
    ap (λ (u : List ℕ). word_of l u p) (sym (take-append-drop p b)) ∙ ap (word_of l (take p b ++ drop p b)) (sym (length-take-le p b h))
    ∙ word_append l (take p b) (drop p b)

-- reading: an item's byte form and its word
abbrev pub heard : ℕ → ℕ → List ℕ → List ℕ → Type 0
heard code w bs ws = loose code w ws bs

module _ (b : List ℕ) where
  pub read-sound : Octets b → (code : ℕ) (p : Place) → (reader b).there code p ≡ true → allowed code ((reader b).word code p) ≡ true
      → Sound (reader b) b heard code ((reader b).word code p) p
  unfolding reader word_at width
  read-sound o code p e a =
      let n : ℕ = bytes_of (base code) in
      let l : p.from + n ≤ length b = leb-true (p.from + n) (length b) e in
      let s : Says (base code) (word_of (base code) b p.from) (take n (drop p.from b)) = said_there (base code) b p.from (real code) o l in
      record {
        xs = take n (drop p.from b);
        belong = (refl, s);
        taken = split b p.from n;
        from_there = ap (λ (k : ℕ). p.from + k) (sym (length_said (base code) (word_of (base code) b p.from) (take n (drop p.from b)) s));
        to_there = refl;
      }

  pub read-complete : (code w : ℕ) (p : Place) (xs ys rest : List ℕ) → heard code w xs ys → allowed code w ≡ true → drop p.from b ≡ xs
      ++ rest → Complete (reader b) code w p xs ys
  unfolding reader word_at width allowed
  read-complete code w p xs ys rest o a h =
      let n : length xs ≡ bytes_of (base code) = length_said (base code) w xs o.1 in
      let one : length ys ≡ 1 = ap length o.0 in
      let l : p.from + length xs ≤ length b = fits_there b p.from xs rest h (omega (arith, value_bytes (base code) w a)) in
      let is : word_of (base code) b p.from ≡ w =
      word_dropped (base code) b p.from (omega arith) ∙ ap (λ (u : List ℕ). word_of (base code) u 0) h
      ∙ word_said (base code) w xs rest (real code) a o.1 in
      record {
        there = le-leb (p.from + bytes_of (base code)) (length b) (omega arith);
        word = is;
        gives = sym o.0;
        after = the_place (p.from + bytes_of (base code)) (p.from + length xs) (p.to + 1) (p.to + length ys) (omega arith) (omega arith);
      }
