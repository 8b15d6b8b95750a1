-- "With each true boolean as 1" says one thing: a payload of a type has one such form, which is what a walk gives that reads
-- each leaf and writes its word again.
-- Assumes nothing.
use Prim.Native.Nat.{ℕ, ◌+◌, ◌≤◌}
use mathlib.Core.Path.{◌≡◌, refl, sym, ap, ◌∙◌}
use mathlib.Core.Bool.{true}
use mathlib.Core.List.{List, [], ◌∷◌, ◌++◌, append-nil}
use native.Mathlib.Omega.{arith}
use lib.Dec.{leb}
use lib.ListN.{length, get_or, take, drop, length-append}
use Rattle.wire.specs.Bytes.{over, Octets}
use Rattle.table.specs.declared.Sections.{Sections}
use Rattle.table.specs.Leaf.{Leaf, boolean, signed, unsigned, float, none, base, bytes_of, width, allowed}
use Rattle.leaf.specs.Forms.{truth, form, word_at, form_of}
use Rattle.leaf.proofs.Leaves.{length_form, length_said}
use Rattle.walk.specs.declared.Place.{Place}
use Rattle.walk.specs.Tree.{Tree, tree}
use Rattle.walk.specs.Walk.{on, start, Codec, walk}
use Rattle.unpack.specs.Reading.{reader}
use Rattle.payload.specs.declared.Answer.TheVariants.{Gave}
use Rattle.payload.specs.Calls.{unpacked_in, words_in, bytes_in}
use Rattle.values.specs.Values.{Over, settled, Settled, BooleansAsOne}
use Rattle.values.proofs.Belonging.{Goes, behind, Complete, walk-complete}
use Rattle.values.proofs.Codecs.{read-complete, the_place}
use Rattle.values.proofs.RoundTrip.{take_front, settles, PacksAgain, unpack_then_pack}

-- at a leaf
settled_one : (l : Leaf) (bs cs ds : List ℕ) → Settled l bs cs → Settled l bs ds → cs ≡ ds
unfolding Settled
settled_one boolean bs cs ds a b = a.is ∙ ap (λ (u : List ℕ). truth (get_or u 0 0) ∷ []) (sym a.was ∙ b.was) ∙ sym b.is
settled_one (signed k) bs cs ds a b = a ∙ sym b
settled_one (unsigned k n) bs cs ds a b = a ∙ sym b
settled_one (float k e f) bs cs ds a b = a ∙ sym b
settled_one none bs cs ds a b = a ∙ sym b

-- the walk that settles a payload; of its leaves nobody asks
abbrev settler : List ℕ → Codec
settler b =
    record {
      word = λ code p. word_at code b p.from;
      there = λ code p. leb (p.from + width code) (length b);
      after = λ code p. record { from = p.from + width code; to = p.to + width code };
      gives = λ code w. form_of code w;
      leaves = λ p. 0;
    }

settle_complete : (b : List ℕ) (code w : ℕ) (p : Place) (xs ys rest : List ℕ) → settled code w xs ys → allowed code w ≡ true
    → drop p.from b ≡ xs ++ rest → Complete (settler b) code w p xs ys
unfolding reader form_of width
settle_complete b code w p xs ys rest o a h =
    let k : Complete (reader b) code w p xs (w ∷ []) = read-complete b code w p xs (w ∷ []) rest (refl, o.0) a h in
    let is : ys ≡ form (base code) w = settled_one (base code) xs ys (form (base code) w) o.1 (settles (base code) w xs o.0) in
    let n : length xs ≡ bytes_of (base code) = length_said (base code) w xs o.0 in
    let m : length ys ≡ bytes_of (base code) = ap length is ∙ length_form (base code) w in
    record {
      there = k.there;
      word = k.word;
      gives = sym is;
      after = the_place (p.from + bytes_of (base code)) (p.from + length xs) (p.to + bytes_of (base code)) (p.to + length ys) (omega arith) (omega arith);
    }

same_step : (o q : Place) (z u : List ℕ) → on o z ≡ on q u → (o ≡ q) × (z ≡ u)
same_step o q z u e = (cc, cc)

-- over a type
module _ (tr : Tree) (bs cs ds : List ℕ) (a : Over settled tr bs cs) (b : Over settled tr bs ds) where
  one_over : cs ≡ ds
  one_over =
      let x : List ℕ = cs ++ ds in
      let l : length x ≡ length cs + length ds = length-append cs ds in
      let g : Goes (walk (settler bs) tr start x) start x bs cs = walk-complete (settler bs) bs settled (settle_complete bs) tr start x bs
      cs [] a (sym (append-nil bs)) in
      let k : Goes (walk (settler bs) tr start x) start x bs ds = walk-complete (settler bs) bs settled (settle_complete bs) tr start x bs
      ds [] b (sym (append-nil bs)) in
      let same = same_step (behind start bs cs) (behind start bs ds) g.y k.y (sym g.goes ∙ k.goes) in
      let to : 0 + length cs ≡ 0 + length ds = ap (λ (q : Place). q.to) same.0 in
      sym (take_front x cs (length cs) refl)
      ∙ ap (take (length cs)) (sym (g.given (omega arith)) ∙ same.1 ∙ k.given (omega arith))
      ∙ take_front x ds (length cs) (omega arith)

pub booleans_one : (t : List ℕ) (s : Sections) (i : ℕ) (bs cs ds : List ℕ) → BooleansAsOne t s i bs cs → BooleansAsOne t s i bs ds → cs ≡ ds
unfolding BooleansAsOne
booleans_one t s i bs cs ds a b = one_over (tree t s i) bs cs ds a b

-- so unpacking and packing again gives that form and no other
pub packs_settled : (t : List ℕ) (s : Sections) (i : ℕ) (b words out cs : List ℕ) (k : ℕ) → Octets b → unpacked_in t s i b (length words)
    ≡ Gave k → length b ≤ length out → BooleansAsOne t s i b cs → bytes_in t s i (take k (words_in t s i b words)) out ≡ over out 0 cs
packs_settled t s i b words out cs k o h l d =
    let m : PacksAgain t s i b (take k (words_in t s i b words)) out = unpack_then_pack t s i b words out k o h l in
    m.given ∙ ap (over out 0) (booleans_one t s i b m.cs cs m.settled_is d)
