-- Demand 2 for payloads, over all types at once: both round trips.
-- Assumes nothing.
use Prim.Native.Nat.{ℕ, zero, suc, ◌+◌, ◌≤◌}
use mathlib.Core.Path.{◌≡◌, refl, sym, ap, subst, ◌∙◌}
use mathlib.Core.Bool.{Bool, true}
use mathlib.Core.List.{List, [], ◌∷◌, ◌++◌}
use native.Mathlib.Nat.{mod-eq_of_lt}
use native.Mathlib.Omega.{arith}
use lib.Dec.{leb}
use lib.ListN.{length, take, drop, length-append}
use lib.Seq.{take_at}
use Rattle.wire.specs.Bytes.{over, Octets}
use Rattle.table.specs.declared.Sections.{Sections}
use Rattle.table.specs.Leaf.{Leaf, boolean, signed, unsigned, float, none, base, allowed}
use Rattle.leaf.specs.Forms.{form, form_of, Says}
use Rattle.leaf.proofs.Leaves.{length_form, length_said, form_says, truth_small}
use Rattle.payload.specs.declared.Answer.TheVariants.{Gave}
use Rattle.walk.specs.Tree.{Tree, leaf, row, array, broken, tree}
use Rattle.walk.specs.Walk.{count_code}
use Rattle.unpack.specs.Reading.{reader}
use Rattle.payload.specs.Calls.{unpacked_in, words_in, packed_in, bytes_in}
use Rattle.values.specs.Values.{Behind, Row, One, Some, Over, exact, loose, settled, Value, Spoken, Settled, BooleansAsOne}
use Rattle.values.proofs.Carried.{over-map}
use Rattle.values.proofs.Exactly.{Callable, callable, values_pack, Unpacks, unpacks_forms}

-- pack, then unpack: a value's bytes are a byte form of it
pub take_front : (x ys : List ℕ) (k : ℕ) → k ≡ length ys → take k (over x 0 ys) ≡ ys
take_front x ys k h = take_at ys (drop (0 + length ys) x) k (sym h)

pub value_spoken : (t : List ℕ) (s : Sections) (i : ℕ) (ws bs : List ℕ) → Value t s i ws bs → Spoken t s i ws bs
unfolding Value Spoken allowed form_of
value_spoken t s i ws bs v =
    over-map exact loose (λ code w xs ys a d. (d.0, subst (Says (base code) w) (sym d.1) (form_says (base code) w a))) (tree t s i) ws bs v

-- unpack, then pack: the same bytes, with each true boolean as 1
pub record Also (M N : List ℕ → List ℕ → Type 0) (xs ys : List ℕ) : Type 0 where
  pub zs : List ℕ
  pub one : M xs zs
  pub two : N ys zs
  pub as_long : length zs ≡ length ys

also_empty : (M N : List ℕ → List ℕ → Type 0) (xs ys : List ℕ) → xs ≡ [] → ys ≡ [] → M [] [] → N [] [] → Also M N xs ys
also_empty M N xs ys e h m n = record
    { zs = []; one = subst (λ (u : List ℕ). M u []) (sym e) m; two = subst (λ (u : List ℕ). N u []) (sym h) n; as_long = ap length (sym h) }

also_behind : (A B C D E F : List ℕ → List ℕ → Type 0) (xs ys : List ℕ) (r : Behind A B xs ys) → Also C D r.xs₁ r.ys₁
    → Also E F r.xs₂ r.ys₂ → Also (λ us vs. Behind C E us vs) (λ us vs. Behind D F us vs) xs ys
also_behind A B C D E F xs ys r a b =
    record {
      zs = a.zs ++ b.zs;
      one = record { xs₁ = r.xs₁; xs₂ = r.xs₂; ys₁ = a.zs; ys₂ = b.zs; is_xs = r.is_xs; is_ys = refl; first = a.one; second = b.one };
      two = record { xs₁ = r.ys₁; xs₂ = r.ys₂; ys₁ = a.zs; ys₂ = b.zs; is_xs = r.is_ys; is_ys = refl; first = a.two; second = b.two };
      as_long = length-append a.zs b.zs ∙ ap (λ (n : ℕ). n + length b.zs) a.as_long
          ∙ ap (λ (n : ℕ). length r.ys₁ + n) b.as_long ∙ sym (length-append r.ys₁ r.ys₂) ∙ ap length (sym r.is_ys);
    }

module _ (L M N : ℕ → ℕ → List ℕ → List ℕ → Type 0)
    (leaf-also : (code w : ℕ) (xs ys : List ℕ) → allowed code w ≡ true → L code w xs ys → Also (M code w) (N code w) xs ys) where
  one-also : (code : ℕ) (ok : ℕ → Bool) (w : ℕ) (xs ys : List ℕ) → One L code ok w xs ys
      → Also (λ us vs. One M code ok w us vs) (λ us vs. One N code ok w us vs) xs ys
  one-also code ok w xs ys o = go (leaf-also code w xs ys o.in_range o.says)
    where
      go : Also (M code w) (N code w) xs ys → Also (λ us vs. One M code ok w us vs) (λ us vs. One N code ok w us vs) xs ys
      go a =
          record {
            zs = a.zs;
            one = record { in_range = o.in_range; taken = o.taken; says = a.one };
            two = record { in_range = o.in_range; taken = o.taken; says = a.two };
            as_long = a.as_long;
          }

  row-also : (F G H : ℕ → List ℕ → List ℕ → Type 0) → ((k : ℕ) (xs ys : List ℕ) → F k xs ys → Also (G k) (H k) xs ys)
      → (n : ℕ) (xs ys : List ℕ) → Row F n xs ys → Also (λ us vs. Row G n us vs) (λ us vs. Row H n us vs) xs ys
  unfolding Row
  row-also F G H f zero xs ys r = also_empty (λ us vs. Row G 0 us vs) (λ us vs. Row H 0 us vs) xs ys r.0 r.1 (refl, refl) (refl, refl)
  row-also F G H f (suc n) xs ys r =
      also_behind (λ us vs. Row F n us vs) (F n) (λ us vs. Row G n us vs) (λ us vs. Row H n us vs) (G n) (H n) xs ys r
      (row-also F G H f n r.xs₁ r.ys₁ r.first) (f n r.xs₂ r.ys₂ r.second)

  some-also : (P Q R : ℕ → List ℕ → List ℕ → Type 0) (n : ℕ) (xs ys : List ℕ) → Also (Q n) (R n) xs ys
      → Also (λ us vs. Some Q us vs) (λ us vs. Some R us vs) xs ys
  some-also P Q R n xs ys a = record { zs = a.zs; one = record { it = n; is = a.one }; two = record { it = n; is = a.two }; as_long = a.as_long }

  over-also : (tr : Tree) (xs ys : List ℕ) → Over L tr xs ys → Also (λ us vs. Over M tr us vs) (λ us vs. Over N tr us vs) xs ys
  unfolding Over
  over-also (leaf code ok) xs ys o =
      some-also (λ w us vs. One L code ok w us vs) (λ w us vs. One M code ok w us vs) (λ w us vs. One N code ok w us vs) o.it xs ys
      (one-also code ok o.it xs ys o.is)
  over-also (row n g) xs ys o =
      row-also (λ k us vs. Over L (g k) us vs) (λ k us vs. Over M (g k) us vs) (λ k us vs. Over N (g k) us vs) (λ k us vs d. over-also (g k) us vs d) n xs ys o
  over-also (array most a) xs ys o =
      let n : ℕ = o.it in
      let r = o.is in
      some-also
      (λ m us vs. Behind (λ ms ns. One L count_code (λ w. leb w most) m ms ns) (λ ms ns. Row (λ k cs ds. Over L a cs ds) m ms ns) us vs)
      (λ m us vs. Behind (λ ms ns. One M count_code (λ w. leb w most) m ms ns) (λ ms ns. Row (λ k cs ds. Over M a cs ds) m ms ns) us vs)
      (λ m us vs. Behind (λ ms ns. One N count_code (λ w. leb w most) m ms ns) (λ ms ns. Row (λ k cs ds. Over N a cs ds) m ms ns) us vs)
      n xs ys
      (also_behind
      (λ ms ns. One L count_code (λ w. leb w most) n ms ns) (λ ms ns. Row (λ k cs ds. Over L a cs ds) n ms ns)
      (λ ms ns. One M count_code (λ w. leb w most) n ms ns) (λ ms ns. One N count_code (λ w. leb w most) n ms ns)
      (λ ms ns. Row (λ k cs ds. Over M a cs ds) n ms ns) (λ ms ns. Row (λ k cs ds. Over N a cs ds) n ms ns)
      xs ys r
      (one-also count_code (λ w. leb w most) n r.xs₁ r.ys₁ r.first)
      (row-also (λ k us vs. Over L a us vs) (λ k us vs. Over M a us vs) (λ k us vs. Over N a us vs) (λ k us vs d. over-also a us vs d) n
      r.xs₂ r.ys₂ r.second))
  over-also broken xs ys o = absurd o

-- a leaf's bytes, and those that were heard with a true boolean as 1
pub settles : (l : Leaf) (w : ℕ) (bs : List ℕ) → Says l w bs → Settled l bs (form l w)
unfolding Says Settled form
settles boolean w bs h =
    record { byte = h.byte; was = h.is; is = ap (λ (n : ℕ). n ∷ []) (mod-eq_of_lt (omega (arith, truth_small h.byte, h.says)) ∙ h.says) }
settles (signed k) w bs h = sym h
settles (unsigned k n) w bs h = sym h
settles (float k e f) w bs h = sym h
settles none w bs h = sym h

leaf_settles : (code w : ℕ) (ws bs : List ℕ) → allowed code w ≡ true → loose code w ws bs → Also (exact code w) (settled code w) ws bs
unfolding form_of
leaf_settles code w ws bs a o =
    record {
      zs = form (base code) w;
      one = (o.0, refl);
      two = (o.1, settles (base code) w bs o.1);
      as_long = length_form (base code) w ∙ sym (length_said (base code) w bs o.1);
    }

-- a byte form of a value, and the bytes of that value: each true boolean as 1
pub spoken_settles : (t : List ℕ) (s : Sections) (i : ℕ) (ws b : List ℕ) → Spoken t s i ws b
    → Also (λ us vs. Value t s i us vs) (λ us vs. BooleansAsOne t s i us vs) ws b
unfolding Spoken Value BooleansAsOne
spoken_settles t s i ws b v = over-also loose exact settled leaf_settles (tree t s i) ws b v

pub record PacksAgain (t : List ℕ) (s : Sections) (i : ℕ) (b ws out : List ℕ) : Type 0 where
  pub cs : List ℕ
  pub settled_is : BooleansAsOne t s i b cs
  pub as_long : length cs ≡ length b
  pub answers : packed_in t s i ws (length out) ≡ Gave (length b)
  pub given : bytes_in t s i ws out ≡ over out 0 cs

pub unpack_then_pack : (t : List ℕ) (s : Sections) (i : ℕ) (b words out : List ℕ) (k : ℕ) → Octets b → unpacked_in t s i b (length words)
    ≡ Gave k → length b ≤ length out → PacksAgain t s i b (take k (words_in t s i b words)) out
unpack_then_pack t s i b words out k o h l = go (unpacks_forms t s i b words k o h)
  where
    call : Callable t s i
    call = callable (reader b) (length b) t s i (length words) k h

    packs : (ws : List ℕ) → Also (λ us vs. Value t s i us vs) (λ us vs. BooleansAsOne t s i us vs) ws b → PacksAgain t s i b ws out
    packs ws a =
        let d : (packed_in t s i ws (length out) ≡ Gave (length a.zs))
        × (bytes_in t s i ws out ≡ over out 0 a.zs) = values_pack t s i ws a.zs out call a.one (omega (arith, a.as_long)) in
        record { cs = a.zs; settled_is = a.two; as_long = a.as_long; answers = d.0 ∙ ap Gave a.as_long; given = d.1 }

    go : Unpacks t s i b words k → PacksAgain t s i b (take k (words_in t s i b words)) out
    go m =
        subst (λ (u : List ℕ). PacksAgain t s i b u out) (sym (ap (take k) m.given ∙ take_front words m.ws k m.as_many))
        (packs m.ws (spoken_settles t s i m.ws b m.belong))
