-- A walk and a relation of lists over a type's tree: what a walk takes and gives belongs together, and where two lists belong
-- together the walk takes the one and gives the other. Once, for any codec, and over all kinds.
-- Assumes nothing.
use Prim.Native.Nat.{ℕ, zero, suc, ◌+◌, ◌≤◌}
use mathlib.Core.Path.{◌≡◌, refl, sym, ap, subst, ◌∙◌}
use mathlib.Core.Bool.{Bool, true, false, ◌&&◌}
use mathlib.Core.List.{List, [], ◌++◌, append_assoc}
use native.Mathlib.Nat.{add-zero}
use native.Mathlib.Omega.{arith}
use lib.Dec.{leb}
use lib.ListN.{length, drop, length-append}
use lib.Seq.{drop-drop, drop-append_seam}
use Rattle.wire.specs.Bytes.{over, written}
use Rattle.wire.proofs.Runs.{over_over, over_none, length_over, written_in}
use Rattle.table.specs.Leaf.{allowed}
use Rattle.wire.proofs.Cond.{and_left, and_right}
use Rattle.walk.specs.declared.Place.{Place}
use Rattle.walk.specs.Tree.{Tree, leaf, row, array, broken}
use Rattle.walk.specs.Walk.{Step, on, stop, next, through, Codec, item, counted, count_code, walk}
use Rattle.values.specs.Values.{Behind, Row, One, Some, Over}
use Rattle.walk.proofs.Near.{Between, between}
use Rattle.walk.proofs.Returns.{item-short, item-bad, item_on}

-- what a stretch of a walk over the input has taken and given: lists that M says belong together
pub record Took (M : List ℕ → List ℕ → Type 0) (input : List ℕ) (p q : Place) (x y : List ℕ) : Type 0 where
  pub xs : List ℕ
  pub ys : List ℕ
  pub belong : M xs ys
  pub taken : drop p.from input ≡ xs ++ drop q.from input
  pub from_there : q.from ≡ p.from + length xs
  pub to_there : q.to ≡ p.to + length ys
  pub given : q.to ≤ length x → y ≡ over x p.to ys

-- the place so far behind p
abbrev pub behind : Place → List ℕ → List ℕ → Place
behind p xs ys = record { from = p.from + length xs; to = p.to + length ys }

-- a stretch that goes on to there, and what it leaves
pub record Goes (st : Step) (p : Place) (x xs ys : List ℕ) : Type 0 where
  pub y : List ℕ
  pub goes : st ≡ on (behind p xs ys) y
  pub given : p.to + length ys ≤ length x → y ≡ over x p.to ys

-- one stretch behind another
two_over : (x y z : List ℕ) (p : ℕ) (ms ns : List ℕ) → (p + length ms ≤ length x → y ≡ over x p ms)
    → (p + length ms + length ns ≤ length y → z ≡ over y (p + length ms) ns) → p + length (ms ++ ns) ≤ length x → z ≡ over x p (ms ++ ns)
two_over x y z p ms ns f g h =
    let l : length (ms ++ ns) ≡ length ms + length ns = length-append ms ns in
    let a : p + length ms ≤ length x = omega arith in
    let e : y ≡ over x p ms = f a in
    let m : length y ≡ length x = ap length e ∙ length_over x p ms a in
    g (omega arith) ∙ ap (λ (u : List ℕ). over u (p + length ms) ns) e ∙ over_over x p ms ns h

took_both : (A B : List ℕ → List ℕ → Type 0) (input : List ℕ) (p q r : Place) (x y z : List ℕ) → Took A input p q x y → Took B input q r y z
    → Took (λ us vs. Behind A B us vs) input p r x z
took_both A B input p q r x y z a b =
    let lx : length (a.xs ++ b.xs) ≡ length a.xs + length b.xs = length-append a.xs b.xs in
    let ly : length (a.ys ++ b.ys) ≡ length a.ys + length b.ys = length-append a.ys b.ys in
    let fa : q.from ≡ p.from + length a.xs = a.from_there in
    let ta : q.to ≡ p.to + length a.ys = a.to_there in
    let fb : r.from ≡ q.from + length b.xs = b.from_there in
    let tb : r.to ≡ q.to + length b.ys = b.to_there in
    record {
      xs = a.xs ++ b.xs;
      ys = a.ys ++ b.ys;
      belong = record { xs₁ = a.xs; xs₂ = b.xs; ys₁ = a.ys; ys₂ = b.ys; is_xs = refl; is_ys = refl; first = a.belong; second = b.belong };
      taken = a.taken ∙ ap (λ (u : List ℕ). a.xs ++ u) b.taken ∙ sym (append_assoc a.xs b.xs (drop r.from input));
      from_there = omega arith;
      to_there = omega arith;
      given = λ h.
          two_over x y z p.to a.ys b.ys
          (λ g. a.given (omega arith))
          (λ g. b.given (omega arith) ∙ ap (λ (n : ℕ). over y n b.ys) ta)
          (omega arith);
    }

none-taken : (M : List ℕ → List ℕ → Type 0) (input : List ℕ) (p q : Place) (x y : List ℕ) → M [] [] → on p x ≡ on q y → Took M input p q x y
none-taken M input p q x y m h =
    let e : p ≡ q = cc in
    let u : x ≡ y = cc in
    record {
      xs = [];
      ys = [];
      belong = m;
      taken = ap (λ (o : Place). drop o.from input) e;
      from_there = ap (λ (o : Place). o.from) (sym e) ∙ sym (add-zero p.from);
      to_there = ap (λ (o : Place). o.to) (sym e) ∙ sym (add-zero p.to);
      given = λ g. sym u ∙ over_none x p.to [];
    }

-- what is known of an item, both ways
pub record Sound (c : Codec) (input : List ℕ) (L : ℕ → ℕ → List ℕ → List ℕ → Type 0) (code w : ℕ) (p : Place) : Type 0 where
  pub xs : List ℕ
  pub belong : L code w xs (c.gives code w)
  pub taken : drop p.from input ≡ xs ++ drop (c.after code p).from input
  pub from_there : (c.after code p).from ≡ p.from + length xs
  pub to_there : (c.after code p).to ≡ p.to + length (c.gives code w)

pub record Complete (c : Codec) (code w : ℕ) (p : Place) (xs ys : List ℕ) : Type 0 where
  pub there : c.there code p ≡ true
  pub word : c.word code p ≡ w
  pub gives : c.gives code w ≡ ys
  pub after : c.after code p ≡ behind p xs ys

module _ (c : Codec) (input : List ℕ) (L : ℕ → ℕ → List ℕ → List ℕ → Type 0) where
  module _ (sound : (code : ℕ) (p : Place) → c.there code p ≡ true → allowed code (c.word code p) ≡ true → Sound c input L code (c.word code p) p) where
    item-sound : (n code : ℕ) (ok : ℕ → Bool) (p q : Place) (x y : List ℕ) → item c n code ok p x ≡ on q y
        → Took (λ us vs. One L code ok (c.word code p) us vs) input p q x y
    item-sound n code ok p q x y h = go (c.there code p) (allowed code w && ok w) refl refl
      where
        w : ℕ
        w = c.word code p

        go : (a b : Bool) → c.there code p ≡ a → (allowed code w && ok w) ≡ b → Took (λ us vs. One L code ok w us vs) input p q x y
        go true true e g =
            let a : allowed code w ≡ true = and_left (allowed code w) (ok w) g in
            let k : Sound c input L code w p = sound code p e a in
            let m : on (c.after code p) (written x p.to (c.gives code w)) ≡ on q y = sym (item_on c n code ok p x e g) ∙ h in
            let i : c.after code p ≡ q = cc in
            let u : written x p.to (c.gives code w) ≡ y = cc in
            let t : (c.after code p).to ≡ p.to + length (c.gives code w) = k.to_there in
            record {
              xs = k.xs;
              ys = c.gives code w;
              belong = record { in_range = a; taken = and_right (allowed code w) (ok w) g; says = k.belong };
              taken = k.taken ∙ ap (λ (o : Place). k.xs ++ drop o.from input) i;
              from_there = ap (λ (o : Place). o.from) (sym i) ∙ k.from_there;
              to_there = ap (λ (o : Place). o.to) (sym i) ∙ k.to_there;
              given = λ l. sym u ∙ written_in x p.to (c.gives code w) (subst (λ (o : ℕ). o ≤ length x) (ap (λ (o : Place). o.to) (sym i) ∙ t) l);
            }
        go true false e g = absurd (let m : stop n p x ≡ on q y = sym (item-bad c n code ok p x e g) ∙ h in let v : ◌≡◌ {A = ℕ} 0 1 = cc in omega arith)
        go false b e g = absurd (let m : stop 40 p x ≡ on q y = sym (item-short c n code ok p x e) ∙ h in let v : ◌≡◌ {A = ℕ} 0 1 = cc in omega arith)

    through-sound : (F : ℕ → List ℕ → List ℕ → Type 0) (f : ℕ → Place → List ℕ → Step)
        → ((k : ℕ) (p q : Place) (x y : List ℕ) → f k p x ≡ on q y → Took (F k) input p q x y) → (n : ℕ) (p q : Place) (x y : List ℕ)
        → through n f p x ≡ on q y → Took (λ us vs. Row F n us vs) input p q x y
    unfolding through Row
    through-sound F f each zero p q x y h = none-taken (λ us vs. Row F 0 us vs) input p q x y (refl, refl) h
    through-sound F f each (suc n) p q x y h =
        let b : Between (through n f p x) (f n) q y = between (through n f p x) (f n) q y h in
        took_both (λ us vs. Row F n us vs) (F n) input p b.r q x b.z y (through-sound F f each n p b.r x b.z b.one)
        (each n b.r q b.z y b.two)

    some_of : (P : ℕ → List ℕ → List ℕ → Type 0) (n : ℕ) (p q : Place) (x y : List ℕ) → Took (P n) input p q x y → Took (λ us vs. Some P us vs) input p q x y
    some_of P n p q x y k =
        record {
          xs = k.xs;
          ys = k.ys;
          belong = record { it = n; is = k.belong };
          taken = k.taken;
          from_there = k.from_there;
          to_there = k.to_there;
          given = k.given;
        }

    -- what a walk has taken and given belongs together
    pub walk-sound : (tr : Tree) (p q : Place) (x y : List ℕ) → walk c tr p x ≡ on q y → Took (λ us vs. Over L tr us vs) input p q x y
    unfolding walk Over counted
    walk-sound (leaf code ok) p q x y h = some_of (λ w us vs. One L code ok w us vs) (c.word code p) p q x y (item-sound 42 code ok p q x y h)
    walk-sound (row n f) p q x y h =
        through-sound (λ k us vs. Over L (f k) us vs) (λ k o u. walk c (f k) o u) (λ k o r u v g. walk-sound (f k) o r u v g) n p q x y h
    walk-sound (array most a) p q x y h =
        let n : ℕ = c.word count_code p in
        let f : Place → List ℕ → Step = λ o u. through n (λ k r z. walk c a r z) o u in
        let b : Between (item c 43 count_code (λ w. leb w most) p x) f q y = between (item c 43 count_code (λ w. leb w most) p x) f q y h in
        some_of (λ m us vs. Behind (λ ms ns. One L count_code (λ w. leb w most) m ms ns) (λ ms ns. Row (λ k cs ds. Over L a cs ds) m ms ns) us vs) n p q x y
        (took_both (λ ms ns. One L count_code (λ w. leb w most) n ms ns) (λ ms ns. Row (λ k cs ds. Over L a cs ds) n ms ns) input p b.r q x b.z y
        (item-sound 43 count_code (λ w. leb w most) p b.r x b.z b.one)
        (through-sound (λ k us vs. Over L a us vs) (λ k o u. walk c a o u) (λ k o r u v g. walk-sound a o r u v g) n b.r q b.z y b.two))
    walk-sound broken p q x y h = absurd (let v : ◌≡◌ {A = ℕ} 0 1 = cc in omega arith)

-- the other way
place_is : (a b m n : ℕ) → a ≡ b → m ≡ n → ◌≡◌ {A = Place} (record { from = a; to = m }) (record { from = b; to = n })
place_is a b m n e h = cc

past : (input : List ℕ) (p : ℕ) (xs ys rest : List ℕ) → drop p input ≡ (xs ++ ys) ++ rest → drop (p + length xs) input ≡ ys ++ rest
past input p xs ys rest h =
    sym (drop-drop (length xs) p input) ∙ ap (drop (length xs)) (h ∙ append_assoc xs ys rest) ∙ drop-append_seam xs (ys ++ rest)

goes_both : (a : Step) (f : Place → List ℕ → Step) (p : Place) (x xs₁ xs₂ ys₁ ys₂ : List ℕ) → Goes a p x xs₁ ys₁
    → ((z : List ℕ) → Goes (f (behind p xs₁ ys₁) z) (behind p xs₁ ys₁) z xs₂ ys₂) → Goes (next a f) p x (xs₁ ++ xs₂) (ys₁ ++ ys₂)
unfolding next
goes_both a f p x xs₁ xs₂ ys₁ ys₂ g h =
    let k : Goes (f (behind p xs₁ ys₁) g.y) (behind p xs₁ ys₁) g.y xs₂ ys₂ = h g.y in
    let lx : length (xs₁ ++ xs₂) ≡ length xs₁ + length xs₂ = length-append xs₁ xs₂ in
    let ly : length (ys₁ ++ ys₂) ≡ length ys₁ + length ys₂ = length-append ys₁ ys₂ in
    record {
      y = k.y;
      goes = ap (λ (st : Step). next st f) g.goes ∙ k.goes
          ∙ ap (λ (o : Place). on o k.y)
          (place_is (p.from + length xs₁ + length xs₂) (p.from + length (xs₁ ++ xs₂)) (p.to + length ys₁ + length ys₂)
          (p.to + length (ys₁ ++ ys₂)) (omega arith) (omega arith));
      given = λ l. two_over x g.y k.y p.to ys₁ ys₂ g.given k.given l;
    }

none_goes : (p : Place) (x xs ys : List ℕ) → xs ≡ [] → ys ≡ [] → Goes (on p x) p x xs ys
none_goes p x xs ys a b =
    record {
      y = x;
      goes = ap (λ (o : Place). on o x)
          (place_is p.from (p.from + length xs) p.to (p.to + length ys) (omega (arith, ap length a)) (omega (arith, ap length b)));
      given = λ l. over_none x p.to [] ∙ ap (over x p.to) (sym b);
    }

module _ (c : Codec) (input : List ℕ) (L : ℕ → ℕ → List ℕ → List ℕ → Type 0)
    (complete : (code w : ℕ) (p : Place) (xs ys rest : List ℕ) → L code w xs ys → allowed code w ≡ true → drop p.from input ≡ xs ++ rest
    → Complete c code w p xs ys) where
  item-complete : (n code : ℕ) (ok : ℕ → Bool) (w : ℕ) (p : Place) (x xs ys rest : List ℕ) → One L code ok w xs ys → drop p.from input
      ≡ xs ++ rest → Goes (item c n code ok p x) p x xs ys
  item-complete n code ok w p x xs ys rest o h =
      let k : Complete c code w p xs ys = complete code w p xs ys rest o.says o.in_range h in
      let both : (allowed code (c.word code p) && ok (c.word code p)) ≡ true = rw (k.word, o.in_range, o.taken) refl in
      let g : c.gives code (c.word code p) ≡ ys = ap (c.gives code) k.word ∙ k.gives in
      record {
        y = written x p.to ys;
        goes = item_on c n code ok p x k.there both
            ∙ ap (λ (q : Place). on q (written x p.to (c.gives code (c.word code p)))) k.after
            ∙ ap (λ (u : List ℕ). on (behind p xs ys) (written x p.to u)) g;
        given = λ l. written_in x p.to ys l;
      }

  through-complete : (F : ℕ → List ℕ → List ℕ → Type 0) (f : ℕ → Place → List ℕ → Step)
      → ((k : ℕ) (p : Place) (x xs ys rest : List ℕ) → F k xs ys → drop p.from input ≡ xs ++ rest → Goes (f k p x) p x xs ys)
      → (n : ℕ) (p : Place) (x xs ys rest : List ℕ) → Row F n xs ys → drop p.from input ≡ xs ++ rest → Goes (through n f p x) p x xs ys
  unfolding through Row
  through-complete F f each zero p x xs ys rest r h = none_goes p x xs ys r.0 r.1
  through-complete F f each (suc n) p x xs ys rest r h =
      let e : drop p.from input ≡ (r.xs₁ ++ r.xs₂) ++ rest = h ∙ ap (λ (u : List ℕ). u ++ rest) r.is_xs in
      rw (r.is_xs, r.is_ys)
      (goes_both (through n f p x) (f n) p x r.xs₁ r.xs₂ r.ys₁ r.ys₂
      (through-complete F f each n p x r.xs₁ r.ys₁ (r.xs₂ ++ rest) r.first (e ∙ append_assoc r.xs₁ r.xs₂ rest))
      (λ z. each n (behind p r.xs₁ r.ys₁) z r.xs₂ r.ys₂ rest r.second (past input p.from r.xs₁ r.xs₂ rest e)))

  -- where two lists belong together, the walk takes the one and gives the other
  pub walk-complete : (tr : Tree) (p : Place) (x xs ys rest : List ℕ) → Over L tr xs ys → drop p.from input ≡ xs ++ rest → Goes (walk c tr p x) p x xs ys
  unfolding walk Over counted
  walk-complete (leaf code ok) p x xs ys rest o h = item-complete 42 code ok o.it p x xs ys rest o.is h
  walk-complete (row n f) p x xs ys rest o h =
      through-complete (λ k us vs. Over L (f k) us vs) (λ k q u. walk c (f k) q u)
      (λ k q u as' bs' r g e. walk-complete (f k) q u as' bs' r g e) n p x xs ys rest o h
  walk-complete (array most a) p x xs ys rest o h =
      let n : ℕ = o.it in
      let r = o.is in
      let e : drop p.from input ≡ (r.xs₁ ++ r.xs₂) ++ rest = h ∙ ap (λ (u : List ℕ). u ++ rest) r.is_xs in
      let e₁ : drop p.from input ≡ r.xs₁ ++ (r.xs₂ ++ rest) = e ∙ append_assoc r.xs₁ r.xs₂ rest in
      let k : Complete c count_code n p r.xs₁ r.ys₁ = complete count_code n p r.xs₁ r.ys₁ (r.xs₂ ++ rest) r.first.says r.first.in_range e₁ in
      rw (r.is_xs, r.is_ys)
      (goes_both (item c 43 count_code (λ w. leb w most) p x) (λ q u. through (c.word count_code p) (λ j q z. walk c a q z) q u) p x r.xs₁
      r.xs₂ r.ys₁ r.ys₂
      (item-complete 43 count_code (λ w. leb w most) n p x r.xs₁ r.ys₁ (r.xs₂ ++ rest) r.first e₁)
      (λ z.
      subst (λ (m : ℕ). Goes (through m (λ j q z. walk c a q z) (behind p r.xs₁ r.ys₁) z) (behind p r.xs₁ r.ys₁) z r.xs₂
      r.ys₂) (sym k.word)
      (through-complete (λ j us vs. Over L a us vs) (λ j q u. walk c a q u) (λ j q u as' bs' s g d. walk-complete a q u as' bs' s g d) n
      (behind p r.xs₁ r.ys₁) z r.xs₂ r.ys₂ rest r.second (past input p.from r.xs₁ r.xs₂ rest e))))
  walk-complete broken p x xs ys rest o h = absurd o
