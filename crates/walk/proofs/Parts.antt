-- Laws of the base codes that are read from parts of a table: an entry as one number, and a part for the whole.
-- Assumes nothing.
use Prim.Native.Nat.{ℕ, min, ◌+◌, ◌-◌, ◌*◌, ◌/◌, ◌%◌, ◌^◌, ◌≤◌, ◌<◌}
use mathlib.Core.Path.{◌≡◌, refl, sym, ap, subst, ◌∙◌}
use mathlib.Core.Bool.{Bool, true, false, ◌&&◌, cond}
use mathlib.Core.List.{List}
use native.Mathlib.Nat.{add_assoc, add-sub_cancel_left}
use native.Mathlib.Omega.{arith}
use borrow.Author.Tests.{ltb-true, leb-true, eq-eqb, lt-ltb}
use mir.Syntax.{w8}
use mir.Val.{Fits}
use lib.Dec.{ltb, leb}
use lib.ListN.{length, get_or, take, drop, length-drop}
use lib.Seq.{length-take-le}
use Rattle.wire.specs.Bytes.{number, whole, over, Octets}
use Rattle.wire.proofs.Cond.{yes-if, no-if, and_left, and_right}
use Rattle.wire.proofs.Numbers.{whole_in, number_lt, number_take, number_drop}
use Rattle.table.specs.declared.Sections.{Sections}
use Rattle.table.specs.declared.Entry.{Entry}
use Rattle.table.specs.Layout.{type_place, member_place}
use Rattle.table.specs.Entries.{type_at, member_at}
use Rattle.walk.specs.Tree.{no_base, base_of, base_at}
use Rattle.walk.specs.Codes.{all_bases, leading, firsts, code_at, are_there, code_count, codes_of, turned}
use Rattle.walk.specs.Codes.{placed, placed_code, placed_count, placed_codes, alone, part_code}
use Rattle.walk.proofs.Bases.{Plain, Fields, fields, a_base, no-base, base-met, no-base-met}
use Rattle.walk.proofs.Codes.{up_to, leading-most, leading-same, firsts_same, none_stored, few-codes}

record Narrow (e : Entry) : Type 0 where
  kind : e.kind < 65536
  of : e.of < 65536
  first : e.first < 65536
  count : e.count < 65536

abbrev as_one_word : Entry → ℕ
as_one_word e = (e.kind * 65536 + e.of) * 4294967296 + (e.first * 65536 + e.count)

-- an entry as one number, and that with its halves exchanged
pub turned_here : (w : ℕ) → w % 4294967296 * 4294967296 + w / 4294967296 ≡ turned w
unfolding turned
turned_here w = refl

turned_is : (a b c d w : ℕ) → a < 65536 → b < 65536 → c < 65536 → d < 65536 → w ≡ (a * 65536 + b) * 4294967296 + (c * 65536 + d) → turned w
    ≡ (c * 65536 + d) * 4294967296 + (a * 65536 + b)
unfolding turned
turned_is a b c d w ha hb hc hd e =
    let h : w / 4294967296 ≡ a * 65536 + b = omega arith in
    let l : w % 4294967296 ≡ c * 65536 + d = omega arith in
    rw (h, l) refl

-- it is below 13 where all but the second number are 0, and then it is the second
only_second : (a b c d x : ℕ) → x ≡ (c * 65536 + d) * 4294967296 + (a * 65536 + b) → x < 13 → (a ≡ 0) × ((b ≡ x) × ((c ≡ 0) × (d ≡ 0)))
only_second a b c d x e l = (omega arith, (omega arith, (omega arith, omega arith)))

second_only : (a b c d x : ℕ) → x ≡ (c * 65536 + d) * 4294967296 + (a * 65536 + b) → a ≡ 0 → c ≡ 0 → d ≡ 0 → x ≡ b
second_only a b c d x e h k l = omega arith

not_both : (x : ℕ) → 13 ≤ x → x < 13 → ⊥
not_both x h k = omega arith

module _ (e : Entry) (w : ℕ) (n : Narrow e) (h : w ≡ as_one_word e) where
  turned_so : turned w ≡ (e.first * 65536 + e.count) * 4294967296 + (e.kind * 65536 + e.of)
  turned_so = turned_is e.kind e.of e.first e.count w n.kind n.of n.first n.count h

  turned-base : turned w < 13 → turned w ≡ base_of e
  turned-base l =
      let q : (e.kind ≡ 0) × ((e.of ≡ turned w) × ((e.first ≡ 0) × (e.count ≡ 0))) = only_second e.kind e.of e.first e.count
      (turned w) turned_so l in
      let b : e.of < 13 = subst (λ (x : ℕ). x < 13) (sym q.1.0) l in
      let p : Plain e ≡ true = rw (eq-eqb e.kind 0 q.0, lt-ltb e.of 13 b, eq-eqb e.first 0 q.1.1.0, eq-eqb e.count 0 q.1.1.1) refl in
      sym q.1.0 ∙ a_base e p

  turned_none : 13 ≤ turned w → 13 ≡ base_of e
  turned_none l = go (Plain e) refl
    where
      go : (b : Bool) → Plain e ≡ b → 13 ≡ base_of e
      go false p = no-base e p
      go true p =
          let f : Fields e = fields e p in
          absurd (not_both (turned w) l
          (subst (λ (x : ℕ). x < 13)
          (sym (second_only e.kind e.of e.first e.count (turned w) turned_so f.kind f.first f.count)) f.of))

-- an entry of a table
module _ (t : List ℕ) (s : Sections) (c : ℕ) (known : Octets t) where
  narrow : Narrow (type_at t s c)
  unfolding type_at
  narrow =
      let p : ℕ = type_place s c in
      record {
        kind = number_lt 1 t (type_place s c) known;
        of = number_lt 1 t (type_place s c + 2) known;
        first = number_lt 1 t (type_place s c + 4) known;
        count = number_lt 1 t (type_place s c + 6) known;
      }

  as_one : number 3 t (type_place s c) ≡ as_one_word (type_at t s c)
  unfolding type_at
  as_one = omega (arith, ap (number 1 t) (add_assoc (type_place s c) 4 2))

-- one member: its type number, and the entry there
module _ (types members : List ℕ) (i n k : ℕ) (child : ℕ) (there : length members ≡ 2 * n) (l : k < n) (is : child ≡ whole 1 members (2 * k)) where
  member_is : child ≡ member_at members alone k
  unfolding member_at
  member_is =
      let z : 2 * k ≡ 0 + 2 * k = omega arith in
      is ∙ whole_in 1 members (2 * k) (omega arith) ∙ ap (number 1 members) z

  of-child : base_at types alone i child ≡ part_code types members i k
  unfolding part_code
  of-child = ap (base_at types alone i) member_is

  own-part : i ≤ child → part_code types members i k ≡ 13
  own-part h = sym (no-base-met types alone i child h ∙ of-child)

  module _ (w : ℕ) (known : (j : ℕ) → Fits w8 (get_or types j 0)) (room : length types ≡ 8 * i) (h : child < i)
      (read : w ≡ whole 3 types (8 * child)) (code : ℕ) (so : code ≡ turned w) where
    word-is : w ≡ as_one_word (type_at types alone child)
    word-is =
        let z : 8 * child ≡ 0 + 8 * child = omega arith in
        read ∙ whole_in 3 types (8 * child) (omega arith) ∙ ap (number 3 types) z ∙ as_one types alone child (λ j. (known j).fits)

    small : Narrow (type_at types alone child)
    small = narrow types alone child (λ j. (known j).fits)

    pub base-part : code < 13 → code ≡ part_code types members i k
    base-part g =
        let l : turned w < 13 = subst (λ (x : ℕ). x < 13) so g in
        so ∙ base-met types alone i child (type_at types alone child) (turned w) h refl (turned-base (type_at types alone child) w small word-is l) ∙ of-child

    none-part : 13 ≤ code → part_code types members i k ≡ 13
    none-part g =
        let l : 13 ≤ turned w = subst (λ (x : ℕ). 13 ≤ x) so g in
        sym (base-met types alone i child (type_at types alone child) 13 h refl (turned_none (type_at types alone child) w small word-is l) ∙ of-child)

    pub other-stops : 13 ≤ code → all_bases (part_code types members i) k ≡ true → k ≡ leading (part_code types members i) n
    other-stops g a = up_to (part_code types members i) n k a (none-part g) (omega arith)

  pub own-stops : i ≤ child → all_bases (part_code types members i) k ≡ true → k ≡ leading (part_code types members i) n
  own-stops h a = up_to (part_code types members i) n k a (own-part h) (omega arith)

pub both_there : (len a b i n : ℕ) (x y : Bool) → x ≡ leb (a + 8 * i) len → y ≡ leb (b + 2 * n) len → (x && y) ≡ are_there len a b i n
unfolding are_there
both_there len a b i n x y h k = rw (h, k) refl

-- a part of the table for the whole of it
module _ (t : List ℕ) (p n : ℕ) where
  abbrev slice : List ℕ
  slice = take (p + n - p) (drop p t)

  in-slice : (w q : ℕ) → q + 2 ^ w ≤ n → number w slice q ≡ number w t (p + q)
  in-slice w q l = ap (λ (z : ℕ). number w (take z (drop p t)) q) (add-sub_cancel_left p n) ∙ number_take w n (drop p t) q l ∙ number_drop w p t q

  length-slice : p + n ≤ length t → length slice ≡ n
  length-slice h = ap (λ (z : ℕ). length (take z (drop p t))) (add-sub_cancel_left p n) ∙ length-take-le n (drop p t) (omega (arith, length-drop p t))

entry_same : {a b c d a' b' c' d' : ℕ} → a ≡ a' → b ≡ b' → c ≡ c' → d ≡ d'
    → ◌≡◌ {A = Entry} (record { kind = a; of = b; first = c; count = d }) (record { kind = a'; of = b'; first = c'; count = d' })
entry_same h k l m = rw (h, k, l, m) refl

module _ (t : List ℕ) (a b i n : ℕ) where
  type-same : (c : ℕ) → c < i → type_at (slice t a (8 * i)) alone c ≡ type_at t (placed a b) c
  unfolding type_at
  type-same c h =
      let field : (j : ℕ) → j + 2 ≤ 8 → number 1 (slice t a (8 * i)) (0 + 8 * c + j) ≡ number 1 t (a + 8 * c + j) =
      λ j l. in-slice t a (8 * i) 1 (0 + 8 * c + j) (omega arith) ∙ ap (number 1 t) (omega arith) in
      let f : number 1 (slice t a (8 * i)) (0 + 8 * c) ≡ number 1 t (a + 8 * c) =
      in-slice t a (8 * i) 1 (0 + 8 * c) (omega arith) ∙ ap (number 1 t) (omega arith) in
      entry_same f (field 2 (omega arith)) (field 4 (omega arith)) (field 6 (omega arith))

  member-same : (k : ℕ) → k < n → member_at (slice t b (2 * n)) alone k ≡ member_at t (placed a b) k
  unfolding member_at
  member-same k h = in-slice t b (2 * n) 1 (0 + 2 * k) (omega arith) ∙ ap (number 1 t) (omega arith)

  base_same : (c : ℕ) → base_at (slice t a (8 * i)) alone i c ≡ base_at t (placed a b) i c
  unfolding base_at
  base_same c = go (ltb c i) refl
    where
      go : (r : Bool) → ltb c i ≡ r → base_at (slice t a (8 * i)) alone i c ≡ base_at t (placed a b) i c
      go true h = yes-if (base_of (type_at (slice t a (8 * i)) alone c)) 13 h ∙ ap base_of (type-same c (ltb-true c i h))
          ∙ sym (yes-if (base_of (type_at t (placed a b) c)) 13 h)
      go false h = no-if (base_of (type_at (slice t a (8 * i)) alone c)) 13 h ∙ sym (no-if (base_of (type_at t (placed a b) c)) 13 h)

  abbrev in_parts : ℕ → ℕ
  in_parts = part_code (slice t a (8 * i)) (slice t b (2 * n)) i

  code_same : (k : ℕ) → k < n → in_parts k ≡ placed_code t a b i k
  unfolding part_code placed_code
  code_same k h = ap (base_at (slice t a (8 * i)) alone i) (member-same k h) ∙ base_same (member_at t (placed a b) k)

  -- where both parts lie within the table, the codes are those of the parts
  module _ (x : Bool) (test : x ≡ are_there (length t) a b i n) (yes : x ≡ true) where
    pub types-end : a + 8 * i ≤ length t
    unfolding are_there
    types-end = leb-true (a + 8 * i) (length t) (and_left (leb (a + 8 * i) (length t)) (leb (b + 2 * n) (length t)) (sym test ∙ yes))

    pub members-end : b + 2 * n ≤ length t
    unfolding are_there
    members-end = leb-true (b + 2 * n) (length t) (and_right (leb (a + 8 * i) (length t)) (leb (b + 2 * n) (length t)) (sym test ∙ yes))

    pub counted_in : (r : ℕ) → r ≡ leading in_parts n → r ≡ placed_count t a b i n
    unfolding placed_count
    counted_in r h = h ∙ leading-same in_parts (placed_code t a b i) n code_same ∙ sym (yes-if (leading (placed_code t a b i) n) 0 (sym test ∙ yes))

    pub stored-in : (u v : List ℕ) → v ≡ over u 0 (firsts in_parts (leading in_parts n)) → v ≡ over u 0 (placed_codes t a b i n)
    unfolding placed_codes
    stored-in u v h =
        let l : leading in_parts n ≤ n = leading-most in_parts n in
        h ∙ ap (over u 0) (firsts_same in_parts (placed_code t a b i) (leading in_parts n) (λ k g. code_same k (omega arith))
        ∙ ap (firsts (placed_code t a b i)) (counted_in (leading in_parts n) refl))

  -- where one does not, there are none
  pub not_there : (x : Bool) → x ≡ are_there (length t) a b i n → x ≡ false → 0 ≡ placed_count t a b i n
  unfolding placed_count
  not_there x h g = sym (no-if (leading (placed_code t a b i) n) 0 (sym h ∙ g))

  pub none-placed : (u : List ℕ) → 0 ≡ placed_count t a b i n → u ≡ over u 0 (placed_codes t a b i n)
  unfolding placed_codes
  none-placed u h = none_stored (placed_code t a b i) u ∙ ap (λ (k : ℕ). over u 0 (firsts (placed_code t a b i) k)) h

-- the places of a table's sections
module _ (t : List ℕ) (s : Sections) (i : ℕ) (e : Entry) (m n a b room : ℕ) (types-at : a ≡ type_place s 0)
    (members-at : b ≡ member_place s (e.first + m)) (most : n ≡ min room (e.count - m)) where
  type-placed : (c : ℕ) → type_at t (placed a b) c ≡ type_at t s c
  unfolding type_at
  type-placed c =
      let p : a + 8 * c ≡ type_place s c = omega arith in
      entry_same (ap (number 1 t) p) (ap (λ (q : ℕ). number 1 t (q + 2)) p) (ap (λ (q : ℕ). number 1 t (q + 4)) p) (ap (λ (q : ℕ). number 1 t (q + 6)) p)

  member-placed : (k : ℕ) → member_at t (placed a b) k ≡ member_at t s (e.first + (m + k))
  unfolding member_at
  member-placed k = ap (number 1 t) (omega arith)

  code-placed : (k : ℕ) → placed_code t a b i k ≡ code_at t s i e m k
  unfolding placed_code code_at base_at
  code-placed k =
      ap (λ (c : ℕ). cond (ltb c i) (base_of (type_at t (placed a b) c)) no_base) (member-placed k)
      ∙ ap (λ (o : Entry). cond (ltb (member_at t s (e.first + (m + k))) i) (base_of o) no_base) (type-placed (member_at t s (e.first + (m + k))))

  same_count : placed_count t a b i n ≡ code_count t s i e m room
  unfolding placed_count code_count
  same_count = rw (leading-same (placed_code t a b i) (code_at t s i e m) n (λ k l. code-placed k), types-at, members-at, most) refl

  pub count-placed : (r : ℕ) → r ≡ placed_count t a b i n → r ≡ code_count t s i e m room
  count-placed r h = h ∙ same_count

  pub codes_placed : (u v : List ℕ) → v ≡ over u 0 (placed_codes t a b i n) → v ≡ over u 0 (codes_of t s i e m room)
  unfolding placed_codes codes_of
  codes_placed u v h =
      h ∙ ap (over u 0) (firsts_same (placed_code t a b i) (code_at t s i e m) (placed_count t a b i n) (λ k l. code-placed k)
      ∙ ap (firsts (code_at t s i e m)) same_count)

-- no member is left
module _ (t : List ℕ) (s : Sections) (i : ℕ) (e : Entry) (m room : ℕ) (end : e.count ≤ m) where
  pub none_left : 0 ≡ code_count t s i e m room
  none_left = omega (arith, few-codes t s i e m room)

  pub none_kept : (u : List ℕ) → u ≡ over u 0 (codes_of t s i e m room)
  unfolding codes_of
  none_kept u = none_stored (code_at t s i e m) u ∙ ap (λ (k : ℕ). over u 0 (firsts (code_at t s i e m) k)) none_left
