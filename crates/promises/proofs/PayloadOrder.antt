-- The order of checks for payloads.
-- Assumes nothing.
use Prim.Native.Nat.{ℕ, zero, suc, ◌+◌, ◌<◌}
use Rattle.refusal.specs.Refusal.{refused}
use Rattle.std.specs.Prelude.{Result, Ok}
use Rattle.refusal.specs.declared.Refusal.{Refusal}
use mathlib.Core.Path.{◌≡◌, refl, sym, ap, subst, ◌∙◌}
use mathlib.Core.Bool.{Bool, true, false, not, cond, ◌&&◌}
use mathlib.Core.List.{List, [], ◌∷◌, ◌++◌, append_assoc}
use native.Mathlib.Omega.{arith}
use lib.Dec.{eqb, leb, ltb}
use lib.ListN.{length}
use Rattle.wire.specs.Bytes.{written}
use Rattle.table.specs.declared.Section.{Section}
use Rattle.table.specs.declared.Sections.{Sections}
use Rattle.table.specs.Layout.{section_end, lies_in, within}
use Rattle.table.specs.Entries.{is_type}
use Rattle.table.specs.Leaf.{allowed}
use Rattle.types.specs.Table.{checked}
use Rattle.types.proofs.Accepted.{accepted, is_within}
use Rattle.payload.specs.declared.Answer.{Answer}
use Rattle.payload.specs.declared.Answer.TheVariants.{Refused, Stopped, Gave}
use Rattle.walk.specs.Tree.{Tree, leaf, row, array, broken, tree}
use Rattle.walk.specs.Walk.{Step, on, stop, answer, next as goOn, through, Codec, item, counted, count_code, walk, type_walk}
use Rattle.unpack.specs.Reading.{reader}
use Rattle.pack.specs.Writing.{writer}
use Rattle.walk.specs.Walk.{start}
use Rattle.payload.specs.Calls.{stopped_at, went_to, answered, answered_type, answered_in, answered_if}
use Rattle.promises.specs.Checks.{CheckOf, ◌when◌, refusing, Answers, none, this, next}
use Rattle.promises.specs.TableOrder.{sections_in, table_checks}
use Rattle.walk.specs.declared.Place.{Place}
use Rattle.promises.specs.PayloadOrder.{Reached, at_start, spot_of, Stretch, item_met, behind, in_turn, met, whole_of, walk_checks}
use Rattle.promises.specs.PayloadOrder.{AnswersBehind, LiesIn, LieIn, PayloadInOrder}
use Rattle.promises.proofs.Checks.{Decides, lt_decides, le_decides, and_decides, decides_same, by, unless, then-as-each}
use Rattle.promises.proofs.Order.{below_decides}
use Rattle.promises.proofs.TableOrder.{table_in_order, table_made}

-- sections that lie in the bytes
lies_decides : (width most : ℕ) (t : List ℕ) (x : Section) → Decides (lies_in width most (length t) x) (LiesIn width most t x)
unfolding lies_in
lies_decides width most t x =
    and_decides (leb x.count most) (leb (section_end width x) (length t)) (le_decides x.count most) (le_decides (section_end width x) (length t))

pub lie_decides : (t : List ℕ) (s : Sections) → Decides (within t s) (LieIn t s)
unfolding within
lie_decides t s =
    let a : Bool = lies_in 8 256 (length t) s.types in
    let b : Bool = lies_in 2 1024 (length t) s.members in
    let c : Bool = lies_in 8 1024 (length t) s.values in
    let d : Bool = lies_in 8 1024 (length t) s.operations in
    decides_same
    (and_decides (a && b && c) d
    (and_decides (a && b) c
    (and_decides a b (lies_decides 8 256 t s.types) (lies_decides 2 1024 t s.members))
    (lies_decides 8 1024 t s.values))
    (lies_decides 8 1024 t s.operations))
    (λ p. record { types = p.0.0.0; members = p.0.0.1; values = p.0.1; operations = p.1 })
    (λ q. (((q.types, q.members), q.values), q.operations))

-- a test that is false just where the check applies
false_decides : (b : Bool) → Decides (not b) (b ≡ false)
false_decides true = record { yes_is = λ e. sym e; no_is = λ e f. let z : ◌≡◌ {A = ℕ} 0 1 = cc in omega arith }
false_decides false = record { yes_is = λ e. refl; no_is = λ e f. let z : ◌≡◌ {A = ℕ} 0 1 = cc in omega arith }

abbrev fine : Codec → ℕ → (ℕ → Bool) → Place → Bool
fine c code ok p = allowed code (c.word code p) && ok (c.word code p)

-- every leaf is one more
abbrev Counts : Codec → Type 0
Counts c = (code : ℕ) (p : Place) → c.leaves (c.after code p) ≡ c.leaves p + 1

-- the list counts as the walk does
abbrev Alike : Codec → Reached → Type 0
Alike c h = c.leaves h.place ≡ h.leaves

-- what a walk comes to, if K is what is made of where it ends
abbrev came_to : Codec → (Place → List ℕ → Answer) → Step → Answer
came_to c K (on q y) = K q y
came_to c K (stop k q y) = stopped_at k q (c.leaves q)

-- under these checks the answer is so, or else the good one
abbrev Refuses : Answer → List (CheckOf Answer) → Answer → Type 1
Refuses good cs a = Answers (λ r. r) good cs a

-- a walk F that meets what G says
abbrev Follows : Codec → (Place → List ℕ → Step) → (Reached → Stretch) → Type 1
Follows c F G = (h : Reached) (x : List ℕ) (K : Place → List ℕ → Answer) (good : Answer) (rest : List (CheckOf Answer)) → Alike c h
    → ((y : List ℕ) → Alike c (G h).end → Refuses good rest (K (G h).end.place y))
    → Refuses good ((G h).checks ++ rest) (came_to c K (F h.place x))

stop_at : (c : Codec) (k : ℕ) (h : Reached) → eqb k 32 ≡ false → Alike c h
    → stopped_at k h.place (c.leaves h.place) ≡ Stopped k (spot_of h)
unfolding stopped_at
stop_at c k h d e = rw (d, e)

item_follows : (c : Codec) (n code : ℕ) (ok : ℕ → Bool) → Counts c → eqb n 32 ≡ false → Follows c (item c n code ok) (item_met c n code ok)
unfolding item
item_follows c n code ok one d h x K good rest e a =
    subst (Refuses good ((item_met c n code ok h).checks ++ rest)) (sym (go (c.there code p) refl (fine c code ok p) refl))
    (unless (λ r. r) good (c.there code p) (Stopped 40 (spot_of h)) (false_decides (c.there code p))
    (unless (λ r. r) good (fine c code ok p) (Stopped n (spot_of h)) (false_decides (fine c code ok p))
    (a y (one code p ∙ ap (λ (l : ℕ). l + 1) e))))
  where
    p : Place
    p = h.place

    y : List ℕ
    y = written x p.to (c.gives code (c.word code p))

    go : (u : Bool) → c.there code p ≡ u → (v : Bool) → fine c code ok p ≡ v
        → came_to c K (item c n code ok p x) ≡ cond u (cond v (K (c.after code p) y) (Stopped n (spot_of h))) (Stopped 40 (spot_of h))
    go true eu true ev = rw (eu, ev)
    go true eu false ev = rw (eu, ev) (stop_at c n h d e)
    go false eu v ev = rw eu (stop_at c 40 h refl e)

-- one walk behind another
came_next : (c : Codec) (K : Place → List ℕ → Answer) (st : Step) (f : Place → List ℕ → Step)
    → came_to c K (goOn st f) ≡ came_to c (λ q y. came_to c K (f q y)) st
unfolding goOn
came_next c K (on q y) f = refl
came_next c K (stop n q y) f = refl

behind_follows : (c : Codec) (F : Place → List ℕ → Step) (S : Reached → Stretch) (H : Place → Place → List ℕ → Step)
    (T : Reached → Reached → Stretch) → Follows c F S → ((h : Reached) → Follows c (H h.place) (T h))
    → Follows c (λ p x. goOn (F p x) (H p)) (λ h. behind (S h) (T h))
behind_follows c F S H T f g h x K good rest e a =
    let p : Place = h.place in
    let cs : List (CheckOf Answer) = (T h (S h).end).checks in
    subst (λ (ds : List (CheckOf Answer)). Refuses good ds (came_to c K (goOn (F p x) (H p)))) (sym (append_assoc (S h).checks cs rest))
    (subst (Refuses good ((S h).checks ++ (cs ++ rest))) (sym (came_next c K (F p x) (H p)))
    (f h x (λ q y. came_to c K (H p q y)) good (cs ++ rest) e (λ y d. g h (S h).end y K good rest d a)))

through_follows : (c : Codec) (F : ℕ → Place → List ℕ → Step) (G : ℕ → Reached → Stretch) → ((k : ℕ) → Follows c (F k) (G k))
    → (n : ℕ) → Follows c (through n F) (in_turn n G)
unfolding through in_turn
through_follows c F G f zero h x K good rest e a = a x e
through_follows c F G f (suc n) h x K good rest e a =
    behind_follows c (through n F) (in_turn n G) (λ _. F n) (λ _. G n) (through_follows c F G f n) (λ _. f n) h x K good rest e a

walk_follows : (c : Codec) → Counts c → (tr : Tree) → Follows c (walk c tr) (met c tr)
unfolding walk met counted stopped_at
walk_follows c one (leaf code ok) h x K good rest e a = item_follows c 42 code ok one refl h x K good rest e a
walk_follows c one (row n f) h x K good rest e a =
    through_follows c (λ k q y. walk c (f k) q y) (λ k j. met c (f k) j) (λ k. walk_follows c one (f k)) n h x K good rest e a
walk_follows c one (array most u) h x K good rest e a =
    behind_follows c (item c 43 count_code (λ n. leb n most)) (item_met c 43 count_code (λ n. leb n most))
    (λ q r z. through (c.word count_code q) (λ k v w. walk c u v w) r z) (λ j l. in_turn (c.word count_code j.place) (λ k v. met c u v) l)
    (item_follows c 43 count_code (λ n. leb n most) one refl)
    (λ j. through_follows c (λ k v w. walk c u v w) (λ k v. met c u v) (λ k. walk_follows c one u) (c.word count_code j.place))
    h x K good rest e a
walk_follows c one broken h x K good rest e a = this tt

-- a walk from the start; where it ends, 41, then 45
module _ (c : Codec) (one : Counts c) (zero-first : c.leaves start ≡ 0) (n : ℕ) (t : List ℕ) (s : Sections) (i room : ℕ) where
  abbrev last : Reached
  last = (whole_of c t s i).end

  abbrev all : Answer
  all = Gave last.place.to

  abbrev ending : Place → List ℕ → Answer
  ending q y = went_to n room q (c.leaves q)

  answered-so : (st : Step) → answered c.leaves n room (answer st) ≡ came_to c ending st
  unfolding answered answer
  answered-so (on q y) = refl
  answered-so (stop k q y) = refl

  abbrev lastChecks : List (CheckOf Answer)
  lastChecks = Stopped 41 (spot_of last) when (last.place.from < n) ∷ Refused 45 when (room < last.place.to) ∷ []

  went : Alike c last → Refuses all lastChecks (went_to n room last.place (c.leaves last.place))
  unfolding went_to
  went e =
      rw e
      (by (λ r. r) all (ltb last.place.from n) (Stopped 41 (spot_of last)) (lt_decides last.place.from n)
      (by (λ r. r) all (ltb room last.place.to) (Refused 45) (lt_decides room last.place.to) none))

  type-in-order : Refuses all ((whole_of c t s i).checks ++ lastChecks) (answered_type c n t s i room)
  unfolding answered_type type_walk
  type-in-order =
      subst (Refuses all ((whole_of c t s i).checks ++ lastChecks)) (sym (answered-so (walk c (tree t s i) start [])))
      (walk_follows c one (tree t s i) at_start [] ending all lastChecks zero-first (λ y e. went e))

  -- 44
  known-in-order : Refuses all (walk_checks c n t s i room) (cond (is_type s i) (answered_type c n t s i room) (Refused 44))
  known-in-order = go (is_type s i) refl
    where
      go : (b : Bool) → is_type s i ≡ b → Refuses all (walk_checks c n t s i room) (cond b (answered_type c n t s i room) (Refused 44))
      go true e = next ((below_decides i s.types.count).no_is (ap not e)) type-in-order
      go false e = this ((below_decides i s.types.count).yes_is (ap not e))

  -- on sections
  sections_in_order : Refuses all (Refused 30 when (¬ (LieIn t s)) ∷ walk_checks c n t s i room) (answered_in c n t s i room)
  unfolding answered_in
  sections_in_order = go (within t s) refl
    where
      go : (b : Bool) → within t s ≡ b
          → Refuses all (Refused 30 when (¬ (LieIn t s)) ∷ walk_checks c n t s i room)
          (cond b (cond (is_type s i) (answered_type c n t s i room) (Refused 44)) (Refused 30))
      go true e = next (λ (f : ¬ (LieIn t s)). f ((lie_decides t s).yes_is e)) known-in-order
      go false e = this ((lie_decides t s).no_is e)

-- on bytes
bytes_in_order : (c : Codec) → Counts c → c.leaves start ≡ 0 → (n : ℕ) (t : List ℕ) (i room : ℕ)
    → AnswersBehind (refusing Refused (table_checks t)) c n t (sections_in t) i room (answered_if (checked t) c n t i room)
unfolding answered_if answered_in
bytes_in_order c one z n t i room =
    let f = λ (x : Result Sections Refusal). answered_if x c n t i room in
    then-as-each refused (Ok (sections_in t)) Refused (λ r. r) (all c one z n t (sections_in t) i room) f
    (table_made f Refused t refl refl refl refl) (table_in_order t)
    (λ e. rw (is_within t (sections_in t) (accepted t (sections_in t) e)) (known-in-order c one z n t (sections_in t) i room))

-- reading, a leaf is a word, and writing, a word is a leaf
read_counts : (b : List ℕ) → Counts (reader b)
unfolding reader
read_counts b code p = refl

read_none : (b : List ℕ) → (reader b).leaves start ≡ 0
unfolding reader
read_none b = refl

write_counts : (ws : List ℕ) → Counts (writer ws)
unfolding writer
write_counts ws code p = refl

write_none : (ws : List ℕ) → (writer ws).leaves start ≡ 0
unfolding writer
write_none ws = refl

pub payload_in_order : PayloadInOrder
payload_in_order =
    record {
      unpack = λ t i b room. bytes_in_order (reader b) (read_counts b) (read_none b) (length b) t i room;
      pack = λ t i ws room. bytes_in_order (writer ws) (write_counts ws) (write_none ws) (length ws) t i room;
      unpack-in = λ t s i b room. sections_in_order (reader b) (read_counts b) (read_none b) (length b) t s i room;
      pack-in = λ t s i ws room. sections_in_order (writer ws) (write_counts ws) (write_none ws) (length ws) t s i room;
    }
