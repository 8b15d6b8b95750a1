-- Demand 2 for payloads, over all types at once. Packing with enough room accepts exactly the values of a type and gives their
-- bytes; unpacking with enough room accepts exactly the byte forms of values and gives their words.
-- Assumes nothing.
use Prim.Native.Nat.{ℕ, ◌+◌, ◌-◌, ◌≤◌}
use mathlib.Core.Path.{◌≡◌, refl, sym, ap, subst, ◌∙◌}
use mathlib.Core.Bool.{Bool, true, false, cond}
use mathlib.Core.List.{List, [], ◌++◌, append-nil}
use native.Mathlib.Omega.{arith}
use borrow.Author.Tests.{ltb-false}
use lib.Dec.{ltb, eqb}
use lib.ListN.{length, drop, drop_of_length-le}
use Rattle.wire.specs.Bytes.{over, Octets}
use Rattle.wire.proofs.Cond.{no_lt}
use Rattle.table.specs.declared.Sections.{Sections}
use Rattle.table.specs.Leaf.{allowed}
use Rattle.table.specs.Layout.{within}
use Rattle.table.specs.Entries.{is_type}
use Rattle.walk.specs.declared.Place.{Place}
use Rattle.walk.specs.declared.Walked.{Walked}
use Rattle.walk.specs.declared.Walked.TheVariants as walked
use Rattle.payload.specs.declared.Answer.{Answer}
use Rattle.payload.specs.declared.Answer.TheVariants.{Refused, Stopped, Gave}
use Rattle.walk.specs.Tree.{tree}
use Rattle.walk.specs.Walk.{start, Step, on, answer, left, Codec, walk, type_walk}
use Rattle.unpack.specs.Reading.{reader}
use Rattle.pack.specs.Writing.{writer}
use Rattle.payload.specs.Calls.{spot, stopped_at, went_to, answered, answered_type, answered_in, left_over_by, left_over_in, unpacked_in, words_in, packed_in, bytes_in}
use Rattle.values.specs.Values.{Over, exact, loose, Value, Spoken}
use Rattle.walk.proofs.Walks.{went, walk_same}
use Rattle.values.proofs.Belonging.{Took, Goes, behind, Sound, Complete, walk-sound, walk-complete}
use Rattle.values.proofs.Carried.{over-flip}
use Rattle.values.proofs.Codecs.{write-sound, write-complete, read-sound, read-complete, heard}

-- a call that gives: its walk ended at the end of the input, and what it gives fits
record Ends (n room : ℕ) (w : Walked) (k : ℕ) : Type 0 where
  q : Place
  is : w ≡ walked.Went q
  all : n ≤ q.from
  room_is : q.to ≤ room
  gives : k ≡ q.to

ends : (l : Place → ℕ) (n room : ℕ) (w : Walked) (k : ℕ) → answered l n room w ≡ Gave k → Ends n room w k
unfolding answered stopped_at went_to
ends l n room (walked.Stopped m q) k h = absurd (go (eqb m 32) h)
  where
    go : (b : Bool) → cond b (Refused m) (Stopped m (spot q (l q))) ≡ Gave k → ⊥
    go true e = let z : ◌≡◌ {A = ℕ} 0 1 = cc in omega arith
    go false e = let z : ◌≡◌ {A = ℕ} 0 1 = cc in omega arith
ends l n room (walked.Went q) k h = go (ltb q.from n) (ltb room q.to) refl refl h
  where
    go : (a b : Bool) → ltb q.from n ≡ a → ltb room q.to ≡ b → cond a (Stopped 41 (spot q (l q))) (cond b (Refused 45) (Gave q.to))
        ≡ Gave k
        → Ends n room (walked.Went q) k
    go true b e g d = absurd (let z : ◌≡◌ {A = ℕ} 0 1 = cc in omega arith)
    go false true e g d = absurd (let z : ◌≡◌ {A = ℕ} 0 1 = cc in omega arith)
    go false false e g d = record { q = q; is = refl; all = ltb-false q.from n e; room_is = ltb-false room q.to g; gives = cc }

-- a call on sections that lie in the bytes, and for a type of the table
abbrev pub Callable : List ℕ → Sections → ℕ → Type 0
Callable t s i = (within t s ≡ true) × (is_type s i ≡ true)

in_call : (c : Codec) (n : ℕ) (t : List ℕ) (s : Sections) (i room : ℕ) → Callable t s i → answered_in c n t s i room ≡ answered_type c n t s i room
unfolding answered_in
in_call c n t s i room h = rw (h.0, h.1) refl

pub callable : (c : Codec) (n : ℕ) (t : List ℕ) (s : Sections) (i room k : ℕ) → answered_in c n t s i room ≡ Gave k → Callable t s i
unfolding answered_in
callable c n t s i room k h = go (within t s) (is_type s i) refl refl h
  where
    go : (a b : Bool) → within t s ≡ a → is_type s i ≡ b → cond a (cond b (answered_type c n t s i room) (Refused 44)) (Refused 30) ≡ Gave k
        → (within t s ≡ true) × (is_type s i ≡ true)
    go true true e g d = (e, g)
    go true false e g d = absurd (let z : ◌≡◌ {A = ℕ} 0 1 = cc in omega arith)
    go false b e g d = absurd (let z : ◌≡◌ {A = ℕ} 0 1 = cc in omega arith)

-- for any codec: what a call takes and gives belongs together, and the other way
pub record Calls (L : ℕ → ℕ → List ℕ → List ℕ → Type 0) (c : Codec) (t : List ℕ) (s : Sections) (i : ℕ) (input x : List ℕ) (k : ℕ) : Type 0 where
  pub ys : List ℕ
  pub belong : Over L (tree t s i) input ys
  pub as_many : k ≡ length ys
  pub fit : length ys ≤ length x
  pub given : left_over_in c (length input) t s i x ≡ over x 0 ys

whole_is : (input xs : List ℕ) (n : ℕ) → input ≡ xs ++ drop n input → length input ≤ n → input ≡ xs
whole_is input xs n h l = h ∙ ap (λ (u : List ℕ). xs ++ u) (drop_of_length-le input l) ∙ append-nil xs

module _ (c : Codec) (L : ℕ → ℕ → List ℕ → List ℕ → Type 0) (t : List ℕ) (s : Sections) (i : ℕ) (input x : List ℕ) where
  took-all : (k : ℕ) (q : Place) (y : List ℕ) → Took (λ us vs. Over L (tree t s i) us vs) input start q x y → length input ≤ q.from
      → q.to ≤ length x → k ≡ q.to → left_over_in c (length input) t s i x ≡ y → Calls L c t s i input x k
  took-all k q y m l f g d =
      let to : q.to ≡ 0 + length m.ys = m.to_there in
      record {
        ys = m.ys;
        belong = subst (λ (u : List ℕ). Over L (tree t s i) u m.ys) (sym (whole_is input m.xs q.from m.taken l)) m.belong;
        as_many = omega arith;
        fit = omega arith;
        given = d ∙ m.given f;
      }

  goes-there : (q : Place) → answer (walk c (tree t s i) start []) ≡ walked.Went q → walk c (tree t s i) start x ≡ on q (left (walk c (tree t s i) start x))
  goes-there q h = went (walk c (tree t s i) start x) q (sym h ∙ walk_same c (tree t s i) start [] x)

  left_there : (k : ℕ) → answered_in c (length input) t s i (length x) ≡ Gave k → left_over_in c (length input) t s i x ≡ left (walk c (tree t s i) start x)
  unfolding type_walk left_over_in left_over_by
  left_there k h = ap (λ (a : Answer). left_over_by a x (left (walk c (tree t s i) start x))) h

  ends_there : (k : ℕ) → answered_in c (length input) t s i (length x) ≡ Gave k → Ends (length input) (length x) (answer (walk c (tree t s i) start [])) k
  unfolding answered_type type_walk
  ends_there k h =
      ends c.leaves (length input) (length x) (answer (walk c (tree t s i) start [])) k
      (sym (in_call c (length input) t s i (length x) (callable c (length input) t s i (length x) k h)) ∙ h)

  call-sound : ((code : ℕ) (p : Place) → c.there code p ≡ true → allowed code (c.word code p) ≡ true
      → Sound c input L code (c.word code p) p) → (k : ℕ) → answered_in c (length input) t s i (length x) ≡ Gave k → Calls L c t s i input x k
  call-sound sound k h = go (ends_there k h)
    where
      go : Ends (length input) (length x) (answer (walk c (tree t s i) start [])) k → Calls L c t s i input x k
      go e =
          took-all k e.q (left (walk c (tree t s i) start x))
          (walk-sound c input L sound (tree t s i) start e.q x (left (walk c (tree t s i) start x)) (goes-there e.q e.is))
          e.all e.room_is e.gives (left_there k h)

  call-complete : ((code w : ℕ) (p : Place) (xs ys rest : List ℕ) → L code w xs ys → allowed code w ≡ true → drop p.from input ≡ xs
      ++ rest → Complete c code w p xs ys) → (ys : List ℕ) → Callable t s i → Over L (tree t s i) input ys → length ys ≤ length x
      → (answered_in c (length input) t s i (length x) ≡ Gave (length ys)) × (left_over_in c (length input) t s i x ≡ over x 0 ys)
  unfolding answered_type type_walk left_over_in left_over_by answered went_to answer left
  call-complete complete ys u o l =
      let z : Goes (walk c (tree t s i) start []) start [] input ys = walk-complete c input L complete (tree t s i) start [] input ys [] o
      (sym (append-nil input)) in
      let g : Goes (walk c (tree t s i) start x) start x input ys = walk-complete c input L complete (tree t s i) start x input ys [] o
      (sym (append-nil input)) in
      let q : Place = behind start input ys in
      let b : 0 + length ys ≡ length ys = omega arith in
      let ans : answered_in c (length input) t s i (length x) ≡ Gave (length ys) =
      in_call c (length input) t s i (length x) u
      ∙ ap (λ (st : Step). answered c.leaves (length input) (length x) (answer st)) z.goes
      ∙ no_lt (Stopped 41 (spot q (c.leaves q))) (cond (ltb (length x) q.to) (Refused 45) (Gave q.to)) q.from (length input) (omega arith)
      ∙ no_lt (Refused 45) (Gave q.to) (length x) q.to (omega arith)
      ∙ ap Gave b in
      (ans, ap (λ (a : Answer). left_over_by a x (left (walk c (tree t s i) start x))) ans ∙ ap left g.goes ∙ g.given (omega arith))

-- packing accepts exactly the values of a type, and gives their bytes
pub packs_values : (t : List ℕ) (s : Sections) (i : ℕ) (ws out : List ℕ) (k : ℕ) → packed_in t s i ws (length out) ≡ Gave k
    → Calls exact (writer ws) t s i ws out k
packs_values t s i ws out k h = call-sound (writer ws) exact t s i ws out (write-sound ws) k h

pub values_pack : (t : List ℕ) (s : Sections) (i : ℕ) (ws bs out : List ℕ) → Callable t s i → Value t s i ws bs → length bs ≤ length out
    → (packed_in t s i ws (length out) ≡ Gave (length bs)) × (bytes_in t s i ws out ≡ over out 0 bs)
unfolding Value
values_pack t s i ws bs out u v l = call-complete (writer ws) exact t s i ws out (write-complete ws) bs u v l

-- unpacking accepts exactly the byte forms of values, and gives their words
pub record Unpacks (t : List ℕ) (s : Sections) (i : ℕ) (b words : List ℕ) (k : ℕ) : Type 0 where
  pub ws : List ℕ
  pub belong : Spoken t s i ws b
  pub as_many : k ≡ length ws
  pub fit : length ws ≤ length words
  pub given : words_in t s i b words ≡ over words 0 ws

pub unpacks_forms : (t : List ℕ) (s : Sections) (i : ℕ) (b words : List ℕ) (k : ℕ) → Octets b → unpacked_in t s i b (length words) ≡ Gave k
    → Unpacks t s i b words k
unfolding Spoken
unpacks_forms t s i b words k o h =
    let m : Calls heard (reader b) t s i b words k = call-sound (reader b) heard t s i b words (read-sound b o) k h in
    record {
      ws = m.ys;
      belong = over-flip heard loose (λ code w xs ys d. d) (tree t s i) b m.ys m.belong;
      as_many = m.as_many;
      fit = m.fit;
      given = m.given;
    }

pub forms_unpack : (t : List ℕ) (s : Sections) (i : ℕ) (ws b words : List ℕ) → Callable t s i → Spoken t s i ws b → length ws ≤ length words
    → (unpacked_in t s i b (length words) ≡ Gave (length ws)) × (words_in t s i b words ≡ over words 0 ws)
unfolding Spoken
forms_unpack t s i ws b words u v l =
    call-complete (reader b) heard t s i b words (read-complete b) ws u (over-flip loose heard (λ code w xs ys d. d) (tree t s i) ws b v) l
