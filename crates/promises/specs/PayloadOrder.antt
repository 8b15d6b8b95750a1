-- Demand 1, "a fixed order of checks", for payloads: "40, 42 and 43: the first met from the left. 44 comes before the walk, 41 after
-- it, 45 last. A call handed type-table bytes gives 30 to 33 for them before anything else." And 02, request 3: 40 to 43 with the
-- spot, which these lists count by themselves. The theorem is in proofs/PayloadOrder.antt.
use Prim.{Unit}
use Rattle.std.specs.Prelude.{ℕ, zero, suc, ◌+◌, ◌*◌, ◌≤◌, ◌<◌, ◌≡◌, Bool, false, ◌&&◌, List, [], ◌∷◌, ◌++◌, leb, length}
use Rattle.table.specs.declared.Section.{Section}
use Rattle.table.specs.declared.Sections.{Sections}
use Rattle.table.specs.Leaf.{allowed}
use Rattle.payload.specs.declared.Spot.{Spot}
use Rattle.payload.specs.declared.Answer.{Answer}
use Rattle.payload.specs.declared.Answer.TheVariants.{Refused, Stopped, Gave}
use Rattle.walk.specs.declared.Place.{Place}
use Rattle.walk.specs.Tree.{Tree, leaf, row, array, broken, tree}
use Rattle.walk.specs.Walk.{Codec}
use Rattle.unpack.specs.Reading.{reader}
use Rattle.pack.specs.Writing.{writer}
use Rattle.walk.specs.Walk.{start}
use Rattle.payload.specs.Calls.{unpacked_in, packed_in, unpacked, packed}
use Rattle.promises.specs.Checks.{CheckOf, ◌when◌, refusing, Answers}
use Rattle.promises.specs.TableOrder.{sections_in, table_checks}

-- the base code of an array's count on the wire: 32 bits
abbrev pub uint32 : ℕ
uint32 = 9

-- how far one has come in a payload, or in words: the place, and how many leaves come before it, counts of arrays among them
pub record Reached : Type 0 where
  pub place : Place
  pub leaves : ℕ

abbrev pub at_start : Reached
at_start = record { place = start; leaves = 0 }

-- 02, request 3: the byte, packing the word, at which an item begins, and the leaves completed before it
abbrev pub spot_of : Reached → Spot
spot_of h = record { at = h.place.from; leaves = h.leaves }

-- what is met in a part of a payload, from the left, and how far it goes
pub record Stretch : Type 1 where
  pub checks : List (CheckOf Answer)
  pub end : Reached

-- a leaf, or an array's count: the input ends before it (40), or its word is not allowed (n); it is one leaf more
abbrev pub item_met : Codec → ℕ → ℕ → (ℕ → Bool) → Reached → Stretch
item_met c n code ok h =
    record {
      checks =
          Stopped 40 (spot_of h) when (c.there code h.place ≡ false)
          ∷ Stopped n (spot_of h) when ((allowed code (c.word code h.place) && ok (c.word code h.place)) ≡ false)
          ∷ [];
      end = record { place = c.after code h.place; leaves = h.leaves + 1 };
    }

-- one part behind another, and n of them
abbrev pub behind : Stretch → (Reached → Stretch) → Stretch
behind s f = record { checks = s.checks ++ (f s.end).checks; end = (f s.end).end }

unfoldable pub in_turn : ℕ → (ℕ → Reached → Stretch) → Reached → Stretch
in_turn zero f h = record { checks = []; end = h }
in_turn (suc n) f h = behind (in_turn n f h) (f n)

-- a record's members and a fixed array's elements; an array's count (43 where it is over the maximum) and as many elements. An
-- entry that breaks a rule is 32 where it is met, which no accepted table has
unfoldable pub met : Codec → Tree → Reached → Stretch
met c (leaf code ok) h = item_met c 42 code ok h
met c (row n f) h = in_turn n (λ k j. met c (f k) j) h
met c (array most a) h =
    behind (item_met c 43 uint32 (λ n. leb n most) h) (λ j. in_turn (c.word uint32 h.place) (λ k l. met c a l) j)
met c broken h = record { checks = Refused 32 when Unit {0} ∷ []; end = h }

-- a whole value
abbrev pub whole_of : Codec → List ℕ → Sections → ℕ → Stretch
whole_of c t s i = met c (tree t s i) at_start

-- of a call over n bytes or words of input and with that much room: 41 has the spot behind the whole value
abbrev pub walk_checks : Codec → ℕ → List ℕ → Sections → ℕ → ℕ → List (CheckOf Answer)
walk_checks c n t s i room =
    Refused 44 when (s.types.count ≤ i)
    ∷ ((whole_of c t s i).checks
    ++ (Stopped 41 (spot_of (whole_of c t s i).end) when ((whole_of c t s i).end.place.from < n)
    ∷ Refused 45 when (room < (whole_of c t s i).end.place.to)
    ∷ []))

-- behind the checks of the table, or of its sections: the answer is the first refusal that applies, number and spot; and where none
-- does, how many words or bytes the whole value has
abbrev pub AnswersBehind : List (CheckOf Answer) → Codec → ℕ → List ℕ → Sections → ℕ → ℕ → Answer → Type 1
AnswersBehind before c n t s i room a = Answers (λ r. r) (Gave (whole_of c t s i).end.place.to) (before ++ walk_checks c n t s i room) a

-- sections that could be a table's of these bytes: each with no more entries than its limit, which lie in the bytes
abbrev pub LiesIn : ℕ → ℕ → List ℕ → Section → Type 0
LiesIn width most t x = (x.count ≤ most) × (x.at + width * x.count ≤ length t)

pub record LieIn (t : List ℕ) (s : Sections) : Type 0 where
  pub types : LiesIn 8 256 t s.types
  pub members : LiesIn 2 1024 t s.members
  pub values : LiesIn 8 1024 t s.values
  pub operations : LiesIn 8 1024 t s.operations

-- the calls handed table bytes, and those on sections: 30 where these do not lie in the bytes
pub record PayloadInOrder : Type 1 where
  pub unpack : (t : List ℕ) (i : ℕ) (b : List ℕ) (room : ℕ) →
      AnswersBehind (refusing Refused (table_checks t)) (reader b) (length b) t (sections_in t) i room (unpacked t i b room)
  pub pack : (t : List ℕ) (i : ℕ) (ws : List ℕ) (room : ℕ) →
      AnswersBehind (refusing Refused (table_checks t)) (writer ws) (length ws) t (sections_in t) i room (packed t i ws room)
  pub unpack-in : (t : List ℕ) (s : Sections) (i : ℕ) (b : List ℕ) (room : ℕ) →
      AnswersBehind (Refused 30 when (¬ (LieIn t s)) ∷ []) (reader b) (length b) t s i room (unpacked_in t s i b room)
  pub pack-in : (t : List ℕ) (s : Sections) (i : ℕ) (ws : List ℕ) (room : ℕ) →
      AnswersBehind (Refused 30 when (¬ (LieIn t s)) ∷ []) (writer ws) (length ws) t s i room (packed_in t s i ws room)
