-- 01, "Numbers given back", 40 to 45: what the calls answer, and what they leave; and where a walk stopped (02, request 3). 44 comes
-- before the walk, 41 after it and 45 last; a call handed table bytes gives 30 to 33 for them before anything else. On sections
-- (docs/DECISIONS.md, 20), 30 where they do not lie in the bytes, and 32 for an entry that the walk meets and that breaks a rule.
use Rattle.std.specs.Prelude.{ℕ, cond, List, [], ltb, eqb, length}
use Rattle.std.specs.Prelude.{Result, Ok, Err}
use Rattle.refusal.specs.declared.Refusal.{Refusal}
use Rattle.refusal.specs.Refusal.{number_of}
use Rattle.table.specs.declared.Sections.{Sections}
use Rattle.table.specs.Layout.{cut_short, within}
use Rattle.table.specs.Entries.{is_type}
use Rattle.types.specs.Table.{rule_broken, checked}
use Rattle.walk.specs.declared.Place.{Place}
use Rattle.walk.specs.declared.Walked.{Walked}
use Rattle.walk.specs.declared.Walked.TheVariants as walked
use Rattle.payload.specs.declared.Spot.{Spot}
use Rattle.payload.specs.declared.Answer.{Answer}
use Rattle.payload.specs.declared.Answer.TheVariants.{Refused, Stopped, Gave}
use Rattle.walk.specs.Tree.{Tree, tree}
use Rattle.walk.specs.Walk.{Codec, start, left_over, answer, left, walk, type_walk}
use Rattle.unpack.specs.Reading.{reader}
use Rattle.pack.specs.Writing.{writer}
use Rattle.refusal.specs.Refusal.{number_of}

abbrev pub no_such_type : ℕ
no_such_type = 44

abbrev pub output_too_short : ℕ
output_too_short = 45

-- 02, request 3: the byte, packing the word, at which an item begins, and the leaves before it, counts of arrays among them
abbrev pub spot : Place → ℕ → Spot
spot q l = record { at = q.from; leaves = l }

-- what a walk comes to that stopped at a place, and one that went there, over n bytes or words of input and with that much room; l
-- leaves come before the place
unfoldable pub stopped_at : ℕ → Place → ℕ → Answer
stopped_at k q l = cond (eqb k rule_broken) (Refused k) (Stopped k (spot q l))

unfoldable pub went_to : ℕ → ℕ → Place → ℕ → Answer
went_to n room q l =
    cond (ltb q.from n) (Stopped left_over (spot q l)) (cond (ltb room q.to) (Refused output_too_short) (Gave q.to))

-- what the end of a walk comes to, by how many leaves come before a place
unfoldable pub answered : (Place → ℕ) → ℕ → ℕ → Walked → Answer
answered leaves n room (walked.Stopped k q) = stopped_at k q (leaves q)
answered leaves n room (walked.Went q) = went_to n room q (leaves q)

-- what a walk over a tree comes to, and over a type. It is over no room: what it comes to does not depend on what it writes into
abbrev pub answered_tree : Codec → ℕ → Tree → ℕ → Answer
answered_tree c n tr room = answered c.leaves n room (answer (walk c tr start []))

unfoldable pub answered_type : Codec → ℕ → List ℕ → Sections → ℕ → ℕ → Answer
answered_type c n t s i room = answered_tree c n (tree t s i) room

unfoldable pub answered_in : Codec → ℕ → List ℕ → Sections → ℕ → ℕ → Answer
answered_in c n t s i room =
    cond (within t s) (cond (is_type s i) (answered_type c n t s i room) (Refused no_such_type)) (Refused cut_short)

-- by cases: the number that an answer gives back, 0 where all was given
abbrev pub number_given : Answer → ℕ
number_given (Refused k) = k
number_given (Stopped k s) = k
number_given (Gave k) = 0

-- what is left: what the walk writes where all of it is given, and as it was at a refusal
unfoldable pub left_over_by : {A : Type 0} → Answer → A → A → A
left_over_by (Refused k) before after = before
left_over_by (Stopped k s) before after = before
left_over_by (Gave k) before after = after

unfoldable pub left_over_in : Codec → ℕ → List ℕ → Sections → ℕ → List ℕ → List ℕ
left_over_in c n t s i x = left_over_by (answered_in c n t s i (length x)) x (left (type_walk c t s i start x))

-- the same, by what checking the table bytes answers
unfoldable pub answered_if : Result Sections Refusal → Codec → ℕ → List ℕ → ℕ → ℕ → Answer
answered_if (Err e) c n t i room = Refused (number_of e)
answered_if (Ok s) c n t i room = answered_in c n t s i room

unfoldable pub left_if : Result Sections Refusal → Codec → ℕ → List ℕ → ℕ → List ℕ → List ℕ
left_if (Err e) c n t i x = x
left_if (Ok s) c n t i x = left_over_in c n t s i x

-- the calls: a payload b unpacked into words, and words packed into bytes; on sections, and handed table bytes
abbrev pub unpacked_in : List ℕ → Sections → ℕ → List ℕ → ℕ → Answer
unpacked_in t s i b room = answered_in (reader b) (length b) t s i room

abbrev pub words_in : List ℕ → Sections → ℕ → List ℕ → List ℕ → List ℕ
words_in t s i b words = left_over_in (reader b) (length b) t s i words

abbrev pub packed_in : List ℕ → Sections → ℕ → List ℕ → ℕ → Answer
packed_in t s i ws room = answered_in (writer ws) (length ws) t s i room

abbrev pub bytes_in : List ℕ → Sections → ℕ → List ℕ → List ℕ → List ℕ
bytes_in t s i ws out = left_over_in (writer ws) (length ws) t s i out

abbrev pub unpacked : List ℕ → ℕ → List ℕ → ℕ → Answer
unpacked t i b room = answered_if (checked t) (reader b) (length b) t i room

abbrev pub words_after : List ℕ → ℕ → List ℕ → List ℕ → List ℕ
words_after t i b words = left_if (checked t) (reader b) (length b) t i words

abbrev pub packed : List ℕ → ℕ → List ℕ → ℕ → Answer
packed t i ws room = answered_if (checked t) (writer ws) (length ws) t i room

abbrev pub bytes_after : List ℕ → ℕ → List ℕ → List ℕ → List ℕ
bytes_after t i ws out = left_if (checked t) (writer ws) (length ws) t i out
