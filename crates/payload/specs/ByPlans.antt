-- 02, request 13: what the calls by plans answer, and what they leave. A type that has a plan is walked by it alone, whatever the
-- sections; any other as on sections, where its parts go by their plans.
use Rattle.std.specs.Prelude.{ℕ, cond, List, length}
use Rattle.table.specs.declared.Sections.{Sections}
use Rattle.table.specs.Layout.{cut_short, within}
use Rattle.table.specs.Entries.{is_type}
use Rattle.payload.specs.declared.Answer.{Answer}
use Rattle.payload.specs.declared.Answer.TheVariants.{Refused}
use Rattle.walk.specs.Tree.{Tree}
use Rattle.walk.specs.Walk.{Codec, start, left, walk}
use Rattle.walk.specs.Planned.{is_planned, plan_tree, type_by}
use Rattle.unpack.specs.Reading.{reader}
use Rattle.pack.specs.Writing.{writer}
use Rattle.payload.specs.Calls.{no_such_type, answered_tree, left_over_by}

-- on sections, what type i comes to that is this tree
abbrev pub answered_on : Codec → ℕ → List ℕ → Sections → ℕ → Tree → ℕ → Answer
answered_on c n t s i tr room =
    cond (within t s) (cond (is_type s i) (answered_tree c n tr room) (Refused no_such_type)) (Refused cut_short)

unfoldable pub answered_by : Codec → ℕ → List ℕ → List ℕ → Sections → ℕ → ℕ → Answer
answered_by c n ps t s i room =
    cond (is_planned ps i) (answered_tree c n (plan_tree t ps i) room) (answered_on c n t s i (type_by ps t s i) room)

-- the tree that is walked
unfoldable pub tree_for : List ℕ → List ℕ → Sections → ℕ → Tree
tree_for ps t s i = cond (is_planned ps i) (plan_tree t ps i) (type_by ps t s i)

unfoldable pub left_for : Codec → ℕ → List ℕ → List ℕ → Sections → ℕ → List ℕ → List ℕ
left_for c n ps t s i x = left_over_by (answered_by c n ps t s i (length x)) x (left (walk c (tree_for ps t s i) start x))

-- the calls: a payload b unpacked into words, and words packed into bytes
abbrev pub unpacked_by : List ℕ → List ℕ → Sections → ℕ → List ℕ → ℕ → Answer
unpacked_by ps t s i b room = answered_by (reader b) (length b) ps t s i room

abbrev pub words_by : List ℕ → List ℕ → Sections → ℕ → List ℕ → List ℕ → List ℕ
words_by ps t s i b words = left_for (reader b) (length b) ps t s i words

abbrev pub packed_by : List ℕ → List ℕ → Sections → ℕ → List ℕ → ℕ → Answer
packed_by ps t s i ws room = answered_by (writer ws) (length ws) ps t s i room

abbrev pub bytes_by : List ℕ → List ℕ → Sections → ℕ → List ℕ → List ℕ → List ℕ
bytes_by ps t s i ws out = left_for (writer ws) (length ws) ps t s i out
