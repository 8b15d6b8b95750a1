-- The reader of a record's members and the reader of an array's elements, which call each other. The measure is the type number
-- itself, which falls at each entry. In each loop, so many members or elements are read, and the walk is at this place.
-- Assumes nothing.
use Rattle.std.proofs.Common.{◌-◌}
use Rattle.walk.specs.Walk.{Going}
use Rattle.walk.proofs.Returns.{member_step, element_step}
use Rattle.unpack.specs.Reading.{reader, Reading}
use Rattle.unpack.proofs.walking.+read_elements_read_members.Given as goal

abbrev pub decreases-read_elements : goal.decreases-read_elements
decreases-read_elements l = l.i

abbrev pub decreases-read_members : goal.decreases-read_members
decreases-read_members l = l.i

abbrev pub invariant-read_elements-loop : goal.invariant-read_elements-loop
invariant-read_elements-loop l =
    Going (Reading l.payload) (element_step (reader l.payload) l.plans l.table l.s l.i l.child) l.count l.first l.initial.at l.initial.words
    l.counter l.at l.words

abbrev pub invariant-read_members-loop-k : goal.invariant-read_members-loop-k
invariant-read_members-loop-k l =
    Going (Reading l.payload) (member_step (reader l.payload) l.plans l.table l.s l.i l.e) l.e.count 0 l.initial.at l.initial.words l.k l.at l.words

abbrev pub decreases-read_members-loop-k : goal.decreases-read_members-loop-k
decreases-read_members-loop-k l = l.e.count - l.k
