-- The writer of a record's members and the writer of an array's elements: the measure is the type number itself, which falls at each entry.
-- Their loops: so many members, or elements, are written, and the walk is at this place.
-- Assumes nothing.
use Prim.Native.Nat.{◌-◌}
use Rattle.walk.specs.Walk.{Going}
use Rattle.pack.specs.Writing.{writer, Writing}
use Rattle.walk.proofs.Returns.{member_step, element_step}
use Rattle.pack.proofs.walking.+write_elements_write_members.Given as goal

abbrev pub decreases-write_elements : goal.decreases-write_elements
decreases-write_elements l = l.i

abbrev pub decreases-write_members : goal.decreases-write_members
decreases-write_members l = l.i

abbrev pub invariant-write_elements-loop : goal.invariant-write_elements-loop
invariant-write_elements-loop l =
    Going (Writing l.words) (element_step (writer l.words) l.plans l.table l.s l.i l.child)
    l.count l.initial.counter l.initial.at l.initial.out l.counter l.at l.out

abbrev pub invariant-write_members-loop-k : goal.invariant-write_members-loop-k
invariant-write_members-loop-k l =
    Going (Writing l.words) (member_step (writer l.words) l.plans l.table l.s l.i l.e) l.e.count 0 l.initial.at l.initial.out l.k l.at l.out

abbrev pub decreases-write_members-loop-k : goal.decreases-write_members-loop-k
decreases-write_members-loop-k l = l.e.count - l.k
