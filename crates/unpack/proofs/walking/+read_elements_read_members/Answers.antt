-- The reader of a record's members and the reader of an array's elements meet their contracts: whatever is met, the step is that
-- of the child, and the loop goes on from the place where it ends.
-- Assumes nothing.
use borrow.Author.Rules.{rules}
use mathlib.Core.Path.{refl}
use native.Mathlib.Omega.{arith}
use Rattle.unpack.specs.Reading.{reader}
use Rattle.walk.proofs.Trees.{members-smaller, elements-smaller}
use Rattle.walk.proofs.Returns.{Did, member_step, element_step, members-planned, elements-planned, elements-stopped}
use Rattle.walk.proofs.Turns.{begun_here, leaf-stepped, members-stepped, elements-stepped, broken-stepped}
use Rattle.walk.proofs.Turns.{going_on, going_next, members-done, members-stop, elements-done, elements-stop}
use Rattle.unpack.proofs.ReadReturns.{reader_keeps}
use Rattle.unpack.proofs.walking.+read_elements_read_members.Goals as goal
use Rattle.unpack.proofs.walking.+read_elements_read_members.Goals.{read_elements-in-Leaf, read_elements-in-Members, read_elements-in-Elements, read_elements-in-Broken}
use Rattle.unpack.proofs.walking.+read_elements_read_members.Goals.{read_members-in-Leaf, read_members-in-Members, read_members-in-Elements, read_members-in-Broken}

pub read_elements-returns-then-is_planned : goal.read_elements-returns-then-is_planned
read_elements-returns-then-is_planned t c =
    let d = elements-planned _ _ _ _ _ _ c.is_planned.ensures c.if-is_planned.true _ _ _ _
    (c.read_planned.ensures.value, c.read_planned.ensures.words_after) in record { value = d.0; words_after = d.1 }

pub read_elements-read_leaves-run-requires : goal.read_elements-read_leaves-run-requires
read_elements-read_leaves-run-requires t c =
    begun_here _ _ _ _ _ _ (reader_keeps _) c.requires (c.begin.ensures.value, c.begin.ensures.words_after) c.in-Went.is

pub read_elements-returns-then-first-count : goal.read_elements-returns-then-first-count
read_elements-returns-then-first-count t c =
    let d = elements-done _ _ _ _ _ _ c.is_planned.ensures c.if-is_planned.false _ _ _ (c.begin.ensures.value, c.begin.ensures.words_after) c.in-Went.is
    c.times-count.ensures c.read_leaves-run.ensures (omega (arith, c.if-first-count.true)) in record { value = d.0; words_after = d.1 }

pub read_elements-read_members-step-requires : goal.read_elements-read_members-step-requires
read_elements-read_members-step-requires t c =
    (members-smaller _ _ _ _ _ c.decreases _ _ c.meet-met.ensures c.in-Members.is, c.loop.invariant.here)

pub read_elements-read_elements-step-requires : goal.read_elements-read_elements-step-requires
read_elements-read_elements-step-requires t c =
    (elements-smaller _ _ _ _ _ c.decreases _ _ c.meet-met.ensures c.in-Elements.is, c.loop.invariant.here)

pub read_elements-loop-preserved : goal.read_elements-loop-preserved
read_elements-loop-preserved t c =
    let s : Did (element_step (reader c.args.payload.now) c.args.plans.now c.args.table.now c.args.s c.args.i c.args.e.of c.loop.counter c.loop.at
    c.loop.words) c.match-here.step c.match-here.words =
    elim c.match-here.branch [
      | read_elements-in-Leaf w ↦ leaf-stepped _ _ _ _ _ _ _ refl _ _ _ c.meet-met.ensures _ _ _ _ _ w.in-Leaf.is
          (w.read_leaf-step.ensures.value, w.read_leaf-step.ensures.words_after) w.words-is w.step-is
      | read_elements-in-Members w ↦ members-stepped _ _ _ _ _ _ _ refl _ _ _ c.meet-met.ensures _ _ _ _ _ w.in-Members.is
          (w.read_members-step.ensures.value, w.read_members-step.ensures.words_after) w.words-is w.step-is
      | read_elements-in-Elements w ↦ elements-stepped _ _ _ _ _ _ _ refl _ _ _ c.meet-met.ensures _ _ _ _ _ w.in-Elements.is
          (w.read_elements-step.ensures.value, w.read_elements-step.ensures.words_after) w.words-is w.step-is
      | read_elements-in-Broken w ↦ broken-stepped _ _ _ _ _ _ _ refl _ _ _ c.meet-met.ensures _ _ w.in-Broken.is w.words-is w.step-is
    ] in
    let g = c.loop.invariant in
    going_next g _ _ _ ((reader_keeps _).walks _ _ _ g.here) c.loop-test.true s c.in-Went-step.is

pub read_elements-returns-in-Stopped-step : goal.read_elements-returns-in-Stopped-step
read_elements-returns-in-Stopped-step t c =
    let s : Did (element_step (reader c.args.payload.now) c.args.plans.now c.args.table.now c.args.s c.args.i c.args.e.of c.loop.counter c.loop.at
    c.loop.words) c.match-here.step c.match-here.words =
    elim c.match-here.branch [
      | read_elements-in-Leaf w ↦ leaf-stepped _ _ _ _ _ _ _ refl _ _ _ c.meet-met.ensures _ _ _ _ _ w.in-Leaf.is
          (w.read_leaf-step.ensures.value, w.read_leaf-step.ensures.words_after) w.words-is w.step-is
      | read_elements-in-Members w ↦ members-stepped _ _ _ _ _ _ _ refl _ _ _ c.meet-met.ensures _ _ _ _ _ w.in-Members.is
          (w.read_members-step.ensures.value, w.read_members-step.ensures.words_after) w.words-is w.step-is
      | read_elements-in-Elements w ↦ elements-stepped _ _ _ _ _ _ _ refl _ _ _ c.meet-met.ensures _ _ _ _ _ w.in-Elements.is
          (w.read_elements-step.ensures.value, w.read_elements-step.ensures.words_after) w.words-is w.step-is
      | read_elements-in-Broken w ↦ broken-stepped _ _ _ _ _ _ _ refl _ _ _ c.meet-met.ensures _ _ w.in-Broken.is w.words-is w.step-is
    ] in
    let d = elements-stop _ _ _ _ _ _ c.is_planned.ensures c.if-is_planned.false _ _ _ (c.begin.ensures.value, c.begin.ensures.words_after) c.in-Went.is
    c.times-count.ensures
    (going_on c.read_leaves-run.ensures c.loop.invariant) _ _ _ _ c.loop-test.true s c.in-Stopped-step.is in record { value = d.0; words_after = d.1 }

pub read_elements-returns-in-Stopped : goal.read_elements-returns-in-Stopped
read_elements-returns-in-Stopped t c =
    let d = elements-stopped _ _ _ _ _ _ c.is_planned.ensures c.if-is_planned.false _ _ _ _
    (c.begin.ensures.value, c.begin.ensures.words_after) _ _ c.in-Stopped.is in record { value = d.0; words_after = d.1 }

pub read_elements-returns-after-loop : goal.read_elements-returns-after-loop
read_elements-returns-after-loop t c =
    let d = elements-done _ _ _ _ _ _ c.is_planned.ensures c.if-is_planned.false _ _ _ (c.begin.ensures.value, c.begin.ensures.words_after) c.in-Went.is
    c.times-count.ensures
    (going_on c.read_leaves-run.ensures c.loop.invariant) c.loop-test.false in record { value = d.0; words_after = d.1 }

pub read_members-returns-then-is_planned : goal.read_members-returns-then-is_planned
read_members-returns-then-is_planned t c =
    let d = members-planned _ _ _ _ _ _ c.is_planned.ensures c.if-is_planned.true _ _ _ _
    (c.read_planned.ensures.value, c.read_planned.ensures.words_after) in record { value = d.0; words_after = d.1 }

pub read_members-returns-then-next-count : goal.read_members-returns-then-next-count
read_members-returns-then-next-count t c =
    let d = members-done _ _ _ _ _ _ c.is_planned.ensures c.if-is_planned.false
    (going_on c.loop-k.invariant (c.read_bases-run.ensures c.args.plans.now)) (omega (arith, c.if-next-count.true)) in record { value = d.0; words_after = d.1 }

pub read_members-overflow_add-e : goal.read_members-overflow_add-e
read_members-overflow_add-e t c =
    let g = c.read_bases-run.ensures c.args.plans.now in search rules

pub read_members-read_leaf-step-requires : goal.read_members-read_leaf-step-requires
read_members-read_leaf-step-requires t c =
    (c.read_bases-run.ensures c.args.plans.now).here

pub read_members-read_members-step-requires : goal.read_members-read_members-step-requires
read_members-read_members-step-requires t c =
    (members-smaller _ _ _ _ _ c.decreases _ _ c.meet.ensures c.in-Members.is, (c.read_bases-run.ensures c.args.plans.now).here)

pub read_members-read_elements-step-requires : goal.read_members-read_elements-step-requires
read_members-read_elements-step-requires t c =
    (elements-smaller _ _ _ _ _ c.decreases _ _ c.meet.ensures c.in-Elements.is, (c.read_bases-run.ensures c.args.plans.now).here)

pub read_members-overflow_add-k : goal.read_members-overflow_add-k
read_members-overflow_add-k t c =
    let g = c.read_bases-run.ensures c.args.plans.now in search rules

pub read_members-loop-k-smaller : goal.read_members-loop-k-smaller
read_members-loop-k-smaller t c =
    let g = c.read_bases-run.ensures c.args.plans.now in search rules

pub read_members-loop-k-preserved : goal.read_members-loop-k-preserved
read_members-loop-k-preserved t c =
    let s : Did (member_step (reader c.args.payload.now) c.args.plans.now c.args.table.now c.args.s c.args.i c.args.e c.read_bases-run.result.upto
    c.read_bases-run.result.at c.read_bases-run.new.words) c.match-meet.step c.match-meet.words =
    elim c.match-meet.branch [
      | read_members-in-Leaf w ↦ leaf-stepped _ _ _ _ _ _ _ c.member_at-child.ensures _ _ _ c.meet.ensures _ _ _ _ _ w.in-Leaf.is
          (w.read_leaf-step.ensures.value, w.read_leaf-step.ensures.words_after) w.words-is w.step-is
      | read_members-in-Members w ↦ members-stepped _ _ _ _ _ _ _ c.member_at-child.ensures _ _ _ c.meet.ensures _ _ _ _ _ w.in-Members.is
          (w.read_members-step.ensures.value, w.read_members-step.ensures.words_after) w.words-is w.step-is
      | read_members-in-Elements w ↦ elements-stepped _ _ _ _ _ _ _ c.member_at-child.ensures _ _ _ c.meet.ensures _ _ _ _ _ w.in-Elements.is
          (w.read_elements-step.ensures.value, w.read_elements-step.ensures.words_after) w.words-is w.step-is
      | read_members-in-Broken w ↦ broken-stepped _ _ _ _ _ _ _ c.member_at-child.ensures _ _ _ c.meet.ensures _ _ w.in-Broken.is w.words-is w.step-is
    ] in
    let g = going_on c.loop-k.invariant (c.read_bases-run.ensures c.args.plans.now) in
    going_next g _ _ _ ((reader_keeps _).walks _ _ _ g.here) (search rules) s c.in-Went.is

pub read_members-returns-in-Stopped : goal.read_members-returns-in-Stopped
read_members-returns-in-Stopped t c =
    let s : Did (member_step (reader c.args.payload.now) c.args.plans.now c.args.table.now c.args.s c.args.i c.args.e c.read_bases-run.result.upto
    c.read_bases-run.result.at c.read_bases-run.new.words) c.match-meet.step c.match-meet.words =
    elim c.match-meet.branch [
      | read_members-in-Leaf w ↦ leaf-stepped _ _ _ _ _ _ _ c.member_at-child.ensures _ _ _ c.meet.ensures _ _ _ _ _ w.in-Leaf.is
          (w.read_leaf-step.ensures.value, w.read_leaf-step.ensures.words_after) w.words-is w.step-is
      | read_members-in-Members w ↦ members-stepped _ _ _ _ _ _ _ c.member_at-child.ensures _ _ _ c.meet.ensures _ _ _ _ _ w.in-Members.is
          (w.read_members-step.ensures.value, w.read_members-step.ensures.words_after) w.words-is w.step-is
      | read_members-in-Elements w ↦ elements-stepped _ _ _ _ _ _ _ c.member_at-child.ensures _ _ _ c.meet.ensures _ _ _ _ _ w.in-Elements.is
          (w.read_elements-step.ensures.value, w.read_elements-step.ensures.words_after) w.words-is w.step-is
      | read_members-in-Broken w ↦ broken-stepped _ _ _ _ _ _ _ c.member_at-child.ensures _ _ _ c.meet.ensures _ _ w.in-Broken.is w.words-is w.step-is
    ] in
    let g = going_on c.loop-k.invariant (c.read_bases-run.ensures c.args.plans.now) in
    let d = members-stop _ _ _ _ _ _ c.is_planned.ensures c.if-is_planned.false g _ _ _ _ (search rules) s c.in-Stopped.is in record
    { value = d.0; words_after = d.1 }

pub read_members-returns : goal.read_members-returns
read_members-returns t c =
    let d = members-done _ _ _ _ _ _ c.is_planned.ensures c.if-is_planned.false c.loop-k.invariant c.loop-k-test.false in record
    { value = d.0; words_after = d.1 }
