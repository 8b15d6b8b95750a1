-- The writer of a record's members and the writer of an array's elements meet their contracts: each by what it meets, where a type
-- has no plan.
-- Assumes nothing.
use Prim.Native.Nat.{◌<◌}
use mathlib.Core.Path.{refl}
use native.Mathlib.Omega.{arith}
use borrow.Author.Rules.{rules}
use lib.ListN.{length}
use Rattle.walk.specs.Walk.{through, begun}
use Rattle.pack.specs.Writing.{writer}
use Rattle.walk.proofs.Trees.{members-smaller, elements-smaller}
use Rattle.walk.proofs.Returns.{Did, member_step, element_step, members-planned, elements-planned, elements-stopped}
use Rattle.walk.proofs.Turns.{begun_here, times_few, leaf-stepped, members-stepped, elements-stepped, broken-stepped}
use Rattle.walk.proofs.Turns.{going_start, going_on, going_next, members-done, members-stop, elements-done, elements-stop}
use Rattle.pack.proofs.WriteReturns.{writer_keeps}
use Rattle.pack.proofs.WriteBases.{element_writes}
use Rattle.pack.proofs.AlikeLeaves.{leaf_written, element_met}
use Rattle.pack.proofs.Sure.{Goes_on, going_sure, members-sure, elements-sure, sure-leaf, sure-members, sure-elements}
use Rattle.pack.proofs.SureLeaves.{run_sure, going_leaves, going_codes}
use Rattle.pack.proofs.walking.+write_elements_write_members.Goals.{write_elements-in-Leaf, write_elements-in-Members}
use Rattle.pack.proofs.walking.+write_elements_write_members.Goals.{write_elements-in-Elements, write_elements-in-Broken}
use Rattle.pack.proofs.walking.+write_elements_write_members.Goals.{write_members-in-Leaf, write_members-in-Members}
use Rattle.pack.proofs.walking.+write_elements_write_members.Goals.{write_members-in-Elements, write_members-in-Broken}
use Rattle.pack.proofs.walking.+write_elements_write_members.Goals as goal

pub write_elements-returns-then-is_planned : goal.write_elements-returns-then-is_planned
write_elements-returns-then-is_planned t c =
    let start = c.args in
    let did = elements-planned _ _ _ _ _ start.e c.is_planned.ensures c.if-is_planned.true _ _ _ _
    (c.write_planned.ensures.value, c.write_planned.ensures.out_after) in
    record { value = did.0; out_after = did.1 }

pub write_elements-times-count-requires : goal.write_elements-times-count-requires
write_elements-times-count-requires t c =
    times_few _ _ _ _ _ _ _ (c.begin.ensures.value, c.begin.ensures.out_after) c.in-Went.is

pub write_elements-write_run-run-requires : goal.write_elements-write_run-run-requires
write_elements-write_run-run-requires t c =
    let start = c.args in
    let begun : Did (begun (writer start.words.now) start.e start.p start.out.now) c.begin.result c.begin.new.out =
    (c.begin.ensures.value, c.begin.ensures.out_after) in
    let whole : 0 < length c.begin.new.out → Goes_on
    (through c.times-count.result (element_step (writer start.words.now) start.plans.now start.table.now start.s start.i start.e.of) c.in-Went.q
    c.begin.new.out) =
    λ r. elements-sure _ _ _ _ _ _ c.is_planned.ensures c.if-is_planned.false _ _ _ _ begun _ _ c.in-Went.is c.times-count.ensures
    (c.requires.1 (omega (arith, c.begin.auto.out))) in (
      begun_here _ _ _ _ _ _ (writer_keeps _) c.requires.0 begun c.in-Went.is,
      λ h base. run_sure _ _ _ _ _ _ _ c.base_at-code.ensures base _ _ _ (whole h),
    )

pub write_elements-returns-then-next-count : goal.write_elements-returns-then-next-count
write_elements-returns-then-next-count t c =
    let start = c.args in
    let begun : Did (begun (writer start.words.now) start.e start.p start.out.now) c.begin.result c.begin.new.out =
    (c.begin.ensures.value, c.begin.ensures.out_after) in
    let run = c.write_run-run.ensures _ (element_writes _ start.plans.now _ _ _ _ _ c.base_at-code.ensures) in
    let did = elements-done _ _ _ _ _ _ c.is_planned.ensures c.if-is_planned.false _ _ _ begun c.in-Went.is c.times-count.ensures
    run (omega (arith, c.if-next-count.true)) in
    record { value = did.0; out_after = did.1 }

pub write_elements-write_met-rest-requires : goal.write_elements-write_met-rest-requires
write_elements-write_met-rest-requires t c =
    let start = c.args in
    let begun : Did (begun (writer start.words.now) start.e start.p start.out.now) c.begin.result c.begin.new.out =
    (c.begin.ensures.value, c.begin.ensures.out_after) in
    let whole : 0 < length c.begin.new.out → Goes_on
    (through c.times-count.result (element_step (writer start.words.now) start.plans.now start.table.now start.s start.i start.e.of) c.in-Went.q
    c.begin.new.out) =
    λ r. elements-sure _ _ _ _ _ _ c.is_planned.ensures c.if-is_planned.false _ _ _ _ begun _ _ c.in-Went.is c.times-count.ensures
    (c.requires.1 (omega (arith, c.begin.auto.out))) in
    let run = c.write_run-run.ensures _ (element_writes _ start.plans.now _ _ _ _ _ c.base_at-code.ensures) in (
      run.here,
      run.most,
      λ h e is. going_leaves _ _ _ e run whole (leaf_written _ _ _ e _ ((element_met start.plans.now _ _ _ _ _ c.meet-met.ensures).of_leaf e is)) h,
    )

pub write_elements-loop-init : goal.write_elements-loop-init
write_elements-loop-init t c =
    let start = c.args in
    let met = c.write_met-rest.ensures _ (element_met start.plans.now _ _ _ _ _ c.meet-met.ensures) in
    going_start met.most met.here

pub write_elements-write_leaf-step-requires : goal.write_elements-write_leaf-step-requires
write_elements-write_leaf-step-requires t c =
    let start = c.args in
    let begun : Did (begun (writer start.words.now) start.e start.p start.out.now) c.begin.result c.begin.new.out =
    (c.begin.ensures.value, c.begin.ensures.out_after) in
    let whole : 0 < length c.begin.new.out → Goes_on
    (through c.times-count.result (element_step (writer start.words.now) start.plans.now start.table.now start.s start.i start.e.of) c.in-Went.q
    c.begin.new.out) =
    λ r. elements-sure _ _ _ _ _ _ c.is_planned.ensures c.if-is_planned.false _ _ _ _ begun _ _ c.in-Went.is c.times-count.ensures
    (c.requires.1 (omega (arith, c.begin.auto.out))) in
    let run = c.write_run-run.ensures _ (element_writes _ start.plans.now _ _ _ _ _ c.base_at-code.ensures) in
    let met = c.write_met-rest.ensures _ (element_met start.plans.now _ _ _ _ _ c.meet-met.ensures) in
    let so_far = going_on run (going_on met c.loop.invariant) in (
      c.loop.invariant.here,
      λ h. sure-leaf _ _ _ _ _ _ _ refl _ _ _ c.meet-met.ensures _ (going_sure so_far whole c.loop-test.true h) c.in-Leaf.is,
    )

pub write_elements-write_members-step-requires : goal.write_elements-write_members-step-requires
write_elements-write_members-step-requires t c =
    let start = c.args in
    let begun : Did (begun (writer start.words.now) start.e start.p start.out.now) c.begin.result c.begin.new.out =
    (c.begin.ensures.value, c.begin.ensures.out_after) in
    let whole : 0 < length c.begin.new.out → Goes_on
    (through c.times-count.result (element_step (writer start.words.now) start.plans.now start.table.now start.s start.i start.e.of) c.in-Went.q
    c.begin.new.out) =
    λ r. elements-sure _ _ _ _ _ _ c.is_planned.ensures c.if-is_planned.false _ _ _ _ begun _ _ c.in-Went.is c.times-count.ensures
    (c.requires.1 (omega (arith, c.begin.auto.out))) in
    let run = c.write_run-run.ensures _ (element_writes _ start.plans.now _ _ _ _ _ c.base_at-code.ensures) in
    let met = c.write_met-rest.ensures _ (element_met start.plans.now _ _ _ _ _ c.meet-met.ensures) in
    let so_far = going_on run (going_on met c.loop.invariant) in (
      members-smaller _ _ _ _ _ c.decreases _ _ c.meet-met.ensures c.in-Members.is,
      (
        c.loop.invariant.here,
        λ h. sure-members _ _ _ _ _ _ _ refl _ _ _ c.meet-met.ensures _ (going_sure so_far whole c.loop-test.true h) c.in-Members.is,
      ),
    )

pub write_elements-write_elements-step-requires : goal.write_elements-write_elements-step-requires
write_elements-write_elements-step-requires t c =
    let start = c.args in
    let begun : Did (begun (writer start.words.now) start.e start.p start.out.now) c.begin.result c.begin.new.out =
    (c.begin.ensures.value, c.begin.ensures.out_after) in
    let whole : 0 < length c.begin.new.out → Goes_on
    (through c.times-count.result (element_step (writer start.words.now) start.plans.now start.table.now start.s start.i start.e.of) c.in-Went.q
    c.begin.new.out) =
    λ r. elements-sure _ _ _ _ _ _ c.is_planned.ensures c.if-is_planned.false _ _ _ _ begun _ _ c.in-Went.is c.times-count.ensures
    (c.requires.1 (omega (arith, c.begin.auto.out))) in
    let run = c.write_run-run.ensures _ (element_writes _ start.plans.now _ _ _ _ _ c.base_at-code.ensures) in
    let met = c.write_met-rest.ensures _ (element_met start.plans.now _ _ _ _ _ c.meet-met.ensures) in
    let so_far = going_on run (going_on met c.loop.invariant) in (
      elements-smaller _ _ _ _ _ c.decreases _ _ c.meet-met.ensures c.in-Elements.is,
      (
        c.loop.invariant.here,
        λ h. sure-elements _ _ _ _ _ _ _ refl _ _ _ c.meet-met.ensures _ (going_sure so_far whole c.loop-test.true h) c.in-Elements.is,
      ),
    )

pub write_elements-loop-preserved : goal.write_elements-loop-preserved
write_elements-loop-preserved t c =
    let start = c.args in
    let stepped : Did (element_step (writer start.words.now) start.plans.now start.table.now start.s start.i start.e.of c.loop.counter c.loop.at
    c.loop.out) c.match-here.step c.match-here.out =
    elim c.match-here.branch [
      | write_elements-in-Leaf w ↦ leaf-stepped _ _ _ _ _ _ _ refl _ _ _ c.meet-met.ensures _ _ _ _ _ w.in-Leaf.is
          (w.write_leaf-step.ensures.value, w.write_leaf-step.ensures.out_after) w.out-is w.step-is
      | write_elements-in-Members w ↦ members-stepped _ _ _ _ _ _ _ refl _ _ _ c.meet-met.ensures _ _ _ _ _ w.in-Members.is
          (w.write_members-step.ensures.value, w.write_members-step.ensures.out_after) w.out-is w.step-is
      | write_elements-in-Elements w ↦ elements-stepped _ _ _ _ _ _ _ refl _ _ _ c.meet-met.ensures _ _ _ _ _ w.in-Elements.is
          (w.write_elements-step.ensures.value, w.write_elements-step.ensures.out_after) w.out-is w.step-is
      | write_elements-in-Broken w ↦ broken-stepped _ _ _ _ _ _ _ refl _ _ _ c.meet-met.ensures _ _ w.in-Broken.is w.out-is w.step-is
    ] in
    let g = c.loop.invariant in
    going_next g _ _ _ ((writer_keeps _).walks _ _ _ g.here) c.loop-test.true stepped c.in-Went-step.is

pub write_elements-returns-in-Stopped-step : goal.write_elements-returns-in-Stopped-step
write_elements-returns-in-Stopped-step t c =
    let start = c.args in
    let begun : Did (begun (writer start.words.now) start.e start.p start.out.now) c.begin.result c.begin.new.out =
    (c.begin.ensures.value, c.begin.ensures.out_after) in
    let run = c.write_run-run.ensures _ (element_writes _ start.plans.now _ _ _ _ _ c.base_at-code.ensures) in
    let met = c.write_met-rest.ensures _ (element_met start.plans.now _ _ _ _ _ c.meet-met.ensures) in
    let so_far = going_on run (going_on met c.loop.invariant) in
    let stepped : Did (element_step (writer start.words.now) start.plans.now start.table.now start.s start.i start.e.of c.loop.counter c.loop.at
    c.loop.out) c.match-here.step c.match-here.out =
    elim c.match-here.branch [
      | write_elements-in-Leaf w ↦ leaf-stepped _ _ _ _ _ _ _ refl _ _ _ c.meet-met.ensures _ _ _ _ _ w.in-Leaf.is
          (w.write_leaf-step.ensures.value, w.write_leaf-step.ensures.out_after) w.out-is w.step-is
      | write_elements-in-Members w ↦ members-stepped _ _ _ _ _ _ _ refl _ _ _ c.meet-met.ensures _ _ _ _ _ w.in-Members.is
          (w.write_members-step.ensures.value, w.write_members-step.ensures.out_after) w.out-is w.step-is
      | write_elements-in-Elements w ↦ elements-stepped _ _ _ _ _ _ _ refl _ _ _ c.meet-met.ensures _ _ _ _ _ w.in-Elements.is
          (w.write_elements-step.ensures.value, w.write_elements-step.ensures.out_after) w.out-is w.step-is
      | write_elements-in-Broken w ↦ broken-stepped _ _ _ _ _ _ _ refl _ _ _ c.meet-met.ensures _ _ w.in-Broken.is w.out-is w.step-is
    ] in
    let did = elements-stop _ _ _ _ _ _ c.is_planned.ensures c.if-is_planned.false _ _ _ begun c.in-Went.is c.times-count.ensures
    so_far _ _ _ _ c.loop-test.true stepped c.in-Stopped-step.is in
    record { value = did.0; out_after = did.1 }

pub write_elements-returns-in-Stopped : goal.write_elements-returns-in-Stopped
write_elements-returns-in-Stopped t c =
    let start = c.args in
    let begun : Did (begun (writer start.words.now) start.e start.p start.out.now) c.begin.result c.begin.new.out =
    (c.begin.ensures.value, c.begin.ensures.out_after) in
    let did = elements-stopped _ _ _ _ _ _ c.is_planned.ensures c.if-is_planned.false _ _ _ _ begun _ _ c.in-Stopped.is in
    record { value = did.0; out_after = did.1 }

pub write_elements-returns-after-loop : goal.write_elements-returns-after-loop
write_elements-returns-after-loop t c =
    let start = c.args in
    let begun : Did (begun (writer start.words.now) start.e start.p start.out.now) c.begin.result c.begin.new.out =
    (c.begin.ensures.value, c.begin.ensures.out_after) in
    let run = c.write_run-run.ensures _ (element_writes _ start.plans.now _ _ _ _ _ c.base_at-code.ensures) in
    let met = c.write_met-rest.ensures _ (element_met start.plans.now _ _ _ _ _ c.meet-met.ensures) in
    let so_far = going_on run (going_on met c.loop.invariant) in
    let did = elements-done _ _ _ _ _ _ c.is_planned.ensures c.if-is_planned.false _ _ _ begun c.in-Went.is c.times-count.ensures
    so_far c.loop-test.false in
    record { value = did.0; out_after = did.1 }

pub write_members-returns-then-is_planned : goal.write_members-returns-then-is_planned
write_members-returns-then-is_planned t c =
    let start = c.args in
    let did = members-planned _ _ _ _ _ start.e c.is_planned.ensures c.if-is_planned.true _ _ _ _
    (c.write_planned.ensures.value, c.write_planned.ensures.out_after) in
    record { value = did.0; out_after = did.1 }

pub write_members-write_bases-run-requires : goal.write_members-write_bases-run-requires
write_members-write_bases-run-requires t c =
    let start = c.args in
    let whole : 0 < length start.out.now → Goes_on
    (through start.e.count (member_step (writer start.words.now) start.plans.now start.table.now start.s start.i start.e) start.p start.out.now) =
    λ r. members-sure _ _ _ _ _ _ c.is_planned.ensures c.if-is_planned.false _ _ (c.requires.1 r) in
    let g = c.loop-k.invariant in
    (g.here, g.most, λ h. going_codes _ start.plans.now _ _ _ _ g whole h)

pub write_members-returns-then-next-count : goal.write_members-returns-then-next-count
write_members-returns-then-next-count t c =
    let start = c.args in
    let so_far = going_on c.loop-k.invariant (c.write_bases-run.ensures start.plans.now) in
    let did = members-done _ _ _ _ _ _ c.is_planned.ensures c.if-is_planned.false so_far (omega (arith, c.if-next-count.true)) in
    record { value = did.0; out_after = did.1 }

pub write_members-overflow_add-e : goal.write_members-overflow_add-e
write_members-overflow_add-e t c =
    let start = c.args in
    let so_far = going_on c.loop-k.invariant (c.write_bases-run.ensures start.plans.now) in
    record { fits = omega (arith, so_far.most) }

pub write_members-write_leaf-step-requires : goal.write_members-write_leaf-step-requires
write_members-write_leaf-step-requires t c =
    let start = c.args in
    let whole : 0 < length start.out.now → Goes_on
    (through start.e.count (member_step (writer start.words.now) start.plans.now start.table.now start.s start.i start.e) start.p start.out.now) =
    λ r. members-sure _ _ _ _ _ _ c.is_planned.ensures c.if-is_planned.false _ _ (c.requires.1 r) in
    let so_far = going_on c.loop-k.invariant (c.write_bases-run.ensures start.plans.now) in (
      so_far.here,
      λ h. sure-leaf _ _ _ _ _ _ _ c.member_at-child.ensures _ _ _ c.meet.ensures _
          (going_sure so_far whole (omega (arith, so_far.most, c.if-next-count.false)) h) c.in-Leaf.is,
    )

pub write_members-write_members-step-requires : goal.write_members-write_members-step-requires
write_members-write_members-step-requires t c =
    let start = c.args in
    let whole : 0 < length start.out.now → Goes_on
    (through start.e.count (member_step (writer start.words.now) start.plans.now start.table.now start.s start.i start.e) start.p start.out.now) =
    λ r. members-sure _ _ _ _ _ _ c.is_planned.ensures c.if-is_planned.false _ _ (c.requires.1 r) in
    let so_far = going_on c.loop-k.invariant (c.write_bases-run.ensures start.plans.now) in (
      members-smaller _ _ _ _ _ c.decreases _ _ c.meet.ensures c.in-Members.is,
      (
        so_far.here,
        λ h. sure-members _ _ _ _ _ _ _ c.member_at-child.ensures _ _ _ c.meet.ensures _
            (going_sure so_far whole (omega (arith, so_far.most, c.if-next-count.false)) h) c.in-Members.is,
      ),
    )

pub write_members-write_elements-step-requires : goal.write_members-write_elements-step-requires
write_members-write_elements-step-requires t c =
    let start = c.args in
    let whole : 0 < length start.out.now → Goes_on
    (through start.e.count (member_step (writer start.words.now) start.plans.now start.table.now start.s start.i start.e) start.p start.out.now) =
    λ r. members-sure _ _ _ _ _ _ c.is_planned.ensures c.if-is_planned.false _ _ (c.requires.1 r) in
    let so_far = going_on c.loop-k.invariant (c.write_bases-run.ensures start.plans.now) in (
      elements-smaller _ _ _ _ _ c.decreases _ _ c.meet.ensures c.in-Elements.is,
      (
        so_far.here,
        λ h. sure-elements _ _ _ _ _ _ _ c.member_at-child.ensures _ _ _ c.meet.ensures _
            (going_sure so_far whole (omega (arith, so_far.most, c.if-next-count.false)) h) c.in-Elements.is,
      ),
    )

pub write_members-overflow_add-k : goal.write_members-overflow_add-k
write_members-overflow_add-k t c =
    let start = c.args in
    let so_far = going_on c.loop-k.invariant (c.write_bases-run.ensures start.plans.now) in
    record { fits = omega (arith, so_far.most) }

pub write_members-loop-k-smaller : goal.write_members-loop-k-smaller
write_members-loop-k-smaller t c =
    let start = c.args in
    let so_far = going_on c.loop-k.invariant (c.write_bases-run.ensures start.plans.now) in
    omega (arith, so_far.most, (c.write_bases-run.ensures start.plans.now).onward)

pub write_members-loop-k-preserved : goal.write_members-loop-k-preserved
write_members-loop-k-preserved t c =
    let start = c.args in
    let so_far = going_on c.loop-k.invariant (c.write_bases-run.ensures start.plans.now) in
    let stepped : Did (member_step (writer start.words.now) start.plans.now start.table.now start.s start.i start.e c.write_bases-run.result.upto
    c.write_bases-run.result.at c.write_bases-run.new.out) c.match-meet.step c.match-meet.out =
    elim c.match-meet.branch [
      | write_members-in-Leaf w ↦ leaf-stepped _ _ _ _ _ _ _ c.member_at-child.ensures _ _ _ c.meet.ensures _ _ _ _ _ w.in-Leaf.is
          (w.write_leaf-step.ensures.value, w.write_leaf-step.ensures.out_after) w.out-is w.step-is
      | write_members-in-Members w ↦ members-stepped _ _ _ _ _ _ _ c.member_at-child.ensures _ _ _ c.meet.ensures _ _ _ _ _ w.in-Members.is
          (w.write_members-step.ensures.value, w.write_members-step.ensures.out_after) w.out-is w.step-is
      | write_members-in-Elements w ↦ elements-stepped _ _ _ _ _ _ _ c.member_at-child.ensures _ _ _ c.meet.ensures _ _ _ _ _ w.in-Elements.is
          (w.write_elements-step.ensures.value, w.write_elements-step.ensures.out_after) w.out-is w.step-is
      | write_members-in-Broken w ↦ broken-stepped _ _ _ _ _ _ _ c.member_at-child.ensures _ _ _ c.meet.ensures _ _ w.in-Broken.is w.out-is w.step-is
    ] in
    going_next so_far _ _ _ ((writer_keeps _).walks _ _ _ so_far.here) (search rules) stepped c.in-Went.is

pub write_members-returns-in-Stopped : goal.write_members-returns-in-Stopped
write_members-returns-in-Stopped t c =
    let start = c.args in
    let so_far = going_on c.loop-k.invariant (c.write_bases-run.ensures start.plans.now) in
    let stepped : Did (member_step (writer start.words.now) start.plans.now start.table.now start.s start.i start.e c.write_bases-run.result.upto
    c.write_bases-run.result.at c.write_bases-run.new.out) c.match-meet.step c.match-meet.out =
    elim c.match-meet.branch [
      | write_members-in-Leaf w ↦ leaf-stepped _ _ _ _ _ _ _ c.member_at-child.ensures _ _ _ c.meet.ensures _ _ _ _ _ w.in-Leaf.is
          (w.write_leaf-step.ensures.value, w.write_leaf-step.ensures.out_after) w.out-is w.step-is
      | write_members-in-Members w ↦ members-stepped _ _ _ _ _ _ _ c.member_at-child.ensures _ _ _ c.meet.ensures _ _ _ _ _ w.in-Members.is
          (w.write_members-step.ensures.value, w.write_members-step.ensures.out_after) w.out-is w.step-is
      | write_members-in-Elements w ↦ elements-stepped _ _ _ _ _ _ _ c.member_at-child.ensures _ _ _ c.meet.ensures _ _ _ _ _ w.in-Elements.is
          (w.write_elements-step.ensures.value, w.write_elements-step.ensures.out_after) w.out-is w.step-is
      | write_members-in-Broken w ↦ broken-stepped _ _ _ _ _ _ _ c.member_at-child.ensures _ _ _ c.meet.ensures _ _ w.in-Broken.is w.out-is w.step-is
    ] in
    let did = members-stop _ _ _ _ _ _ c.is_planned.ensures c.if-is_planned.false so_far _ _ _ _ (search rules) stepped c.in-Stopped.is in
    record { value = did.0; out_after = did.1 }

pub write_members-returns : goal.write_members-returns
write_members-returns t c =
    let did = members-done _ _ _ _ _ _ c.is_planned.ensures c.if-is_planned.false c.loop-k.invariant c.loop-k-test.false in
    record { value = did.0; out_after = did.1 }
