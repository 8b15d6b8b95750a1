-- `pack::walking::write_bases` meets its contract: the members whose codes were got and whose words are taken are judged, or stored,
-- and each was a base.
-- Assumes nothing.
use mathlib.Core.Path.{sym}
use native.Mathlib.Omega.{arith}
use lib.ListN.{replicate}
use lib.Seq.{length-take-le}
use Rattle.pack.proofs.WriteBases.{codes-in, count_fits, upto-fits, from-fits, to-fits, taken-going, none_laid}
use Rattle.pack.proofs.WriteBases.{all_words, all-count-fits, all-upto-fits, all-from-fits, all-going}
use Rattle.pack.proofs.LaidBases.{laid_as_long}
use Rattle.pack.proofs.walking.write_bases.Goals as goal

pub slice_bounds-codes-end : goal.slice_bounds-codes-end
slice_bounds-codes-end c =
    search codes-in

pub slice_bounds-judge_codes-end : goal.slice_bounds-judge_codes-end
slice_bounds-judge_codes-end c =
    sym (length-take-le _ _ (search codes-in))

pub overflow_cast-result : goal.overflow_cast-result
overflow_cast-result c =
    let b = c.base_codes-n.ensures in
    let j = c.judge_codes-part.ensures in
    count_fits _ _ _ _ _ _ _ (replicate 64 0) _ b.value b.codes_after c.args.p _ _ j.count_value j.bytes_value (omega (arith, c.well_formed.1.1.1.0)) c.requires.1

pub overflow_add-result : goal.overflow_add-result
overflow_add-result c =
    let b = c.base_codes-n.ensures in
    let j = c.judge_codes-part.ensures in
    upto-fits _ _ _ _ _ _ _ (replicate 64 0) _ b.value b.codes_after c.args.p _ _ j.count_value j.bytes_value (omega (arith, c.well_formed.1.1.1.0)) c.requires.1

pub overflow_add-result-then-out-eq0 : goal.overflow_add-result-then-out-eq0
overflow_add-result-then-out-eq0 c =
    let b = c.base_codes-n.ensures in
    let j = c.judge_codes-part.ensures in
    from-fits _ _ _ _ _ _ _ (replicate 64 0) _ b.value b.codes_after c.args.p _ _ j.count_value j.bytes_value c.requires.0 c.well_formed.1.1.1.1.1.0.1

pub overflow_add-result-then-out-eq0-2 : goal.overflow_add-result-then-out-eq0-2
overflow_add-result-then-out-eq0-2 c =
    let b = c.base_codes-n.ensures in
    let j = c.judge_codes-part.ensures in
    to-fits _ _ _ _ _ _ _ (replicate 64 0) _ b.value b.codes_after c.args.p _ _ j.count_value j.bytes_value c.requires.0 c.well_formed.1.1.1.1.1.0.1

pub slice_bounds-codes-end-else-out-eq0 : goal.slice_bounds-codes-end-else-out-eq0
slice_bounds-codes-end-else-out-eq0 c =
    search codes-in

pub slice_bounds-store_bases-end : goal.slice_bounds-store_bases-end
slice_bounds-store_bases-end c =
    sym (length-take-le _ _ (search codes-in))

pub store_bases-end-requires : goal.store_bases-end-requires
store_bases-end-requires c =
    let b = c.base_codes-n.ensures in
    let known = c.requires.2 (omega (arith, c.if-out-eq0.false)) in
    (c.requires.0, all_words _ _ _ _ _ _ _ (replicate 64 0) _ b.value b.codes_after c.args.p known c.requires.0)

pub overflow_cast-result-else-out-eq0 : goal.overflow_cast-result-else-out-eq0
overflow_cast-result-else-out-eq0 c =
    let b = c.base_codes-n.ensures in
    let known = c.requires.2 (omega (arith, c.if-out-eq0.false)) in
    all-count-fits _ _ _ _ _ _ _ (replicate 64 0) _ b.value b.codes_after c.args.p known (omega (arith, c.well_formed.1.1.1.0)) c.requires.1

pub overflow_add-result-else-out-eq0 : goal.overflow_add-result-else-out-eq0
overflow_add-result-else-out-eq0 c =
    let b = c.base_codes-n.ensures in
    let known = c.requires.2 (omega (arith, c.if-out-eq0.false)) in
    all-upto-fits _ _ _ _ _ _ _ (replicate 64 0) _ b.value b.codes_after c.args.p known (omega (arith, c.well_formed.1.1.1.0)) c.requires.1

pub overflow_add-result-else-out-eq0-2 : goal.overflow_add-result-else-out-eq0-2
overflow_add-result-else-out-eq0-2 c =
    let b = c.base_codes-n.ensures in
    let known = c.requires.2 (omega (arith, c.if-out-eq0.false)) in
    all-from-fits _ _ _ _ _ _ _ (replicate 64 0) _ b.value b.codes_after c.args.p known c.requires.0 c.well_formed.1.1.1.1.1.0.1

pub returns-then-out-eq0 : goal.returns-then-out-eq0
returns-then-out-eq0 c =
    let b = c.base_codes-n.ensures in
    let j = c.judge_codes-part.ensures in
    let none = none_laid _ _ _ _ c.if-out-eq0.true in
    taken-going _ _ _ _ _ _ _ (replicate 64 0) _ b.value b.codes_after c.args.p _ _ j.count_value j.bytes_value _ _ none c.requires.1 c.requires.0

pub shape_of-out : goal.shape_of-out
shape_of-out c =
    laid_as_long _ _ _ _ _ c.store_bases-end.ensures.out_after

pub returns-else-out-eq0 : goal.returns-else-out-eq0
returns-else-out-eq0 c =
    let b = c.base_codes-n.ensures in
    let known = c.requires.2 (omega (arith, c.if-out-eq0.false)) in
    let put = c.store_bases-end.ensures in
    all-going _ _ _ _ _ _ _ (replicate 64 0) _ b.value b.codes_after c.args.p known _ _ _ put.value put.out_after c.requires.1 c.requires.0
