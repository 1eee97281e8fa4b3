use Rattle.std.proofs.Common.{◌+◌, ◌<◌, inl, ap, ◌∙◌, arith}
use Rattle.std.specs.Iterator.Adapters.{enumerate_source, enumerate_count}
use Rattle.model.specs.Values.{way_number}
use Rattle.layout.specs.Seen.{still}
use Rattle.layout.proofs.Comes.{gives_more}
use Rattle.search.proofs.Sought.{sought_start, sought_none, sought_few, sought_inside, sought_more, sought_read, sought_full, all_few}
use Rattle.search.proofs.find.Goals as goal

pub loop-i-init : goal.loop-i-init
loop-i-init c =
    let i = c.into_iter-i-iterator.ensures.into_iter_gives in
    let e = ap still (ap enumerate_source i ∙ c.enumerate-i-items.ensures.source) ∙ c.after.ensures.rest in
    let p = ap enumerate_count i ∙ c.enumerate-i-items.ensures.count in
    let h = sought_start e p c.requires.some in
    ((tt, tt, inl (sought_few h (all_few c.args.text.now (way_number c.args.way)))), tt, h)

pub step-matched-requires-clause-table : goal.step-matched-requires-clause-table
step-matched-requires-clause-table c k l = c.prepare.ensures.borders k (omega (arith, l, c.loop-i.invariant.2.seeking.short))

-- the place of the cell is small
inside : (c : goal.Then-matched-letters) → c.args.from + c.in-Some.i < 2097152
inside c =
    let steps = c.in-Some.ensures.steps in
    let l = sought_inside c.loop-i.invariant.2 (gives_more _ _ _ _ steps.0) in
    let f = all_few c.args.text.now (way_number c.args.way) in
    omega (arith, steps.1)

pub overflow_add-result : goal.overflow_add-result
overflow_add-result c = omega (arith, inside c)

pub overflow_add-result-then-matched-letters : goal.overflow_add-result-then-matched-letters
overflow_add-result-then-matched-letters c = omega (arith, inside c)

pub overflow_sub-result : goal.overflow_sub-result
overflow_sub-result c =
    let steps = c.in-Some.ensures.steps in
    let r = sought_read c.loop-i.invariant.2 (gives_more _ _ _ _ steps.0) c.step-matched.ensures in
    omega (arith, steps.1)

pub overflow_cast-result : goal.overflow_cast-result
overflow_cast-result c = omega (arith, inside c)

pub returns-then-matched-letters : goal.returns-then-matched-letters
returns-then-matched-letters c =
    let steps = c.in-Some.ensures.steps in
    rw steps.1 (sought_full c.loop-i.invariant.2 (gives_more _ _ _ _ steps.0) c.step-matched.ensures c.if-matched-letters.true)

pub loop-i-preserved : goal.loop-i-preserved
loop-i-preserved c =
    let steps = c.in-Some.ensures.steps in
    let h = sought_more c.loop-i.invariant.2 (gives_more _ _ _ _ steps.0) c.step-matched.ensures c.if-matched-letters.false in
    rw steps.2 ((tt, tt, inl (sought_few h (all_few c.args.text.now (way_number c.args.way)))), tt, h)

pub returns : goal.returns
returns c = sought_none c.loop-i.invariant.2 c.in-None.ensures.steps.0.0
