use Rattle.std.proofs.Common.{false, arith}
use Rattle.layout.proofs.Fronts.{front_first, front_wide, front_rows_few, front_seen_few, front_next}
use Rattle.layout.proofs.sheet.Sheet.front_before.Goals as goal

pub loop-k-init : goal.loop-k-init
loop-k-init c = (front_first c.args.self.now, omega arith)

pub is_kept-requires-clause-begun : goal.is_kept-requires-clause-begun
is_kept-requires-clause-begun c = front_wide c.args.self.now _ _ c.loop-k.invariant.0

pub effect-effect-requires-clause-begun : goal.effect-effect-requires-clause-begun
effect-effect-requires-clause-begun c = front_wide c.args.self.now _ _ c.loop-k.invariant.0

pub overflow_add-front : goal.overflow_add-front
overflow_add-front c =
    let f = front_rows_few c.args.self.now _ _ c.loop-k.invariant.0 in
    let m = c.effect-effect.ensures.few in
    omega arith

pub overflow_add-front-in-loop-k-3 : goal.overflow_add-front-in-loop-k-3
overflow_add-front-in-loop-k-3 c =
    let n = front_next c.args.self.now _ _ c.loop-k.invariant.0 _ _ false c.loop-k-test.true c.effect-effect.ensures c.seen_in-seen.ensures in
    let f = front_seen_few c.args.self.now _ _ n in
    omega arith

pub loop-k-preserved : goal.loop-k-preserved
loop-k-preserved c = (front_next c.args.self.now _ _ c.loop-k.invariant.0 _ _ _ c.loop-k-test.true c.effect-effect.ensures c.seen_in-seen.ensures, c.if-front-reached.false)

pub returns-then-front-reached-clause-front : goal.returns-then-front-reached-clause-front
returns-then-front-reached-clause-front c = (c.loop-k.k, c.loop-k.invariant.0)

pub returns-then-front-reached-clause-before : goal.returns-then-front-reached-clause-before
returns-then-front-reached-clause-before c = c.loop-k.invariant.1

pub returns-clause-front : goal.returns-clause-front
returns-clause-front c = (c.loop-k.k, c.loop-k.invariant.0)

pub returns-clause-before : goal.returns-clause-before
returns-clause-before c = c.loop-k.invariant.1
