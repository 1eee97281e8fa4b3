use Rattle.std.proofs.Common.{◌/◌, length, sym, ◌∙◌, arith}
use Rattle.model.specs.Values.{way_number}
use Rattle.slots.specs.Cells.{all_cells}
use Rattle.slots.proofs.Words.{length_cells}
use Rattle.breaks.proofs.Ahead.{ahead_start, ahead_room, ahead_seen, ahead_unseen, ahead_end}
use Rattle.breaks.proofs.reach.Goals as goal

pub loop-cell-init : goal.loop-cell-init
loop-cell-init c =
    let words = c.args.words.now in
    let l = length_cells words 0 (length words / 4) in
    rw c.into_iter-cell-iterator.ensures.into_iter_gives (ahead_start c.args.width (way_number c.args.way) c.args.begun (all_cells words) c.requires.begun (omega arith))

pub overflow_add-reached : goal.overflow_add-reached
overflow_add-reached c =
    let k = ahead_room _ _ _ _ _ _ (rw c.in-Some.ensures.steps at c.loop-cell.invariant) _ c.pass-next.ensures in
    omega arith

pub loop-cell-preserved-then-sees : goal.loop-cell-preserved-then-sees
loop-cell-preserved-then-sees c =
    ahead_seen _ _ _ _ _ _ (rw c.in-Some.ensures.steps at c.loop-cell.invariant) c.requires.least (sym c.sees.ensures ∙ c.if-sees.true) _ c.pass-next.ensures

pub loop-cell-preserved : goal.loop-cell-preserved
loop-cell-preserved c = ahead_unseen _ _ _ _ _ _ (rw c.in-Some.ensures.steps at c.loop-cell.invariant) (sym c.sees.ensures ∙ c.if-sees.false)

pub returns-clause-reached : goal.returns-clause-reached
returns-clause-reached c = ahead_end _ (way_number c.args.way) _ _ (rw c.in-None.ensures.steps.0 at c.loop-cell.invariant)
