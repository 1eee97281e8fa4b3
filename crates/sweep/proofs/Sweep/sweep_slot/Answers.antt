use Rattle.std.proofs.Common.{◌+◌, ◌∙◌, arith}
use Rattle.slots.proofs.Words.{kept_cells_below, kept_cells_above}
use Rattle.sweep.proofs.Sweep.sweep_slot.Goals as goal

pub returns-clause-cells : goal.returns-clause-cells
returns-clause-cells c =
    let left = c.sweep_cells-left.result in
    let e = c.sweep_cells-left.ensures in
    kept_cells_below _ _ _ _ c.copy.ensures.kept c.args.at left (omega arith) ∙ e.cells

pub returns-clause-moved : goal.returns-clause-moved
returns-clause-moved c =
    let at = c.args.at in
    let n = c.args.n in
    c.copy.ensures.copied ∙ kept_cells_above c.args.c.now c.sweep_cells-left.new.c at n c.sweep_cells-left.ensures.kept (at + n) c.args.behind (omega arith)
