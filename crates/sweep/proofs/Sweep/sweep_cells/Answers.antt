use Rattle.std.proofs.Common.{refl, arith}
use Rattle.changes.specs.Rows.{changes_in}
use Rattle.slots.specs.Cells.{cells_at}
use Rattle.slots.proofs.Words.{kept_none}
use Rattle.sweep.specs.Sweep.{swept}
use Rattle.sweep.proofs.Steps.{swept_step}
use Rattle.sweep.proofs.Sweep.sweep_cells.Goals as goal

pub loop-i-init : goal.loop-i-init
unfolding cells_at swept
loop-i-init c = record { behind = omega arith; cells = refl; kept = kept_none c.args.c.now c.args.at }

pub loop-i-preserved : goal.loop-i-preserved
loop-i-preserved c =
    let inv = c.loop-i.invariant in
    let e = c.sweep_cell-stay.ensures in
    let s = swept_step c.args.c.now c.loop-i.c c.sweep_cell-stay.new.c c.args.at c.loop-i.i c.loop-i.stay c.sweep_cell-stay.result
    c.args.self.now.action (changes_in c.args.self.now.row) inv.behind e.behind inv.cells inv.kept e.cells e.kept in
    record { behind = e.behind; cells = s.0; kept = s.1 }
