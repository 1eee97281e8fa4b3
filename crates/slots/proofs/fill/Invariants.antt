use Rattle.std.proofs.Common.{◌≡◌, take}
use Rattle.model.specs.Paper.{new_cells}
use Rattle.slots.specs.Cells.{cells_at, Kept}
use Rattle.slots.proofs.fill.Given as goal

abbrev pub invariant-loop-i : goal.invariant-loop-i
invariant-loop-i l = (cells_at l.c l.a l.i ≡ new_cells (take l.i l.letters) l.style l.change) × Kept l.initial.c l.c l.a l.i
