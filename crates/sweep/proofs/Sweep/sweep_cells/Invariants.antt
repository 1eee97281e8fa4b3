use Rattle.std.proofs.Common.{◌≡◌, ◌≤◌}
use Rattle.changes.specs.Rows.{changes_in}
use Rattle.slots.specs.Cells.{cells_at, Kept}
use Rattle.sweep.specs.Sweep.{swept}
use Rattle.sweep.proofs.Sweep.sweep_cells.Given as goal

abbrev pub invariant-loop-i : goal.invariant-loop-i
invariant-loop-i l =
    record {
      behind : l.stay ≤ l.i;
      cells : cells_at l.c l.at l.stay ≡ swept l.self.action (changes_in l.self.row) (cells_at l.initial.c l.at l.i);
      kept : Kept l.initial.c l.c l.at l.i;
    }
