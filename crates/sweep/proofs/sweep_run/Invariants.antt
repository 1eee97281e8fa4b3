use Rattle.std.proofs.Common.{◌≡◌, ◌+◌, ◌≤◌}
use Rattle.changes.specs.Rows.{changes_in}
use Rattle.kept.specs.Kept.{Around}
use Rattle.pieces.specs.Store.{before}
use Rattle.kept.specs.Text.{cells_of_mut}
use Rattle.sweep.specs.Sweep.{swept_run}
use Rattle.sweep.proofs.sweep_run.Given as goal

abbrev pub invariant-loop-left : goal.invariant-loop-left
invariant-loop-left l =
    let old = l.initial.text in
    let new = l.text in
    record {
      same_cells : new.cells.ghost_name ≡ old.cells.ghost_name;
      same_tables : new.tables.ghost_name ≡ old.tables.ghost_name;
      same_slots : new.slots ≡ old.slots;
      around : Around old.cells.now old.tables.now new.cells.now new.tables.now old.slots;
      within : l.next + l.left ≤ before new.tables.now new.slots;
      swept : swept_run l.sweep.action (changes_in l.sweep.row) (cells_of_mut new) l.next l.left ≡ swept_run l.sweep.action (changes_in l.sweep.row) (cells_of_mut old) l.initial.next l.initial.left;
    }

abbrev pub decreases-loop-left : goal.decreases-loop-left
decreases-loop-left l = l.left
