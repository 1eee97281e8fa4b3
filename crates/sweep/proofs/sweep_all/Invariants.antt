use Rattle.std.proofs.Common.{◌≡◌, ℕ, ◌*◌, ◌<◌, ◌≤◌}
use Rattle.changes.specs.Rows.{changes_in}
use Rattle.kept.specs.Kept.{Around}
use Rattle.pieces.specs.Store.{piece, pieces_from}
use Rattle.sweep.specs.Sweep.{concerned, swept}
use Rattle.sweep.proofs.sweep_all.Given as goal

abbrev pub invariant-loop-k : goal.invariant-loop-k
invariant-loop-k l =
    let old = l.initial.text in
    let new = l.text in
    record {
      same_cells : new.cells.ghost_name ≡ old.cells.ghost_name;
      same_tables : new.tables.ghost_name ≡ old.tables.ghost_name;
      same_slots : new.slots ≡ old.slots;
      around : Around old.cells.now old.tables.now new.cells.now new.tables.now old.slots;
      done : (j : ℕ) → j < l.k → piece new.cells.now new.tables.now j ≡ swept l.sweep.action (changes_in l.sweep.row) (piece old.cells.now old.tables.now j);
      others : (j : ℕ) → l.k ≤ j → j < old.slots → piece new.cells.now new.tables.now j ≡ piece old.cells.now old.tables.now j;
      count : l.count ≡ concerned l.sweep.action (pieces_from old.cells.now old.tables.now 0 l.k);
      few : l.count ≤ 1024 * l.k;
    }
