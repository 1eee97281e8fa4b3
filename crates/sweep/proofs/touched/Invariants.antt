use Rattle.std.proofs.Common.{◌≡◌, ◌*◌, ◌≤◌}
use Rattle.model.specs.Paper as paper
use Rattle.pieces.specs.Store.{pieces_from}
use Rattle.sweep.proofs.touched.Given as goal

abbrev pub invariant-loop-k : goal.invariant-loop-k
invariant-loop-k l = record { count : l.count ≡ paper.touched (pieces_from l.text.cells.now l.text.tables.now 0 l.k) l.change; few : l.count ≤ 1024 * l.k }
