-- With what is left, the same is reached.
use Rattle.model.specs.Paper.{view}
use Rattle.model.specs.Values.{way_number}
use Rattle.slots.specs.Cells.{all_cells}
use Rattle.breaks.specs.Breaks.{scan}
use Rattle.breaks.proofs.Ahead.{Ahead}
use Rattle.breaks.proofs.reach.Given as goal

abbrev pub invariant-loop-cell : goal.invariant-loop-cell
invariant-loop-cell l =
    Ahead l.width (way_number l.fn.way) l.reached (all_cells l.cell-iterator.words.now) (scan l.width l.fn.begun (view (way_number l.fn.way) (all_cells l.words)))
