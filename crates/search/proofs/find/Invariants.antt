use Rattle.std.specs.Iterator.Adapters.{enumerate_source, enumerate_count}
use Rattle.model.specs.Paper.{view}
use Rattle.model.specs.Values.{way_number}
use Rattle.kept.specs.Text.{cells_in}
use Rattle.layout.specs.Seen.{still}
use Rattle.search.proofs.Sought.{Sought}
use Rattle.search.proofs.find.Given as goal

abbrev pub invariant-loop-i : goal.invariant-loop-i
invariant-loop-i l =
    (goal.iterator-loop-i).can_next l.i-iterator ×
    (goal.iterator-loop-i).is_finite l.i-iterator ×
    Sought (view (way_number l.fn.way) (cells_in l.text)) l.from l.letters (still (enumerate_source l.i-iterator)) (enumerate_count l.i-iterator) l.matched
