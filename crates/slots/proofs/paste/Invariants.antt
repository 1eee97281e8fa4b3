-- The cells that are pasted, and those that are left.
use Rattle.std.specs.Iterator.Adapters.{enumerate_source, enumerate_count}
use Rattle.slots.specs.Cells.{all_cells}
use Rattle.slots.proofs.Steps.{Pasting}
use Rattle.slots.proofs.paste.Given as goal

abbrev pub invariant-loop-i : goal.invariant-loop-i
invariant-loop-i l =
    (goal.iterator-loop-i).can_next l.i-iterator × (goal.iterator-loop-i).is_finite l.i-iterator ×
    Pasting l.initial.c l.c l.a (all_cells l.new) (all_cells (enumerate_source l.i-iterator).words.now) (enumerate_count l.i-iterator)
