-- The cells so far stand there.
use Rattle.std.proofs.Common.{◌≡◌, ◌-◌, ◌≤◌, take, drop}
use Rattle.model.specs.Paper.{cells_written}
use Rattle.kept.specs.Text.{cells_in}
use Rattle.recorder.proofs.Splices.{written_at}
use Rattle.recorder.proofs.copy_text.Given as goal

abbrev pub invariant-loop-done : goal.invariant-loop-done
invariant-loop-done l = (l.words ≡ written_at l.initial.words 0 (cells_written (take l.done (drop l.place (cells_in l.text))))) × (l.done ≤ l.n)

abbrev pub decreases-loop-done : goal.decreases-loop-done
decreases-loop-done l = l.n - l.done
