use Rattle.std.proofs.Common.{◌≡◌, ◌-◌}
use Rattle.text.specs.Lines.{reading_from}
use Rattle.text.proofs.reader.read_line.Given as goal

abbrev pub invariant-loop-k : goal.invariant-loop-k
invariant-loop-k l = reading_from (12 - l.k) l.k l.far l.line ≡ reading_from 12 0 0 l.line
