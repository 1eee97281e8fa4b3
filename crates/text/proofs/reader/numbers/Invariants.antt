use Rattle.std.proofs.Common.{◌≡◌, ◌-◌, [], length, take}
use Rattle.text.specs.Lines.{numbers_in}
use Rattle.text.proofs.reader.numbers.Given as goal

abbrev pub invariant-loop-n : goal.invariant-loop-n
invariant-loop-n l = numbers_in (length l.initial.all - l.n-index) (take l.n-index l.all) l.left ≡ numbers_in (length l.initial.all) [] l.line
