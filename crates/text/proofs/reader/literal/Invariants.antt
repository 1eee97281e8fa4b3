use Rattle.std.proofs.Common.{◌≡◌, drop}
use Rattle.text.specs.Lines.{literal_in}
use Rattle.text.proofs.reader.literal.Given as goal

abbrev pub invariant-loop-w : goal.invariant-loop-w
invariant-loop-w l = literal_in (drop l.w-index l.word) l.left ≡ literal_in l.word l.line
