use Rattle.std.proofs.Common.{◌≡◌, ◌-◌}
use Rattle.text.specs.Shown.{repeated, counted}
use Rattle.text.proofs.writer.counted.Given as goal

abbrev pub invariant-loop : goal.invariant-loop
invariant-loop g l = repeated g.P.Part.shown (l.end - l.counter) l.out.items l.left ≡ counted g.P.Part.shown l.initial.out.items l.bytes
