-- The table is right as far as it is filled, and the rest of the words stay.
use Rattle.std.proofs.Common.{◌≡◌, length, drop}
use Rattle.finder.proofs.Matching.{Filling}
use Rattle.finder.proofs.prepare.Given as goal

abbrev pub invariant-loop-i : goal.invariant-loop-i
invariant-loop-i l = Filling l.letters l.table l.i l.k × (drop (length l.letters) l.table ≡ drop (length l.letters) l.initial.table)
