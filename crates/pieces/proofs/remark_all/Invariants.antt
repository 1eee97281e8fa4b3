use Rattle.pieces.specs.Marks.{Beside}
use Rattle.pieces.specs.Store.{Store}
use Rattle.pieces.proofs.remark_all.Given as goal

abbrev pub invariant-loop-k : goal.invariant-loop-k
invariant-loop-k l = record { beside : Beside l.initial.p l.p; store : Store l.c l.p l.s }
