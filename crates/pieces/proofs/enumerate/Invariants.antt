use Rattle.std.proofs.Common.{◌≡◌, ◌++◌, drop, take}
use Rattle.std.specs.List.{range_with_len}
use Rattle.pieces.proofs.enumerate.Given as goal

abbrev pub invariant-loop-i : goal.invariant-loop-i
invariant-loop-i l = l.word-items ≡ range_with_len 0 l.i ++ drop l.i (take l.n l.fn.w)
