use Rattle.std.proofs.Common.{sym, arith}
use Rattle.pieces.specs.Store.{before}
use Rattle.kept.proofs.text.Text.gap.Goals as goal

pub returns-then-place-eq0 : goal.returns-then-place-eq0
unfolding before
returns-then-place-eq0 c = record { here = c.args.self.now.kept.store.table.order.some; within = omega arith; sum = sym c.if-place-eq0.true }
