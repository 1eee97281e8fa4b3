use Rattle.std.proofs.Common.{refl, arith}
use Rattle.model.specs.Paper as paper
use Rattle.pieces.specs.Store.{strung}
use Rattle.sweep.specs.declared.Action.TheVariants.{Accept}
use Rattle.sweep.proofs.Marks.{concerned_next}
use Rattle.sweep.proofs.touched.Goals as goal

pub loop-k-init : goal.loop-k-init
unfolding paper.touched strung
loop-k-init c = record { count = refl; few = omega arith }

pub loop-k-preserved : goal.loop-k-preserved
loop-k-preserved c =
    let inv = c.loop-k.invariant in
    let e = c.touched_piece-count.ensures in
    let few = e.few in
    record {
      count = concerned_next (Accept c.args.change) c.args.text.now.cells.now c.args.text.now.tables.now c.loop-k.k c.loop-k.count c.touched_piece-count.result e.count inv.count;
      few = omega arith;
    }
