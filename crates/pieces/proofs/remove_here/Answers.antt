use Rattle.std.proofs.Common.{[], arith}
use Rattle.pieces.proofs.Change.{replaced_here}
use Rattle.pieces.proofs.Edit.{changed_store}
use Rattle.pieces.proofs.remove_here.Goals as goal

pub returns : goal.returns
returns c =
    let small = c.requires.store.table.order.small c.args.at.piece c.requires.here in
    let changed = replaced_here c.args.c.now c.args.p.now c.remove_cells.new.c c.resize.new.p c.args.s c.args.at.piece c.args.at.offset c.args.n _ []
    c.requires.store.table.order c.requires.here c.requires.within (omega arith) (omega arith) c.remove_cells.ensures c.resize.ensures.resized in
    record {
      changed = changed;
      store = changed_store c.args.c.now c.args.p.now c.remove_cells.new.c c.resize.new.p c.args.s c.args.at.piece c.args.at.offset c.args.n []
          c.requires.store c.requires.here changed c.resize.ensures.sums tt;
    }
