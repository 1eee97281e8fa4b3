use Rattle.std.proofs.Common.{[], ◌∷◌, ◌++◌, vec_items, ap, ◌∙◌}
use Rattle.text.specs.Shown.{row_line}
use Rattle.printing.specs.Values.{cells_of, none}
use Rattle.printing.proofs.Shown.{row_step, row_end}
use Rattle.printing.proofs.rows.push_row.Goals as goal

pub loop-x-preserved : goal.loop-x-preserved
loop-x-preserved c =
    row_step (vec_items c.loop-x.out) (vec_items c.push_cell.new.out) (vec_items c.args.out.now ++ row_line (cells_of c.args.row.now)) c.args.row.now c.loop-x.x-index
    none c.loop-x-test.true c.loop-x.invariant c.in_ok-push_cell.ensures

pub returns : goal.returns
returns c =
    c.in_ok-push.ensures.items
    ∙ ap (λ ls. ls ++ (10 ∷ []))
    (row_end (vec_items c.loop-x.out) (vec_items c.args.out.now ++ row_line (cells_of c.args.row.now)) c.args.row.now c.loop-x.x-index c.loop-x-test.false c.loop-x.invariant)
