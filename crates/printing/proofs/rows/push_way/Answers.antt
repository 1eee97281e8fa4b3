use Rattle.std.proofs.Common.{List, [], ◌∷◌, vec_items, ap, ◌∙◌}
use Rattle.model.specs.Paper as paper
use Rattle.model.specs.Rows as model
use Rattle.printing.specs.declared.reading.Cell.{Cell}
use Rattle.printing.specs.Printed.{rows_printed}
use Rattle.printing.specs.Values.{cells_of}
use Rattle.printing.proofs.Joins.{at_end, join3, same}
use Rattle.printing.proofs.rows.push_way.Goals as goal

pub returns : goal.returns
returns c =
    let shown = ap (λ (ys : List Cell). rows_printed (model.rows 64 (cells_of ys))) c.as_slice.ensures.value ∙ ap (λ (xs : List paper.Cell). rows_printed (model.rows 64 xs)) c.in_ok-seen.ensures in
    at_end c.push_rows.result c.push_rows.ensures (λ e.
    join3 (vec_items c.args.out.now)
    c.title_of.ensures c.in_ok-extend_from_slice.ensures.items
    (same (10 ∷ [])) c.in_ok-push.ensures.items
    (shown) e)
