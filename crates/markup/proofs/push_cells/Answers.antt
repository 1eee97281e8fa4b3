use Rattle.std.proofs.Common.{◌++◌, map, vec_items, codes, ap, ◌∙◌, arith, rules}
use Rattle.model.specs.Values.{change_of}
use Rattle.printing.specs.Values.{cell_of, cells_of, none}
use Rattle.printing.proofs.Joins.{at_end, join4, same}
use Rattle.markup.specs.Plain.{escaped}
use Rattle.markup.specs.Marked.{opened, followed}
use Rattle.markup.proofs.Writes.{no_cells, some_cells}
use Rattle.markup.proofs.push_cells.Goals as goal

pub returns-in_default : goal.returns-in_default
returns-in_default c = no_cells (vec_items c.args.out.now) (map change_of c.args.changes.now) c.args.cells.now (omega (arith, c.in_default.ensures.item.3))

pub returns : goal.returns
returns c =
    let cs = map change_of c.args.changes.now in
    let x = c.in-Some.first.now in
    at_end c.push_following.result c.push_following.ensures (λ e.
    join4 (vec_items c.args.out.now)
    (same (codes "<p>")) c.in_ok-extend_from_slice.ensures.items
    (same (opened cs (cell_of x))) c.in_ok-push_open.ensures
    (same (escaped x.letter)) c.in_ok-push_letter.ensures
    (same (followed cs (cells_of c.args.cells.now))) e
    ∙ ap (λ ls. vec_items c.args.out.now ++ ls) (some_cells cs c.args.cells.now x none c.in-Some.ensures.item.3.0 (search rules)))
