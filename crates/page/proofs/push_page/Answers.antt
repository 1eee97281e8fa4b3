use Rattle.std.proofs.Common.{List, map, vec_items, ap}
use Rattle.model.specs.declared.Change as code
use Rattle.model.specs.Values.{change_of}
use Rattle.printing.specs.Values.{paper_of}
use Rattle.page.specs.Page.{legend, parts, table}
use Rattle.printing.proofs.Joins.{at_end, join4, same}
use Rattle.page.proofs.push_page.Goals as goal

pub returns : goal.returns
returns c =
    let changes = c.as_slice-changes.ensures.value in
    at_end c.push_table.result c.push_table.ensures (λ e.
    join4 (vec_items c.args.out.now)
    c.head_of.ensures c.in_ok-extend_from_slice.ensures.items
    (ap (λ (cs : List code.Change). legend (map change_of cs)) changes) c.in_ok-push_legend.ensures
    (same (parts (paper_of c.args.paper.now))) c.in_ok-push_parts.ensures
    (ap (λ (cs : List code.Change). table (map change_of cs)) changes) e)
