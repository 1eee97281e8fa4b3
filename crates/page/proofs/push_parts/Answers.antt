use Rattle.std.proofs.Common.{List, vec_items, codes, ap, ◌∙◌}
use Rattle.printing.specs.declared.reading.Cell as code
use Rattle.printing.specs.Values.{cells_of}
use Rattle.page.specs.Page.{as_if}
use Rattle.page.proofs.Written.{part_of}
use Rattle.printing.proofs.Joins.{at_end, join3}
use Rattle.page.proofs.push_parts.Goals as goal

pub returns : goal.returns
returns c =
    let changes = c.as_slice-changes.ensures.value in
    let cells = c.as_slice-cells.ensures.value in
    at_end c.push_part-3.result c.push_part-3.ensures (λ e.
    join3 (vec_items c.args.out.now)
    (part_of (codes "Everything") _ _ _ _ changes (ap cells_of cells)) c.in_ok-push_part.ensures
    (part_of (codes "As if all open changes were accepted") _ _ _ _ changes (ap cells_of c.as_slice.ensures.value ∙ (c.in_ok-accepted.ensures ∙ ap (λ (xs : List code.Cell). as_if 1 (cells_of xs)) cells))) c.in_ok-push_part-2.ensures
    (part_of (codes "As if all open changes were rejected") _ _ _ _ changes (ap cells_of c.as_slice-2.ensures.value ∙ (c.in_ok-rejected.ensures ∙ ap (λ (xs : List code.Cell). as_if 2 (cells_of xs)) cells))) e)
