use Rattle.std.proofs.Common.{◌≡◌, ◌++◌, map, drop, vec_items}
use Rattle.model.specs.Values.{change_of}
use Rattle.page.specs.Page.{change_rows}
use Rattle.page.proofs.push_changes.Given as goal

abbrev pub invariant-loop-number : goal.invariant-loop-number
invariant-loop-number l =
    vec_items l.out ++ change_rows l.number (drop l.number (map change_of l.changes))
    ≡ vec_items l.initial.out ++ change_rows 0 (map change_of l.changes)
