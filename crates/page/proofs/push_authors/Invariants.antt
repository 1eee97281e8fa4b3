use Rattle.std.proofs.Common.{◌≡◌, ◌-◌, ◌++◌, map, vec_items}
use Rattle.model.specs.Values.{change_of}
use Rattle.page.specs.Page.{authors_from}
use Rattle.page.proofs.push_authors.Given as goal

abbrev pub invariant-loop-author : goal.invariant-loop-author
invariant-loop-author l =
    vec_items l.out ++ authors_from (256 - l.author) l.author (map change_of l.changes)
    ≡ vec_items l.initial.out ++ authors_from 256 0 (map change_of l.changes)
