use Rattle.std.proofs.Common.{◌+◌, get_or, ap, ◌∙◌}
use Rattle.model.specs.Values.{way_number}
use Rattle.pieces.specs.Store.{piece}
use Rattle.kept.specs.Kept.{tree_at}
use Rattle.kept.proofs.Seen.{counts, root_seen}
use Rattle.kept.proofs.text.Text.seen.Goals as goal

pub returns : goal.returns
returns c =
    let x = c.args.self.now in
    let w = c.args.way in
    let n = counts x.cells.now x.tables.now x.slots x.kept w in
    ap (λ t. get_or x.tables.now (t + 1) 0) c.tree_of.ensures
    ∙ root_seen (piece x.cells.now x.tables.now) x.tables.now x.slots (tree_at w) (way_number w) n
