use Rattle.std.proofs.Common.{ap, ◌∙◌}
use Rattle.kept.specs.Kept.{leaf}
use Rattle.kept.proofs.Seen.{counts}
use Rattle.kept.proofs.text.Text.seen_in.Goals as goal

pub returns : goal.returns
returns c =
    let x = c.args.self.now in
    let n = counts x.cells.now x.tables.now x.slots x.kept c.args.way in
    ap (λ t. leaf x.tables.now t c.args.k) c.tree_of.ensures ∙ n.here c.args.k c.requires
