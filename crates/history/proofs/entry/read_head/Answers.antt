-- The head of an entry is the one in its words.
use Rattle.std.proofs.Common.{refl, ◌∙◌}
use Rattle.history.proofs.Heads.{head_made_part, head_reads}
use Rattle.history.proofs.entry.read_head.Goals as goal

pub returns : goal.returns
returns c =
    let m = head_made_part c.args.u.now _ c.args.at c.from.result refl c.requires c.from.ensures in
    record { words = m; entry = λ e h. m ∙ head_reads c.args.u.now c.args.at e h }
