use Rattle.std.proofs.Common.{◌+◌, ap, ◌∙◌}
use Rattle.slots.specs.Cells.{all_cells}
use Rattle.pieces.specs.Store.{before}
use Rattle.pieces.specs.Edits.{replaced}
use Rattle.kept.specs.Text.{cells_of_mut}
use Rattle.kept.proofs.Rewriting.{rewrites_text, rewrites_both}
use Rattle.kept.proofs.text.TextMut.insert_part.Goals as goal

pub returns : goal.returns
returns c =
    let t = c.args.self.now in
    let u = c.make_room-at.new.self in
    let same = c.make_room-at.ensures.same in
    let new = all_cells c.args.new.now in
    let i = before u.tables.now c.make_room-at.result.piece + c.make_room-at.result.offset in
    rewrites_both t u c.insert_at.new.self _ _ _ same c.insert_at.ensures
    (ap (λ x. replaced x i 0 new) (rewrites_text t u _ same) ∙ ap (λ j. replaced (cells_of_mut t) j 0 new) c.make_room-at.ensures.gap.sum)
