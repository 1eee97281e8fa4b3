use Rattle.std.proofs.Common.{◌≡◌, ◌&&◌, sym, ◌∙◌}
use Rattle.pieces.specs.Marks.{has}
use Rattle.pieces.specs.Store.{slot, piece}
use Rattle.pieces.proofs.Sets.{lacks}
use Rattle.pieces.proofs.may_have.Goals as goal

pub returns : goal.returns
returns c =
    let i = slot c.args.p.now c.args.k in
    let is : (c.has_bits-low.result && c.has_bits-high.result) ≡ has c.args.p.now i c.args.mark = rw (c.has_bits-low.ensures, c.has_bits-high.ensures) in
    record { is = is; lacks = λ e d t. lacks c.args.p.now i c.args.mark (piece d c.args.p.now c.args.k) c.requires.some (sym is ∙ e) (t.marked c.args.k c.requires.here) }
