use Rattle.std.proofs.Common.{◌≡◌, ◌*◌, refl, ◌∙◌, arith}
use Rattle.pieces.specs.Store.{piece, slot}
use Rattle.kept.proofs.text.Text.words_of.Goals as goal

pub returns-clause-cells : goal.returns-clause-cells
unfolding piece
returns-clause-cells c =
    let z : c.«number_of».result ≡ 1024 * slot c.args.self.now.tables.now c.args.k = let e = c.«number_of».ensures in omega arith in
    c.part.ensures.cells ∙ rw (z, c.used.ensures) refl
