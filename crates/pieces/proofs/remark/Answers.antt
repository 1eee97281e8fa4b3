use Rattle.std.proofs.Common.{◌≡◌, ◌*◌, ap, ◌∙◌, arith}
use Rattle.std.proofs.lemmas.List.{length-set}
use Rattle.slots.specs.Cells.{cells_at}
use Rattle.pieces.specs.Marks.{with_set, noted_cells}
use Rattle.pieces.specs.Store.{slot, piece}
use Rattle.pieces.proofs.Edit.{remarked}
use Rattle.pieces.proofs.remark.Goals as goal

pub note_cells-requires : goal.note_cells-requires
note_cells-requires c =
    let o = c.requires.store.table.order in
    let most = o.most in
    let words = o.words in
    let room = c.requires.store.room in
    let a = o.inside c.args.k c.requires.here in
    let b = o.small c.args.k c.requires.here in
    record { inside = omega arith; words = simp length-set (omega arith) }

pub returns : goal.returns
unfolding piece
returns c =
    let p = c.args.p.now in
    let k = c.args.k in
    let i = slot p k in
    let e : c.note_cells.new.p ≡ noted_cells (with_set p i 0 0) i (piece c.args.c.now p k) =
    c.note_cells.ensures ∙ ap (noted_cells (with_set p i 0 0) i) c.part.ensures.cells ∙ ap (λ n. noted_cells (with_set p i 0 0) i (cells_at c.args.c.now (1024 * i) n)) c.used-n.ensures in
    let h = remarked c.args.c.now p c.note_cells.new.p c.args.s k c.requires.store c.requires.here e in
    record { is = e; beside = h.0; store = h.1 }
