use Rattle.std.proofs.Common.{◌≡◌, ◌+◌, ◌*◌, ◌≤◌, true, ◌&&◌, leb, [], length, drop, refl, sym, arith, leb-true}
use Rattle.std.proofs.lemmas.List.{take_rest}
use Rattle.kept.specs.Kept.{Kept, cleared_tables}
use Rattle.pieces.specs.Store.{cells_of, cleared_cells}
use Rattle.session.specs.Contract.{enough, good_limits}
use Rattle.session.specs.Memory.{slots_for, cells_words, pieces_words, undo_words}
use Rattle.session.proofs.Opening.{pieces_are, stands}
use Rattle.session.proofs.Ranges.{both_true}
use Rattle.session.proofs.open.Goals as goal

pub returns : goal.returns
returns c =
    let n = c.args.limits.cells in
    let m = c.args.limits.changes in
    let u = c.args.limits.undos in
    let cs = c.args.cells.now in
    let ps = c.args.pieces.now in
    let us = c.args.undo.now in
    let good : good_limits n m u ≡ true = sym c.if-not-are_allowed.ensures in
    let room : enough n m u cs ps us ≡ true = sym c.if-not-have_room.ensures in
    let a = both_true (leb n 1000000) (leb m 65536 && leb u 1000000) good in
    let b = both_true (leb m 65536) (leb u 1000000) a.1 in
    let d = both_true (leb (cells_words n) (length cs)) (leb (pieces_words m) (length ps) && leb (undo_words u) (length us)) room in
    let e = both_true (leb (pieces_words m) (length ps)) (leb (undo_words u) (length us)) d.1 in
    let small_n : n ≤ 1000000 = leb-true n 1000000 a.0 in
    let small-m : m ≤ 65536 = leb-true m 65536 b.0 in
    let small-u : u ≤ 1000000 = leb-true u 1000000 b.1 in
    let long-cs : cells_words n ≤ length cs = leb-true (cells_words n) (length cs) d.0 in
    let long-ps : pieces_words m ≤ length ps = leb-true (pieces_words m) (length ps) e.0 in
    let begun = c.begin.new.pieces in
    let slots : c.slots_for-slots.result ≡ slots_for n = c.slots_for-slots.ensures.slots in
    let clears : c.clear.new.p ≡ cleared_tables (drop (16 + 2 * m) begun) (slots_for n) = rw slots at (simp take_rest at c.clear.ensures.words) in
    let cells : c.clear.new.c ≡ cleared_cells cs (slots_for n) = rw slots at c.clear.ensures.cells in
    let store : Kept c.clear.new.c c.clear.new.p (slots_for n) = rw slots at c.clear.ensures.kept in
    let empty : cells_of c.clear.new.c c.clear.new.p (slots_for n) ≡ [] = rw slots at c.clear.ensures.empty in
    let long : length c.clear.new.c ≡ length cs = c.clear.auto.c in (
      rw (good, room) refl,
      record {
        cells = cells;
        pieces = pieces_are n m u ps begun c.clear.new.p c.begin.ensures clears;
        undo = c.clear-2.ensures.words;
        stands = stands n m u ps begun c.clear.new.p c.begin.ensures clears c.clear.new.c c.clear-2.new.u small_n small-m small-u (omega arith) long-ps store empty c.clear-2.ensures.log;
        fit = (λ i. (c.type_inv.cells i).fits, λ i. (c.type_inv.pieces i).fits, λ i. (c.type_inv.undo i).fits);
      },
    )
