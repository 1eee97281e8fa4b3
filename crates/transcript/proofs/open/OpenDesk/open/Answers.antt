use Rattle.std.proofs.Common.{◌≡◌, ℕ, sym, ap, ◌∙◌, arith}
use Rattle.std.proofs.lemmas.List.{with_items_is}
use Rattle.model.specs.Calls.{new_desk}
use Rattle.session.specs.Memory.{limits_of}
use Rattle.transcript.proofs.Serving.{room_enough, opened_limits, stands_there}
use Rattle.transcript.proofs.open.OpenDesk.open.Goals as goal

pub unreachable-requires : goal.unreachable-requires
unreachable-requires c =
    let l = c.args.limits in
    let enough = room_enough l.cells l.changes l.undos c.as_mut_slice.result.now c.as_mut_slice-2.result.now c.as_mut_slice-3.result.now c.requires
    (omega (arith, c.as_mut_slice.ensures.len, c.in_ok-cells.ensures.len, c.words_for-asked.ensures.cells)) (omega (arith, c.as_mut_slice-2.ensures.len, c.in_ok-pieces.ensures.len, c.words_for-asked.ensures.pieces))
    (omega (arith, c.as_mut_slice-3.ensures.len, c.in_ok-undo.ensures.len, c.words_for-asked.ensures.undo)) in
    let z : ◌≡◌ {A = ℕ} 0 1 = cc (enough, c.in-Err.ensures.0) in omega arith

pub returns : goal.returns
returns c =
    let l = c.args.limits in
    let cells = with_items_is c.in_ok-cells.cells c.open.new.cells (omega arith) in
    let pieces = with_items_is c.in_ok-pieces.pieces c.open.new.pieces (omega arith) in
    let undo = with_items_is c.in_ok-undo.undo c.open.new.undo (omega arith) in (
      ap limits_of pieces ∙ opened_limits l.cells l.changes l.undos c.open.new.pieces _ c.in-Ok.ensures.1.pieces,
      stands_there new_desk (sym cells) (sym pieces) (sym undo) c.in-Ok.ensures.1.stands,
    )

pub invariant_of-result-clause-sound : goal.invariant_of-result-clause-sound
invariant_of-result-clause-sound c =
    (stands_there new_desk (sym (with_items_is c.in_ok-cells.cells c.open.new.cells (omega arith))) (sym (with_items_is c.in_ok-pieces.pieces c.open.new.pieces (omega arith)))
    (sym (with_items_is c.in_ok-undo.undo c.open.new.undo (omega arith))) c.in-Ok.ensures.1.stands).sound
