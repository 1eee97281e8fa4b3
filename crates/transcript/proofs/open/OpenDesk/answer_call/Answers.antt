use Rattle.std.proofs.Common.{take, sym, ap, ◌∙◌, arith}
use Rattle.std.proofs.lemmas.List.{with_items_is}
use Rattle.transcript.proofs.Serving.{called_there, call_done}
use Rattle.transcript.proofs.open.OpenDesk.answer_call.Goals as goal

pub returns : goal.returns
returns c =
    let m = c.args.self.now in
    call_done c.nothing_from_nowhere.ensures m _ c.args.call.now (take c.call-long.result c.as_slice.result.now) c.args.out.now.items c.tell.new.out.items c.tell.result
    (λ i. (c.type_inv.call i).fits)
    (called_there c.args.call.now c.as_mut_slice.ensures.value c.as_mut_slice-2.ensures.value c.as_mut_slice-3.ensures.value
    (sym (with_items_is m.cells c.call-long.new.cells (omega arith))) (sym (with_items_is m.pieces c.call-long.new.pieces (omega arith))) (sym (with_items_is m.undo c.call-long.new.undo (omega arith)))
    (ap (take c.call-long.result) (sym (with_items_is m.answer c.call-long.new.answer (omega arith)) ∙ sym c.as_slice.ensures.value)) c.call-long.ensures.called)
    c.tell.ensures
