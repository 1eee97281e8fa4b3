use Rattle.std.proofs.Common.{◌≡◌, ◌+◌, ◌-◌, ◌≤◌, length, take, drop, sym, subst, arith}
use Rattle.history.specs.Entry.{call_of}
use Rattle.history.specs.Head.{head_of}
use Rattle.history.specs.Words.{payload_words}
use Rattle.history.specs.declared.entry.Head.{Head}
use Rattle.model.specs.Calls.{Call, rewritten, turned}
use Rattle.session.specs.Acts.{Wrote, desk_of}
use Rattle.session.specs.Memory.{limits_of, paper_of}
use Rattle.session.specs.Undoing.{call_again, entry_in}
use Rattle.session.proofs.Reversing.{call_is_again, head_some, payload_most}
use Rattle.session.proofs.desk.Desk.do_again.Goals as goal

pub again-requires : goal.again-requires
again-requires c =
    let ps = c.args.self.now.pieces.now in
    let us = c.args.self.now.undo.now in
    let a = c.args.at in
    let e = entry_in us a in
    let h = c.read_head-head.result in
    let is : h ≡ head_of e = c.read_head-head.ensures.entry e c.requires.there.stands in
    let call : call_again h.kind h (take (h.count - 1) (drop (a + 7) us)) ≡ call_of e =
    subst (λ (g : Head). call_again g.kind g (take (g.count - 1) (drop (a + 7) us)) ≡ call_of e) (sym is) (call_is_again us a e c.requires.there.stands) in
    let some : 1 ≤ h.count = subst (λ (g : Head). 1 ≤ g.count) (sym is) (head_some e) in
    let most : h.count - 1 ≤ length (payload_words e) = subst (λ (g : Head). g.count - 1 ≤ length (payload_words e)) (sym is) (payload_most e) in
    record {
      some = some;
      inside = omega (arith, most, c.requires.there.inside);
      allowed = subst (λ (k : Call). turned (limits_of ps) (desk_of c.args.self.now.cells.now ps) k ≡ 0) (sym call) c.requires.allowed;
    }

pub returns : goal.returns
returns c =
    let cs = c.args.self.now.cells.now in
    let ps = c.args.self.now.pieces.now in
    let us = c.args.self.now.undo.now in
    let a = c.args.at in
    let e = entry_in us a in
    let h = c.read_head-head.result in
    let w = c.again.ensures in
    let is : h ≡ head_of e = c.read_head-head.ensures.entry e c.requires.there.stands in
    let call : call_again h.kind h (take (h.count - 1) (drop (a + 7) us)) ≡ call_of e =
    subst (λ (g : Head). call_again g.kind g (take (g.count - 1) (drop (a + 7) us)) ≡ call_of e) (sym is) (call_is_again us a e c.requires.there.stands) in
    record {
      same_cells = w.same_cells;
      same_pieces = w.same_pieces;
      same_undo = w.same_undo;
      wrote = subst (λ (k : Call). Wrote cs ps c.again.new.self.cells.now c.again.new.self.pieces.now (rewritten (paper_of cs ps) k)) call w.wrote;
      log = w.log;
    }
