use Rattle.std.proofs.Common.{sym, refl, ◌∙◌}
use Rattle.changes.specs.Rows.{changes_in}
use Rattle.pieces.specs.Store.{piece}
use Rattle.pieces.proofs.Texts.{length_piece}
use Rattle.kept.proofs.Edits.{around_none}
use Rattle.sweep.proofs.Marks.{unconcerned}
use Rattle.sweep.proofs.Runs.{swept_run_all}
use Rattle.sweep.proofs.Tallied.{remarked}
use Rattle.sweep.proofs.Sweep.sweep_whole.Goals as goal

pub returns-then-count-eq0-clause-swept : goal.returns-then-count-eq0-clause-swept
returns-then-count-eq0-clause-swept c =
    let old = c.args.c.now in
    let p = c.args.p.now in
    let none = rw c.if-count-eq0.true at c.concerned-count.ensures.count in
    record {
      kept = c.requires.kept;
      around = around_none old p c.args.s;
      here = sym (unconcerned c.args.self.now.action (changes_in c.args.self.now.row) (piece old p c.args.k) (sym none));
      others = λ j l ne. refl;
    }

pub returns-clause-swept : goal.returns-clause-swept
returns-clause-swept c =
    let s = c.args.s in
    let k = c.args.k in
    let old = c.args.c.now in
    let p = c.args.p.now in
    let all = swept_run_all c.args.self.now.action (changes_in c.args.self.now.row) (piece old p k) c.used-has.result (length_piece old p k ∙ sym c.used-has.ensures) in
    let h = c.sweep_part.ensures.swept in
    let e = c.remark.ensures in
    rw all at (remarked old p c.sweep_part.new.c c.sweep_part.new.p c.remark.new.p s k _ h c.requires.here e.beside e.store)
