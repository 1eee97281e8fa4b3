-- One stretch more, and at the end all.
use Rattle.std.proofs.Common.{◌≡◌, ◌∙◌, take, drop, sym, arith}
use Rattle.model.specs.Paper.{cells_written}
use Rattle.kept.specs.Text.{cells_in}
use Rattle.recorder.proofs.Splices.{written_front, written_none}
use Rattle.recorder.proofs.Runs.{text_small, stretched_long, run_more, pasted_at}
use Rattle.recorder.proofs.copy_text.Goals as goal

pub loop-done-init : goal.loop-done-init
unfolding cells_written
loop-done-init c = (sym (written_none c.args.words.now 0), omega arith)

pub overflow_add-place : goal.overflow_add-place
overflow_add-place c =
    let t = c.args.text.now in
    omega (arith, c.requires.within, c.loop-done-test.true, text_small t.cells.now t.tables.now t.slots t.kept.store.table.order)

pub loop-done-preserved : goal.loop-done-preserved
loop-done-preserved c =
    let f = c.stretch_at-part.ensures in
    let less = c.loop-done-test.true in
    let long = stretched_long (cells_in c.args.text.now) _ _ c.stretch_at-part.result.now f (omega (arith, c.requires.within, less)) in (
      run_more c.args.words.now c.loop-done.words _ (cells_in c.args.text.now) c.args.place c.args.n c.loop-done.done c.stretch_at-part.result.now
          f c.requires.within c.requires.target less c.loop-done.invariant.0
          (pasted_at c.loop-done.words c.paste.new.c c.stretch_at-part.result.now c.loop-done.done long (omega arith) c.paste.ensures.pasted c.paste.ensures.kept),
      omega (arith, f.few, less),
    )

pub loop-done-smaller : goal.loop-done-smaller
loop-done-smaller c =
    let f = c.stretch_at-part.ensures in
    let less = c.loop-done-test.true in
    let long = stretched_long (cells_in c.args.text.now) _ _ c.stretch_at-part.result.now f (omega (arith, c.requires.within, less)) in
    omega (arith, f.some, f.few, less)

pub returns : goal.returns
returns c =
    let e : c.loop-done.done ≡ c.args.n = omega (arith, c.loop-done.invariant.1) in
    let t = take c.args.n (drop c.args.place (cells_in c.args.text.now)) in
    (rw e at c.loop-done.invariant.0) ∙ written_front c.args.words.now (cells_written t)
