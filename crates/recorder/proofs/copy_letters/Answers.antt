-- One letter more, and at the end all.
use Rattle.std.proofs.Common.{sym, ap, ◌∙◌}
use Rattle.std.proofs.lemmas.List.{take_all}
use Rattle.recorder.proofs.Splices.{written_at, written_front, written_none, letter_more}
use Rattle.recorder.proofs.copy_letters.Goals as goal

pub loop-i-init : goal.loop-i-init
loop-i-init c = sym (written_none c.args.words.now 0)

pub loop-i-preserved : goal.loop-i-preserved
loop-i-preserved c =
    letter_more c.args.words.now c.loop-i.words c.loop-i.i c.args.letters.now c.from.result c.loop-i-test.true c.requires c.from.ensures c.loop-i.invariant

pub returns : goal.returns
returns c = c.loop-i.invariant ∙ ap (written_at c.args.words.now 0) (take_all c.loop-i.i c.args.letters.now c.loop-i-test.false) ∙ written_front c.args.words.now c.args.letters.now
