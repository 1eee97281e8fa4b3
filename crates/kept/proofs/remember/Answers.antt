use Rattle.kept.proofs.Remembered.{remembered_above, remembered_kept}
use Rattle.kept.proofs.remember.Goals as goal

pub returns-clause-above : goal.returns-clause-above
returns-clause-above c = remembered_above c.args.c.now c.args.p.now c.args.s c.args.k c.args.memo c.requires.kept c.requires.here

pub returns-clause-kept : goal.returns-clause-kept
returns-clause-kept c =
    remembered_kept c.args.c.now c.args.p.now c.args.s c.args.k c.args.memo c.requires.kept c.requires.here c.requires.right
