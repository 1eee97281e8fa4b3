use Rattle.changes.specs.Rows.{changes_in}
use Rattle.kept.proofs.Framed.{trees_past}
use Rattle.sweep.proofs.Tallied.{tallied}
use Rattle.kept.proofs.Whole.{trees_of}
use Rattle.sweep.proofs.Sweep.sweep_part.Goals as goal

pub tally-requires-clause-trees : goal.tally-requires-clause-trees
tally-requires-clause-trees c =
    trees_past c.args.p.now c.sweep_piece-left.new.p c.sweep_piece-left.ensures.changed.frame.words_past c.args.s (trees_of c.requires.kept)

pub returns-clause-swept : goal.returns-clause-swept
returns-clause-swept c =
    let t = c.tally.ensures in
    tallied c.args.c.now c.args.p.now c.sweep_piece-left.new.c c.sweep_piece-left.new.p c.tally.new.p c.args.s c.args.spot.piece c.args.spot.offset c.args.n
    c.args.self.now.action (changes_in c.args.self.now.row) c.requires.kept c.requires.here c.requires.within c.sweep_piece-left.ensures.changed
    t.above t.store t.trees t.here t.others
