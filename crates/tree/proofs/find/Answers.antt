-- The descent begins at the root.
use Rattle.tree.proofs.Descent.{over_root, found_root}
use Rattle.tree.proofs.find.Goals as goal

pub descend-requires : goal.descend-requires
descend-requires c = over_root _ _ c.requires.sums c.requires.place

pub returns : goal.returns
returns c = found_root _ _ _ _ c.descend.ensures
