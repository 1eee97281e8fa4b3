use Rattle.sweep.proofs.words_fit.Goals as goal

pub returns : goal.returns
returns c k = (c.type_inv.words k).fits
