-- What is kept.
use Rattle.history.proofs.kept_is_remembered.Goals as goal
use Rattle.history.proofs.Stepping.{kept_remembered, kept_within, kept_all, kept_forgets}

pub returns : goal.returns
returns c = record { same = kept_remembered; within = kept_within; all = kept_all; forgets = kept_forgets }
