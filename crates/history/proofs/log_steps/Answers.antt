-- The steps of a log.
use Rattle.history.proofs.log_steps.Goals as goal
use Rattle.history.proofs.Logging.{log_long, one_log, log_back, log_ahead, log_forgets, log_drops, log_pushes, log_moves}

pub returns : goal.returns
returns c = record { long = log_long; one = one_log; back = log_back; ahead = log_ahead; forgets = log_forgets; drops = log_drops; pushes = log_pushes; moves = log_moves }
