-- The words of one entry.
use Rattle.history.proofs.words_read_back.Goals as goal
use Rattle.history.proofs.Logging.{reads_back, one_entry, entry_long}

pub returns : goal.returns
returns c = record { reads = reads_back; one = one_entry; long = entry_long }
