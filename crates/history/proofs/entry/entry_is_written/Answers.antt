-- The words of an entry.
use Rattle.history.proofs.Heads.{entry_written, entry_stands, payload_stands, letter_stands}
use Rattle.history.proofs.entry.entry_is_written.Goals as goal

pub returns : goal.returns
returns c = record { written = entry_written; stands = entry_stands; payload = payload_stands; letter = letter_stands }
