-- An open desk in memory of its own: its limits, and which desk it is. Definitions only: nothing is assumed.
use Rattle.model.specs.Calls.{Desk, Limits}
use Rattle.session.specs.Memory.{limits_of, Stands}
use Rattle.transcript.specs.declared.open.OpenDesk.{OpenDesk}

abbrev pub limits_at : OpenDesk → Limits
limits_at m = limits_of m.pieces.items

abbrev pub StandsFor : OpenDesk → Desk → Type 0
StandsFor m d = Stands m.cells.items m.pieces.items m.undo.items d
