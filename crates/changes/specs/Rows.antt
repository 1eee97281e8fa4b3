-- A row of changes that is lent, as one value.
use Rattle.std.specs.Prelude.{List}
use Rattle.changes.specs.Row.{changes_of}
use Rattle.changes.specs.declared.Row.{Row}
use Rattle.model.specs.Paper.{Change}

-- its changes
abbrev pub changes_in : Row → List Change
changes_in r = changes_of r.words.now r.len
