-- What is printed of a text is one thing only. A statement, proved on a function's contract.
use Rattle.std.specs.Prelude.{◌≡◌, ℕ, List}
use Rattle.printing.specs.Printed.{Printed}

abbrev pub OneOutput : Type 0
OneOutput = (text out other : List ℕ) → Printed text out → Printed text other → out ≡ other
