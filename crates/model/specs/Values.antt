-- The model's value for each type of the code.
use Rattle.std.specs.Prelude.{◌≡◌, ℕ, ◌≤◌, Result, MatchResult}
use Rattle.model.specs.Paper as paper
use Rattle.model.specs.declared.Cell.{Cell}
use Rattle.model.specs.declared.Change.{Change}
use Rattle.model.specs.declared.verdict.Verdict.{Verdict}
use Rattle.model.specs.declared.verdict.Verdict.TheVariants as verdict
use Rattle.model.specs.declared.way.Way.{Way}
use Rattle.model.specs.declared.way.Way.TheVariants as way
use Rattle.model.specs.declared.way.UnknownWay.{UnknownWay}

abbrev pub cell_of : Cell → paper.Cell
cell_of x = record { letter = x.letter; style = x.style; put_in = x.put_in; struck = x.struck }

abbrev pub change_of : Change → paper.Change
change_of x = record { author = x.author; became = x.became }

-- the number of a way to look
abbrev pub way_number : Way → ℕ
way_number way.Everything = 0
way_number way.Accepted = 1
way_number way.Rejected = 2

-- a number is that of the way which is found, and where none is found it is past them all
abbrev pub NumbersWay : ℕ → Result Way UnknownWay → Type 0
NumbersWay n r = MatchResult r (λ way. way_number way ≡ n) (λ e. (e.0 ≡ n) × (3 ≤ n))

-- what became of a change that is decided, as a number
abbrev pub verdict_number : Verdict → ℕ
verdict_number verdict.Accepted = 1
verdict_number verdict.Rejected = 2
