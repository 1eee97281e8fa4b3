-- From row to row: what is left of a row of letters after its first rows. Definitions only: nothing is assumed.
use Rattle.std.specs.Prelude.{ℕ, zero, suc, ◌+◌, List, drop}
use Rattle.model.specs.Paper.{Cell}
use Rattle.model.specs.Rows.{cut}

-- how many letters the first row takes, with those after it that are not set
abbrev pub step : ℕ → List Cell → ℕ
step w xs = (cut w xs).long + (cut w xs).skips

-- what is left after n rows of width w; where nothing is left, nothing is left after one more
unfoldable pub rest : ℕ → ℕ → List Cell → List Cell
rest w zero xs = xs
rest w (suc n) xs = drop (step w (rest w n xs)) (rest w n xs)
