-- A text is whole in one way alone, which a fact that a value carries has to be.
use Rattle.std.specs.Prelude.{ℕ, List}
use Rattle.std.proofs.Props as std
use Rattle.kept.specs.Kept.{Tallies}

pub tallies_prop : (c p : List ℕ) (s : ℕ) → IsProp (Tallies c p s)
unfolding Tallies
tallies_prop c p s = hlevel std.props

-- for `by { Prim.hlevel props }` after a ghost field
pub ruleset props = (std.props, tallies_prop)
