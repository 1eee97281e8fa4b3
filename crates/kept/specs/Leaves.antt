-- Leaves of a tree that follow a cut. Definitions only: nothing is assumed.
use Rattle.std.specs.Prelude.{◌≡◌, ℕ, ◌+◌, ◌<◌, ◌≤◌, List, length, drop, slice_index}
use Rattle.tree.specs.Tree.{Sums}
use Rattle.kept.specs.Kept.{leaf}

-- from p to q, in the tree that begins at word t: the leaves behind leaf k moved up by one (what leaf k + 1 is now is not said: its piece is tallied next); all sums are
-- made right, and no word before or behind the tree has changed
pub record MovedUp (p q : List ℕ) (t s k : ℕ) : Type 0 where
  pub long : length q ≡ length p
  pub sums : Sums (drop t q)
  pub below : (j : ℕ) → j ≤ k → leaf q t j ≡ leaf p t j
  pub up : (j : ℕ) → k < j → j + 1 < s → leaf q t (j + 1) ≡ leaf p t j
  pub past : (j : ℕ) → s ≤ j → j < 2048 → leaf q t j ≡ leaf p t j
  pub before : (w : ℕ) → w < t → slice_index q w ≡ slice_index p w
  pub behind : drop (t + 4096) q ≡ drop (t + 4096) p
