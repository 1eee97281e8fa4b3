-- What is kept of a text, opened and shut.
use Rattle.std.proofs.Common.{ℕ, ◌<◌, List}
use Rattle.pieces.specs.Store.{Store}
use Rattle.kept.specs.Kept.{Kept, Tallied, Tallies, Trees}

pub trees_of : {c p : List ℕ} {s : ℕ} → Kept c p s → Trees p s
unfolding Tallies
trees_of k = k.tallies.trees

pub tallied_of : {c p : List ℕ} {s : ℕ} → Kept c p s → (k : ℕ) → k < s → Tallied c p k
unfolding Tallies
tallied_of k = k.tallies.tallied

pub whole : {c p : List ℕ} {s : ℕ} → Store c p s → Trees p s → ((k : ℕ) → k < s → Tallied c p k) → Kept c p s
unfolding Tallies
whole store trees tallied = record { store = store; long = trees.long; tallies = record { trees = trees; tallied = tallied } }
