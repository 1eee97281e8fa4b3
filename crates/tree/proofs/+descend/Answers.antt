-- The steps of the descent, by the lemmas on them.
use Rattle.std.proofs.Common.{arith}
use Rattle.tree.proofs.+descend.Goals as goal
use Rattle.tree.proofs.Descent.{from_leaf, found_leaf, inner, over_left, over_right, found_left, found_right}

pub overflow_sub-result : goal.overflow_sub-result
overflow_sub-result t c = from_leaf _ _ _ _ c.if-height-eq0.true c.requires

pub returns-then-height-eq0 : goal.returns-then-height-eq0
returns-then-height-eq0 t c = found_leaf _ _ _ _ c.if-height-eq0.true c.requires

pub overflow_mul-child : goal.overflow_mul-child
overflow_mul-child t c = omega (arith, inner _ _ _ _ (omega arith) c.requires)

pub offset_bounds-t-child : goal.offset_bounds-t-child
offset_bounds-t-child t c = omega (arith, inner _ _ _ _ (omega arith) c.requires)

pub bounds-t-child : goal.bounds-t-child
bounds-t-child t c = omega (arith, inner _ _ _ _ (omega arith) c.requires, c.requires.sums.long)

pub descend-requires : goal.descend-requires
descend-requires t c = (omega arith, over_left _ _ _ _ (omega arith) c.requires (omega arith))

pub overflow_add-child : goal.overflow_add-child
overflow_add-child t c = omega (arith, inner _ _ _ _ (omega arith) c.requires)

pub descend-requires-else-place-left : goal.descend-requires-else-place-left
descend-requires-else-place-left t c = (omega arith, over_right _ _ _ _ (omega arith) c.requires (omega arith))

pub returns-then-place-left : goal.returns-then-place-left
returns-then-place-left t c = found_left _ _ _ _ (omega arith) c.requires _ _ c.descend.ensures

pub returns-else-place-left : goal.returns-else-place-left
returns-else-place-left t c = found_right _ _ _ _ (omega arith) c.requires _ _ (omega arith) c.descend-else-place-left.ensures
