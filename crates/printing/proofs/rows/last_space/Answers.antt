use Rattle.std.proofs.Common.{rules, eqb, refl}
use borrow.Author.Tests.{tests}
use Rattle.std.specs.Slice.Iter.{iter_rest}
use Rattle.printing.proofs.Shown.{place_back, last_place}
use Rattle.printing.proofs.rows.last_space.Goals as goal

pub returns : goal.returns
returns c =
    last_place c.args.cells.now (iter_rest c.iter.result) _ c.rposition.result (search rules) refl
    (place_back _ (λ x. eqb x.letter 32) _ _ _ _ _ c.rposition.ensures.ran (λ x b q k. search (rules, tests)))
