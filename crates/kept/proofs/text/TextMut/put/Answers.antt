use Rattle.std.proofs.Common.{length, ◌++◌, take, drop, ap, ◌∙◌, arith}
use Rattle.slots.proofs.Words.{all_take}
use Rattle.kept.specs.Text.{cells_of_mut}
use Rattle.kept.proofs.Rewriting.{rewrites_as}
use Rattle.kept.proofs.text.TextMut.put.Goals as goal

pub returns : goal.returns
returns c =
    let t = cells_of_mut c.args.self.now in
    rewrites_as c.args.self.now c.insert.new.self _ _ c.insert.ensures
    (ap (λ xs. take c.args.place t ++ (xs ++ drop c.args.place t)) (all_take c.fill.new.c (length c.args.letters.now) (omega arith) ∙ c.fill.ensures.filled))
