use Rattle.std.proofs.Common.{sym, ◌∙◌, subst}
use Rattle.layout.specs.Fronts.{MemoIs}
use Rattle.layout.proofs.Fronts.{begun_same, memo_kept}
use Rattle.layout.proofs.sheet.Sheet.is_kept.Goals as goal

pub returns-then-kept-way : goal.returns-then-kept-way
returns-then-kept-way c t =
    subst (MemoIs c.args.self.now c.args.k c.args.begun) c.memo-kept.ensures
    (memo_kept c.args.self.now _ _ _ c.requires.here c.requires.begun c.memo-kept.ensures c.if-kept-self.true (c.if-kept-way.true ∙ c.number-way.ensures)
    (begun_same _ _ (sym c.eq.ensures ∙ t)))
