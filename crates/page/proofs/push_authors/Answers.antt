use Rattle.std.proofs.Common.{◌+◌, ◌-◌, ◌<◌, ◌++◌, map, vec_items, sym, ap, ◌∙◌, arith}
use Rattle.model.specs.Values.{change_of}
use Rattle.page.specs.Page.{authors_from}
use Rattle.page.proofs.Written.{authors_more, authors_skip, authors_end}
use Rattle.page.proofs.push_authors.Goals as goal
use Rattle.page.proofs.push_authors.Goals.{then-has+in_ok-push_author, else-has}

pub loop-author-preserved : goal.loop-author-preserved
loop-author-preserved c =
    let cs = map change_of c.args.changes.now in
    let a = c.loop-author.author in
    let out = vec_items c.loop-author.out in
    let h : a < 256 = omega arith in
    elim c.if-has.branch [
      | then-has+in_ok-push_author w ↦
          ap (λ v. vec_items v ++ authors_from (256 - (a + 1)) (a + 1) cs) w.out-is
          ∙ (ap (λ ls. ls ++ authors_from (256 - (a + 1)) (a + 1) cs) w.in_ok-push_author.ensures
          ∙ (authors_more out cs 256 a h (sym c.has.ensures ∙ w.if-has.true) ∙ c.loop-author.invariant))
      | else-has w ↦
          ap (λ v. vec_items v ++ authors_from (256 - (a + 1)) (a + 1) cs) w.out-is ∙ (authors_skip out cs 256 a h (sym c.has.ensures ∙ w.if-has.false) ∙ c.loop-author.invariant)
    ]

pub returns : goal.returns
returns c = sym (authors_end (vec_items c.loop-author.out) (map change_of c.args.changes.now) 256 c.loop-author.author (omega arith)) ∙ c.loop-author.invariant
