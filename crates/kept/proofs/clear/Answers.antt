use Rattle.std.proofs.Common.{◌≡◌, drop, replicate, length, ap, ◌∙◌, ◌≤◌, arith}
use Rattle.std.proofs.lemmas.List.{length-drop, length-take-le}
use Rattle.kept.proofs.Clearing.{tables_is, tables_kept}
use Rattle.kept.proofs.clear.Goals as goal

pub returns-clause-words : goal.returns-clause-words
returns-clause-words c =
    let p = c.args.p.now in
    let long : 24576 ≤ length (drop 10240 p) = let w = c.requires.words in simp length-drop (omega arith) in
    let z : c.fill.new.self ≡ replicate 24576 0 =
    c.fill.ensures.after (λ y e. e) ∙ ap (λ n. replicate n 0) (length-take-le 24576 (drop 10240 p) long) in
    tables_is p c.fill.new.self c.clear.new.p c.args.s c.requires.most c.requires.words z c.clear.ensures.words

pub returns-clause-kept : goal.returns-clause-kept
returns-clause-kept c =
    tables_kept c.args.p.now c.args.s c.requires.most c.requires.words c.clear.new.c c.clear.new.p (returns-clause-words c) c.clear.ensures.store
