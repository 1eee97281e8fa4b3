-- Words that are all 0 are an empty log.
use Rattle.std.proofs.Common.{rules, ◌≡◌, ◌+◌, ◌*◌, ◌≤◌, ◌++◌, length, drop, replicate}
use Rattle.history.proofs.Keeping.{cleared}
use Rattle.history.proofs.log.clear.Goals as goal

pub returns-clause-log : goal.returns-clause-log
returns-clause-log c =
    let n = 16 + 16 * c.args.limit in
    let u = c.args.u.now in
    let w : c.fill.new.self ++ drop n u ≡ replicate n 0 ++ drop n u = search rules in
    let l : n ≤ length (c.fill.new.self ++ drop n u) = search rules in
    cleared u (c.fill.new.self ++ drop n u) c.args.limit w c.requires.low l
