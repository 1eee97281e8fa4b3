use Rattle.std.proofs.Common.{◌≡◌, ℕ, ◌<◌, ◌≤◌, length, get_or, ap, ◌∙◌, arith}
use Rattle.std.proofs.lemmas.List.{get_or-take}
use Rattle.slots.specs.Cells.{all_cells, cell_at}
use Rattle.slots.proofs.Words.{all_first, all_none}
use Rattle.slots.proofs.CellsIterator.next.Goals as goal

pub returns-in_err-first-clause-steps : goal.returns-in_err-first-clause-steps
returns-in_err-first-clause-steps c =
    let n = all_none c.args.self.now.words.now c.in_err-first.ensures.cases in
    rw c.from_residual.ensures (n, n)

pub returns-clause-steps : goal.returns-clause-steps
unfolding cell_at
returns-clause-steps c =
    let w = c.args.self.now.words.now in
    let e = c.in_ok-first.ensures.cases in
    let long : 4 ≤ length w = omega (arith, e.2) in
    let read : (k : ℕ) → k < 4 → get_or c.in_ok-first.first.now k 0 ≡ get_or w k 0 = λ k h. ap (λ l. get_or l k 0) e.0 ∙ get_or-take 4 w k 0 h in
    let a = read 0 (omega arith) in
    let b = read 1 (omega arith) in
    let d = read 2 (omega arith) in
    let f = read 3 (omega arith) in
    let rest = ap all_cells e.1 in
    let first = all_first w long in
    cc

pub returns-clause-goes : goal.returns-clause-goes
returns-clause-goes c =
    let e = ap length (returns-clause-steps c) in
    record { on = λ f. (tt, tt, omega arith); keeps = tt; rests = λ f. tt }
