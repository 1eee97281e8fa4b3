use Rattle.std.proofs.Common.{ℕ, ◌<◌, ◌≤◌, length, sym, ap, ◌∙◌, arith}
use Rattle.std.proofs.lemmas.List.{length-map}
use Rattle.model.specs.Rows.{Cut}
use Rattle.printing.specs.Values.{cell_of, cells_of}
use Rattle.printing.proofs.Shown.{first_row, cut_end, cut_all, cut_space, cut_full}
use Rattle.printing.proofs.rows.first_row.Goals as goal

pub returns-in-Some : goal.returns-in-Some
returns-in-Some c = first_row c.args.cells.now _ (cut_end 64 (cells_of c.args.cells.now) c.in-Some.long c.in-Some.ensures)

pub returns-then-cells-le-WIDTH : goal.returns-then-cells-le-WIDTH
returns-then-cells-le-WIDTH c =
    let xs = cells_of c.args.cells.now in
    let l = length-map c.args.cells.now cell_of in
    let h : length xs ≤ 64 = omega (arith, l) in
    let at : ℕ → Cut = λ n. record { long = n; skips = 0 } in
    first_row c.args.cells.now _ (ap at (sym l) ∙ cut_all 64 xs c.in_default.ensures h)

pub returns-in-Some-last_space : goal.returns-in-Some-last_space
returns-in-Some-last_space c =
    let xs = cells_of c.args.cells.now in
    let h : 64 < length xs = omega (arith, length-map c.args.cells.now cell_of) in
    first_row c.args.cells.now _ (cut_space 64 xs c.in_default.ensures h c.in-Some-last_space.long c.in-Some-last_space.ensures)

pub returns-in-None : goal.returns-in-None
returns-in-None c =
    let xs = cells_of c.args.cells.now in
    let h : 64 < length xs = omega (arith, length-map c.args.cells.now cell_of) in
    first_row c.args.cells.now _ (cut_full 64 xs c.in_default.ensures h c.in-None.ensures)
