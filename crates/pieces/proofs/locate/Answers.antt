use Rattle.std.proofs.Common.{◌<◌, get_or, drop, arith}
use Rattle.std.proofs.lemmas.List.{take_rest, get_or-drop}
use Rattle.pieces.proofs.Counts.{found_located, root_before}
use Rattle.pieces.proofs.locate.Goals as goal

pub find-requires : goal.find-requires
find-requires c =
    let r = root_before c.args.p.now c.args.s c.requires.table in
    let g = get_or-drop 2048 c.args.p.now 1 0 in
    let l : c.args.place < get_or (drop 2048 c.args.p.now) 1 0 = omega arith in
    rw take_rest record { sums = c.requires.table.sums; place = l }

pub returns : goal.returns
returns c =
    found_located c.args.p.now c.args.s c.args.place c.find.result.piece c.find.result.offset c.requires.table
    (rw take_rest at c.find.ensures)
