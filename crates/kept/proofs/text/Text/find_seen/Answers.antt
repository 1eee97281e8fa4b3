use Rattle.std.proofs.Common.{◌<◌, get_or, drop, arith}
use Rattle.std.proofs.lemmas.List.{take_rest, get_or-drop}
use Rattle.model.specs.Values.{way_number}
use Rattle.pieces.specs.Store.{piece}
use Rattle.kept.specs.Kept.{tree_at}
use Rattle.kept.proofs.Seen.{counts, root_seen, found_seen}
use Rattle.kept.proofs.text.Text.find_seen.Goals as goal

pub find-requires-clause-sums : goal.find-requires-clause-sums
find-requires-clause-sums c =
    let x = c.args.self.now in
    let n = counts x.cells.now x.tables.now x.slots x.kept c.args.way in
    rw (take_rest, c.tree_of.ensures) n.sums

pub find-requires-clause-place : goal.find-requires-clause-place
find-requires-clause-place c =
    let x = c.args.self.now in
    let w = c.args.way in
    let n = counts x.cells.now x.tables.now x.slots x.kept w in
    let r = root_seen (piece x.cells.now x.tables.now) x.tables.now x.slots (tree_at w) (way_number w) n in
    let g = get_or-drop (tree_at w) x.tables.now 1 0 in
    let l : c.args.place < get_or (drop (tree_at w) x.tables.now) 1 0 = let h = c.requires in omega arith in
    rw (take_rest, c.tree_of.ensures) l

pub returns : goal.returns
returns c =
    let x = c.args.self.now in
    let w = c.args.way in
    let n = counts x.cells.now x.tables.now x.slots x.kept w in
    found_seen x.cells.now x.tables.now x.slots (tree_at w) (way_number w) c.args.place c.find.result.piece c.find.result.offset n
    (rw (take_rest, c.tree_of.ensures) at c.find.ensures)
