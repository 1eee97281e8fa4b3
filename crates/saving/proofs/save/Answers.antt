use Rattle.std.proofs.Common.{◌≡◌, ◌+◌, ◌-◌, ◌*◌, ◌<◌, ◌≤◌, min, length, arith}
use Rattle.pieces.specs.Store.{before}
use Rattle.saving.proofs.Files.{before_few, saves_none, saves}
use Rattle.saving.proofs.save.Goals as goal

pub overflow_mul-count : goal.overflow_mul-count
overflow_mul-count c = let b = before_few c.args.text.now.tables.now c.args.text.now.slots c.args.text.now.kept.store.table.order in let e = c.count.ensures in omega arith

pub overflow_add-before-2 : goal.overflow_add-before-2
overflow_add-before-2 c =
    let b = before_few c.args.text.now.tables.now c.args.text.now.slots c.args.text.now.kept.store.table.order in
    let e = c.count.ensures in
    let r = c.requires.row in
    omega arith

pub returns-then-before-count : goal.returns-then-before-count
returns-then-before-count c =
    let text = c.args.text.now in
    let e = c.count.ensures in
    let h : 1 + 2 * c.args.row.now.len + 4 * before text.tables.now text.slots < c.args.from + c.args.n = omega arith in
    saves_none text.cells.now text.tables.now text.slots c.args.row.now.words.now c.args.row.now.len c.args.row.now.fits c.args.from c.args.n c.args.out.now h

pub returns : goal.returns
returns c =
    let text = c.args.text.now in
    let row = c.args.row.now in
    let e = c.count.ensures in
    let fits : c.args.from + c.args.n ≤ 1 + 2 * row.len + 4 * before text.tables.now text.slots = omega arith in
    let room : 5 + 4 * c.args.n ≤ length c.args.out.now = omega arith in
    let a = c.saturating_sub.ensures in
    let b = c.min-first.ensures in
    let part : c.min-first.result ≡ min c.args.n (1 + 2 * row.len - c.args.from) = cc in
    saves text.cells.now text.tables.now text.slots row.words.now row.len row.fits c.args.from c.args.n c.min-first.result c.saturating_sub-place.result
    c.args.out.now _ _ _ _ _ _ fits room part c.saturating_sub-place.ensures c.begin_numbers-at.ensures.bytes c.begin_numbers-at.ensures.next c.write_head-at.ensures.bytes
    c.write_head-at.ensures.next c.write_cells.ensures.bytes c.write_cells.ensures.next
