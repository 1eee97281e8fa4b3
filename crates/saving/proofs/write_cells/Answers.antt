use Rattle.std.proofs.Common.{◌≡◌, ◌+◌, ◌-◌, ◌*◌, ◌%◌, ◌≤◌, length, take, drop, arith}
use Rattle.std.proofs.lemmas.Nat.{div-add-mod'}
use Rattle.model.specs.Paper.{cells_written}
use Rattle.pieces.specs.Store.{used, before}
use Rattle.kept.specs.Text.{cells_in}
use Rattle.codec.specs.Bytes.{words_bytes}
use Rattle.codec.specs.Over.{over}
use Rattle.saving.proofs.Runs.{writing_more, writing_done}
use Rattle.saving.proofs.Files.{length_all, piece_run, before_few}
use Rattle.saving.proofs.write_cells.Goals as goal

pub overflow_add-next : goal.overflow_add-next
overflow_add-next c =
    let b = before_few c.args.text.now.tables.now c.args.text.now.slots c.args.text.now.kept.store.table.order in
    let n = c.loop-left.invariant.next in
    let m = c.min-m.ensures in
    omega arith

pub loop-left-preserved : goal.loop-left-preserved
loop-left-preserved c =
    let text = c.args.text.now in
    let first = 4 * c.locate-spot.result.offset + c.loop-left.next % 4 in
    let spot = c.locate-spot.ensures in
    let m = c.min-m.ensures in
    let i = c.loop-left.invariant.next in
    let q = c.loop-left.invariant.place in
    let u = c.used.ensures in
    let kept = c.loop-left.auto.out in
    let n = c.write_words-at.ensures.next in
    let sum = spot.sum in
    let within = spot.within in
    let d = div-add-mod' c.loop-left.next 4 in
    let l = length_all text.cells.now text.tables.now text.slots text.kept.store in
    let few : c.min-m.result ≤ c.loop-left.left = omega arith in
    let inside : c.loop-left.next + c.loop-left.left ≤ length (cells_written (cells_in text)) = omega arith in
    let e : 4 * before text.tables.now c.locate-spot.result.piece + first ≡ c.loop-left.next = omega arith in
    let fits : first + c.min-m.result ≤ 4 * used text.tables.now c.locate-spot.result.piece = omega arith in
    let room : c.write_words-at.result ≤ length c.loop-left.out = omega arith in
    let r = piece_run text.cells.now text.tables.now text.slots text.kept.store c.locate-spot.result.piece spot.here first c.min-m.result c.loop-left.next fits e in
    let at = c.number_of.ensures in
    let b = c.write_words-at.ensures.bytes in
    let start = 4 * c.number_of.result + first in
    let k : start + c.min-m.result - start ≡ c.min-m.result = omega arith in
    let next : c.write_words-at.result ≡ c.loop-left.at + 4 * c.min-m.result = omega arith in
    let w : c.write_words-at.new.out ≡ over c.loop-left.out c.loop-left.at (words_bytes (take c.min-m.result (drop c.loop-left.next (cells_written (cells_in text))))) = cc in
    writing_more _ _ _ _ _ _ _ _ _ c.loop-left.invariant c.min-m.result few inside _ _ w next room

pub returns-clause-bytes : goal.returns-clause-bytes
returns-clause-bytes c =
    let e : c.loop-left.left ≡ 0 = omega arith in
    writing_done _ _ _ _ _ _ _ _ _ c.loop-left.invariant e
