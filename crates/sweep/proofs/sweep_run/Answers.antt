use Rattle.std.proofs.Common.{◌≡◌, ◌+◌, ◌≤◌, sym, refl, ap, ◌∙◌, arith}
use Rattle.changes.specs.Rows.{changes_in}
use Rattle.pieces.specs.Store.{used, Located}
use Rattle.kept.specs.Text.{cells_of_mut}
use Rattle.pieces.proofs.Texts.{length_text}
use Rattle.kept.proofs.Edits.{around_none, around_both}
use Rattle.sweep.specs.Sweep.{swept_run}
use Rattle.sweep.proofs.Runs.{before_small, swept_run_none, run_step}
use Rattle.sweep.proofs.sweep_run.Goals as goal

pub loop-left-init : goal.loop-left-init
loop-left-init c =
    let text = c.args.text.now in
    let n = length_text text.cells.now text.tables.now text.slots in
    record { same_cells = refl; same_tables = refl; same_slots = refl; around = around_none text.cells.now text.tables.now text.slots; within = omega (arith, c.requires); swept = refl }

pub overflow_add-next : goal.overflow_add-next
overflow_add-next c =
    let text = c.loop-left.text in
    let few = c.sweep_part-next.ensures.few in
    let small = before_small text.tables.now text.slots text.kept.store.table.order text.slots (omega arith) in
    let most = text.kept.store.table.order.most in
    let within = c.loop-left.invariant.within in
    omega arith

pub loop-left-preserved : goal.loop-left-preserved
loop-left-preserved c =
    let inv = c.loop-left.invariant in
    let old = c.args.text.now in
    let text = c.loop-left.text in
    let k = c.locate-spot.result.piece in
    let o = c.locate-spot.result.offset in
    let m = c.min-m.result in
    let e = c.sweep_part-next.ensures in
    let cells = c.sweep_part-next.new.c in
    let tables = c.sweep_part-next.new.p in
    let found : Located text.tables.now text.slots c.loop-left.next k o = simp (c.text-lent.ensures.tables, c.text-lent.ensures.slots) at c.locate-spot.ensures in
    let has : c.used.result ≡ used text.tables.now k = rw c.text-lent.ensures.tables at c.used.ensures in
    let within = found.within in
    let fits : o + m ≤ used text.tables.now k = omega arith in
    let step = run_step text.cells.now text.tables.now cells tables text.slots c.loop-left.next k o m c.loop-left.left
    c.sweep_part-next.result c.args.action (changes_in c.args.row.now) found (omega arith) fits inv.within e.swept e.left in
    record {
      same_cells = inv.same_cells;
      same_tables = inv.same_tables;
      same_slots = inv.same_slots;
      around = around_both old.cells.now old.tables.now text.cells.now text.tables.now cells tables old.slots inv.around (rw inv.same_slots at e.swept.around);
      within = step.0;
      swept = step.1 ∙ inv.swept;
    }

pub returns : goal.returns
returns c =
    let inv = c.loop-left.invariant in
    let a = c.args.action in
    let cs = changes_in c.args.row.now in
    let new = c.loop-left.text in
    let t = cells_of_mut new in
    let z : c.loop-left.left ≡ 0 = omega arith in
    let done : t ≡ swept_run a cs (cells_of_mut c.args.text.now) c.args.place c.args.n =
    sym (ap (λ n. swept_run a cs t c.loop-left.next n) z ∙ swept_run_none a cs t c.loop-left.next) ∙ inv.swept in
    record {
      same_cells = inv.same_cells;
      same_tables = inv.same_tables;
      same_slots = inv.same_slots;
      edited = record { kept = rw inv.same_slots at new.kept; around = inv.around; text = rw inv.same_slots at done };
    }

pub used-requires : goal.used-requires
used-requires c =
    let most = c.loop-left.text.kept.store.table.order.most in
    let found = simp (c.text-lent.ensures.tables, c.text-lent.ensures.slots) at c.locate-spot.ensures in
    let here = found.here in
    omega arith

pub overflow_sub-left : goal.overflow_sub-left
overflow_sub-left c = let e = c.min-m.ensures in omega arith

pub loop-left-smaller : goal.loop-left-smaller
loop-left-smaller c =
    let has : c.used.result ≡ used c.loop-left.text.tables.now c.locate-spot.result.piece = rw c.text-lent.ensures.tables at c.used.ensures in
    let found = simp (c.text-lent.ensures.tables, c.text-lent.ensures.slots) at c.locate-spot.ensures in
    let within = found.within in
    let test = c.loop-left-test.true in
    let e = c.min-m.ensures in
    omega arith
