use Rattle.std.proofs.Common.{◌≡◌, ◌<◌, refl, ap, ◌∙◌, zero-add, below_none, below_more, arith}
use Rattle.changes.specs.Rows.{changes_in}
use Rattle.pieces.specs.Store.{piece, strung}
use Rattle.kept.proofs.Edits.{around_none, around_both}
use Rattle.sweep.specs.Sweep.{concerned, swept}
use Rattle.sweep.proofs.Marks.{concerned_none, concerned_next}
use Rattle.sweep.proofs.Runs.{strung_swept}
use Rattle.sweep.proofs.sweep_all.Goals as goal

pub loop-k-init : goal.loop-k-init
unfolding strung
loop-k-init c =
    let text = c.args.text.now in
    record {
      same_cells = refl;
      same_tables = refl;
      same_slots = refl;
      around = around_none text.cells.now text.tables.now text.slots;
      done = below_none (λ j. piece text.cells.now text.tables.now j ≡ swept c.args.action (changes_in c.args.row.now) (piece text.cells.now text.tables.now j));
      others = λ j l m. refl;
      count = concerned_none c.args.action;
      few = omega arith;
    }

pub loop-k-preserved : goal.loop-k-preserved
loop-k-preserved c =
    let inv = c.loop-k.invariant in
    let old = c.args.text.now in
    let text = c.loop-k.text in
    let cells = c.sweep_whole-count.new.c in
    let tables = c.sweep_whole-count.new.p in
    let k = c.loop-k.k in
    let s = old.slots in
    let cs = changes_in c.args.row.now in
    let e = c.sweep_whole-count.ensures in
    let h = rw inv.same_slots at e.swept in
    let few = e.few in
    let here : k < s = omega (arith, c.loop-k-test.true, inv.same_slots) in
    record {
      same_cells = inv.same_cells;
      same_tables = inv.same_tables;
      same_slots = inv.same_slots;
      around = around_both old.cells.now old.tables.now text.cells.now text.tables.now cells tables s inv.around h.around;
      done = below_more (λ j. piece cells tables j ≡ swept c.args.action cs (piece old.cells.now old.tables.now j)) k
          (λ j l. h.others j (omega arith) (omega arith) ∙ inv.done j l)
          (h.here ∙ ap (swept c.args.action cs) (inv.others k (omega arith) here));
      others = λ j l m. h.others j m (omega arith) ∙ inv.others j (omega arith) m;
      count = concerned_next c.args.action old.cells.now old.tables.now k c.loop-k.count c.sweep_whole-count.result (e.count ∙ ap (concerned c.args.action) (inv.others k (omega arith) here)) inv.count;
      few = omega arith;
    }

pub returns-clause-swept : goal.returns-clause-swept
returns-clause-swept c =
    let inv = c.loop-k.invariant in
    let old = c.args.text.now in
    let new = c.loop-k.text in
    record {
      same_cells = inv.same_cells;
      same_tables = inv.same_tables;
      same_slots = inv.same_slots;
      edited = record {
        kept = rw inv.same_slots at new.kept;
        around = inv.around;
        text = strung_swept c.args.action (changes_in c.args.row.now) (piece old.cells.now old.tables.now) (piece new.cells.now new.tables.now) 0 old.slots
            (λ i l. simp zero-add (inv.done i (omega arith)));
      };
    }

pub overflow_add-count : goal.overflow_add-count
overflow_add-count c = let most = c.loop-k.text.kept.store.table.order.most in let few = c.loop-k.invariant.few in let more = c.sweep_whole-count.ensures.few in omega arith

pub returns-clause-count : goal.returns-clause-count
returns-clause-count c =
    let inv = c.loop-k.invariant in
    let z : c.loop-k.k ≡ c.args.text.now.slots = omega (arith, inv.same_slots) in
    rw z at inv.count
