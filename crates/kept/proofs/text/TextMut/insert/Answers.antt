use Rattle.std.proofs.Common.{rules, ◌∙◌, arith}
use Rattle.std.proofs.lemmas.List.{nil_from_length}
use Rattle.std.specs.Slice.Iter.{chunks_rest}
use Rattle.kept.proofs.Inserting.{inserting_none, inserting_place, inserting_fits, inserting_more, inserting_all}
use Rattle.kept.proofs.text.TextMut.insert.Goals as goal

pub loop-part-init : goal.loop-part-init
loop-part-init c = (search rules, tt, search rules, inserting_none c.args.new.now _ c.args.place c.args.self.now (search rules))

pub insert_part-requires : goal.insert_part-requires
insert_part-requires c =
    let steps = c.in-Some.ensures.steps in
    let inv = c.loop-part.invariant in
    let l = rw inv.2 at steps.1.1 in
    record {
      place = inserting_place c.args.new.now _ c.in-Some.part.now (chunks_rest c.next.new.self) c.args.place c.loop-part.at c.args.self.now c.loop-part.self
          steps.1.0 l c.requires.place inv.3;
      few = omega arith;
      fits = inserting_fits c.args.new.now _ c.in-Some.part.now (chunks_rest c.next.new.self) c.args.place c.loop-part.at c.args.self.now c.loop-part.self
          steps.1.0 l c.requires.place inv.3 c.requires.fits;
    }

pub overflow_add-at : goal.overflow_add-at
overflow_add-at c =
    let steps = c.in-Some.ensures.steps in
    let inv = c.loop-part.invariant in
    let l = rw inv.2 at steps.1.1 in
    let place = inserting_place c.args.new.now _ c.in-Some.part.now (chunks_rest c.next.new.self) c.args.place c.loop-part.at c.args.self.now c.loop-part.self
    steps.1.0 l c.requires.place inv.3 in
    let fits = inserting_fits c.args.new.now _ c.in-Some.part.now (chunks_rest c.next.new.self) c.args.place c.loop-part.at c.args.self.now c.loop-part.self
    steps.1.0 l c.requires.place inv.3 c.requires.fits in
    let most = c.loop-part.self.kept.store.table.order.most in
    omega arith

pub loop-part-preserved : goal.loop-part-preserved
loop-part-preserved c =
    let steps = c.in-Some.ensures.steps in
    let inv = c.loop-part.invariant in (
      search rules,
      tt,
      steps.0 ∙ inv.2,
      inserting_more c.args.new.now _ c.in-Some.part.now (chunks_rest c.next.new.self) c.args.place c.loop-part.at c.args.self.now c.loop-part.self
          steps.1.0 (rw inv.2 at steps.1.1) c.requires.place inv.3 c.insert_part.new.self c.insert_part.ensures,
    )

pub returns : goal.returns
returns c =
    inserting_all c.args.new.now _ c.args.place c.loop-part.at c.args.self.now c.loop-part.self (nil_from_length _ c.in-None.ensures.steps.1.0) c.loop-part.invariant.3
