use Rattle.std.proofs.Common.{◌≤◌, refl, arith, leb-true}
use Rattle.std.proofs.Math.Nat.{add-zero}
use Rattle.std.proofs.lemmas.Result.{err_from_is_err_and}
use Rattle.session.proofs.Putting.{put_done, put_few, put_nowhere, put_room, put_too_much}
use Rattle.session.proofs.desk.Desk.put.Goals as goal

pub returns-in_default : goal.returns-in_default
returns-in_default c =
    record {
      same_cells = refl;
      same_pieces = refl;
      same_undo = refl;
      handled =
          put_nowhere c.args.self.now.held c.count_cells-count.ensures c.args.self.now.undo.now c.args.author c.args.place c.args.style c.args.letters.now c.requires.good
          (rw add-zero at c.in_default.ensures);
    }

pub returns-in_err-number : goal.returns-in_err-number
returns-in_err-number c =
    let p = err_from_is_err_and c.from_residual.result c.from_residual.ensures.1 in
    rw (p.1, p.2, c.in_err-number.ensures.0) record {
      same_cells = refl;
      same_pieces = refl;
      same_undo = refl;
      handled =
          put_too_much c.args.self.now.held c.count_cells-count.ensures c.args.self.now.undo.now c.args.author c.args.place c.args.style c.args.letters.now c.requires.good
          (rw add-zero at c.in-Some.ensures.1) c.in_err-number.ensures.1;
    }

pub put-requires-clause-few : goal.put-requires-clause-few
put-requires-clause-few c = put_few c.args.author c.args.place c.args.style c.args.letters.now c.requires.good

pub write_put-requires : goal.write_put-requires
write_put-requires c =
    let r = put_room c.args.self.now.held c.count_cells-count.ensures c.args.letters.now c.in_ok-number.ensures.1 in
    let h : c.args.place ≤ c.count_cells-count.result = leb-true c.args.place c.count_cells-count.result (rw add-zero at c.in-Some.ensures.1) in
    record {
      place = omega (arith, c.in-Some.ensures.0, c.count_cells-count.ensures);
      few = put_few c.args.author c.args.place c.args.style c.args.letters.now c.requires.good;
      fits = r.0;
      room = r.1;
    }

pub returns : goal.returns
returns c =
    let e = c.write_put.ensures in
    record {
      same_cells = e.same_cells;
      same_pieces = e.same_pieces;
      same_undo = e.same_undo;
      handled =
          rw e.log
          (put_done c.args.self.now.held c.count_cells-count.ensures c.args.self.now.undo.now c.args.author c.args.place c.args.style c.args.letters.now c.requires.good
          c.in-Some.ensures.0 c.in_ok-number.ensures.0 (rw add-zero at c.in-Some.ensures.1) c.in_ok-number.ensures.1
          (record { records = c.put.ensures.records; beyond = c.put.ensures.rest; undo_length = c.put.auto.u }) e.wrote);
    }
