use Rattle.std.proofs.Common.{◌∷◌, map, of_calls, ap, ◌∙◌}
use Rattle.std.proofs.lemmas.List.{map_push}
use Rattle.std.proofs.lemmas.Result.{err_from_is_err_and}
use Rattle.model.specs.Calls.{new_desk}
use Rattle.transcript.specs.Open.{limits_at}
use Rattle.transcript.specs.Transcript.{call_lines}
use Rattle.transcript.proofs.Letters.{reached_new}
use Rattle.transcript.proofs.FileLines.{came}
use Rattle.transcript.proofs.Serving.{going_more, going_all, going_lacks, file_empty, file_refused, file_served}
use Rattle.transcript.proofs.answer_file.Goals as goal
use Rattle.transcript.proofs.answer_file.Goals.{in-Ok+in_ok-desk-in-Ok+in-None, in-Err+in_ok-refuse-in-Err}

pub returns-in_default : goal.returns-in_default
returns-in_default c = file_empty c.args.file.now c.new-out.result.items c.in_default.ensures.steps.0 c.new-out.ensures.items

pub loop-line-preserved : goal.loop-line-preserved
loop-line-preserved c = (
  search of_calls,
  search of_calls,
  rw (map_push (λ w. w.now) c.loop-line.yielded c.in-Some-line.line)
      (going_more c.in_ok-desk-in-Ok.desk c.loop-line.desk c.answer_line.new.self c.new-out.result.items c.loop-line.out.items c.in-Some-line.line.now c.answer_line.new.out.items
      (map (λ w. w.now) c.loop-line.yielded) c.answer_line.result c.in_ok-answer_line-in-Ok.field-0 c.in_ok-answer_line-in-Ok.was c.loop-line.invariant.2 c.answer_line.ensures),
)

pub returns-in_err-answer_line-in-Ok : goal.returns-in_err-answer_line-in-Ok
returns-in_err-answer_line-in-Ok c =
    let p = err_from_is_err_and c.from_residual-in_err-answer_line-in-Ok.result c.from_residual-in_err-answer_line-in-Ok.ensures.1 in
    let d = c.in_ok-desk-in-Ok.desk in
    rw (p.1, p.2)
    (going_lacks d c.loop-line.desk c.answer_line.new.self c.new-out.result.items c.loop-line.out.items c.in-Some-line.line.now c.answer_line.new.out.items
    (map (λ w. w.now) c.loop-line.yielded) c.answer_line.result c.loop-line.invariant.2 c.answer_line.ensures new_desk (reached_new (limits_at d)) c.in_ok-desk-in-Ok.ensures.1
    c.in_err-answer_line-in-Ok.field-0.0 c.in_err-answer_line-in-Ok.was)

pub returns : goal.returns
returns c =
    let first = c.in-Some.first in
    let rest = call_lines c.next.new.self.rest.now in
    let is = c.in-Some.ensures.steps in
    elim c.match-limits_of.branch [
      | in-Ok+in_ok-desk-in-Ok+in-None w ↦
          let l = w.in-Ok.limits in
          let d = w.in_ok-desk-in-Ok.desk in
          let lines = map (λ w. w.now) w.loop-line.yielded in
          let all = came c.next.new.self _ w.loop-line.line-iterator w.loop-line.yielded w.into_iter-line-iterator.ensures.into_iter_gives w.loop-line.yielded_by w.in-None.ensures.steps.0 in
          ap (λ v. v.items) w.out-is
          ∙ file_served c.args.file.now first.now lines l.cells l.changes l.undos (limits_at d) c.new-out.result.items w.loop-line.out.items (is ∙ ap (λ ls. first.now ∷ ls) all) w.in-Ok.ensures.0 w.in-Ok.ensures.1
          w.in_ok-desk-in-Ok.ensures.0 c.new-out.ensures.items
          (going_all d w.loop-line.desk c.new-out.result.items w.loop-line.out.items lines w.loop-line.invariant.2 new_desk (reached_new (limits_at d)) w.in_ok-desk-in-Ok.ensures.1)
      | in-Err+in_ok-refuse-in-Err w ↦
          ap (λ v. v.items) w.out-is
          ∙ file_refused c.args.file.now first.now rest w.in-Err.refusal c.new-out.result.items w.refuse.new.out.items is (w.in-Err.ensures rest) c.new-out.ensures.items w.in_ok-refuse-in-Err.ensures
    ]
