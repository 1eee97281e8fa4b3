use Rattle.std.proofs.Common.{◌≡◌, ℕ, ◌-◌, ◌≤◌, Bor, List, [], ◌∷◌, length, is_some, sym, subst, arith}
use Rattle.std.proofs.lemmas.List.{length-take-le}
use Rattle.std.proofs.lemmas.Result.{MatchResult-weaker}
use Rattle.text.specs.Lines.{shape_of, call_of, call_in, letters_of, Stops, Fails}
use Rattle.text.specs.declared.fault.Fault.TheVariants.{Place}
use Rattle.text.proofs.Ends.{end_place, stops_there}
use Rattle.text.proofs.Furthest.{call_end}
use Rattle.text.proofs.Whole.{made, fails_from_lacks}
use Rattle.text.proofs.reader.read_as.Goals as goal

pub returns-in-Ok : goal.returns-in-Ok
returns-in-Ok c =
    let form = c.of.ensures in
    let ns = c.parse.new.numbers in
    let ls = letters_of c.in-Ok.text in
    let fit : length ns ≡ (shape_of c.args.k).count = omega (arith, length-take-le {A = ℕ} c.of.result.count (0 ∷ (0 ∷ (0 ∷ (0 ∷ [])))) form.3) in
    let read = c.in-Ok.ensures.read in
    MatchResult-weaker c.write_call.result c.write_call.ensures
    (λ v e. (call_of c.args.k ns ls, read.0, made c.args.k ns ls (is_some c.in-Ok.text) v.items c.requires fit read.1 e))
    (λ f l. fails_from_lacks (call_in c.args.k c.args.line.now) c.args.line.now f l)

pub overflow_sub-result : goal.overflow_sub-result
overflow_sub-result c =
    let stops = subst (Stops (call_in c.args.k c.args.line.now)) c.in-Err-At.field-0-is c.in-Err-At.ensures.read in
    subst (λ (rest : Bor (List ℕ)). length rest.now ≤ length c.args.line.now) (sym c.in-Err-At.rest-is) (end_place c.args.line.now c.in-Err-At.rest.now (call_end c.args.k c.requires c.args.line.now c.in-Err-At.rest.now stops)).1

pub returns-in-Err-At : goal.returns-in-Err-At
returns-in-Err-At c =
    let stops = subst (Stops (call_in c.args.k c.args.line.now)) c.in-Err-At.field-0-is c.in-Err-At.ensures.read in
    let end = call_end c.args.k c.requires c.args.line.now c.in-Err-At.rest.now stops in
    subst (λ (rest : Bor (List ℕ)). Fails (call_in c.args.k c.args.line.now) c.args.line.now (Place (length c.args.line.now - length rest.now))) (sym c.in-Err-At.rest-is) (stops_there (call_in c.args.k c.args.line.now) c.args.line.now c.in-Err-At.rest.now end stops)
