-- Each way out, by the lemmas on files and their beginnings.
use Rattle.std.proofs.Common.{List, rules, ◌≡◌, ℕ, ◌-◌, ◌*◌, ◌%◌, length, get_or, ap, arith}
use borrow.Author.Tests.{tests}
use native.Mathlib.Nat.{mul-mod_right}
use Rattle.std.proofs.lemmas.Iterator.{first_from_Range}
use Rattle.file.specs.Places.{NumberFits}
use Rattle.file.proofs.Beginnings.{whole, misfit, short, begins}
use Rattle.file.proofs.File.read.Goals as goal
use Rattle.file.proofs.File.read.Goals.{then-rest-changes-via-then-rest-changes, then-rest-changes-via-else-rest-changes+then-rest-changes-gt0}

pub returns-in-Some : goal.returns-in-Some
returns-in-Some c =
    let ns = c.args.numbers.now in
    let f =
    rw c.in-Some.is at
    (first_from_Range _ _ _ c.find.result (λ i. NumberFits ns i → ⊥) (NumberFits ns) c.find.ensures.ran (λ x q k. search (rules, tests)) (λ x q k. search (rules, tests))) in
    record { within = omega (arith, f.1); begins = begins _ _ (omega (arith, f.1)) (λ k h. f.3 k (omega arith) h); ends = misfit _ _ f.1 f.2 }

pub returns-in_default-split_first : goal.returns-in_default-split_first
returns-in_default-split_first c =
    let h : length c.args.numbers.now ≡ 0 = c.in_default-split_first.ensures.cases in
    record { within = omega arith; begins = begins c.args.numbers.now 0 (omega arith) (λ k h. absurd (omega arith)); ends = rw h at (short c.args.numbers.now (λ n m e l. omega arith)) }

pub returns-then-rest-changes : goal.returns-then-rest-changes
returns-then-rest-changes c =
    let ns = c.args.numbers.now in
    let f =
    rw c.in_default.is at
    (first_from_Range _ _ _ c.find.result (λ i. NumberFits ns i → ⊥) (NumberFits ns) c.find.ensures.ran (λ x q k. search (rules, tests)) (λ x q k. search (rules, tests))) in
    let p = c.in-Some-split_first.ensures.cases in
    let first : get_or ns 0 0 ≡ c.in-Some-split_first.changes.now = ap (λ (vs : List ℕ). get_or vs 0 0) p.0 in
    record {
      within = omega arith;
      begins = begins _ _ (omega arith) (λ k h. f k (omega arith) (omega arith));
      ends =
          short _ (λ n m e l.
          elim c.then-rest-changes.branch [
            | then-rest-changes-via-then-rest-changes w ↦ omega (arith, p.1)
            | then-rest-changes-via-else-rest-changes+then-rest-changes-gt0 w ↦
                let d : length c.in-Some-split_first.rest.now - 2 * c.in-Some-split_first.changes.now ≡ 4 * m = omega (arith, p.1) in
                omega (arith, ap (λ (i : ℕ). i % 4) d, mul-mod_right 4 m)
          ]);
    }

pub invariant_of-result : goal.invariant_of-result
invariant_of-result c =
    let ns = c.args.numbers.now in
    let f =
    rw c.in_default.is at
    (first_from_Range _ _ _ c.find.result (λ i. NumberFits ns i → ⊥) (NumberFits ns) c.find.ensures.ran (λ x q k. search (rules, tests)) (λ x q k. search (rules, tests))) in
    let p = c.in-Some-split_first.ensures.cases in
    record { fits = whole _ _ _ (omega (arith, p.1)) (ap (λ (vs : List ℕ). get_or vs 0 0) p.0) (λ i h. f i (omega arith) (omega arith)) }
