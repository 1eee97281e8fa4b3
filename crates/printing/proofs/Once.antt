-- A text says one paper, or ceases to be a file at one place, but not both.
use Rattle.std.proofs.Common.{◌≡◌, ℕ, ◌+◌, ◌<◌, ◌≤◌, List, map, length, get_or, take, sym, ap, ◌∙◌, subst, inl, inr, arith}
use Rattle.std.specs.List.{AllByRecursion}
use Rattle.std.proofs.lemmas.List.{take-take}
use Rattle.std.proofs.ByRecursion.{All-take}
use Rattle.std.proofs.lemmas.Bool.{cases_lt}
use Rattle.model.specs.Paper.{Paper, written}
use Rattle.file.specs.Paper.{paper_of}
use Rattle.file.specs.Words.{words, value, WordFits}
use Rattle.file.proofs.Rows.{length_written, paper_back}
use Rattle.printing.specs.Reading.{Says, EndsAt}
use Rattle.printing.specs.Printed.{paper_printed, refusal}
use Rattle.printing.specs.Laws.{OneOutput}

same_paper : (text : List ℕ) (p q : Paper) → Says text p → Says text q → p ≡ q
same_paper text p q a b =
    let e : written p ≡ written q = sym a.file ∙ b.file in
    let n : length p.changes ≡ length q.changes = ap (λ (ns : List ℕ). get_or ns 0 0) e in
    let m : length p.cells ≡ length q.cells = omega (arith, length_written p, length_written q, ap length e) in
    sym (paper_back p)
    ∙ (ap (λ (ns : List ℕ). paper_of ns (length p.changes) (length p.cells)) e
    ∙ (ap (λ (k : ℕ). paper_of (written q) k (length p.cells)) n
    ∙ (ap (λ (k : ℕ). paper_of (written q) (length q.changes) k) m ∙ paper_back q)))

not_both : (text : List ℕ) (p : Paper) (i : ℕ) → Says text p → EndsAt text i → ⊥
not_both text p i a b = b.ends p a.fits (All-take WordFits (i + 1) (words text) a.numbers) (ap (take (i + 1)) (sym a.file))

not_before : (text : List ℕ) (i j : ℕ) → EndsAt text i → EndsAt text j → i < j → ⊥
not_before text i j a b h =
    let l : i + 1 ≤ j = omega arith in
    let p : Paper = b.begins.0 in
    a.ends p b.begins.1 (subst (AllByRecursion WordFits) (take-take (i + 1) j (words text) l) (All-take WordFits (i + 1) (take j (words text)) b.numbers))
    (sym (take-take (i + 1) j (written p) l) ∙ (ap (take (i + 1)) b.begins.2 ∙ take-take (i + 1) j (map value (words text)) l))

same_place : (text : List ℕ) (i j : ℕ) → EndsAt text i → EndsAt text j → i ≡ j
same_place text i j a b =
    elim (cases_lt i j) [
      | inl h ↦ absurd (not_before text i j a b h)
      | inr h ↦ elim (cases_lt j i) [ inl k ↦ absurd (not_before text j i b a k) | inr k ↦ omega arith ]
    ]

pub one_output : OneOutput
one_output text out other (inl a) (inl b) = a.2 ∙ (ap paper_printed (same_paper text a.0 b.0 a.1 b.1) ∙ sym b.2)
one_output text out other (inl a) (inr b) = absurd (not_both text a.0 b.0 a.1 b.1)
one_output text out other (inr a) (inl b) = absurd (not_both text b.0 a.0 b.1 a.1)
one_output text out other (inr a) (inr b) = a.2 ∙ (ap refusal (same_place text a.0 b.0 a.1 b.1) ∙ sym b.2)
